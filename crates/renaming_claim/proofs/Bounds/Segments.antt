-- A process in getname at a leaf, whose segment word has its first bits set. Their names are held by unlike processes that stand at
-- that segment, and so does the process itself; nobody of them stands in a later one. Hence the name that it wins lies low, a full
-- segment is not the last, and the next segment has room for it.
--     crowd         so many stand from this segment on, beside those in later ones
--     low_name      a name won has fewer than M open names below it
--     not_last      a full segment is not the leaf's last
--     bounds_next   the bounds when it moves on
-- Assumes nothing.
use Prim.Native.Nat.{ℕ, suc, ◌+◌, ◌*◌, ◌-◌, ◌≤◌, ◌<◌}
use native.Mathlib.Decide.{ℕ_discrete, dec_lt}
use lib.Arith.{digits_lt}
use Rattle.machine.proofs.Rules.{◌≡◌, ◌≢◌, arith}
use Rattle.machine.specs.Below.{indicator as ind}
use Rattle.machine.specs.Closed.{open_in, rank}
use Rattle.machine.specs.Getname.{segment_of}
use Rattle.machine.specs.Stage.{getname}
use Rattle.machine.specs.State.{none}
use Rattle.machine.proofs.Places.{leaf_segment}
use Rattle.renaming_claim.proofs.Bits.{word_of, bit_of, Filled, filled}
use Rattle.renaming_claim.proofs.Bounds.{segment_bound, bound_keeps, counters_move}
use Rattle.renaming_claim.proofs.Facts.Sums.{sum_with_one, hits, hits_le, hits_out}
use Rattle.renaming_claim.proofs.Invariant.{tally, words, segment_count, in_subtree}
use Rattle.renaming_claim.proofs.Invariant.{in_segments, Stands, SegmentBound, Bounds}
use Rattle.renaming_claim.proofs.Mover.{Setup, Process, State, process_at, Mover, inv, by_stage}
use Rattle.renaming_claim.proofs.Mover.{in_range_lem, own_range, limits, stored, counts_grow}
use Rattle.renaming_claim.proofs.Regions.{rank_split, open_next, rank_next, subtree_same}
use Rattle.renaming_claim.proofs.Regions.{segments_in, segments_low, segments_next, segments_on}

module _ {M : ℕ} {s : State} {p : ℕ} (m : Mover M s p) (st : (process_at s p).stage ≡ getname)
    (leaf : s.setup.leaves ≤ (process_at s p).node) where
  abbrev c : Setup
  c = s.setup

  abbrev h : Process
  h = process_at s p

  -- its leaf, its segment in the leaf, the leaf's node, and the segment's word and first name
  abbrev j : ℕ
  j = h.node - c.leaves

  abbrev i : ℕ
  i = h.segment

  abbrev u : ℕ
  u = c.leaves + j

  abbrev r : ℕ
  r = segment_of s.setup h

  abbrev first : ℕ
  first = r * c.bits

  -- whether a process stands in this segment or a later one, or in a later one
  abbrev here : Process → ℕ
  here z = ind (in_segments u i z)

  abbrev later : Process → ℕ
  later z = ind (in_segments u (suc i) z)

  rl : r < words c
  rl = leaf_segment (own_range m) leaf

  -- no name of the word is 255
  some_name : (a : ℕ) → a ≡ none → first ≤ a → a < first + c.bits → ⊥
  some_name a e k l =
      let b : a - first < c.bits = omega arith in
      omega (arith, (limits m).k64, digits_lt rl b)

  module _ (n : ℕ) (ln : n ≤ c.bits) where
    -- p itself is here, with no name
    alone : hits first n h.name + later h < here h
    alone =
        omega (
          arith,
          hits_out first n h.name (λ k l. some_name h.name (by_stage m getname st).nameless k (omega arith)),
          segments_in u i h (omega arith) (omega arith) (omega arith),
          segments_low u (suc i) h (omega arith),
        )

    -- a holder of one of the names is here, and not in a later segment
    apart : (q : ℕ) → q < c.processes → hits first n (process_at s q).name + later (process_at s q) ≤ here (process_at s q)
    apart q lq = go (dec_lt z.name first) (dec_lt z.name (first + n))
      where
        z : Process
        z = process_at s q

        away : (first ≤ z.name → z.name < first + n → ⊥) → hits first n z.name + later z ≤ here z
        away f = omega (arith, hits_out first n z.name f, segments_next u i z)

        holds : first ≤ z.name → z.name < first + n → hits first n z.name + later z ≤ here z
        holds k l =
            let stands : Stands c z = ((inv m).shapes q lq).stands (λ e. some_name z.name e k (omega arith)) in
            let b : z.name - first < c.bits = omega arith in
            let word : segment_of s.setup z ≡ r
            = word_of c.bits _ stands.mark r (z.name - first) stands.within b (omega (arith, stands.is)) in
            let g = (in_range_lem m lq).segment in
            let same-leaf : z.node - c.leaves ≡ j = word_of c.segments _ z.segment j i g (own_range m).segment word in
            let same-segment : z.segment ≡ i = bit_of c.segments _ z.segment j i g (own_range m).segment word in
            omega (
              arith,
              hits_le first n z.name,
              segments_low u (suc i) z (omega arith),
              segments_in u i z (omega (arith, stands.busy)) (omega (arith, stands.leaf)) (omega arith),
            )

        go : Dec (z.name < first) → Dec (z.name < first + n) → hits first n z.name + later z ≤ here z
        go (yes k) l = away (λ a w. omega arith)
        go (no k) (yes l) = holds (omega arith) l
        go (no k) (no l) = away (λ a w. omega arith)

    crowd : Filled m r n
        → open_in c first n + tally c (in_segments u (suc i)) s.process < tally c (in_segments u i) s.process
    unfolding tally
    crowd f =
        omega (
          arith,
          filled m r n rl ln f,
          sum_with_one c.processes p (λ q. hits first n (process_at s q).name) (λ q. later (process_at s q)) (λ q. here (process_at s q))
              m.known alone (λ q l _. apart q l),
        )

  this_bound : SegmentBound c M s.process j i
  this_bound = segment_bound m j i (omega (arith, (own_range m).node)) (omega (arith, (own_range m).segment))

  pub low_name : (n : ℕ) → n < c.bits → Filled m r n → rank c (first + n) < M
  low_name n l f = omega (arith, rank_split c first n, crowd n (omega arith) f, this_bound.top)

  module _ (full : Filled m r c.bits) where
    all_here : open_in c first c.bits + tally c (in_segments u (suc i)) s.process
        < tally c (in_segments u i) s.process
    all_here = crowd c.bits (omega arith) full

    pub not_last : suc i < c.segments
    not_last = go (dec_lt (suc i) c.segments)
      where
        go : Dec (suc i < c.segments) → suc i < c.segments
        go (yes k) = k
        go (no d) =
            let last : c.segments - i ≡ 1 = omega (arith, (own_range m).segment) in
            let one : segment_count c i ≡ c.bits = rw last (omega arith) in
            absurd (omega (arith, all_here, rw one at this_bound.cap))

    pub bounds_next : (x : Process) → getname ≤ x.stage → x.node ≡ h.node → x.segment ≡ suc i
        → Bounds c M (stored m x) s.counters
    bounds_next x busy e next =
        record {
          subtrees = λ u k l. bound_keeps m x (in_subtree u) (omega (arith, same u)) ((inv m).bounds.subtrees u k l);
          segments = λ a b k l. go a b k l (ℕ_discrete a j) (ℕ_discrete b i);
          counters = counters_move m x s.counters (λ v _ _. omega (arith, same (2 * v)));
        }
      where
        same : (u : ℕ) → ind (in_subtree u x) ≡ ind (in_subtree u h)
        same u = subtree_same u h x (omega arith) busy e

        target : SegmentBound c M (stored m x) j (suc i)
        target =
            let grown = counts_grow m x (in_segments u (suc i)) in
            record {
              cap = omega (arith, all_here, this_bound.cap, open_next c j i (own_range m).segment, grown);
              top = omega (arith, all_here, this_bound.top, rank_next c j i, grown);
            }

        other : (a b : ℕ) → a < c.leaves → b < c.segments → (a ≡ j → b ≢ i) → SegmentBound c M (stored m x) a (suc b)
        other a b k l d =
            let u : ℕ = c.leaves + a in
            let apart : u ≡ h.node → suc b ≢ suc i = λ t w. d (omega arith) (omega arith) in
            bound_keeps m x (in_segments u (suc b)) (segments_on u (suc b) h x (omega arith) e next apart) ((inv m).bounds.segments a b k l)

        go : (a b : ℕ) → a < c.leaves → b < c.segments → Dec (a ≡ j) → Dec (b ≡ i) → SegmentBound c M (stored m x) a (suc b)
        go a b k l (yes t) (yes w) = rw (t, w) target
        go a b k l (yes t) (no w) = other a b k l (λ _. w)
        go a b k l (no t) _ = other a b k l (λ e. absurd (t e))
