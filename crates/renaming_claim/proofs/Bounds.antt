-- The bounds once one process is another record: only the region that it enters has to be looked at.
--     segment_bound    a leaf from any of its segments on
--     bounds_move      it enters at most one subtree, and no later segment of a leaf
--     stays_out, stays_put    it stays out of the tree, or at its place in it
-- Assumes nothing.
pub mod Levels
pub mod Segments
use mathlib.Core.List.{List}
use Prim.Native.Nat.{ℕ, zero, suc, ◌+◌, ◌*◌, ◌≤◌, ◌<◌}
use native.Mathlib.Decide.{ℕ_discrete}
use lib.Dec.{eqb}
use lib.ListN.{get_or}
use Rattle.machine.proofs.Rules.{◌≡◌, Bool, arith, ne_eqb}
use Rattle.machine.specs.Below.{indicator as ind}
use Rattle.machine.specs.Stage.{getname}
use Rattle.machine.specs.State.{counter_at}
use Rattle.machine.proofs.Facts.Leaves.{leaves_low}
use Rattle.renaming_claim.proofs.Facts.Sums.{sum_le}
use Rattle.renaming_claim.proofs.Invariant.{tally, in_subtree, in_segments, Bound, SubtreeBound, SegmentBound, CounterIs, Bounds}
use Rattle.renaming_claim.proofs.Mover.{Setup, Process, State, process_at, Mover, inv, limits, stored, counts}
use Rattle.renaming_claim.proofs.Regions.{first_leaf_lem, count_leaf, subtree_out, subtree_same}
use Rattle.renaming_claim.proofs.Regions.{segments_out, segments_same, segments_subtree}

module _ {M : ℕ} {s : State} {p : ℕ} (m : Mover M s p) where
  abbrev c : Setup
  c = s.setup

  abbrev h : Process
  h = process_at s p

  -- segment 0 is the leaf's own bound
  pub segment_bound : (j i : ℕ) → j < c.leaves → i ≤ c.segments → SegmentBound c M s.process j i
  unfolding tally
  segment_bound j zero l k =
      let u : ℕ = c.leaves + j in
      let own = (inv m).bounds.subtrees u (omega (arith, leaves_low c.leaves (limits m).leaves)) (omega arith) in
      let less = sum_le c.processes (λ q. ind (in_segments u 0 (process_at s q))) (λ q. ind (in_subtree u (process_at s q)))
      (λ q _. segments_subtree u 0 (process_at s q)) in
      rw (← first_leaf_lem c (limits m).leaves l, ← count_leaf c (limits m).leaves l)
      (record { cap = omega (arith, own.cap); top = omega (arith, own.top) })
  segment_bound j (suc i) l k = (inv m).bounds.segments j i l (omega arith)

  -- it becomes x
  module _ (x : Process) where
    -- a region whose count does not grow keeps its bound
    pub bound_keeps : (test : Process → Bool) {from n : ℕ} → ind (test x) ≤ ind (test h)
        → Bound c M (tally c test s.process) from n → Bound c M (tally c test (stored m x)) from n
    bound_keeps test d o = record { cap = omega (arith, counts m x test, o.cap); top = omega (arith, counts m x test, o.top) }

    -- each counter changes against the number on its left
    abbrev Paid : List ℕ → Type 0
    Paid cs =
        (v : ℕ) → 0 < v → v < c.leaves
        → get_or cs v 0 + ind (in_subtree (2 * v) x) ≡ counter_at s v + ind (in_subtree (2 * v) h)

    pub counters_move : (cs : List ℕ) → Paid cs → (v : ℕ) → 0 < v → v < c.leaves → CounterIs c (stored m x) cs v
    counters_move cs paid v k l = omega (arith, paid v k l, (inv m).bounds.counters v k l, counts m x (in_subtree (2 * v)))

    -- it enters at most the subtree of t (0 for none)
    pub bounds_move : (t : ℕ) (cs : List ℕ)
        → ((u : ℕ) → 0 < u → u < 2 * c.leaves → ind (in_subtree u x) ≤ ind (in_subtree u h) + ind (eqb u t))
        → (0 < t → SubtreeBound c M (stored m x) t)
        → ((u i : ℕ) → c.leaves ≤ u → ind (in_segments u (suc i) x) ≤ ind (in_segments u (suc i) h))
        → Paid cs
        → Bounds c M (stored m x) cs
    bounds_move t cs enters new segments paid =
        record {
          subtrees = λ u k l. go u k l (ℕ_discrete u t);
          segments = λ j i k l.
              let u : ℕ = c.leaves + j in
              bound_keeps (in_segments u (suc i)) (segments u i (omega arith)) ((inv m).bounds.segments j i k l);
          counters = counters_move cs paid;
        }
      where
        go : (u : ℕ) → 0 < u → u < 2 * c.leaves → Dec (u ≡ t) → SubtreeBound c M (stored m x) u
        go u k l (yes e) = rw e (new (omega arith))
        go u k l (no d) =
            let none : ind (eqb u t) ≡ 0 = rw (ne_eqb u t d) in
            bound_keeps (in_subtree u) (omega (arith, enters u k l)) ((inv m).bounds.subtrees u k l)

    same : ((u : ℕ) → ind (in_subtree u x) ≡ ind (in_subtree u h)) → ((u i : ℕ) → ind (in_segments u i x) ≡ ind (in_segments u i h))
        → Bounds c M (stored m x) s.counters
    same a z =
        bounds_move 0 s.counters (λ u _ _. omega (arith, a u)) (λ k. absurd (omega arith)) (λ u i _. omega (arith, z u (suc i)))
        (λ v _ _. omega (arith, a (2 * v)))

    pub stays_out : h.stage < getname → x.stage < getname → Bounds c M (stored m x) s.counters
    stays_out a z =
        same (λ u. omega (arith, subtree_out u x z, subtree_out u h a)) (λ u i. omega (arith, segments_out u i x z, segments_out u i h a))

    pub stays_put : getname ≤ h.stage → getname ≤ x.stage → x.node ≡ h.node → x.segment ≡ h.segment
        → Bounds c M (stored m x) s.counters
    stays_put a z e f = same (λ u. subtree_same u h x a z e) (λ u i. segments_same u i h x a z e f)
