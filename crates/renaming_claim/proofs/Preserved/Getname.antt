-- The invariant is kept by each getname step: left, right, a name won, the next segment. No step finds none left: a full segment
-- is not the last one. Assumes nothing.
use Prim.Native.Nat.{ℕ, suc, ◌+◌, ◌*◌, ◌-◌, ◌^◌, ◌≤◌, ◌<◌}
use lib.Arith.{digits_lt}
use lib.Dec.{eqb, ltb}
use lib.ListN.{set}
use lib.Seq.{set-get_or}
use Rattle.machine.proofs.Rules.{◌≡◌, ◌∙◌, ap, refl, Bool, true, false, arith, lt-ltb, le-ltb, eqb-true, ltb-false, ltb-true}
use Rattle.machine.specs.Below.{indicator as ind}
use Rattle.machine.specs.Closed.{is_open, closed_word}
use Rattle.machine.specs.Getname.{claimed, side, outcome, segment_of, descend, probe, getname_step}
use Rattle.machine.specs.Operations.{bit, first_zero, set_first_zero, bounded_decrement}
use Rattle.machine.specs.Setup.{log2, height}
use Rattle.machine.specs.Stage.{getname}
use Rattle.machine.specs.State.{counter_at, word_at, with_counter, with_word, update}
use Rattle.machine.specs.declared.ClaimStep.{ClaimStep}
use Rattle.machine.specs.declared.ClaimStep.TheVariants.{Left, Won, NextSegment}
use Rattle.machine.proofs.Facts.Leaves.{depth_left, depth-right}
use Rattle.machine.proofs.Facts.Tests.{by_cond}
use Rattle.machine.proofs.Closed.{closed_word_lem, open_bit}
use Rattle.machine.proofs.Facts.Words.{first_zero_le, first_zero_clear, first_zero_below}
use Rattle.machine.proofs.Places.{leaf_segment}
use Rattle.renaming_claim.proofs.Bits.{Filled, bits_same, bits_win}
use Rattle.renaming_claim.proofs.Bounds.{stays_put}
use Rattle.renaming_claim.proofs.Bounds.Levels.{bounds_left, bounds_right}
use Rattle.renaming_claim.proofs.Bounds.Segments.{low_name, not_last, bounds_next}
use Rattle.renaming_claim.proofs.Cost.{claiming, one_more}
use Rattle.renaming_claim.proofs.Facts.Tree.{leaf_level}
use Rattle.renaming_claim.proofs.Gate.{gate_past}
use Rattle.renaming_claim.proofs.Invariant.{words, Bounds, Invariant}
use Rattle.renaming_claim.proofs.Mover.{Setup, Process, State, process_at, Mover, own_range}
use Rattle.renaming_claim.proofs.Mover.{limits, leaves_16, stored, shapes_set, shapes_nameless}

decrement_is : (n : ℕ) → (bounded_decrement n).word ≡ n - 1
unfolding bounded_decrement
decrement_is n = by_cond (λ (x : ℕ). x ≡ n - 1) (eqb n 0) (λ e. omega (arith, eqb-true n 0 e)) (λ _. refl)

module _ {M : ℕ} {s : State} {p : ℕ} (m : Mover M s p) (st : (process_at s p).stage ≡ getname) where
  abbrev c : Setup
  c = s.setup

  abbrev h : Process
  h = process_at s p

  module _ (below : h.node < c.leaves) where
    abbrev v : ℕ
    v = h.node

    abbrev counter : ℕ
    counter = (bounded_decrement (counter_at s v)).word

    -- one level down, at node u; going right gives the same state as going left, but for u
    abbrev lower : ℕ → State
    lower u = update p (claimed (Left u)) (with_counter v counter s)

    lower_keeps : (u : ℕ) → log2 u ≡ log2 v + 1
        → Bounds c M (stored m (claimed (Left u) h)) (set s.counters v counter) → Invariant M (lower u)
    lower_keeps u level bounds =
        let x : Process = claimed (Left u) h in
        record {
          shapes = shapes_nameless m x getname st (claiming m st).nameless (one_more m st)
              (record {
                nameless = (claiming m st).nameless;
                flat = λ _. (claiming m st).flat below;
                steps = omega (arith, (claiming m st).steps);
                returns = (claiming m st).returns;
              });
          gate = gate_past m x (omega arith) (omega arith);
          bits = bits_same m x refl;
          bounds = bounds;
        }

    left_keeps : 0 < counter_at s v → Invariant M (lower (2 * v))
    left_keeps some =
        lower_keeps (2 * v) (depth_left v (own_range m).node1 (omega (arith, leaves_16 m)))
        (rw (decrement_is (counter_at s v))
        (bounds_left m (claimed (Left (2 * v)) h) (omega arith) (omega arith) below ((claiming m st).flat below) refl some))

    right_keeps : counter_at s v ≡ 0 → Invariant M (lower (2 * v + 1))
    right_keeps empty =
        let unchanged : set s.counters v counter ≡ s.counters
        = ap (λ (n : ℕ). set s.counters v n) (decrement_is (counter_at s v) ∙ omega arith) ∙ set-get_or s.counters v 0 in
        lower_keeps (2 * v + 1) (depth-right v (own_range m).node1 (omega (arith, leaves_16 m)))
        (rw unchanged
        (bounds_right m (claimed (Left (2 * v + 1)) h) (omega arith) (omega arith) below ((claiming m st).flat below) refl empty))

    descend_keeps : Invariant M (descend s p)
    unfolding descend side
    descend_keeps =
        by_cond (λ (k : ClaimStep). Invariant M (update p (claimed k) (with_counter v counter s)))
        (ltb 0 (bounded_decrement (counter_at s v)).answer)
        (λ e. left_keeps (unfold bounded_decrement in ltb-true 0 (counter_at s v) e))
        (λ e. right_keeps (unfold bounded_decrement in omega (arith, ltb-false 0 (counter_at s v) e)))

  module _ (leafy : c.leaves ≤ h.node) where
    abbrev r : ℕ
    r = segment_of s.setup h

    abbrev w : ℕ
    w = word_at s r

    -- its closed bits, and the first clear one that is not closed
    abbrev x : ℕ
    x = closed_word c r

    abbrev f : ℕ
    f = first_zero c.bits x w

    -- the state after a step at the leaf
    abbrev probed : ClaimStep → State
    probed k = update p (claimed k) (with_word r (set_first_zero c.bits x w).word s)

    r_used : r < words c
    r_used = leaf_segment (own_range m) leafy

    level : log2 h.node ≡ height c.leaves
    level =
        let j : ℕ = h.node - c.leaves in
        let e : c.leaves + j ≡ h.node = omega arith in
        rw e at (leaf_level c.leaves (limits m).leaves {j = j} (omega (arith, (own_range m).node)))

    -- the bits below it are set wherever their names are open, and clear where they are closed
    filled : (n : ℕ) → n ≤ f → Filled m r n
    filled n k i l = go (is_open c (r * c.bits + i)) refl
      where
        low : i < c.bits
        low = omega (arith, first_zero_le c.bits x w)

        go : (t : Bool) → is_open c (r * c.bits + i) ≡ t → bit w i ≡ ind t
        go true e = first_zero_below c.bits x w i (omega arith) (closed_word_lem c r i low ∙ open_bit c (r * c.bits + i) e)
        go false e = (m.sound.valid.ranges.words r r_used).shut i low e

    won_keeps : f < c.bits → Invariant M (probed (Won (r * c.bits + f)))
    won_keeps k =
        let y : Process = claimed (Won (r * c.bits + f)) h in
        let word : (set_first_zero c.bits x w).word ≡ w + 2 ^ f = unfold set_first_zero in rw (lt-ltb f c.bits k) in
        record {
          shapes = shapes_set m y
              (record {
                stands = λ _. record { busy = omega arith; leaf = leafy; mark = f; within = k; is = refl };
                low = λ _. low_name m st leafy f k (filled f (omega arith));
                cost = one_more m st;
                by =
                    record {
                      named = λ e. omega (arith, (limits m).k64, digits_lt r_used k);
                      steps = omega (arith, (claiming m st).steps, level);
                      returns = (claiming m st).returns;
                    };
              });
          gate = gate_past m y (omega arith) (omega arith);
          bits = rw word (bits_win m r_used k y (claiming m st).nameless refl (first_zero_clear c.bits x w k));
          bounds = stays_put m y (omega arith) (omega arith) refl refl;
        }

    module _ (full : c.bits ≤ f) where
      room : suc h.segment < c.segments
      room = not_last m st leafy (filled c.bits full)

      next_keeps : Invariant M (probed (NextSegment (h.segment + 1)))
      next_keeps =
          let y : Process = claimed (NextSegment (h.segment + 1)) h in
          let word : (set_first_zero c.bits x w).word ≡ w = unfold set_first_zero in rw (le-ltb f c.bits full) in
          let unchanged : set s.words r (set_first_zero c.bits x w).word ≡ s.words
          = ap (λ (n : ℕ). set s.words r n) word ∙ set-get_or s.words r 0 in
          record {
            shapes = shapes_nameless m y getname st (claiming m st).nameless (one_more m st)
                (record {
                  nameless = (claiming m st).nameless;
                  flat = λ l. absurd (omega arith);
                  steps = omega (arith, (claiming m st).steps);
                  returns = (claiming m st).returns;
                });
            gate = gate_past m y (omega arith) (omega arith);
            bits = rw unchanged (bits_same m y refl);
            bounds = bounds_next m st leafy (filled c.bits full) y (omega arith) refl (omega arith);
          }

    probe_keeps : Invariant M (probe s p)
    unfolding probe outcome set_first_zero
    probe_keeps =
        by_cond (λ k. Invariant M (probed k)) (ltb (set_first_zero c.bits x w).answer c.bits)
        (λ e. won_keeps (ltb-true f c.bits e))
        (λ e.
        let full : c.bits ≤ f = ltb-false f c.bits e in
        by_cond (λ k. Invariant M (probed k)) (ltb (h.segment + 1) c.segments)
        (λ _. next_keeps full)
        (λ d. absurd (omega (arith, room full, ltb-false (h.segment + 1) c.segments d))))

  pub getname_keeps : Invariant M (getname_step s p)
  unfolding getname_step
  getname_keeps =
      by_cond (Invariant M) (ltb h.node c.leaves) (λ e. descend_keeps (ltb-true _ _ e)) (λ e. probe_keeps (ltb-false _ _ e))
