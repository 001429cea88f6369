-- The invariant holds of the fresh state of every accepted setup: nobody stands anywhere, and each counter is the number of open names
-- on its left. Assumes nothing.
use Prim.Native.Nat.{ℕ, suc, ◌+◌, ◌*◌}
use native.Mathlib.Nat.{zero-div}
use lib.Arith.{digits_lt}
use Rattle.machine.proofs.Rules.{◌≡◌, refl, false, Bool, arith, ne_eqb}
use Rattle.machine.specs.Below.{sum_below}
use Rattle.machine.specs.Setup.{setup_answer}
use Rattle.machine.specs.declared.Setup.{Setup}
use Rattle.machine.specs.State.{none, fresh_process, fresh}
use Rattle.machine.specs.declared.Process.{Process}
use Rattle.machine.specs.declared.State.{State}
use Rattle.machine.proofs.Facts.Below.{get_or_constant}
use Rattle.machine.proofs.Laws.Fresh.{process_fresh, counter_fresh, fresh_in_range}
use Rattle.machine.proofs.Ranges.{Limits, limits_of, ranges_of}
use Rattle.machine.proofs.Sized.{fresh_sized}
use Rattle.renaming_claim.proofs.Facts.Computed.{◌⊓◌}
use Rattle.renaming_claim.proofs.Facts.Sums.{sum-zero}
use Rattle.renaming_claim.proofs.Invariant.{tally, beyond, occurs, has_name, in_subtree, in_segments}
use Rattle.renaming_claim.proofs.Invariant.{Home, Bound, Invariant}
use Rattle.renaming_claim.proofs.Mover.{Sound, no_cost, nameless_shape}

module _ (c : Setup) (accepted : setup_answer c ≡ 0) where
  abbrev s : State
  s = fresh c

  limits : Limits c
  limits = limits_of c accepted

  none_yet : (test : Process → Bool) → test fresh_process ≡ false → tally c test s.process ≡ 0
  unfolding tally
  none_yet test e = sum-zero c.processes _ (λ p k. rw (process_fresh c accepted p k, e))

  -- nobody stands in a region
  empty : (M : ℕ) (test : Process → Bool) {from len : ℕ} → test fresh_process ≡ false → Bound c M (tally c test s.process) from len
  empty M test e = rw (none_yet test e) (record { cap = omega arith; top = omega arith })

  start_holds : (M : ℕ) → Invariant M s
  unfolding fresh
  start_holds M =
      record {
        shapes = λ p k.
            let home : Home fresh_process = record { root = refl; flat = refl; nameless = refl } in
            rw (process_fresh c accepted p k) (nameless_shape c M fresh_process refl (no_cost c M) home);
        gate =
            record {
              word = (rw (none_yet beyond (unfold beyond in refl)) (omega arith), refl);
              queue = λ p. unfold occurs sum_below in omega arith;
            };
        bits =
            record {
              told = λ r m lr lm.
                  let other : has_name (r * c.bits + m) fresh_process ≡ false
                  = unfold has_name in ne_eqb none (r * c.bits + m) (λ e. omega (arith, limits.k64, digits_lt lr lm)) in
                  rw (none_yet (has_name (r * c.bits + m)) other, get_or_constant {A = ℕ} 64 r 0) (rw zero-div);
            };
        bounds =
            record {
              subtrees = λ u u0 k. empty M (in_subtree u) (unfold in_subtree ◌⊓◌ in refl);
              segments = λ j i k m. empty M (in_segments (c.leaves + j) (suc i)) (unfold in_segments ◌⊓◌ in refl);
              counters = λ v v0 k.
                  rw (none_yet (in_subtree (2 * v)) (unfold in_subtree ◌⊓◌ in refl), counter_fresh c accepted v v0 k) (omega arith);
            };
      }

  pub start_sound : (M : ℕ) → Sound M s
  start_sound M =
      record {
        valid = record { ranges = ranges_of s (fresh_in_range c accepted); sized = fresh_sized c };
        inv = start_holds M;
      }
