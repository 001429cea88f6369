-- The fresh state of every accepted setup is in range, and the blank state is not: number by number, and by computation.
-- Assumes nothing.
use Prim.Native.Nat.{ℕ, ◌<◌}
use native.Mathlib.Nat.{zero-div}
use lib.Pow.{pow_pos}
use Rattle.machine.proofs.Rules.{◌≡◌, ◌∙◌, refl, true, false, arith, lt-ltb, le-leb}
use Rattle.machine.specs.Setup.{open_names, setup_answer}
use Rattle.machine.specs.State.{no_process, fresh_process, fresh_counter, fresh_counter_at}
use Rattle.machine.specs.State.{fresh_process_at, process_at, counter_at, fresh, blank}
use Rattle.machine.specs.Range.{gate_in_range, in_range}
use Rattle.machine.specs.declared.Setup.{Setup}
use Rattle.machine.proofs.Facts.Below.{get_or_tabulate, get_or_constant}
use Rattle.machine.proofs.Facts.Leaves.{leaves_high}
use Rattle.machine.proofs.Ranges.{Limits, limits_of, closed_of, in_range_lem}
use Rattle.machine.proofs.Stores.{fresh_process_lem}

pub fresh_at : (c : Setup) (v : ℕ) → 0 < v → v < c.leaves → fresh_counter_at c v ≡ fresh_counter c v
unfolding fresh_counter_at
fresh_at c v low k = rw (lt-ltb 0 v low, lt-ltb v c.leaves k)

module _ (c : Setup) (accepted : setup_answer c ≡ 0) where
  limits : Limits c
  limits = limits_of c accepted

  pub counter_fresh : (v : ℕ) → 0 < v → v < c.leaves → counter_at (fresh c) v ≡ fresh_counter c v
  unfolding fresh
  counter_fresh v low k =
      get_or_tabulate 16 (fresh_counter_at c) v 0 (omega (arith, leaves_high c.leaves limits.leaves)) ∙ fresh_at c v low k

  pub process_fresh : (p : ℕ) → p < c.processes → process_at (fresh c) p ≡ fresh_process
  unfolding fresh fresh_process_at
  process_fresh p k =
      get_or_tabulate 64 (fresh_process_at c) p no_process (omega (arith, limits.n64)) ∙ rw (lt-ltb p c.processes k)

  pub fresh_in_range : in_range (fresh c) ≡ true
  unfolding fresh gate_in_range
  fresh_in_range =
      in_range_lem (fresh c)
      (record {
        limits = limits;
        closed = closed_of c accepted;
        gate = le-leb (open_names c) (open_names c) (omega arith);
        queue = record { size = omega arith; entries = λ i k. absurd (omega arith); zeros = λ i _ _. get_or_constant {A = ℕ} 64 i 0 };
        counters = λ v low k. rw (counter_fresh v low k) (omega arith);
        words = λ r k. rw (get_or_constant {A = ℕ} 64 r 0) (record { size = pow_pos c.bits; shut = λ i _ _. rw zero-div });
        process = λ p k. rw (process_fresh p k) (fresh_process_lem limits);
      })

pub blank_out_of_range : in_range blank ≡ false
unfolding in_range setup_answer blank
blank_out_of_range = refl
