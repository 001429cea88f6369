-- The arrays of a state have the lengths that its record declares: those of the fresh state, and no store changes a length.
-- Assumes nothing.
use mathlib.Core.List.{List}
use Prim.Native.Nat.{ℕ, ◌<◌}
use lib.ListN.{length, length-append, length-drop, length-replicate}
use Rattle.machine.proofs.Rules.{◌≡◌, arith}
use Rattle.machine.specs.Gate.{moved_up}
use Rattle.machine.specs.State.{fresh_counter_at, fresh_process_at, fresh, Sized}
use Rattle.machine.specs.declared.Setup.{Setup}
use Rattle.machine.proofs.Facts.Below.{length-tabulate}

pub fresh_sized : (c : Setup) → Sized (fresh c)
unfolding fresh
fresh_sized c =
    record {
      queue = length-replicate {A = ℕ} 64 0;
      counters = length-tabulate 16 (fresh_counter_at c);
      words = length-replicate {A = ℕ} 64 0;
      process = length-tabulate 64 (fresh_process_at c);
    }

pub moved_up-length : (q : List ℕ) → 0 < length q → length (moved_up q) ≡ length q
unfolding moved_up
moved_up-length q k = simp (length-append, length-drop) (omega arith)
