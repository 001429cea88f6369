-- Each unmade repair breaks the claim on its list, and document 01's machine does not: each is computed. Assumes nothing.
use mathlib.Core.Path.{refl}
use Rattle.machine.proofs.Runs.{machine}
use Rattle.renaming_claim.specs.Controls.Repairs.{does, run, root_down, from_gap, raise_first, descend_at_two, Repairs}

pub repairs : Repairs
unfolding machine does run root_down from_gap raise_first descend_at_two
repairs =
    record {
      no_root_first = refl;
      no_root_then_bit = refl;
      no_last_gap = refl;
      no_last_gap_free = refl;
      no_gate_first = refl;
      no_right_at_one = refl;
      right_root_first = refl;
      right_root_then_bit = refl;
      right_last_gap = refl;
      right_gate_first = refl;
      right_right_at_one = refl;
    }
