-- Document 01's table of worked orders holds of the definitions: each is computed. Assumes nothing.
use mathlib.Core.Path.{refl}
use Rattle.machine.specs.Worked.{Worked}
use Rattle.machine.proofs.Runs.{machine}

pub worked : Worked
unfolding machine
worked =
    record {
      p1 = refl;
      p2 = refl;
      p3 = refl;
      p4 = refl;
      p5 = (refl, refl);
      p6 = refl;
      p7 = refl;
      p8 = refl;
      p9 = refl;
      p9_right = refl;
      p10 = refl;
      p10_full = refl;
      p11 = refl;
    }
