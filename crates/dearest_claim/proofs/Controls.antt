-- Small setups, computed: the figures, a list and its run. By computation. Assumes nothing.
use Rattle.machine.proofs.Rules.{refl}
use Rattle.machine.proofs.Runs.{machine}
use Rattle.dearest_claim.specs.Controls.{Computed}
use Rattle.dearest_claim.specs.Dearest.{claims}

pub computed : Computed
unfolding machine claims
computed =
    record {
      by_segments = refl;
      by_processes = refl;
      alone = refl;
      just_full = refl;
      longest = refl;
      bytes = refl;
      run = refl;
    }
