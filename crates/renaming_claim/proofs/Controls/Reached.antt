-- The runs reach what the claim allows: each is computed. Assumes nothing.
use mathlib.Core.Path.{refl}
use Rattle.machine.proofs.Runs.{machine}
use Rattle.renaming_claim.specs.Controls.Reached.{Reached}
use Rattle.renaming_claim.specs.History.{since_request, asked}

pub reached : Reached
unfolding machine since_request asked
reached =
    record {
      taken_over = refl;
      one_admitted = refl;
      dearest = refl;
      dearest_steps = (refl, refl);
      two_admitted = refl;
      torn_start = (refl, refl);
      torn_journal = refl;
      torn_admitted = refl;
      lowest_held = refl;
      lowest_ranks = refl;
      lowest_admitted = refl;
      round_journal = refl;
      round_figures = (refl, refl);
      round_parts = refl;
      round_asked = refl;
      drawn_journal = refl;
      drawn_gate = (refl, refl);
      drawn_nodes = refl;
      drawn_segments = refl;
      drawn_queue = (refl, refl);
      drawn_places = (refl, refl);
    }
