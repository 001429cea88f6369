-- The runs beyond the table hold of the definitions: each is computed. Assumes nothing.
use mathlib.Core.Path.{refl}
use Rattle.machine.specs.Controls.{Controls}
use Rattle.machine.proofs.Runs.{machine}

pub controls : Controls
unfolding machine
controls =
    record {
      setups = refl;
      partial_setups = refl;
      lowest = refl;
      past_closed = refl;
      all_closed = refl;
      closed_setups = refl;
      numbers_first = refl;
      no_open_name = refl;
      closed_number = refl;
      closed_counters = refl;
      closed_gate = refl;
      closed_ranks = refl;
      counters = refl;
      fresh_processes = refl;
      fresh_unused = (refl, refl, refl);
      partial_counters = refl;
      partial_start = refl;
      out_of_range = refl;
      at_the_ends = refl;
      state_first = refl;
      refusals = refl;
      turns = refl;
      uncounted_turns = refl;
      right_back = refl;
      round_trip = refl;
      again = refl;
      queue = refl;
      admitted_counts = refl;
      none_left = refl;
      stays_exhausted = refl;
      odd = refl;
      short = refl;
      bad_state = refl;
      nothing_written = refl;
      beyond = refl;
      report = refl;
      status = refl;
      status_sum = refl;
      status_state = refl;
      status_short = (refl, refl);
    }
