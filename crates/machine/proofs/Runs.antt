-- One name that opens every definition, so that a run computes. Assumes nothing.
use Rattle.machine.specs.Below.{all_below, sum_below, tabulate}
use Rattle.machine.specs.Closed.{closing, closed_by, lists, lists_below, is_open, open_in, rank, closed_word}
use Rattle.machine.specs.Setup.{is_leaves, number_answer, setup_answer, log2}
use Rattle.machine.specs.Operations.{first_zero, set_first_zero, clr_bit, bounded_decrement}
use Rattle.machine.specs.State.{width, first_leaf, node_first, node_count}
use Rattle.machine.specs.State.{fresh_counter_at, fresh_process_at, fresh, blank, setup, partial_counter_at, partial, partial_setup}
use Rattle.machine.specs.Range.{gate_in_range, in_range}
use Rattle.machine.specs.Gate.{above0, among, moved_up, head_gone, enter, await, leave}
use Rattle.machine.specs.Getname.{side, outcome, descend, probe, getname_step}
use Rattle.machine.specs.Putname.{give_back, climb, putname_step}
use Rattle.machine.specs.Event.{request, release, guarded, step, event}
use Rattle.machine.specs.Admitted.{is_admitted, admitted}
use Rattle.machine.specs.Lists.{events_of, list_bytes, after, answers, entry_of, journal, run, run_journal}
use Rattle.machine.specs.Reports.{positive_part, gate_report, status_answer, status_records}

-- `unfolding machine` opens every definition that a run goes through
unfoldable pub machine : Unit {0}
unfolding
    all_below sum_below tabulate closing closed_by lists lists_below is_open open_in rank closed_word is_leaves number_answer setup_answer
    log2 first_zero set_first_zero clr_bit bounded_decrement width first_leaf node_first node_count fresh_counter_at fresh_process_at
    fresh blank setup partial_counter_at partial partial_setup gate_in_range in_range above0 among moved_up head_gone enter await leave
    side outcome descend probe getname_step give_back climb putname_step request release guarded step event is_admitted admitted events_of
    list_bytes after answers entry_of journal run run_journal positive_part gate_report status_answer status_records
machine = tt
