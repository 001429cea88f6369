-- The line of a refusal, or the lines of the events of an accepted file.
use Rattle.text.proofs.Lent.{within}
use Rattle.text.proofs.FileRuns.{text-refused, text-accepted, even_events, few_events, is_in_range}
use Rattle.text.proofs.file.file_text.Goals as goal

pub returns-in-Err-clause-value : goal.returns-in-Err-clause-value
returns-in-Err-clause-value c = rw (text-refused _ _ c.in-Err.ensures) c.refused_text.ensures.value

pub returns-in-Err-clause-buffer : goal.returns-in-Err-clause-buffer
returns-in-Err-clause-buffer c = rw (text-refused _ _ c.in-Err.ensures) c.refused_text.ensures.buffer

pub returns-in-Err-clause-size_in_bounds : goal.returns-in-Err-clause-size_in_bounds
returns-in-Err-clause-size_in_bounds c = within _ _ c.refused_text.result c.refused_text.ensures.value c.refused_text.ensures.buffer

pub events_text-requires : goal.events_text-requires
events_text-requires c = record {
  even = even_events c.args.file.now c.in-Ok.ensures c.read_events.ensures.value;
  few = few_events c.args.file.now c.in-Ok.ensures c.read_events.ensures.value;
  in_range = is_in_range c.args.file.now c.in-Ok.ensures;
}

pub returns-in-Ok-clause-value : goal.returns-in-Ok-clause-value
returns-in-Ok-clause-value c =
    rw (text-accepted c.args.file.now c.in-Ok.ensures c.read_events.ensures.value) c.events_text.ensures.value

pub returns-in-Ok-clause-buffer : goal.returns-in-Ok-clause-buffer
returns-in-Ok-clause-buffer c =
    rw (text-accepted c.args.file.now c.in-Ok.ensures c.read_events.ensures.value) c.events_text.ensures.buffer

pub returns-in-Ok-clause-size_in_bounds : goal.returns-in-Ok-clause-size_in_bounds
returns-in-Ok-clause-size_in_bounds c = within _ _ c.events_text.result c.events_text.ensures.value c.events_text.ensures.buffer
