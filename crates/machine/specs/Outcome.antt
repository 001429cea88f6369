-- The result of a call as C is given it: the answer as a number, beside what the call gave. Of a refused call each figure is 0.
use Rattle.std.specs.Prelude.{ℕ, Result, Ok, Err}
use Rattle.machine.specs.Answer.{accepted}
use Rattle.machine.specs.Refusal.{number}
use Rattle.machine.specs.State.{done}
use Rattle.machine.specs.declared.Done.{Done}
use Rattle.machine.specs.declared.DearestList.{DearestList}
use Rattle.machine.specs.declared.Report.{Report}
use Rattle.machine.specs.declared.State.{State}
use Rattle.machine.specs.declared.Written.{Written}
use Rattle.machine.specs.declared.outcome.Dearest.{Dearest}
use Rattle.machine.specs.declared.outcome.GateReport.{GateReport}
use Rattle.machine.specs.declared.refusal.Refusal.{Refusal}

-- the state that a call gave, or one that stands for it where the call is refused
abbrev pub as_done : State → Result State Refusal → Done
as_done s (Ok t) = done accepted t
as_done s (Err r) = done (number r) s

abbrev pub as_written : Result ℕ Refusal → Written
as_written (Ok n) = record { answer = accepted; size = n }
as_written (Err r) = record { answer = number r; size = 0 }

abbrev pub as_report : Result GateReport Refusal → Report
as_report (Ok g) = record { answer = accepted; free = g.free; queued = g.queued }
as_report (Err r) = record { answer = number r; free = 0; queued = 0 }

abbrev pub as_dearest : Result Dearest Refusal → DearestList
as_dearest (Ok d) = record { answer = accepted; figure = d.figure; size = d.size }
as_dearest (Err r) = record { answer = number r; figure = 0; size = 0 }
