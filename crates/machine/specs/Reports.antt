-- Document 01, section Lists, journal and roll: the gate report, and the status records (roll).
use Rattle.std.specs.Prelude.{List, [], ◌∷◌, ◌++◌, map, ℕ, leb, ℤ, pos, negsuc, neg_ℤ, length, take, drop}
use Rattle.machine.specs.Answer as answer
use Rattle.machine.specs.Check.{Check, check, checked}
use Rattle.machine.specs.Range.{in_range}
use Rattle.machine.specs.State.{figure}
use Rattle.machine.specs.declared.Process.{Process}
use Rattle.machine.specs.declared.Report.{Report}
use Rattle.machine.specs.declared.State.{State}
use Rattle.machine.specs.declared.Status.{Status}

-- the number, or 0 when it is negative
unfoldable pub positive_part : ℤ → ℕ
positive_part (pos n) = n
positive_part (negsuc n) = 0

-- The gate report gives names still free at the gate (A, or 0 when A is negative) and processes queued (the negation of A,
-- or 0 when A is positive). Gate report: 15 alone; report figures 0.
unfoldable pub gate_report : State → Report
gate_report s =
    checked (check answer.broken_state (in_range s) ∷ []) (λ a. record { answer = a; free = 0; queued = 0 })
    (record { answer = answer.accepted; free = positive_part s.gate; queued = positive_part (neg_ℤ s.gate) })

abbrev pub status_of : Process → Status
status_of h = record { stage = h.stage; name = h.name; figure = figure h }

-- Roll: 15, 13.
abbrev pub status_checks : State → List Status → List Check
status_checks s records =
    check answer.broken_state (in_range s) ∷ check answer.short (leb s.setup.processes (length records)) ∷ []

unfoldable pub status_answer : State → List Status → ℕ
status_answer s records = checked (status_checks s records) (λ a. a) answer.accepted

-- One record for each process in rising order, with stage, name and figure (document 02, b: the sum, where document 01 has spent);
-- records from N on are untouched. A refused one writes nothing.
unfoldable pub status_records : State → List Status → List Status
status_records s records =
    checked (status_checks s records) (λ a. records)
    (map status_of (take s.setup.processes s.process) ++ drop s.setup.processes records)
