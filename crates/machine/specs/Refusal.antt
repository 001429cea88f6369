-- The number of each refusal (document 01, the table of numbers; document 02, a, d and e), and what a call answers: 0, or that number.
use Rattle.std.specs.Prelude.{ℕ, Result, Ok, Err}
use Rattle.machine.specs.Answer as answer
use Rattle.machine.specs.declared.refusal.Refusal.{Refusal}
use Rattle.machine.specs.declared.refusal.Refusal.TheVariants.{Processes, Leaves, Segments, Bits, Names, Stranger, Busy}
use Rattle.machine.specs.declared.refusal.Refusal.TheVariants.{NotMoving, NoNameHeld, NoDayFile, Contents, Kind, Short, Odd, BrokenState}
use Rattle.machine.specs.declared.refusal.Refusal.TheVariants.{TooLong, NoRoom, SmallBuffer, ClosedName, NoneOpen}

abbrev pub number : Refusal → ℕ
number Processes = answer.processes
number Leaves = answer.leaves
number Segments = answer.segments
number Bits = answer.bits
number Names = answer.names
number Stranger = answer.stranger
number Busy = answer.busy
number NotMoving = answer.not_moving
number NoNameHeld = answer.no_name_held
number NoDayFile = answer.no_day_file
number Contents = answer.contents
number Kind = answer.kind
number Short = answer.short
number Odd = answer.odd
number BrokenState = answer.broken_state
number TooLong = answer.too_long
number NoRoom = answer.no_room
number SmallBuffer = answer.small_buffer
number ClosedName = answer.closed_name
number NoneOpen = answer.none_open

abbrev pub answered : {A : Type 0} → Result A Refusal → ℕ
answered (Ok x) = answer.accepted
answered (Err r) = number r
