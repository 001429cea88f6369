-- Document 01, section Lists, journal and roll: lists of events, and the journal.
use Rattle.std.specs.Prelude.{Bool, cond, ◌||◌, List, [], ◌∷◌, ◌++◌, ℕ, ◌*◌, ◌/◌, ◌%◌, leb, eqb, length, drop}
use Rattle.machine.specs.Answer as answer
use Rattle.machine.specs.Check.{Check, check, checked}
use Rattle.machine.specs.Event.{event}
use Rattle.machine.specs.Range.{in_range}
use Rattle.machine.specs.State.{done, figure, process_at}
use Rattle.machine.specs.declared.Process.{Process}
use Rattle.machine.specs.declared.State.{State}
use Rattle.machine.specs.declared.Done.{Done}

-- any two numbers, bad kinds and strangers among them
pub record Event : Type 0 where
  pub kind : ℕ
  pub process : ℕ

abbrev pub event_of : ℕ → ℕ → Event
event_of kind p = record { kind = kind; process = p }

-- An event is two bytes: kind, process. (A byte left over is no event: an odd list is refused.)
unfoldable pub events_of : List ℕ → List Event
events_of [] = []
events_of (k ∷ []) = []
events_of (k ∷ p ∷ bytes) = event_of k p ∷ events_of bytes

-- the bytes of a list, the other way round
unfoldable pub list_bytes : List Event → List ℕ
list_bytes [] = []
list_bytes (e ∷ es) = e.kind ∷ e.process ∷ list_bytes es

abbrev pub event_done : State → Event → Done
event_done s e = event s e.kind e.process

-- A list runs to its end; a refused event changes no state and the list goes on.
unfoldable pub after : State → List Event → State
after s [] = s
after s (e ∷ es) = after (event_done s e).state es

unfoldable pub answers : State → List Event → List ℕ
answers s [] = []
answers s (e ∷ es) = (event_done s e).answer ∷ answers (event_done s e).state es

-- The journal takes four bytes for each event: answer, then stage, name and figure after it (document 02, b: the sum, where document
-- 01 has spent). For answers 12, 6 and 15 those three bytes are 255.
abbrev pub shows_none : ℕ → Bool
shows_none a = eqb a answer.kind || eqb a answer.stranger || eqb a answer.broken_state

abbrev pub entry_bytes : ℕ → Process → List ℕ
entry_bytes a h = cond (shows_none a) (a ∷ 255 ∷ 255 ∷ 255 ∷ []) (a ∷ h.stage ∷ h.name ∷ figure h ∷ [])

unfoldable pub entry_of : State → Event → List ℕ
entry_of s e = entry_bytes (event_done s e).answer (process_at (event_done s e).state e.process)

unfoldable pub journal : State → List Event → List ℕ
journal s [] = []
journal s (e ∷ es) = entry_of s e ++ journal (event_done s e).state es

-- four times the events of a list of bytes
abbrev pub journal_length : List ℕ → ℕ
journal_length bytes = 4 * (length bytes / 2)

-- the lent journal after an accepted list: bytes beyond four times the events are untouched
abbrev pub written : State → List ℕ → List ℕ → List ℕ
written s bytes lent = journal s (events_of bytes) ++ drop (journal_length bytes) lent

-- A list: 14, 13, 15 for the state, then its events.
abbrev pub run_checks : State → List ℕ → List ℕ → List Check
run_checks s bytes lent =
    check answer.odd (eqb (length bytes % 2) 0)
    ∷ check answer.short (leb (journal_length bytes) (length lent))
    ∷ check answer.broken_state (in_range s)
    ∷ []

-- the answer and the state; a refused list gives the state it was lent
unfoldable pub run : State → List ℕ → List ℕ → Done
run s bytes lent = checked (run_checks s bytes lent) (λ a. done a s) (done answer.accepted (after s (events_of bytes)))

-- the lent journal afterwards: a refused list writes nothing
unfoldable pub run_journal : State → List ℕ → List ℕ → List ℕ
run_journal s bytes lent = checked (run_checks s bytes lent) (λ a. lent) (written s bytes lent)
