-- Document 02, d): the figure of the dearest claim for a setup that closes none, a list of events in which a claim costs so much, and what
-- the call that writes it gives.
use Rattle.std.specs.Prelude.{List, [], ◌∷◌, ◌++◌, ℕ, zero, suc, ◌+◌, ◌*◌, ◌-◌, ◌/◌, min, leb, length, replicate}
use Rattle.machine.specs.Answer as answer
use Rattle.machine.specs.Check.{Check, check, checked}
use Rattle.machine.specs.Filled.{buffer_after}
use Rattle.machine.specs.Kind.{request, step}
use Rattle.machine.specs.Lists.{Event, event_of, list_bytes}
use Rattle.machine.specs.Setup.{height, setup_checks}
use Rattle.machine.specs.declared.DearestList.{DearestList}
use Rattle.machine.specs.declared.Setup.{Setup}

module _ (c : Setup) where
  -- the smaller of g and 1 + (N - 1) div b: how many segments (rows) the dearest claim tries
  abbrev pub tried : ℕ
  tried = min c.segments (1 + (c.processes - 1) / c.bits)

  -- That figure is h plus the smaller of the two.
  abbrev pub dearest_figure : ℕ
  dearest_figure = height c.leaves + tried

  -- Which list is free. In this one, process after process claims, and each gets its own number for a name: it requests (asks) and takes
  -- h + 2 + p div b steps (turns), one at the gate, one for each level, one for each of p div b full segments and the one that wins.
  abbrev pub steps_of : ℕ → ℕ
  steps_of p = height c.leaves + 2 + p / c.bits

  abbrev pub claim : ℕ → List Event
  claim p = event_of request p ∷ replicate (steps_of p) (event_of step p)

  -- the claims of the first n processes
  unfoldable pub claims : ℕ → List Event
  claims zero = []
  claims (suc n) = claims n ++ claim n

  -- the first process that tries so many segments: those before it hold every name of the others
  abbrev pub dear : ℕ
  dear = (tried - 1) * c.bits

  abbrev pub dearest_events : List Event
  dearest_events = claims (suc dear)

  -- produced in a lent buffer, two bytes for each event
  abbrev pub dearest_bytes : List ℕ
  dearest_bytes = list_bytes dearest_events

-- 18 when the lent buffer is under 4,096 bytes, after 1 to 5. (Where none is closed, 19 and 20 never come.)
abbrev pub buffer_checks : ℕ → List Check
buffer_checks room = check answer.small_buffer (leb 4096 room) ∷ []

abbrev pub dearest_checks : Setup → ℕ → List Check
dearest_checks c room = setup_checks c ++ buffer_checks room

-- 0, or the number of the refusal
unfoldable pub dearest_answer : Setup → ℕ → ℕ
dearest_answer c room = checked (dearest_checks c room) (λ a. a) answer.accepted

abbrev pub dearest_of : ℕ → ℕ → ℕ → DearestList
dearest_of a f n = record { answer = a; figure = f; size = n }

-- What the call gives: the list's figure and how many bytes it wrote. Refused, both are 0.
unfoldable pub dearest_list : Setup → List ℕ → DearestList
dearest_list c lent =
    checked (dearest_checks c (length lent)) (λ a. dearest_of a 0 0)
    (dearest_of answer.accepted (dearest_figure c) (length (dearest_bytes c)))

-- the lent buffer afterwards
unfoldable pub dearest_buffer : Setup → List ℕ → List ℕ
dearest_buffer c lent = buffer_after (dearest_checks c (length lent)) (dearest_bytes c) lent
