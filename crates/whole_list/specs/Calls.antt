-- Chains of calls. A call is known by what its own contract lets a caller learn (the generated Reads), and by nothing else; each
-- call of a chain is lent the state that the call before it gave, refused or not. Only the states between the events of a list, which
-- no call gives, are named by the machine's events.
use Rattle.std.specs.Prelude.{◌≡◌, ◌≢◌, List, [], ◌∷◌, ◌++◌, ℕ, zero, suc, Result}
use contract.Lifetimes.{Lfts}
use Rattle.std.specs.Borrow.{Bor, MutBor}
use Rattle.machine.specs.Kind.{request, step, release}
use Rattle.machine.specs.Lists.{Event, event_of, event_done, events_of, entry_bytes}
use Rattle.machine.specs.Outcome.{as_done}
use Rattle.machine.specs.Refusal.{answered}
use Rattle.machine.specs.Setup.{four, given, plain}
use Rattle.machine.specs.State.{done, blank, process_at}
use Rattle.machine.specs.declared.Done.{Done}
use Rattle.machine.specs.declared.Setup.{Setup}
use Rattle.machine.specs.declared.State.{State}
use Rattle.machine.specs.declared.refusal.Refusal.{Refusal}
use Rattle.renaming.proofs.setup.setup.Reads as setup-reads
use Rattle.renaming.proofs.setup.partial_setup.Reads as partial-setup-reads
use Rattle.renaming.proofs.setup.closed_setup.Reads as closed-setup-reads
use Rattle.renaming.proofs.event.event.Reads as event-reads
use Rattle.renaming.proofs.event.request.Reads as request-reads
use Rattle.renaming.proofs.event.step.Reads as step-reads
use Rattle.renaming.proofs.event.release.Reads as release-reads
use Rattle.renaming.proofs.list.run.Reads as run-reads

-- `setup(numbers)` gave d: its result, with the blank state for a refused one
pub record SetUp (n l g b : ℕ) (d : Done) : Type 0 where
  pub result : Result State Refusal
  pub learnt : setup-reads.Learnt tt (four n l g b, tt) result (four n l g b, tt)
  pub gave : d ≡ as_done blank result

-- `partial_setup(numbers, count)` gave d
pub record PartlySetUp (n l g b count : ℕ) (d : Done) : Type 0 where
  pub result : Result State Refusal
  pub learnt : partial-setup-reads.Learnt tt (four n l g b, (count, tt)) result (four n l g b, (count, tt))
  pub gave : d ≡ as_done blank result

-- `closed_setup(numbers, closed)` gave d and left closed'
pub record ClosedSetUp (κs : Lfts 1) (n l g b : ℕ) (closed : Bor (List ℕ)) (d : Done) (closed' : Bor (List ℕ)) : Type 0 where
  pub result : Result State Refusal
  pub learnt : closed-setup-reads.Learnt κs (four n l g b, (closed, tt)) result (four n l g b, (closed', tt))
  pub gave : d ≡ as_done blank result

-- a setup of the four numbers, or of these and a list of closed names, gave d: `setup(numbers)`, which closes none, or
-- `closed_setup(numbers, closed)`
pub data Made : Setup → Done → Type 0 where
  by_setup : (n l g b : ℕ) (d : Done) → SetUp n l g b d → Made (plain n l g b) d
  by_closed_setup : (κs : Lfts 1) (n l g b : ℕ) (closed closed' : Bor (List ℕ)) (d : Done) → ClosedSetUp κs n l g b closed d closed'
      → Made (given n l g b closed.now) d

-- What a contract lets a caller learn of one event call: the reference to the state before it, its result, and the reference after it.
abbrev pub LearntOf : Type 1
LearntOf = Lfts 1 → MutBor State → Result (Unit {0}) Refusal → MutBor State → Type 0

-- such a call was lent s, and d is what it answered with the state that it left
pub record Changed (learnt_of : LearntOf) (s : State) (d : Done) : Type 0 where
  pub lifetimes : Lfts 1
  pub state : MutBor State
  pub state' : MutBor State
  pub result : Result (Unit {0}) Refusal
  pub lent : state.now ≡ s
  pub learnt : learnt_of lifetimes state result state'
  pub gave : d ≡ done (answered result) state'.now

-- a call lent s and given the event gave d: `event(s, kind, p)`, or `request(s, p)`, `step(s, p)` or `release(s, p)`
pub data Called (s : State) : Event → Done → Type 0 where
  by_event : (kind p : ℕ) (d : Done)
      → Changed (λ κs a r b. event-reads.Learnt κs (a, (kind, (p, tt))) r (b, (kind, (p, tt)))) s d → Called s (event_of kind p) d
  by_request : (p : ℕ) (d : Done)
      → Changed (λ κs a r b. request-reads.Learnt κs (a, (p, tt)) r (b, (p, tt))) s d → Called s (event_of request p) d
  by_step : (p : ℕ) (d : Done)
      → Changed (λ κs a r b. step-reads.Learnt κs (a, (p, tt)) r (b, (p, tt))) s d → Called s (event_of step p) d
  by_release : (p : ℕ) (d : Done)
      → Changed (λ κs a r b. release-reads.Learnt κs (a, (p, tt)) r (b, (p, tt))) s d → Called s (event_of release p) d

-- `run(s, bytes, journal)`: the references that it was lent, its result, and the references after it; d is what it answered with the state
-- that it left
pub record ListCall (s : State) (d : Done) : Type 0 where
  pub lifetimes : Lfts 3
  pub state : MutBor State
  pub state' : MutBor State
  pub bytes : Bor (List ℕ)
  pub bytes' : Bor (List ℕ)
  pub journal : MutBor (List ℕ)
  pub journal' : MutBor (List ℕ)
  pub result : Result (Unit {0}) Refusal
  pub lent : state.now ≡ s
  pub learnt : run-reads.Learnt lifetimes (state, (bytes, (journal, tt))) result (state', (bytes', (journal', tt)))
  pub gave : d ≡ done (answered result) state'.now

-- the events of its list
abbrev pub listed : {s : State} {d : Done} → ListCall s d → List Event
listed c = events_of c.bytes.now

-- what the events of a list give one after another, from s on. A list call gives the last state and the journal; the states between
-- are in no caller's hands, so this names them.
unfoldable pub results_of : State → List Event → List Done
results_of s [] = []
results_of s (e ∷ es) = event_done s e ∷ results_of (event_done s e).state es

-- From s on, calls of the events gave the results, one for each event, and at the end the state t. A list that is accepted is a
-- stretch of the chain, an event for each two bytes; a list that is refused adds no event.
pub data Calls : State → List Event → List Done → State → Type 0 where
  none : (s : State) → Calls s [] [] s
  call : (s t : State) (e : Event) (d : Done) (es : List Event) (ds : List Done)
      → Called s e d → Calls d.state es ds t → Calls s (e ∷ es) (d ∷ ds) t
  list : (s t : State) (d : Done) (es : List Event) (ds : List Done)
      → (c : ListCall s d) → d.answer ≡ 0 → Calls d.state es ds t → Calls s (listed c ++ es) (results_of s (listed c) ++ ds) t
  refused_list : (s t : State) (d : Done) (es : List Event) (ds : List Done)
      → ListCall s d → d.answer ≢ 0 → Calls d.state es ds t → Calls s es ds t

-- the state after i events, from s on
abbrev pub state_at : State → List Done → ℕ → State
state_at s ds zero = s
state_at s [] (suc i) = s
state_at s (d ∷ ds) (suc i) = state_at d.state ds i

-- the calls' journal: each answer, with its process after it
abbrev pub entries_of : List Event → List Done → List ℕ
entries_of (e ∷ es) (d ∷ ds) = entry_bytes d.answer (process_at d.state e.process) ++ entries_of es ds
entries_of [] ds = []
entries_of (e ∷ es) [] = []
