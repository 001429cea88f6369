-- What holds of every chain of calls from an accepted setup, and of one call of a list.
use Rattle.std.specs.Prelude.{◌≡◌, ◌≢◌, List, ◌++◌, map, ℕ, ◌+◌, ◌≤◌, ◌<◌, length, take, drop}
use Rattle.machine.specs.Lists.{Event, answers, journal_length}
use Rattle.machine.specs.Setup.{height}
use Rattle.machine.specs.Stage.{getname}
use Rattle.machine.specs.State.{process_at, fresh}
use Rattle.machine.specs.declared.Done.{Done}
use Rattle.machine.specs.declared.Setup.{Setup}
use Rattle.machine.specs.declared.State.{State}
use Rattle.renaming_claim.specs.Claim.{Claim, NoneClosed, after_list}
use Rattle.renaming_claim.specs.History.{steps_given, HoldsWithin}
use Rattle.whole_list.specs.Calls.{Made, ListCall, listed, Calls, state_at, entries_of}

-- the chain's state after a prefix of its events: what a call gave there or, inside a list, what the list's events give
abbrev pub own_state : State → List Done → List Event → State
own_state s ds es = state_at s ds (length es)

-- A setup c gave a state s, calls of the events followed, single ones and lists, and gave the results and the state t.
pub record Whole (c : Setup) (s : State) (es : List Event) (ds : List Done) (t : State) : Type 0 where
  -- Each event's answer, the state after each and the last state are the machine's, fed the setup and the events alone.
  pub answered : map (λ (d : Done). d.answer) ds ≡ answers (fresh c) es
  pub states : (i : ℕ) → state_at s ds i ≡ after_list c (take i es)
  pub last : t ≡ after_list c es
  -- The claim holds of the chain's own states, after every event.
  pub claims : (i : ℕ) → Claim c (own_state s ds) (take i es)
  -- Where the setup closed none, as `setup` does, it holds in demand 3's own words.
  pub none_closed : c.closed ≡ 0 → (i : ℕ) → NoneClosed c (own_state s ds) (take i es)
  -- Calls that follow make one chain with these.
  pub joins : (fs : List Event) (gs : List Done) (u : State) → Calls t fs gs u → Calls s (es ++ fs) (ds ++ gs) u
  -- Whatever calls follow, once a process that is in getname in the state t has been given h + g more steps, it held a name directly
  -- after one of them, in the state of their chain there.
  pub wins : (p : ℕ) → p < c.processes → (process_at t p).stage ≡ getname → (fs : List Event) (gs : List Done) (u : State) → Calls t fs gs u
      → height c.leaves + c.segments ≤ steps_given p fs → HoldsWithin (height c.leaves + c.segments) (own_state t gs) p fs

-- One call of a list of bytes, which was lent s.
pub record Listed (s : State) (d : Done) (c : ListCall s d) : Type 0 where
  -- A list that is accepted gives what calls of its events give: their last state, and in the journal each one's entry.
  pub state : d.answer ≡ 0 → (ds : List Done) (t : State) → Calls s (listed c) ds t → d.state ≡ t
  pub entries : d.answer ≡ 0 → (ds : List Done) (t : State) → Calls s (listed c) ds t
      → c.journal'.now ≡ entries_of (listed c) ds ++ drop (journal_length c.bytes.now) c.journal.now
  -- A list that is refused gives the state that it was lent, and writes nothing.
  pub kept : d.answer ≢ 0 → d.state ≡ s
  pub untouched : d.answer ≢ 0 → c.journal'.now ≡ c.journal.now

-- Demand 3 of the calls: every chain of calls from the state that an accepted setup gave, with closed names or without, is whole.
abbrev pub EveryChain : Type 0
EveryChain =
    (c : Setup) (d₀ : Done) → Made c d₀ → d₀.answer ≡ 0
    → (es : List Event) (ds : List Done) (t : State) → Calls d₀.state es ds t → Whole c d₀.state es ds t

-- and every call of a list does what the calls of its events do.
abbrev pub EveryListCall : Type 0
EveryListCall = (s : State) (d : Done) (c : ListCall s d) → Listed s d c
