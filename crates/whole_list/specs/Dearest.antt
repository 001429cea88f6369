-- Document 02, d), said of the calls: the list that the call wrote, run by `run` from the state that `setup` gave. Both are given four
-- numbers, which close none: "the ticket on the dearest claim is about setups that close none" (document 02, e).
use Rattle.std.specs.Prelude.{◌≡◌, ◌≢◌, List, ℕ, ◌*◌, ◌≤◌, ◌<◌, length, take, drop, Result}
use contract.Lifetimes.{Lfts}
use Rattle.std.specs.Borrow.{MutBor}
use Rattle.machine.specs.Answer.{small_buffer}
use Rattle.machine.specs.Lists.{Event}
use Rattle.machine.specs.Outcome.{as_dearest}
use Rattle.machine.specs.Setup.{four, plain}
use Rattle.machine.specs.Stage.{working}
use Rattle.machine.specs.State.{process_at}
use Rattle.machine.specs.declared.DearestList.{DearestList}
use Rattle.machine.specs.declared.Done.{Done}
use Rattle.machine.specs.declared.Setup.{Setup}
use Rattle.machine.specs.declared.State.{State}
use Rattle.machine.specs.declared.outcome.Dearest.{Dearest}
use Rattle.machine.specs.declared.refusal.Refusal.{Refusal}
use Rattle.dearest_claim.specs.Dearest.{dearest_of, dearest_figure}
use Rattle.dearest.proofs.dearest_list.Reads as dearest-list-reads
use Rattle.whole_list.specs.Calls.{SetUp, ListCall, Calls}

-- `dearest_list(numbers, out)` gave r, the figures 0 for a refused one, and left out'
pub record Wrote (κs : Lfts 1) (n l g b : ℕ) (out : MutBor (List ℕ)) (r : DearestList) (out' : MutBor (List ℕ)) : Type 0 where
  pub result : Result Dearest Refusal
  pub learnt : dearest-list-reads.Learnt κs (four n l g b, (out, tt)) result (four n l g b, (out', tt))
  pub gave : r ≡ as_dearest result

-- a process that holds a name in the state s, with exactly this claim figure
pub record Holder (c : Setup) (s : State) (figure : ℕ) : Type 0 where
  pub process : ℕ
  pub known : process < c.processes
  pub holds : (process_at s process).stage ≡ working
  pub costs : (process_at s process).steps ≡ figure

-- `setup` of the four numbers of c gave d, and `dearest_list` of them gave l and left the lent bytes as out'.
pub record Produced (c : Setup) (d : Done) (out : List ℕ) (l : DearestList) (out' : List ℕ) : Type 0 where
  -- For an accepted setup, produce such a list in a lent buffer,
  pub accepted : d.answer ≡ 0 → 4096 ≤ length out → l.answer ≡ 0
  -- with its figure. That figure is h plus the smaller of g and 1 + (N - 1) div b.
  pub figure : l.answer ≡ 0 → l.figure ≡ dearest_figure c
  -- No list of events from that fresh setup makes any claim cost more: calls of the events, whatever they are, gave the state t.
  pub most : l.answer ≡ 0 → (es : List Event) (ds : List Done) (t : State) → Calls d.state es ds t
      → (p : ℕ) → p < c.processes → (process_at t p).steps ≤ l.figure
  -- And running the list produced, with room for its journal, shows a holder with exactly that claim figure.
  pub shows : l.answer ≡ 0 → (r : Done) (run : ListCall d.state r)
      → run.bytes.now ≡ take l.size out' → 2 * l.size ≤ length run.journal.now
      → (r.answer ≡ 0) × Holder c r.state l.figure
  -- 18 when the lent buffer is under 4,096 bytes, after 1 to 5: refused, the figure and the length are 0, and nothing is written.
  pub refused_setup : d.answer ≢ 0 → l ≡ dearest_of d.answer 0 0
  pub refused_buffer : d.answer ≡ 0 → length out < 4096 → l ≡ dearest_of small_buffer 0 0
  pub unwritten : l.answer ≢ 0 → out' ≡ out
  -- The list made is never longer,
  pub short : l.size ≤ 4096
  -- and bytes past it are untouched.
  pub rest : drop l.size out' ≡ drop l.size out

abbrev pub EveryDearestList : Type 0
EveryDearestList =
    (κs : Lfts 1) (n l g b : ℕ) (d : Done) (out out' : MutBor (List ℕ)) (r : DearestList)
    → SetUp n l g b d → Wrote κs n l g b out r out' → Produced (plain n l g b) d out.now r out'.now
