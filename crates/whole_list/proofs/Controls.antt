-- The theorem is not empty: every list has a chain of calls from every state, every list of bytes a list call, and a drawn chain mixes
-- the four single calls with a list and a refused list, has a refused event among them, and holds a name. By induction and by
-- computation. Assumes nothing.
use mathlib.Core.List.{List, [], ◌∷◌}
use Prim.Native.Nat.{ℕ}
use contract.Lifetimes.{Lfts}
use denote.Bor.{Bor}
use denote.MutBor.{MutBor}
use lib.ListN.{replicate}
use Rattle.std.specs.Prelude.{Result}
use Rattle.machine.proofs.Rules.{refl, ◌≡◌, sym, ap, arith}
use Rattle.machine.specs.Event.{event}
use Rattle.machine.specs.Lists.{Event, event_of, event_done, events_of, after, run, run_journal}
use Rattle.machine.specs.Setup.{given, plain}
use Rattle.machine.specs.Refusal.{answered}
use Rattle.machine.specs.State.{done, setup, partial_setup, process_at}
use Rattle.machine.specs.declared.Done.{Done}
use Rattle.machine.specs.declared.State.{State}
use Rattle.machine.specs.declared.refusal.Refusal.{Refusal}
use Rattle.machine.proofs.Runs.{machine}
use Rattle.dearest_claim.specs.Dearest.{dearest_list, dearest_buffer}
use Rattle.whole_list.specs.Calls.{SetUp, PartlySetUp, ClosedSetUp, by_event, by_request, by_step, by_release}
use Rattle.whole_list.specs.Calls.{LearntOf, Changed, ListCall, results_of, Calls, none, call, list, refused_list}
use Rattle.whole_list.specs.Dearest.{Wrote}
use Rattle.whole_list.proofs.Answered.{Answers, setup_result, partial_result, dearest_result, event_result, run_result}

-- a reference to a list, wherever it points
abbrev lent : List ℕ → Bor (List ℕ)
lent xs = record { ref_ptr = (0, 0); now = xs }

-- one to what may be written
abbrev lent_mut : {A : Type 0} → A → MutBor A
lent_mut x = record { ref_ptr = (0, 0); ghost_name = 0; now = x }

-- a result that answers as d does, with its state
abbrev answers_as : (d : Done) (o : Answers d) → done (answered o.0) d.state ≡ d
answers_as d o = ap (λ (a : ℕ). done a d.state) o.1

-- a call of an event, whichever it is
abbrev pub changed : Lfts 1 → (learnt_of : LearntOf) (s : State) (k p : ℕ)
    → ((κs : Lfts 1) (a b : MutBor State) (o : Result (Unit {0}) Refusal) → done (answered o) b.now ≡ event a.now k p → learnt_of κs a o b)
    → Changed learnt_of s (event s k p)
changed κs learnt_of s k p learn =
    let o = event_result s p k in
    let is = answers_as (event s k p) o in
    record {
      lifetimes = κs;
      state = lent_mut s;
      state' = lent_mut (event s k p).state;
      result = o.0;
      lent = refl;
      learnt = learn κs (lent_mut s) (lent_mut (event s k p).state) o.0 is;
      gave = sym is;
    }

pub chain_of : Lfts 1 → (s : State) (es : List Event) → Calls s es (results_of s es) (after s es)
unfolding results_of after
chain_of κs s [] = none s
chain_of κs s (e ∷ es) =
    call s _ e (event_done s e) es _ (by_event e.kind e.process (event_done s e) (changed κs _ s e.kind e.process (λ κs a b o is. is)))
    (chain_of κs (event_done s e).state es)

abbrev pub list_call_of : Lfts 3 → (s : State) (bytes journal : List ℕ) → ListCall s (run s bytes journal)
list_call_of κs s bytes journal =
    let d = run s bytes journal in
    let o = run_result s bytes journal in
    record {
      lifetimes = κs;
      state = lent_mut s;
      state' = lent_mut d.state;
      bytes = lent bytes;
      bytes' = lent bytes;
      journal = lent_mut journal;
      journal' = lent_mut (run_journal s bytes journal);
      result = o.0;
      lent = refl;
      learnt = (answers_as d o, refl);
      gave = sym (answers_as d o);
    }

-- one process of two, one name: a request, a refused release, a list that is too long for its journal, a list of two steps that wins the
-- name, a release and a step
abbrev start : Done
start = setup (plain 2 1 1 1)

abbrev first : Done
first = event start.state 0 0

abbrev second : Done
second = event first.state 2 0

abbrev steps : List ℕ
steps = 1 ∷ 0 ∷ 1 ∷ 0 ∷ []

abbrev short : Done
short = run second.state steps (replicate 7 0)

abbrev third : Done
third = run short.state steps (replicate 8 0)

abbrev fourth : Done
fourth = event third.state 2 0

abbrev fifth : Done
fifth = event fourth.state 1 0

pub answers-drawn : (start.answer ≡ 0) × (second.answer ≡ 9) × (short.answer ≡ 13) × (third.answer ≡ 0) × (fifth.answer ≡ 0)
unfolding machine
answers-drawn = (refl, refl, refl, refl, refl)

pub holds_drawn : (process_at third.state 0).stage ≡ 4
unfolding machine
holds_drawn = refl

pub set_up : SetUp 2 1 1 1 start
set_up = let o = setup_result (plain 2 1 1 1) in record { result = o.0; learnt = o.1; gave = sym o.1 }

-- the other forms give what they should, whatever the four numbers, the count and the closed names
pub partly_set_up : (n l g b count : ℕ) → PartlySetUp n l g b count (partial_setup (plain n l g b) count)
partly_set_up n l g b count = let o = partial_result (plain n l g b) count in record { result = o.0; learnt = o.1; gave = sym o.1 }

pub closed_set_up : (κs : Lfts 1) (n l g b : ℕ) (ps : List ℕ) → ClosedSetUp κs n l g b (lent ps) (setup (given n l g b ps)) (lent ps)
closed_set_up κs n l g b ps = let o = setup_result (given n l g b ps) in record { result = o.0; learnt = o.1; gave = sym o.1 }

-- and so does the call of the dearest list, whatever the four numbers and the buffer
pub dearest_wrote : (κs : Lfts 1) (n l g b : ℕ) (out : List ℕ)
    → Wrote κs n l g b (lent_mut out) (dearest_list (plain n l g b) out) (lent_mut (dearest_buffer (plain n l g b) out))
dearest_wrote κs n l g b out =
    let o = dearest_result (plain n l g b) out in record { result = o.0; learnt = (o.1, refl); gave = sym o.1 }

pub mixed : Lfts 1 → Lfts 3 → Calls start.state
    (event_of 0 0 ∷ event_of 2 0 ∷ event_of 1 0 ∷ event_of 1 0 ∷ event_of 2 0 ∷ event_of 1 0 ∷ [])
    (first ∷ second ∷ event short.state 1 0 ∷ event (event short.state 1 0).state 1 0 ∷ fourth ∷ fifth ∷ [])
    fifth.state
unfolding results_of events_of
mixed κs λs =
    call _ _ _ first _ _ (by_request 0 first (changed κs _ start.state 0 0 (λ κs a b o is. is)))
    (call _ _ _ second _ _ (by_event 2 0 second (changed κs _ first.state 2 0 (λ κs a b o is. is)))
    (refused_list _ _ short _ _ (list_call_of λs _ steps (replicate 7 0)) (λ e. absurd (omega (arith, answers-drawn.2, e)))
    (list _ _ third _ _ (list_call_of λs _ steps (replicate 8 0)) answers-drawn.3
    (call _ _ _ fourth _ _ (by_release 0 fourth (changed κs _ third.state 2 0 (λ κs a b o is. is)))
    (call _ _ _ fifth _ _ (by_step 0 fifth (changed κs _ fourth.state 1 0 (λ κs a b o is. is))) (none _))))))
