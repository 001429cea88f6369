-- Demand 3 of the calls: from an accepted setup's own state every chain of calls is the machine's run, of which the claim is proved;
-- a list call that is accepted does what the chain of its events does, and one that is refused does nothing. Assumes nothing.
use mathlib.Core.Path.{◌≡◌, sym, ap, subst, ◌∙◌}
use mathlib.Core.List.{List, [], ◌++◌, map, append-nil}
use Prim.Native.Nat.{ℕ, suc, ◌+◌}
use lib.ListN.{length, take, drop}
use lib.Seq.{take-length}
use Rattle.machine.specs.Lists.{Event, journal_length, after, answers, run}
use Rattle.machine.specs.Setup.{height}
use Rattle.machine.specs.Stage.{getname, working}
use Rattle.machine.specs.State.{process_at, fresh}
use Rattle.machine.specs.declared.Done.{Done}
use Rattle.machine.specs.declared.Setup.{Setup}
use Rattle.machine.specs.declared.State.{State}
use Rattle.renaming_claim.specs.Claim.{Claim, after_list}
use Rattle.renaming_claim.specs.History.{HoldsWithin}
use Rattle.renaming_claim.proofs.Theorem as claim
use Rattle.whole_list.specs.Calls.{Made, ListCall, listed, results_of, Calls, none, list, state_at, entries_of}
use Rattle.whole_list.specs.Whole.{Whole, own_state, EveryChain, EveryListCall}
use Rattle.whole_list.proofs.Accepted.{list_is, list_writes, passed, is_fresh, run-written, run_untouched}
use Rattle.whole_list.proofs.Agrees.{agrees}
use Rattle.whole_list.proofs.Chain.{results_are, end_is, join, list_state, list_kept}
use Rattle.whole_list.proofs.Results.{results_answers, results_states, results_entries, results_own}

-- a chain gives after each prefix of its events the machine's state
own_is : {s t : State} {es : List Event} {ds : List Done} → Calls s es ds t → (i j : ℕ)
    → own_state s ds (take j (take i es)) ≡ after s (take j (take i es))
own_is {s = s} {es = es} calls i j =
    ap (λ (ds : List Done). own_state s ds (take j (take i es))) (results_are calls) ∙ results_own s es i j

-- what holds within a list of the machine's states holds of those that a chain of its events gives
held_own : {k p : ℕ} {s t : State} {es : List Event} {ds : List Done} → Calls s es ds t → HoldsWithin k (after s) p es
    → HoldsWithin k (own_state s ds) p es
held_own {p = p} {s = s} {es = es} {ds = ds} calls w =
    let at : List Event = take (suc w.place) es in
    record {
      place = w.place;
      inside = w.inside;
      is_step = w.is_step;
      early = w.early;
      holds = subst (λ (x : State). (process_at x p).stage ≡ working)
          (sym
          (subst (λ (fs : List Event). own_state s ds fs ≡ after s fs) (take-length at) (own_is calls (suc w.place) (length at))))
          w.holds;
    }

pub whole_list : EveryChain
whole_list c d₀ made accepted es ds t calls =
    record {
      answered =
          ap (map (λ (d : Done). d.answer)) (results_are calls)
          ∙ results_answers s es
          ∙ ap (λ (x : State). answers x es) start;
      states = λ i.
          ap (λ (rs : List Done). state_at s rs i) (results_are calls)
          ∙ results_states s es i
          ∙ ap (λ (x : State). after x (take i es)) start;
      last = ended;
      claims = owned;
      none_closed = λ none i. claim.none_closed none (owned i);
      joins = λ fs gs u more. join calls more;
      wins = λ p k st fs gs u more given.
          held_own more
          (subst (λ (x : State). HoldsWithin (height c.leaves + c.segments) (after x) p fs) (sym ended)
          ((claimed es).wins p k (subst (λ (x : State). (process_at x p).stage ≡ getname) ended st) fs given));
    }
  where
    s : State
    s = d₀.state

    start : s ≡ fresh c
    start = is_fresh c d₀ made accepted

    ended : t ≡ after_list c es
    ended = end_is calls ∙ ap (λ (x : State). after x es) start

    claimed : (fs : List Event) → Claim c (after_list c) fs
    claimed = claim.theorem c (passed c d₀ made accepted)

    same : (i j : ℕ) → after_list c (take j (take i es)) ≡ own_state s ds (take j (take i es))
    same i j = ap (λ (x : State). after x (take j (take i es))) (sym start) ∙ sym (own_is calls i j)

    owned : (i : ℕ) → Claim c (own_state s ds) (take i es)
    owned i =
        agrees c (after_list c) (own_state s ds) (take i es)
        (subst (λ (fs : List Event). after_list c fs ≡ own_state s ds fs) (take-length (take i es)) (same i (length (take i es))))
        (same i)
        (claimed (take i es))

-- one list call on the setup's own state, as a chain
pub one_list : (c : Setup) (d₀ : Done) → Made c d₀ → d₀.answer ≡ 0 → (d : Done) (one : ListCall d₀.state d) → d.answer ≡ 0
    → Whole c d₀.state (listed one) (results_of d₀.state (listed one)) d.state
one_list c d₀ made accepted d one ran =
    let s : State = d₀.state in
    let results : List Done = results_of s (listed one) in
    whole_list c d₀ made accepted (listed one) results d.state
    (subst (λ (es : List Event). Calls s es results d.state) (append-nil (listed one))
    (subst (λ (ds : List Done). Calls s (listed one ++ []) ds d.state) (append-nil results)
    (list s d.state d [] [] one ran (none d.state))))

pub list_call : EveryListCall
list_call s d c =
    record {
      state = λ accepted ds t calls. list_state c accepted ∙ sym (end_is calls);
      entries = λ accepted ds t calls.
          list_writes c
          ∙ run-written s c.bytes.now c.journal.now (sym same_answer ∙ accepted)
          ∙ ap (λ (j : List ℕ). j ++ drop (journal_length c.bytes.now) c.journal.now)
          (sym (ap (entries_of (listed c)) (results_are calls) ∙ results_entries s (listed c)));
      kept = list_kept c;
      untouched = λ refused.
          list_writes c ∙ run_untouched s c.bytes.now c.journal.now (λ e. refused (same_answer ∙ e));
    }
  where
    same_answer : d.answer ≡ (run s c.bytes.now c.journal.now).answer
    same_answer = ap (λ (x : Done). x.answer) (list_is c)
