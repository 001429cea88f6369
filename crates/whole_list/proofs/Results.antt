-- What the events of a list give one after another is the machine's run: the answers, the states, the journal, and a list's parts. By
-- induction on the list. Assumes nothing.
use mathlib.Core.Path.{◌≡◌, refl, ap}
use mathlib.Core.List.{List, [], ◌∷◌, ◌++◌, map}
use Prim.Native.Nat.{ℕ, zero, suc}
use lib.ListN.{take}
use Rattle.machine.specs.Lists.{Event, event_done, after, answers, entry_of, journal}
use Rattle.machine.specs.declared.Done.{Done}
use Rattle.machine.specs.declared.State.{State}
use Rattle.whole_list.specs.Calls.{results_of, state_at, entries_of}
use Rattle.whole_list.specs.Whole.{own_state}

pub results_parts : (s : State) (es fs : List Event) → results_of s (es ++ fs) ≡ results_of s es ++ results_of (after s es) fs
unfolding results_of after
results_parts s [] fs = refl
results_parts s (e ∷ es) fs = ap (λ (ds : List Done). event_done s e ∷ ds) (results_parts (event_done s e).state es fs)

pub results_answers : (s : State) (es : List Event) → map (λ (d : Done). d.answer) (results_of s es) ≡ answers s es
unfolding results_of answers
results_answers s [] = refl
results_answers s (e ∷ es) = ap (λ (l : List ℕ). (event_done s e).answer ∷ l) (results_answers (event_done s e).state es)

-- past its end a chain keeps its last state, as a list does
pub results_states : (s : State) (es : List Event) (i : ℕ) → state_at s (results_of s es) i ≡ after s (take i es)
unfolding results_of after
results_states s es zero = refl
results_states s [] (suc i) = refl
results_states s (e ∷ es) (suc i) = results_states (event_done s e).state es i

pub results_entries : (s : State) (es : List Event) → entries_of es (results_of s es) ≡ journal s es
unfolding results_of journal entry_of
results_entries s [] = refl
results_entries s (e ∷ es) = ap (λ (l : List ℕ). entry_of s e ++ l) (results_entries (event_done s e).state es)

-- the state that the results give at a prefix's length, for every prefix of a prefix
pub results_own : (s : State) (es : List Event) (i j : ℕ)
    → own_state s (results_of s es) (take j (take i es)) ≡ after s (take j (take i es))
unfolding results_of after
results_own s es zero zero = refl
results_own s es zero (suc j) = refl
results_own s es (suc i) zero = refl
results_own s [] (suc i) (suc j) = refl
results_own s (e ∷ es) (suc i) (suc j) = results_own (event_done s e).state es i j
