-- Along a list: a process's steps are its getname steps since its last accepted request, its returns its return operations since then,
-- and whoever is in getname wins a name within h + g of its steps. By induction on the list: each of them adds one, and there are never
-- h + g steps in getname.
--     list_steps, list_returns    the steps and the returns after a list
--     list_wins     a name within the steps that are left
-- Assumes nothing.
use mathlib.Core.List.{List, [], ◌∷◌}
use Prim.Native.Nat.{ℕ, suc, ◌+◌, ◌-◌, ◌≤◌}
use Rattle.machine.proofs.Rules.{◌≡◌, ◌∙◌, ap, refl, true, false, cond, Bool, ⊎_elim, arith}
use Rattle.machine.specs.Below.{indicator as ind}
use Rattle.machine.specs.Lists.{Event, event_done, after}
use Rattle.machine.specs.Setup.{height}
use Rattle.machine.specs.Stage.{getname}
use Rattle.machine.proofs.Laws.OnePlace.{setup_unchanged}
use Rattle.renaming_claim.specs.History.{step_of, request_of, claim_of, return_of, since_request, claim_steps, return_operations}
use Rattle.renaming_claim.specs.History.{steps_given, HoldsWithin}
use Rattle.renaming_claim.proofs.Implies.{not-exhausted, fewer_steps}
use Rattle.renaming_claim.proofs.Mover.{Setup, Process, State, process_at, Mover}
use Rattle.renaming_claim.proofs.Preserved.{event_steady}
use Rattle.renaming_claim.proofs.Steps.{event_steps, event_returns, claim_steps_lem, claim_next, claim_waits}

-- a process of a state, with M the number of processes; the most steps that one takes
abbrev pub OneOf : State → ℕ → Type 0
OneOf s p = Mover s.setup.processes s p

abbrev most_steps : Setup → ℕ
most_steps c = height c.leaves + c.segments

-- after an event it is one still, and the most steps are the same
module _ {s : State} {p : ℕ} (m : OneOf s p) (e : Event) where
  setup_same : (event_done s e).state.setup ≡ s.setup
  setup_same = setup_unchanged s e.kind e.process

  pub next : OneOf (event_done s e).state p
  next =
      record { sound = event_steady s m.sound e; known = omega (arith, m.known, ap (λ (c : Setup). c.processes) setup_same) }

  most_same : most_steps (event_done s e).state.setup ≡ most_steps s.setup
  most_same = ap most_steps setup_same

-- a number of the record that counts, event by event, what a test of History passes
module _ (f : Process → ℕ) (test : ℕ → State → Event → Bool) (p : ℕ)
    (counts : (s : State) → OneOf s p → (e : Event)
    → f (process_at (event_done s e).state p)
    ≡ cond (request_of p s e) 0 (cond (test p s e) (suc (f (process_at s p))) (f (process_at s p)))) where
  list_counts : (s : State) → OneOf s p → (es : List Event)
      → f (process_at (after s es) p) ≡ since_request test p s es (f (process_at s p))
  unfolding after since_request
  list_counts s m [] = refl
  list_counts s m (e ∷ es) =
      list_counts (event_done s e).state (next m e) es ∙ ap (since_request test p (event_done s e).state es) (counts s m e)

pub list_steps : (s : State) (p : ℕ) → OneOf s p → (es : List Event)
    → (process_at (after s es) p).steps ≡ claim_steps p s es (process_at s p).steps
list_steps s p = list_counts (λ x. x.steps) claim_of p (λ _ m. event_steps m) s

pub list_returns : (s : State) (p : ℕ) → OneOf s p → (es : List Event)
    → (process_at (after s es) p).returns ≡ return_operations p s es (process_at s p).returns
list_returns s p = list_counts (λ x. x.returns) return_of p (λ _ m. event_returns m) s

-- what holds within the rest of a list holds within the list, with one step more where its first event is one
later : {n k : ℕ} {p : ℕ} {fs : List Event} (s : State) (e : Event) → ind (step_of p e) + n ≤ k
    → HoldsWithin n (after (event_done s e).state) p fs → HoldsWithin k (after s) p (e ∷ fs)
unfolding after steps_given
later s e few w =
    record {
      place = suc w.place;
      inside = omega (arith, w.inside);
      is_step = w.is_step;
      early = omega (arith, w.early);
      holds = w.holds;
    }

-- in getname, with k steps enough to reach the most
abbrev Enough : State → ℕ → ℕ → Type 0
Enough s p k = ((process_at s p).stage ≡ getname) × (most_steps s.setup ≤ (process_at s p).steps + k)

-- one event of a list, where p is in getname before it
module _ {s : State} {p : ℕ} (m : OneOf s p) (st : (process_at s p).stage ≡ getname) (e : Event) (fs : List Event) where
  abbrev t : State
  t = (event_done s e).state

  -- what the rest of the list gives, from the state after the event
  abbrev Rest : Type 0
  Rest = (n : ℕ) → Enough t p n → n ≤ steps_given p fs → HoldsWithin n (after t) p fs

  module _ (k : ℕ) (enough : most_steps s.setup ≤ (process_at s p).steps + k) (rest : Rest) where
    -- a step of p wins, or leaves one step fewer to go
    step-wins : step_of p e ≡ true → k ≤ suc (steps_given p fs) → HoldsWithin k (after s) p (e ∷ fs)
    unfolding after steps_given
    step-wins i given =
        let steps = claim_steps_lem m st e i in
        let few = fewer_steps m st in
        let same = most_same m e in
        ⊎_elim
        (λ w. record { place = 0; inside = omega arith; is_step = i; early = omega arith; holds = w })
        (λ w. later s e (rw i (omega arith)) (rest (k - 1) (w, omega arith) (omega arith)))
        (claim_next m st e i (not-exhausted (next m e)))

    -- any other event leaves p as it was
    wait_wins : step_of p e ≡ false → k ≤ steps_given p fs → HoldsWithin k (after s) p (e ∷ fs)
    wait_wins i given =
        let same : process_at t p ≡ process_at s p = claim_waits m st e i in
        let steps : (process_at t p).steps ≡ (process_at s p).steps = ap (λ (x : Process). x.steps) same in
        later s e (rw i (omega arith)) (rest k (ap (λ (x : Process). x.stage) same ∙ st, omega (arith, most_same m e)) given)

pub list_wins : (k : ℕ) (s : State) (p : ℕ) → OneOf s p → (fs : List Event) → Enough s p k → k ≤ steps_given p fs
    → HoldsWithin k (after s) p fs
unfolding steps_given
list_wins k s p m [] enough given = absurd (omega (arith, enough.1, fewer_steps m enough.0))
list_wins k s p m (e ∷ fs) enough given =
    go (step_of p e) refl given (λ n more. list_wins n (event_done s e).state p (next m e) fs more)
  where
    go : (b : Bool) → step_of p e ≡ b → k ≤ ind b + steps_given p fs → Rest m enough.0 e fs → HoldsWithin k (after s) p (e ∷ fs)
    go true i given rest = step-wins m enough.0 e fs k enough.1 rest i (omega arith)
    go false i given rest = wait_wins m enough.0 e fs k enough.1 rest i (omega arith)
