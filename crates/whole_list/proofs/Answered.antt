-- Each answer of the machine is 0 or a refusal's number, so that there is a result of a call that answers it. By the checks, one by one.
-- Assumes nothing.
use mathlib.Core.List.{List, [], ◌∷◌}
use Prim.Native.Nat.{ℕ}
use lib.Dec.{eqb}
use lib.ListN.{length, get_or}
use Rattle.std.specs.Prelude.{Result, Ok, Err}
use Rattle.machine.proofs.Facts.Checks.{read_of}
use Rattle.machine.proofs.Facts.Rows.{by_row}
use Rattle.machine.proofs.Rules.{◌≡◌, ◌∙◌, sym, ap, refl, true, false, cond, Bool}
use Rattle.machine.specs.Check.{Check, check, checked}
use Rattle.machine.specs.Event.{refused, request, release, guarded, stages, stay, step, kinds, event_checks, event}
use Rattle.machine.specs.Gate.{enter, await}
use Rattle.machine.specs.Getname.{getname_step}
use Rattle.machine.specs.Lists.{events_of, after, run_checks, run}
use Rattle.machine.specs.Outcome.{as_done, as_dearest}
use Rattle.machine.specs.Putname.{putname_step}
use Rattle.machine.specs.Range.{in_range}
use Rattle.machine.specs.Refusal.{number, answered}
use Rattle.machine.specs.Setup.{setup_checks}
use Rattle.machine.specs.Stage.{remainder, entry, working, putname}
use Rattle.machine.specs.State.{done, fresh_process, with_stage, process_at, with_process, update}
use Rattle.machine.specs.State.{fresh, blank, partial, setup_giving, setup, partial_setup}
use Rattle.machine.specs.declared.Done.{Done}
use Rattle.machine.specs.declared.Setup.{Setup}
use Rattle.machine.specs.declared.State.{State}
use Rattle.machine.specs.declared.refusal.Refusal.{Refusal}
use Rattle.machine.specs.declared.refusal.Refusal.TheVariants.{Processes, Leaves, Segments, Bits, Names, Stranger, Busy, NotMoving}
use Rattle.machine.specs.declared.refusal.Refusal.TheVariants.{NoNameHeld, Kind, Short, Odd, BrokenState, SmallBuffer, ClosedName, NoneOpen}
use Rattle.dearest_claim.specs.Dearest.{dearest_checks, dearest_of, dearest_figure, dearest_bytes, dearest_list}

-- each check's number is a refusal's
abbrev Known : List Check → Type 0
Known [] = Unit
Known (c ∷ cs) = ((r : Refusal) × (number r ≡ c.number)) × Known cs

-- some result shows as b
abbrev Shows : {A B : Type 0} → (Result A Refusal → B) → B → Type 0
Shows {A} f b = (o : Result A Refusal) × (f o ≡ b)

by_checks : {A B : Type 0} (f : Result A Refusal → B) (refuse : ℕ → B) → ((r : Refusal) → f (Err r) ≡ refuse (number r))
    → (cs : List Check) → Known cs → {accept : B} → Shows f accept → Shows f (checked cs refuse accept)
by_checks f refuse e [] k o = o
by_checks f refuse e (c ∷ cs) k {accept} o = go c.passes (by_checks f refuse e cs k.1 o)
  where
    go : (t : Bool) → Shows f (checked cs refuse accept) → Shows f (cond t (checked cs refuse accept) (refuse c.number))
    go true more = more
    go false more = (Err k.0.0, e k.0.0 ∙ ap refuse k.0.1)

-- of a setup
module _ (c : Setup) where
  known : Known (setup_checks c)
  known = (
    (Processes, refl),
    ((Leaves, refl), ((Segments, refl), ((Bits, refl), ((Names, refl), ((ClosedName, refl), ((NoneOpen, refl), tt)))))),
  )

  given : (s : State) → Shows (as_done blank) (setup_giving c s)
  given s = by_checks (as_done blank) (λ a. done a blank) (λ r. refl) (setup_checks c) known (Ok s, refl)

  pub setup_result : Shows (as_done blank) (setup c)
  unfolding setup
  setup_result = given (fresh c)

  pub partial_result : (count : ℕ) → Shows (as_done blank) (partial_setup c count)
  unfolding partial_setup
  partial_result count = given (partial c count)

  pub dearest_result : (out : List ℕ) → Shows as_dearest (dearest_list c out)
  unfolding dearest_list
  dearest_result out =
      by_checks as_dearest (λ a. dearest_of a 0 0) (λ r. refl) (dearest_checks c (length out)) (
        (Processes, refl),
        (
          (Leaves, refl),
          ((Segments, refl), ((Bits, refl), ((Names, refl), ((ClosedName, refl), ((NoneOpen, refl), ((SmallBuffer, refl), tt)))))),
        ),
      )
      (Ok (record { figure = dearest_figure c; size = length (dearest_bytes c) }), refl)

-- of an event and of a list: a result that answers as they do
abbrev pub Answers : Done → Type 0
Answers d = (o : Result (Unit {0}) Refusal) × (answered o ≡ d.answer)

by_checked : (s t : State) (cs : List Check) → Known cs → Answers (checked cs (λ a. done a s) (done 0 t))
by_checked s t cs k =
    let o = by_checks answered (λ a. a) (λ r. refl) cs k (Ok tt, refl) in
    (o.0, o.1 ∙ sym (read_of (λ (d : Done). d.answer) cs (λ a. done a s) (done 0 t)))

module _ (s : State) (p : ℕ) where
  asks : Answers (request s p)
  unfolding request
  asks =
      by_checked s (with_process p (with_stage entry fresh_process) s) (check 7 (eqb (process_at s p).stage remainder) ∷ [])
      ((Busy, refl), tt)

  gives : Answers (release s p)
  unfolding release
  gives =
      by_checked s (update p (with_stage putname) s) (check 9 (eqb (process_at s p).stage working) ∷ []) ((NoNameHeld, refl), tt)

  guards : (f : State → ℕ → State) → Answers (guarded f s p)
  unfolding guarded
  guards f = by_checked s (f s p) (check 15 (in_range (f s p)) ∷ []) ((BrokenState, refl), tt)

  steps : Answers (step s p)
  unfolding step
  steps =
      by_row (λ n f. Answers (f s p)) stages (refused 15) (
        (Err NotMoving, refl),
        (
          guards enter,
          (
            guards await,
            (guards getname_step, ((Err NotMoving, refl), (guards putname_step, (guards stay, λ _. (Err BrokenState, refl))))),
          ),
        ),
      )
      (process_at s p).stage

  kind_answers : (k : ℕ) → Answers (get_or kinds k (refused 12) s p)
  kind_answers = by_row (λ n f. Answers (f s p)) kinds (refused 12) (asks, (steps, (gives, λ _. (Err Kind, refl))))

  pub event_result : (k : ℕ) → Answers (event s k p)
  unfolding event
  event_result k =
      let cs = event_checks s k p in
      let d = get_or kinds k (refused 12) s p in
      let o = by_checks answered (λ a. a) (λ r. refl) cs ((BrokenState, refl), ((Kind, refl), ((Stranger, refl), tt))) (kind_answers k) in
      (o.0, o.1 ∙ sym (read_of (λ (d : Done). d.answer) cs (λ a. done a s) d))

pub run_result : (s : State) (bytes lent : List ℕ) → Answers (run s bytes lent)
unfolding run
run_result s bytes lent =
    by_checked s (after s (events_of bytes)) (run_checks s bytes lent) ((Odd, refl), ((Short, refl), ((BrokenState, refl), tt)))
