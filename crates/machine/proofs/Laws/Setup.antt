-- A setup, in every form, gives its state when it is accepted, and its number and the blank state when it is refused: its checks decide,
-- whatever they decide between. Assumes nothing.
use Prim.Native.Nat.{ℕ}
use mathlib.Core.Path.{◌≡◌, refl}
use Rattle.machine.specs.Check.{checked}
use Rattle.machine.specs.Setup.{number_checks, closed_checks, setup_checks, number_answer, setup_answer}
use Rattle.machine.specs.State.{done, fresh, blank, partial, setup_giving, setup, partial_setup}
use Rattle.machine.specs.declared.Done.{Done}
use Rattle.machine.specs.declared.Setup.{Setup}
use Rattle.machine.specs.declared.State.{State}
use Rattle.machine.proofs.Facts.Checks.{read_of, refused_with, accepted_with}

module _ (c : Setup) (s : State) where
  giving_answers : (setup_giving c s).answer ≡ setup_answer c
  unfolding setup_answer
  giving_answers = read_of (λ (d : Done). d.answer) (setup_checks c) (λ a. done a blank) (done 0 s)

  giving_refused : (setup_answer c ≡ 0 → ⊥) → setup_giving c s ≡ done (setup_answer c) blank
  unfolding setup_answer
  giving_refused d = refused_with (setup_checks c) (λ a. done a blank) (done 0 s) d

  giving_accepted : setup_answer c ≡ 0 → setup_giving c s ≡ done 0 s
  unfolding setup_answer
  giving_accepted e = accepted_with (setup_checks c) (λ a. done a blank) (done 0 s) refl e

module _ (c : Setup) where
  -- refused by its four numbers, or past them what its closed names decide
  pub numbers-refused : (number_answer c ≡ 0 → ⊥) → setup_answer c ≡ number_answer c
  unfolding number_answer setup_answer
  numbers-refused d = refused_with (number_checks c) (λ a. a) (checked (closed_checks c) (λ a. a) 0) d

  pub numbers_passed : number_answer c ≡ 0 → setup_answer c ≡ checked (closed_checks c) (λ a. a) 0
  unfolding number_answer setup_answer
  numbers_passed e = accepted_with (number_checks c) (λ a. a) (checked (closed_checks c) (λ a. a) 0) refl e

  pub setup-answers : (setup c).answer ≡ setup_answer c
  unfolding setup
  setup-answers = giving_answers c (fresh c)

  pub setup-refused : (setup_answer c ≡ 0 → ⊥) → setup c ≡ done (setup_answer c) blank
  unfolding setup
  setup-refused = giving_refused c (fresh c)

  pub setup-accepted : setup_answer c ≡ 0 → setup c ≡ done 0 (fresh c)
  unfolding setup
  setup-accepted = giving_accepted c (fresh c)

module _ (c : Setup) (count : ℕ) where
  pub partial-answers : (partial_setup c count).answer ≡ setup_answer c
  unfolding partial_setup
  partial-answers = giving_answers c (partial c count)

  pub partial-refused : (setup_answer c ≡ 0 → ⊥) → partial_setup c count ≡ done (setup_answer c) blank
  unfolding partial_setup
  partial-refused = giving_refused c (partial c count)

  pub partial-accepted : setup_answer c ≡ 0 → partial_setup c count ≡ done 0 (partial c count)
  unfolding partial_setup
  partial-accepted = giving_accepted c (partial c count)
