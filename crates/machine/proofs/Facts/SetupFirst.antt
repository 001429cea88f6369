-- A call that checks a setup first: refused by the setup it answers its number, otherwise what the later checks answer. Assumes nothing.
use mathlib.Core.List.{List, ◌++◌}
use native.Mathlib.Decide.{ℕ_discrete}
use Rattle.machine.proofs.Rules.{◌≡◌, ◌≢◌, ◌∙◌, sym, refl}
use Rattle.machine.specs.Check.{Check, checked}
use Rattle.machine.specs.Setup.{setup_checks, setup_answer}
use Rattle.machine.specs.declared.Setup.{Setup}
use Rattle.machine.proofs.Facts.Checks.{accepted_with, refused_with}

module _ (c : Setup) (later : List Check) where
  pub first_refused : setup_answer c ≢ 0 → checked (setup_checks c ++ later) (λ a. a) 0 ≡ setup_answer c
  unfolding setup_answer
  first_refused d = refused_with (setup_checks c) (λ a. a) (checked later (λ a. a) 0) d

  pub first_passed : setup_answer c ≡ 0 → checked (setup_checks c ++ later) (λ a. a) 0 ≡ checked later (λ a. a) 0
  unfolding setup_answer
  first_passed e = accepted_with (setup_checks c) (λ a. a) (checked later (λ a. a) 0) refl e

  pub has_setup : checked (setup_checks c ++ later) (λ a. a) 0 ≡ 0 → setup_answer c ≡ 0
  has_setup e = go (ℕ_discrete (setup_answer c) 0)
    where
      go : Dec (setup_answer c ≡ 0) → setup_answer c ≡ 0
      go (yes a) = a
      go (no d) = absurd (d (sym (first_refused d) ∙ e))
