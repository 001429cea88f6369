-- A setup with a list of closed names, by the setup of its four numbers: refused as that is; past it, 19 where the list has a name that is
-- not below k. And it fills every counter. Assumes nothing.
use mathlib.Core.List.{List}
use Prim.Native.Nat.{ℕ, ◌^◌}
use lib.Dec.{ltb}
use Rattle.machine.proofs.Rules.{◌≡◌, ◌≢◌, ◌∙◌, sym, refl, false, arith}
use Rattle.machine.specs.Closed.{closed_by, lists_below}
use Rattle.machine.specs.Setup.{given_of, plain_of, names, number_answer, setup_answer}
use Rattle.machine.specs.State.{setup, partial_setup}
use Rattle.machine.specs.declared.Setup.{Setup}
use Rattle.machine.specs.declared.numbers.Numbers.{Numbers}
use Rattle.machine.proofs.Closed.{closed_below}
use Rattle.machine.proofs.Facts.Leaves.{leaves_high}
use Rattle.machine.proofs.Laws.Partial.{partial_is_setup}
use Rattle.machine.proofs.Laws.Plain.{numbers_decide}
use Rattle.machine.proofs.Laws.Setup.{numbers-refused, numbers_passed}
use Rattle.machine.proofs.Ranges.{limits_of}

-- no accepted setup has more counters than 15
pub every_counter : (c : Setup) → partial_setup c 15 ≡ setup c
every_counter c = partial_is_setup c 15 (λ e. omega (arith, leaves_high c.leaves (limits_of c e).leaves))

module _ (n : Numbers) (ps : List ℕ) where
  abbrev four : Setup
  four = plain_of n

  abbrev c : Setup
  c = given_of ps n

  same_numbers : number_answer c ≡ setup_answer four
  unfolding number_answer
  same_numbers = sym (numbers_decide four refl)

  pub numbers_fail : setup_answer four ≢ 0 → setup_answer c ≡ setup_answer four
  numbers_fail d = numbers-refused c (λ e. d (sym same_numbers ∙ e)) ∙ same_numbers

  pub list_fails : setup_answer four ≡ 0 → lists_below (names four) ps ≡ false → setup_answer c ≡ 19
  list_fails e f =
      let out : ltb (closed_by 0 ps) (2 ^ names four) ≡ false = closed_below (names four) ps ∙ f in
      numbers_passed c (same_numbers ∙ e) ∙ rw out
