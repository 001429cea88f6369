-- What the call of the dearest list gives, by its checks: refused, its number and all of what was there; accepted, the figure, the list
-- and then what was there. Assumes nothing.
use mathlib.Core.List.{List, ◌++◌}
use Prim.Native.Nat.{ℕ, ◌≤◌}
use lib.ListN.{length, drop}
use Rattle.machine.proofs.Rules.{◌≡◌, ◌≢◌, ◌∙◌, sym, refl, leb-true}
use Rattle.machine.specs.Check.{checked}
use Rattle.machine.specs.Setup.{setup_answer}
use Rattle.machine.specs.declared.DearestList.{DearestList}
use Rattle.machine.specs.declared.Setup.{Setup}
use Rattle.machine.proofs.Facts.Checks.{read_of, all_passed, accepted_with, refused_with}
use Rattle.machine.proofs.Facts.SetupFirst.{first_refused, first_passed, has_setup}
use Rattle.dearest_claim.specs.Dearest.{dearest_figure, dearest_bytes, buffer_checks, dearest_checks, dearest_answer}
use Rattle.dearest_claim.specs.Dearest.{dearest_of, dearest_list, dearest_buffer}

module _ (c : Setup) (room : ℕ) where
  pub answer_setup : setup_answer c ≢ 0 → dearest_answer c room ≡ setup_answer c
  unfolding dearest_answer
  answer_setup = first_refused c (buffer_checks room)

  pub answer_buffer : setup_answer c ≡ 0 → dearest_answer c room ≡ checked (buffer_checks room) (λ a. a) 0
  unfolding dearest_answer
  answer_buffer = first_passed c (buffer_checks room)

  module _ (accepted : dearest_answer c room ≡ 0) where
    pub passed_setup : setup_answer c ≡ 0
    unfolding dearest_answer
    passed_setup = has_setup c (buffer_checks room) accepted

    pub passed_buffer : 4096 ≤ room
    passed_buffer = leb-true 4096 room (all_passed (buffer_checks room) refl (sym (answer_buffer passed_setup) ∙ accepted)).0

module _ (c : Setup) (lent : List ℕ) where
  abbrev room : ℕ
  room = length lent

  abbrev bytes : List ℕ
  bytes = dearest_bytes c

  abbrev made : DearestList
  made = dearest_of 0 (dearest_figure c) (length bytes)

  -- what the call gives and leaves
  abbrev Gives : DearestList → List ℕ → Type 0
  Gives l out = (l ≡ dearest_list c lent) × (out ≡ dearest_buffer c lent)

  pub list_answer : (dearest_list c lent).answer ≡ dearest_answer c room
  unfolding dearest_list dearest_answer
  list_answer = read_of (λ (l : DearestList). l.answer) (dearest_checks c room) (λ a. dearest_of a 0 0) made

  pub refused_list : dearest_answer c room ≢ 0 → Gives (dearest_of (dearest_answer c room) 0 0) lent
  unfolding dearest_list dearest_buffer dearest_answer
  refused_list d = (
    sym (refused_with (dearest_checks c room) (λ a. dearest_of a 0 0) made d),
    sym (refused_with (dearest_checks c room) (λ a. lent) (bytes ++ drop (length bytes) lent) d),
  )

  pub accepted_list : dearest_answer c room ≡ 0 → Gives made (bytes ++ drop (length bytes) lent)
  unfolding dearest_list dearest_buffer dearest_answer
  accepted_list e = (
    sym (accepted_with (dearest_checks c room) (λ a. dearest_of a 0 0) made refl e),
    sym (accepted_with (dearest_checks c room) (λ a. lent) (bytes ++ drop (length bytes) lent) refl e),
  )
