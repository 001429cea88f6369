-- What a file answered 0 has: the layout's length and an even body, its setup's own answer, and the events. The checks decide, whatever
-- they decide between.
--     read_answers             the state comes with the file's answer
--     long, not_long, even     27 to 32,768 bytes, and an even number of bytes for the events
--     answers, reads           past the layout, the answer and the state are those of the setup's four numbers
--     has_layout, has_setup    a file answered 0 has the layout, and a setup that is accepted
--     reads_fresh              and is read as that setup's fresh state
--     has_head, hands_all, begins    it has 27 bytes, and hands back what comes behind them
--     hands_none, begins_nowhere     a refused one hands back nothing
-- Assumes nothing.
use mathlib.Core.List.{List, []}
use Prim.Native.Nat.{ℕ, ◌-◌, ◌%◌, ◌≤◌}
use native.Mathlib.Decide.{ℕ_discrete}
use native.Mathlib.Nat.{le_refl}
use lib.Dec.{leb, eqb}
use lib.ListN.{length, take, drop, length-drop}
use lib.Seq.{take_all}
use Rattle.std.specs.Prelude.{Result}
use Rattle.std.specs.Result.{is_err}
use Rattle.machine.proofs.Rules.{◌≡◌, ◌∙◌, sym, ap, refl, true, false, leb-true, eqb-true, ne_eqb}
use Rattle.machine.specs.Check.{checked}
use Rattle.machine.specs.Refusal.{answered}
use Rattle.machine.specs.Setup.{setup_answer}
use Rattle.machine.specs.State.{done, fresh, blank, setup}
use Rattle.machine.specs.declared.Done.{Done}
use Rattle.machine.specs.declared.refusal.Refusal.{Refusal}
use Rattle.machine.proofs.Facts.Checks.{Passed, read_of, all_passed, accepted_with, refused_with}
use Rattle.machine.proofs.Facts.Refusals.{accepted_of, refused_of}
use Rattle.machine.proofs.Facts.Tests.{and_left, and_right}
use Rattle.machine.proofs.Laws.Setup.{setup-answers, setup-accepted}
use Rattle.day_file.specs.Layout.{is_entry, events_entry, body_size, body_setup, layout_checks, layout_answer}
use Rattle.day_file.specs.Layout.{file_answer, read_setup, read_events, events_start}

-- the state comes with the file's own answer
pub read_answers : (f : List ℕ) → (read_setup f).answer ≡ file_answer f
unfolding read_setup file_answer
read_answers f =
    read_of (λ (d : Done). d.answer) (layout_checks f) (λ a. done a blank) (setup (body_setup f))
    ∙ ap (checked (layout_checks f) (λ a. a)) (setup-answers (body_setup f))

module _ (f : List ℕ) (kept : layout_answer f ≡ 0) where
  passed : Passed (layout_checks f)
  unfolding layout_answer
  passed = all_passed (layout_checks f) refl kept

  pub long : 27 ≤ length f
  long = leb-true 27 (length f) (and_left (leb 27 (length f)) (leb (length f) 32768) passed.0)

  pub not_long : length f ≤ 32768
  not_long = leb-true (length f) 32768 (and_right (leb 27 (length f)) (leb (length f) 32768) passed.0)

  pub even : (length f - 27) % 2 ≡ 0
  even =
      eqb-true (body_size f % 2) 0
      (and_right (is_entry f 14 (events_entry (body_size f))) (eqb (body_size f % 2) 0) passed.1.1.1.0)

  pub answers : file_answer f ≡ setup_answer (body_setup f)
  unfolding layout_answer file_answer
  answers = accepted_with (layout_checks f) (λ a. a) (setup_answer (body_setup f)) refl kept

  pub reads : read_setup f ≡ setup (body_setup f)
  unfolding layout_answer read_setup
  reads = accepted_with (layout_checks f) (λ a. done a blank) (setup (body_setup f)) refl kept

module _ (f : List ℕ) (lost : layout_answer f ≡ 0 → ⊥) where
  pub answers_lost : file_answer f ≡ layout_answer f
  unfolding layout_answer file_answer
  answers_lost = refused_with (layout_checks f) (λ a. a) (setup_answer (body_setup f)) lost

  pub reads_lost : read_setup f ≡ done (layout_answer f) blank
  unfolding layout_answer read_setup
  reads_lost = refused_with (layout_checks f) (λ a. done a blank) (setup (body_setup f)) lost

module _ (f : List ℕ) (accepted : file_answer f ≡ 0) where
  pub has_layout : layout_answer f ≡ 0
  has_layout = go (ℕ_discrete (layout_answer f) 0)
    where
      go : Dec (layout_answer f ≡ 0) → layout_answer f ≡ 0
      go (yes e) = e
      go (no d) = absurd (d (sym (answers_lost f d) ∙ accepted))

  pub has_setup : setup_answer (body_setup f) ≡ 0
  has_setup = sym (answers f has_layout) ∙ accepted

  pub reads_fresh : read_setup f ≡ done 0 (fresh (body_setup f))
  reads_fresh = reads f has_layout ∙ setup-accepted (body_setup f) has_setup

-- a call that answers as the file does, by whether it is refused
module _ {A : Type 0} (f : List ℕ) (r : Result A Refusal) (same : answered r ≡ file_answer f) where
  pub has_head : is_err r ≡ false → 27 ≤ length f
  has_head e = long f (has_layout f (sym same ∙ accepted_of r e))

  pub hands_all : is_err r ≡ false → read_events f ≡ take (length f - 27) (drop 27 f)
  unfolding read_events
  hands_all e = rw (sym same ∙ accepted_of r e) (sym (take_all (length f - 27) (drop 27 f) (simp length-drop (le_refl _))))

  pub hands_none : is_err r ≡ true → read_events f ≡ []
  unfolding read_events
  hands_none e = rw (ne_eqb (file_answer f) 0 (λ (z : file_answer f ≡ 0). refused_of r e (same ∙ z))) refl

  pub begins : is_err r ≡ false → events_start f ≡ 27
  unfolding events_start
  begins e = rw (sym same ∙ accepted_of r e) refl

  pub begins_nowhere : is_err r ≡ true → events_start f ≡ 0
  unfolding events_start
  begins_nowhere e = rw (ne_eqb (file_answer f) 0 (λ (z : file_answer f ≡ 0). refused_of r e (same ∙ z))) refl

-- what a search is handed of the two
pub ruleset hands = (hands_all, hands_none)
