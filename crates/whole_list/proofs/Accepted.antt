-- What an accepted setup, an accepted list and a refused one gave: the fresh state, the machine's run, and what they were lent. By the
-- checks that decide. Assumes nothing.
use mathlib.Core.List.{List}
use Prim.Native.Nat.{ℕ, ◌%◌, ◌≤◌}
use lib.ListN.{length}
use Rattle.machine.proofs.Rules.{◌≡◌, ◌∙◌, sym, ap, refl, ◌≢◌, true, eq-eqb, le-leb}
use Rattle.machine.specs.Check.{checked}
use Rattle.machine.specs.Lists.{after, events_of, journal_length, written, run_checks, run, run_journal}
use Rattle.machine.specs.Range.{in_range}
use Rattle.machine.specs.Setup.{setup_answer}
use Rattle.machine.specs.State.{done, fresh, setup}
use Rattle.machine.specs.declared.Done.{Done}
use Rattle.machine.specs.declared.Setup.{Setup}
use Rattle.machine.specs.declared.State.{State}
use Rattle.machine.proofs.Facts.Checks.{read_of, passed_with, accepted_with, refused_with}
use Rattle.machine.proofs.Laws.Setup.{setup-answers, setup-accepted}
use Rattle.whole_list.specs.Calls.{Made, by_setup, by_closed_setup, ListCall}

-- each setup's contract gives the machine's
made_is : {c : Setup} {d : Done} → Made c d → d ≡ setup c
made_is (by_setup n l g b d m) = m.gave ∙ m.learnt
made_is (by_closed_setup κs n l g b closed closed' d m) = m.gave ∙ m.learnt

-- and that of a list gives the machine's run
module _ {s : State} {d : Done} (c : ListCall s d) where
  pub list_is : d ≡ run s c.bytes.now c.journal.now
  list_is = c.gave ∙ c.learnt.0 ∙ ap (λ (x : State). run x c.bytes.now c.journal.now) c.lent

  pub list_writes : c.journal'.now ≡ run_journal s c.bytes.now c.journal.now
  list_writes = c.learnt.1 ∙ ap (λ (x : State). run_journal x c.bytes.now c.journal.now) c.lent

module _ (c : Setup) (d₀ : Done) (made : Made c d₀) (accepted : d₀.answer ≡ 0) where
  pub passed : setup_answer c ≡ 0
  passed = sym (setup-answers c) ∙ sym (ap (λ (d : Done). d.answer) (made_is made)) ∙ accepted

  pub is_fresh : d₀.state ≡ fresh c
  is_fresh = ap (λ (d : Done). d.state) (made_is made ∙ setup-accepted c passed)

module _ (s : State) (bytes lent : List ℕ) where
  answer_of : (run s bytes lent).answer ≡ checked (run_checks s bytes lent) (λ a. a) 0
  unfolding run
  answer_of = read_of (λ (d : Done). d.answer) (run_checks s bytes lent) (λ a. done a s) (done 0 (after s (events_of bytes)))

  -- a list passes three checks
  pub run_carried_out : length bytes % 2 ≡ 0 → journal_length bytes ≤ length lent → in_range s ≡ true
      → run s bytes lent ≡ done 0 (after s (events_of bytes))
  unfolding run
  run_carried_out even room ok =
      passed_with (run_checks s bytes lent) (λ a. done a s) (done 0 (after s (events_of bytes)))
      (eq-eqb (length bytes % 2) 0 even, (le-leb (journal_length bytes) (length lent) room, (ok, tt)))

  -- a list that is answered 0 was run
  module _ (answered : (run s bytes lent).answer ≡ 0) where
    pub run_state : (run s bytes lent).state ≡ after s (events_of bytes)
    unfolding run
    run_state =
        ap (λ (d : Done). d.state)
        (accepted_with (run_checks s bytes lent) (λ a. done a s) (done 0 (after s (events_of bytes))) refl (sym answer_of ∙ answered))

    pub run-written : run_journal s bytes lent ≡ written s bytes lent
    unfolding run_journal
    run-written = accepted_with (run_checks s bytes lent) (λ a. lent) (written s bytes lent) refl (sym answer_of ∙ answered)

  -- any other was not
  module _ (refused : (run s bytes lent).answer ≢ 0) where
    pub run_kept : (run s bytes lent).state ≡ s
    unfolding run
    run_kept =
        ap (λ (d : Done). d.state)
        (refused_with (run_checks s bytes lent) (λ a. done a s) (done 0 (after s (events_of bytes))) (λ e. refused (answer_of ∙ e)))

    pub run_untouched : run_journal s bytes lent ≡ lent
    unfolding run_journal
    run_untouched = refused_with (run_checks s bytes lent) (λ a. lent) (written s bytes lent) (λ e. refused (answer_of ∙ e))
