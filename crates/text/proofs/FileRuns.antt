-- An accepted file's events are run whole, and their lines are the file's text: the list passes its three checks, since the body is even,
-- the file is at most 32,768 bytes, and the setup's fresh state is in range. Assumes nothing.
--     not_refused, journal-taken     a list that passes its checks is not refused, and leaves two bytes of its journal for each of its own
--     even_events, few_events        the events of an accepted file
--     is_in_range                    and the state of its setup
--     text-accepted, text-refused    the text of a file that is accepted, and of one that is refused
use mathlib.Core.List.{List}
use Prim.Native.Nat.{ℕ, ◌-◌, ◌*◌, ◌%◌, ◌≤◌}
use lib.ListN.{length, take, drop, length-drop}
use lib.Seq.{take_at}
use Rattle.std.specs.Prelude.{Result, Err}
use Rattle.machine.proofs.Rules.{◌≡◌, ◌∙◌, sym, ap, true, arith, eq-eqb, ne_eqb, le-leb}
use Rattle.machine.specs.Lists.{events_of, journal_length, after, journal, written, run_checks, run, run_journal}
use Rattle.machine.specs.Range.{in_range}
use Rattle.machine.specs.Refusal.{number, answered}
use Rattle.machine.specs.State.{done, blank}
use Rattle.machine.specs.declared.Done.{Done}
use Rattle.machine.specs.declared.State.{State}
use Rattle.machine.specs.declared.refusal.Refusal.{Refusal}
use Rattle.machine.proofs.Facts.Checks.{Passed, passed_with}
use Rattle.machine.proofs.Facts.Refusals.{number_above, accepted_none}
use Rattle.machine.proofs.Laws.Fresh.{fresh_in_range}
use Rattle.machine.proofs.Laws.Parts.{events_length, journal-length}
use Rattle.day_file.specs.Layout.{body_setup, file_answer, read_setup, read_events}
use Rattle.day_file.proofs.Accepted.{read_answers, not_long, even, has_layout, has_setup, reads_fresh}
use Rattle.text.specs.File.{file_text}
use Rattle.text.specs.Lines.{lines, refused}

module _ (s : State) (events lent : List ℕ) (parity : length events % 2 ≡ 0) (room : 2 * length events ≤ length lent)
    (ranges : in_range s ≡ true) where
  passed : Passed (run_checks s events lent)
  passed = (eq-eqb (length events % 2) 0 parity, (le-leb (journal_length events) (length lent) (omega (arith, room)), (ranges, tt)))

  pub not_refused : {A : Type 0} {r : Result A Refusal} {why : Refusal} {t : State} → r ≡ Err why
      → done (answered r) t ≡ run s events lent → ⊥
  unfolding run
  not_refused {r = r} is ran =
      let all = passed_with (run_checks s events lent) (λ a. done a s) (done 0 (after s (events_of events))) passed in
      accepted_none r is (ap (λ (d : Done). d.answer) (ran ∙ all))

  pub journal-taken : {left : List ℕ} → left ≡ run_journal s events lent → take (2 * length events) left ≡ journal s (events_of events)
  unfolding run_journal
  journal-taken ran =
      let size : length (journal s (events_of events)) ≡ 2 * length events
      = omega (arith, journal-length s (events_of events), events_length events, parity) in
      ap (take (2 * length events)) (ran ∙ passed_with (run_checks s events lent) (λ a. lent) (written s events lent) passed)
      ∙ take_at (journal s (events_of events)) (drop (journal_length events) lent) (2 * length events) size

pub text-refused : (f : List ℕ) (why : Refusal) → done (number why) blank ≡ read_setup f → file_text f ≡ refused (number why)
unfolding file_text
text-refused f why read =
    let answered : file_answer f ≡ number why = sym (read_answers f) ∙ sym (ap (λ (d : Done). d.answer) read) in
    rw answered (rw (ne_eqb (number why) 0 (number_above why)))

module _ (f : List ℕ) {s : State} (read : done 0 s ≡ read_setup f) where
  accepted : file_answer f ≡ 0
  accepted = sym (read_answers f) ∙ sym (ap (λ (d : Done). d.answer) read)

  pub is_in_range : in_range s ≡ true
  is_in_range = ap (λ (d : Done). in_range d.state) (read ∙ reads_fresh f accepted) ∙ fresh_in_range (body_setup f) (has_setup f accepted)

  module _ {events : List ℕ} (same : events ≡ read_events f) where
    body : length events ≡ length f - 27
    unfolding read_events
    body = rw (same, eq-eqb (file_answer f) 0 accepted) (length-drop 27 f)

    pub even_events : length events % 2 ≡ 0
    even_events = rw body (even f (has_layout f accepted))

    pub few_events : 2 * length events ≤ 65536
    few_events = omega (arith, body, not_long f (has_layout f accepted))

    pub text-accepted : file_text f ≡ lines (journal s (events_of events))
    unfolding file_text
    text-accepted =
        rw (eq-eqb (file_answer f) 0 accepted, same) (ap (λ (d : Done). lines (journal d.state (events_of (read_events f)))) (sym read))
