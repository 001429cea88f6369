-- The file of a setup that closes none and its events has the layout, and is read as they are: its checks compute on the head's bytes,
-- and the four bytes of the events' length make it again.
--     has_layout        the file is answered 0 by the layout
--     setup_back        its setup is read as given
--     events_back       and so are its events
-- Assumes nothing.
use mathlib.Core.List.{List}
use Prim.Native.Nat.{ℕ, ◌+◌, ◌%◌, ◌≤◌}
use lib.ListN.{length}
use Rattle.machine.proofs.Rules.{◌≡◌, ◌∙◌, refl, true, arith, le-leb, eq-eqb}
use Rattle.machine.specs.Setup.{plain, setup_answer}
use Rattle.machine.specs.State.{done, fresh}
use Rattle.machine.specs.declared.Setup.{Setup}
use Rattle.machine.proofs.Facts.Checks.{passed_with}
use Rattle.machine.proofs.Laws.Setup.{setup-accepted}
use Rattle.day_file.specs.Layout.{is_marked, word, is_entry, head_size, setup_entry, events_entry, body_size, longest}
use Rattle.day_file.specs.Layout.{layout_checks, layout_answer, file_answer, read_setup, read_events}
use Rattle.day_file.specs.Writer.{head_bytes, file_bytes}
use Rattle.day_file.proofs.Accepted as accepted
use Rattle.day_writer.proofs.Writing.{file_length}
use Rattle.round_trip.proofs.Words.{joined}

module _ (n l g b : ℕ) (events : List ℕ) where
  abbrev c : Setup
  c = plain n l g b

  abbrev f : List ℕ
  f = file_bytes c events

  marked : is_marked f ≡ true
  unfolding is_marked head_bytes
  marked = refl

  first : is_entry f 5 setup_entry ≡ true
  unfolding is_entry word head_bytes
  first = refl

  body_size_lem : body_size f ≡ length events
  body_size_lem = omega (arith, file_length c events)

  module _ (even : length events % 2 ≡ 0) (fits : head_size + length events ≤ longest) where
    second : is_entry f 14 (events_entry (length events)) ≡ true
    unfolding is_entry word head_bytes
    second = eq-eqb _ _ (joined (length events) (omega (arith, fits)))

    pub has_layout : layout_answer f ≡ 0
    unfolding layout_answer
    has_layout =
        let size = file_length c events in
        passed_with (layout_checks f) (λ a. a) 0 (
          simp (le-leb head_size (length f) (omega (arith, size)), le-leb (length f) longest (omega (arith, size, fits))),
          (marked, (first, (rw body_size_lem (simp (second, eq-eqb (length events % 2) 0 even)), tt))),
        )

    module _ (ok : setup_answer c ≡ 0) where
      pub setup_back : read_setup f ≡ done 0 (fresh c)
      unfolding head_bytes
      setup_back = accepted.reads f has_layout ∙ setup-accepted c ok

      answered : file_answer f ≡ 0
      unfolding head_bytes
      answered = accepted.answers f has_layout ∙ ok

      pub events_back : read_events f ≡ events
      unfolding head_bytes read_events
      events_back = rw answered
