-- The two directions, of the calls: each call's contract gives the definition, and the definitions' round trips do the rest. Assumes
-- nothing.
use mathlib.Core.List.{List}
use Prim.Native.Nat.{ℕ}
use lib.ListN.{length}
use Rattle.machine.proofs.Rules.{◌≡◌, ◌≢◌, ◌∙◌, sym, ap}
use Rattle.machine.specs.Filled.{written_of}
use Rattle.machine.specs.Setup.{plain}
use Rattle.machine.specs.State.{fresh}
use Rattle.machine.specs.declared.Done.{Done}
use Rattle.machine.specs.declared.Setup.{Setup}
use Rattle.machine.specs.declared.Written.{Written}
use Rattle.day_file.specs.Layout.{file_answer, read_setup, read_events}
use Rattle.day_file.proofs.Accepted.{read_answers}
use Rattle.day_file.specs.Writer.{write_answer, write_file, write_buffer}
use Rattle.round_trip.specs.Calls.{WriteCall, file_in}
use Rattle.round_trip.specs.Definitions.{file_written, four_numbers}
use Rattle.round_trip.specs.Directions.{EveryWrite, EveryReadBack, EveryWrittenBack}
use Rattle.round_trip.proofs.Definitions.{write_answers, refused_write, past_kept, written_file, state_back, events_back}
use Rattle.round_trip.proofs.Definitions.{length_back, bytes_back}

module _ {n l g b : ℕ} (w : WriteCall n l g b) where
  abbrev c : Setup
  c = plain n l g b

  -- what the call gave and left is the definitions'
  gave_is : w.gave ≡ write_file c w.events.now w.out.now
  gave_is = w.given ∙ w.wrote.0

  same_answer : w.gave.answer ≡ write_answer c (length w.events.now) (length w.out.now)
  same_answer = ap (λ (x : Written). x.answer) gave_is ∙ write_answers c w.events.now w.out.now

  -- what the call's own words say it wrote is what the definitions say
  same_file : file_in w ≡ file_written c w.events.now w.out.now
  same_file = rw (gave_is, w.wrote.1)

  accepted : w.gave.answer ≡ 0 → (write_file c w.events.now w.out.now).answer ≡ 0
  accepted answered = sym (ap (λ (x : Written). x.answer) gave_is) ∙ answered

  refused : w.gave.answer ≢ 0 → write_answer c (length w.events.now) (length w.out.now) ≢ 0
  refused d e = d (same_answer ∙ e)

pub writes : EveryWrite
writes n l g b w =
    record {
      file = λ answered. same_file w ∙ written_file (c w) w.events.now w.out.now (accepted w answered);
      past = rw (gave_is w, w.wrote.1) (past_kept (c w) w.events.now w.out.now);
      answer = same_answer w;
      none = λ d.
          ap (λ (x : Written). x.size) (gave_is w ∙ (refused_write (c w) w.events.now w.out.now (refused w d)).0);
      kept = λ d. w.wrote.1 ∙ (refused_write (c w) w.events.now w.out.now (refused w d)).1;
    }

pub read_back : EveryReadBack
unfolding fresh
read_back n l g b w answered r lent =
    let file : r.file.now ≡ file_written (c w) w.events.now w.out.now = lent ∙ same_file w in
    let state = r.given ∙ r.read ∙ ap read_setup file ∙ state_back n l g b w.events.now w.out.now (accepted w answered) in
    record {
      state = state;
      numbers = ap (λ (d : Done). d.state.setup) state;
      events = r.handed.0 ∙ ap read_events file ∙ events_back n l g b w.events.now w.out.now (accepted w answered);
    }

pub written_back : EveryWrittenBack
written_back r answered w events room =
    record {
      answer = ap (λ (x : Written). x.answer) gave;
      size = ap (λ (x : Written). x.size) gave;
      bytes =
          w.wrote.1
          ∙ ap (λ (x : Setup). write_buffer (four_numbers x) w.events.now w.out.now) numbers
          ∙ ap (λ (e : List ℕ). write_buffer (four_numbers (read_setup f).state.setup) e w.out.now) part
          ∙ bytes_back f w.out.now r.handed.1.1 ok room;
    }
  where
    f : List ℕ
    f = r.file.now

    ok : file_answer f ≡ 0
    ok = sym (read_answers f) ∙ sym (ap (λ (d : Done). d.answer) (r.given ∙ r.read)) ∙ answered

    numbers : r.gave.state.setup ≡ (read_setup f).state.setup
    numbers = ap (λ (d : Done). d.state.setup) (r.given ∙ r.read)

    part : w.events.now ≡ read_events f
    part = events ∙ r.handed.0

    gave : w.gave ≡ written_of 0 (length f)
    gave =
        gave_is w
        ∙ ap (λ (x : Setup). write_file (four_numbers x) w.events.now w.out.now) numbers
        ∙ ap (λ (e : List ℕ). write_file (four_numbers (read_setup f).state.setup) e w.out.now) part
        ∙ length_back f w.out.now r.handed.1.1 ok room
