-- The two directions, of the definitions: what is written is the file, which has the layout; and a file that is accepted is the one
-- that is written. By the writer's checks. Assumes nothing.
use mathlib.Core.List.{List, ◌++◌}
use Prim.Native.Nat.{ℕ, ◌+◌, ◌%◌, ◌≤◌}
use native.Mathlib.Decide.{ℕ_discrete}
use lib.ListN.{length, drop, length-drop}
use lib.Seq.{take_at, drop_at}
use Rattle.machine.proofs.Rules.{◌≡◌, ◌≢◌, ◌∙◌, sym, ap, refl, arith, le-leb, eq-eqb}
use Rattle.machine.specs.Filled.{written_of}
use Rattle.machine.specs.Setup.{plain}
use Rattle.machine.specs.State.{done, fresh}
use Rattle.machine.specs.declared.Done.{Done}
use Rattle.machine.specs.declared.Setup.{Setup}
use Rattle.machine.proofs.Facts.Filled.{Fills, fills_answer, fills_refused, fills_accepted}
use Rattle.day_file.specs.Layout.{Bytes, head_size, longest, body_setup, file_answer, read_setup, read_events}
use Rattle.day_file.specs.Writer.{file_bytes, write_checks, write_answer, write_file, write_buffer}
use Rattle.day_file.proofs.Accepted as accepted
use Rattle.day_writer.proofs.Writing.{answer_list, passed_setup, even, not_long}
use Rattle.round_trip.specs.Definitions.{file_written, four_numbers, RoundTrips}
use Rattle.round_trip.proofs.Laid as laid
use Rattle.round_trip.proofs.Read.{laid_out}

module _ (c : Setup) (events lent : List ℕ) where
  pub write_answers : (write_file c events lent).answer ≡ write_answer c (length events) (length lent)
  unfolding write_file write_answer
  write_answers = fills_answer (write_checks c (length events) (length lent)) (file_bytes c events) lent

  -- what an accepted call gives and leaves
  pub accepted_write : write_answer c (length events) (length lent) ≡ 0
      → (write_file c events lent ≡ written_of 0 (length (file_bytes c events)))
      × (write_buffer c events lent ≡ file_bytes c events ++ drop (length (file_bytes c events)) lent)
  unfolding write_file write_buffer write_answer
  accepted_write a =
      let p : Fills (write_checks c (length events) (length lent)) (file_bytes c events) lent (written_of 0 (length (file_bytes c events)))
      (file_bytes c events ++ drop (length (file_bytes c events)) lent)
      = fills_accepted (write_checks c (length events) (length lent)) (file_bytes c events) lent refl a refl refl in
      (sym p.0, sym p.1)

  -- and what a refused one does
  pub refused_write : write_answer c (length events) (length lent) ≢ 0
      → (write_file c events lent ≡ written_of (write_answer c (length events) (length lent)) 0) × (write_buffer c events lent ≡ lent)
  unfolding write_file write_buffer write_answer
  refused_write refused =
      let p = fills_refused (write_checks c (length events) (length lent)) (file_bytes c events) lent refl refused in
      (sym p.0, sym p.1)

  pub past_kept : drop (write_file c events lent).size (write_buffer c events lent) ≡ drop (write_file c events lent).size lent
  past_kept = go (ℕ_discrete (write_answer c (length events) (length lent)) 0)
    where
      go : Dec (write_answer c (length events) (length lent) ≡ 0)
          → drop (write_file c events lent).size (write_buffer c events lent) ≡ drop (write_file c events lent).size lent
      go (yes a) =
          let p = accepted_write a in
          rw (p.0, p.1) (drop_at (file_bytes c events) (drop (length (file_bytes c events)) lent) (length (file_bytes c events)) refl)
      go (no d) = let p = refused_write d in rw (p.0, p.1) refl

  module _ (answered : (write_file c events lent).answer ≡ 0) where
    passed : write_answer c (length events) (length lent) ≡ 0
    passed = sym write_answers ∙ answered

    pub written_file : file_written c events lent ≡ file_bytes c events
    written_file =
        let p = accepted_write passed in
        rw (p.0, p.1) (take_at (file_bytes c events) (drop (length (file_bytes c events)) lent) (length (file_bytes c events)) refl)

-- what was written of four numbers, read
module _ (n l g b : ℕ) (events lent : List ℕ) (answered : (write_file (plain n l g b) events lent).answer ≡ 0) where
  abbrev four : Setup
  four = plain n l g b

  passes : write_answer four (length events) (length lent) ≡ 0
  passes = passed four events lent answered

  pub state_back : read_setup (file_written four events lent) ≡ done 0 (fresh four)
  state_back =
      rw (written_file four events lent answered)
      (laid.setup_back n l g b events (even four _ _ passes) (not_long four _ _ passes) (passed_setup four _ _ passes))

  pub events_back : read_events (file_written four events lent) ≡ events
  events_back =
      rw (written_file four events lent answered)
      (laid.events_back n l g b events (even four _ _ passes) (not_long four _ _ passes) (passed_setup four _ _ passes))

module _ (f lent : List ℕ) (bytes : Bytes f) (answered : file_answer f ≡ 0) (room : length f ≤ length lent) where
  is_file : file_bytes (body_setup f) (drop head_size f) ≡ f
  is_file = laid_out f bytes (accepted.has_layout f answered)

  -- the writer accepts what was read
  passed_back : write_answer (body_setup f) (length (drop head_size f)) (length lent) ≡ 0
  passed_back =
      let kept = accepted.has_layout f answered in
      let size = length-drop head_size f in
      let long = accepted.long f kept in
      sym
      (answer_list (body_setup f) (length (drop head_size f)) (length lent) (accepted.has_setup f answered)
      (rw (
        eq-eqb (length (drop head_size f) % 2) 0 (ap (λ (k : ℕ). k % 2) size ∙ accepted.even f kept),
        le-leb (head_size + length (drop head_size f)) longest (omega (arith, size, long, accepted.not_long f kept)),
        le-leb (head_size + length (drop head_size f)) (length lent) (omega (arith, size, long, room)),
      )))

  setup_read : (read_setup f).state.setup ≡ body_setup f
  unfolding fresh
  setup_read = ap (λ (d : Done). d.state.setup) (accepted.reads_fresh f answered)

  events_read : read_events f ≡ drop head_size f
  unfolding read_events
  events_read = rw answered

  pub length_back : write_file (four_numbers (read_setup f).state.setup) (read_events f) lent ≡ written_of 0 (length f)
  length_back =
      rw (setup_read, events_read)
      ((accepted_write (body_setup f) (drop head_size f) lent passed_back).0 ∙ ap (λ (l : List ℕ). written_of 0 (length l)) is_file)

  pub bytes_back : write_buffer (four_numbers (read_setup f).state.setup) (read_events f) lent ≡ f ++ drop (length f) lent
  bytes_back =
      rw (setup_read, events_read)
      ((accepted_write (body_setup f) (drop head_size f) lent passed_back).1 ∙ ap (λ (l : List ℕ). l ++ drop (length l) lent) is_file)

pub round_trips : RoundTrips
unfolding fresh
round_trips =
    record {
      same_state = state_back;
      same_numbers = λ n l g b events lent answered. ap (λ (d : Done). d.state.setup) (state_back n l g b events lent answered);
      same_events = events_back;
      same_length = length_back;
      same_bytes = bytes_back;
    }
