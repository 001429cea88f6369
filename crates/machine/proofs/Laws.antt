-- `laws`: every law of specs/Laws.antt holds. Each is proved in the file from which its line is imported.
-- Assumes nothing.
pub mod Setup
pub mod Plain
pub mod Fresh
pub mod Partial
pub mod Answers
pub mod OnePlace
pub mod Unread
pub mod Room
pub mod Steps
pub mod Parts
use Rattle.machine.proofs.Rules.{refl}
use Rattle.machine.specs.Closed.{closed_by}
use Rattle.machine.specs.Laws.{Laws}
use Rattle.machine.specs.Setup.{plain, names}
use Rattle.machine.proofs.Facts.Leaves.{height_is, depth_root, depth_left, depth-right}
use Rattle.machine.proofs.Closed.{closed_word_lem, closed_lists, closed_below}
use Rattle.machine.proofs.Facts.Words.{first_zero_clear, first_zero_open, first_zero_below}
use Rattle.machine.proofs.Facts.Words.{set-bit_same, set-bit_other, clr_bit_same, clr_bit_other}
use Rattle.machine.proofs.Laws.Answers.{accepted-in-range, refused-unchanged, state-refused, kind-refused, stranger-refused}
use Rattle.machine.proofs.Laws.Fresh.{fresh_in_range, blank_out_of_range}
use Rattle.machine.proofs.Laws.OnePlace.{event_touches, others_unchanged, setup_unchanged}
use Rattle.machine.proofs.Laws.OnePlace.{unused_process, unused_counter, unused_word, sized_kept}
use Rattle.machine.proofs.Laws.Partial.{partial_is_setup, one_more_counter, partial_in_range, partial_sized}
use Rattle.machine.proofs.Laws.Parts.{after_parts, answers_parts, journal_parts, events_parts, bytes_events, bytes_length}
use Rattle.machine.proofs.Laws.Parts.{journal-length, lent_length}
use Rattle.machine.proofs.Laws.Plain.{open_all, rank_all, counter_share, numbers_decide}
use Rattle.machine.proofs.Laws.Room.Gate.{enter_room_lem, await_room}
use Rattle.machine.proofs.Laws.Room.Getname.{getname_room_lem}
use Rattle.machine.proofs.Laws.Room.Putname.{putname_room_lem}
use Rattle.machine.proofs.Laws.Setup.{setup-answers, setup-refused, setup-accepted}
use Rattle.machine.proofs.Laws.Setup.{partial-answers, partial-refused, partial-accepted}
use Rattle.machine.proofs.Laws.Steps.{steps_reset, returns_reset, head_leaves}
use Rattle.machine.proofs.Laws.Unread.{event_alike}
use Rattle.machine.proofs.Ranges.{ranges_of}
use Rattle.machine.proofs.Sized.{fresh_sized}

pub laws : Laws
laws =
    record {
      height_power = height_is;
      root_depth = depth_root;
      left_depth = depth_left;
      right_depth = depth-right;
      answer_clear = first_zero_clear;
      answer_open = first_zero_open;
      answer_lowest = first_zero_below;
      set_same = set-bit_same;
      set_other = set-bit_other;
      clr_same = clr_bit_same;
      clr_other = clr_bit_other;
      closed_listed = closed_lists;
      closed_inside = closed_below;
      closed_bits = closed_word_lem;
      none_listed = λ n l g b. unfold closed_by in refl;
      plain_answer = λ n l g b. numbers_decide (plain n l g b) refl;
      plain_gate = λ n l g b. let c = plain n l g b in open_all c refl 0 (names c);
      plain_counter = λ n l g b v e low k. counter_share (plain n l g b) refl e v low k;
      plain_rank = λ n l g b. rank_all (plain n l g b) refl;
      answer_of_setup = setup-answers;
      accepted_setup = setup-accepted;
      refused_setup = setup-refused;
      fresh_state = fresh_in_range;
      fresh_lengths = fresh_sized;
      blank_state = blank_out_of_range;
      partial_answer = partial-answers;
      accepted_partial = partial-accepted;
      refused_partial = partial-refused;
      partial_whole = λ c count k. partial_is_setup c count (λ _. k);
      partial_next = one_more_counter;
      partial_state = partial_in_range;
      partial_lengths = partial_sized;
      accepted = accepted-in-range;
      refused = refused-unchanged;
      lengths = sized_kept;
      state_15 = state-refused;
      kind_12 = kind-refused;
      stranger_6 = stranger-refused;
      one_place = event_touches;
      others = others_unchanged;
      setup_kept = setup_unchanged;
      unused_processes = unused_process;
      unused_counters = unused_counter;
      unused_words = unused_word;
      unread = event_alike;
      request_resets = steps_reset;
      request_resets_returns = returns_reset;
      head_first = head_leaves;
      enter_15 = λ s p e l. enter_room_lem s p (ranges_of s e) l;
      await_15 = λ s p e l. await_room s p (ranges_of s e) l;
      getname_15 = λ s p z e l. getname_room_lem s p (ranges_of s e) l z.process;
      putname_15 = λ s p z e l. putname_room_lem s p (ranges_of s e) l z;
      parts = after_parts;
      parts_answers = answers_parts;
      parts_journal = journal_parts;
      parts_bytes = events_parts;
      read_back = bytes_events;
      two_bytes = bytes_length;
      four_bytes = journal-length;
      lent_kept = lent_length;
    }
