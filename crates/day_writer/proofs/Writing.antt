-- What the writer answers, by its checks: the setup's first, then those of the list and the buffer; and that the head with the events
-- behind it is the file. Assumes nothing.
use mathlib.Core.List.{List, ◌++◌, append_assoc}
use Prim.Native.Nat.{ℕ, ◌+◌, ◌-◌, ◌%◌, ◌≤◌}
use borrow.Rule.Slice.PartMut.{put_mid}
use lib.Seq.{length-take-le, take_at, drop_at, drop-drop}
use lib.ListN.{length, drop, length-append}
use Rattle.machine.proofs.Rules.{◌≡◌, ◌∙◌, sym, ap, refl, arith, leb-true, eqb-true}
use Rattle.machine.specs.Check.{checked}
use Rattle.std.specs.Prelude.{Ok, Err}
use Rattle.machine.specs.Outcome.{as_written}
use Rattle.machine.specs.Refusal.{number}
use Rattle.machine.specs.Setup.{setup_answer}
use Rattle.machine.specs.declared.Setup.{Setup}
use Rattle.machine.specs.declared.refusal.Refusal.{Refusal}
use Rattle.machine.proofs.Facts.Checks.{Passed, all_passed}
use Rattle.machine.proofs.Facts.Filled.{fills_refused, fills_accepted}
use Rattle.machine.proofs.Facts.Refusals.{number_above}
use Rattle.machine.proofs.Facts.SetupFirst.{first_refused, first_passed, has_setup}
use Rattle.day_file.specs.Layout.{head_size, longest}
use Rattle.day_file.specs.Writer.{head_bytes, file_bytes, list_checks, write_checks, write_answer, write_file, write_buffer}

module _ (c : Setup) (size room : ℕ) where
  pub answer_setup : (why : Refusal) → number why ≡ setup_answer c → number why ≡ write_answer c size room
  unfolding write_answer
  answer_setup why e = e ∙ sym (first_refused c (list_checks size room) (λ z. number_above why (e ∙ z)))

  pub answer_list : {a : ℕ} → setup_answer c ≡ 0 → a ≡ checked (list_checks size room) (λ a. a) 0 → a ≡ write_answer c size room
  unfolding write_answer
  answer_list e l = l ∙ sym (first_passed c (list_checks size room) e)

  -- what an accepted call has
  module _ (accepted : write_answer c size room ≡ 0) where
    pub passed_setup : setup_answer c ≡ 0
    unfolding write_answer
    passed_setup = has_setup c (list_checks size room) accepted

    passed : Passed (list_checks size room)
    unfolding write_answer
    passed = all_passed (list_checks size room) refl (sym (first_passed c (list_checks size room) passed_setup) ∙ accepted)

    pub even : size % 2 ≡ 0
    even = eqb-true (size % 2) 0 passed.0

    pub not_long : head_size + size ≤ longest
    not_long = leb-true (head_size + size) longest passed.1.0

    pub has_room_lem : head_size + size ≤ room
    has_room_lem = leb-true (head_size + size) room passed.1.1.0

pub ruleset accepted = (not_long, has_room_lem, length-take-le)

-- the head stands at the start of a buffer, and the events are put behind it
pub events_behind : (head events out : List ℕ) → length head ≡ head_size
    → put_mid head_size (head_size + length events - head_size) (head ++ drop head_size out) events
    ≡ head ++ events ++ drop (head_size + length events) out
events_behind head events out e =
    let rest = drop head_size out in
    let size : head_size + length events - head_size ≡ length events = omega arith in
    rw (take_at head rest head_size e, drop_at head rest head_size e, size, append_assoc, drop-drop)

pub file_length : (c : Setup) (events : List ℕ) → length (file_bytes c events) ≡ head_size + length events
unfolding head_bytes
file_length c events = length-append (head_bytes c (length events)) events

module _ (c : Setup) (events lent : List ℕ) where
  abbrev size : ℕ
  size = length events

  pub refused : (why : Refusal) → number why ≡ write_answer c size (length lent)
      → (as_written (Err why) ≡ write_file c events lent) × (lent ≡ write_buffer c events lent)
  unfolding write_answer write_file write_buffer
  refused why e = fills_refused (write_checks c size (length lent)) (file_bytes c events) lent e (number_above why)

  pub written : write_answer c size (length lent) ≡ 0 → {n : ℕ} {o : List ℕ} → n ≡ head_size + size
      → o ≡ file_bytes c events ++ drop (head_size + size) lent
      → (as_written (Ok n) ≡ write_file c events lent) × (o ≡ write_buffer c events lent)
  unfolding write_answer write_file write_buffer
  written e long put =
      fills_accepted (write_checks c size (length lent)) (file_bytes c events) lent refl e (long ∙ sym (file_length c events))
      (put ∙ ap (λ (k : ℕ). file_bytes c events ++ drop k lent) (sym (file_length c events)))
