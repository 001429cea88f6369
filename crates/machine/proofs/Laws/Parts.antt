-- Running a list is running its parts in turn; an event is two bytes, and the journal has four for each: by induction on the list.
-- Assumes nothing.
use mathlib.Core.List.{List, [], ◌∷◌, ◌++◌, append_assoc}
use Prim.Native.Nat.{ℕ, ◌*◌, ◌/◌, ◌%◌}
use lib.Dec.{eqb, leb}
use lib.ListN.{length, drop, length-append, length-drop}
use Rattle.machine.proofs.Rules.{◌≡◌, ◌∙◌, sym, ap, refl, ◌||◌, arith, leb-true}
use Rattle.machine.specs.Lists.{Event, event_of, events_of, list_bytes, event_done, after, answers}
use Rattle.machine.specs.Lists.{entry_of, journal, journal_length, run_journal}
use Rattle.machine.specs.Range.{in_range}
use Rattle.machine.specs.declared.State.{State}
use Rattle.machine.proofs.Facts.Tests.{by_cond}

pub after_parts : (s : State) (es fs : List Event) → after s (es ++ fs) ≡ after (after s es) fs
unfolding after
after_parts s [] fs = refl
after_parts s (e ∷ es) fs = after_parts (event_done s e).state es fs

pub answers_parts : (s : State) (es fs : List Event) → answers s (es ++ fs) ≡ answers s es ++ answers (after s es) fs
unfolding after answers
answers_parts s [] fs = refl
answers_parts s (e ∷ es) fs = ap (λ (as' : List ℕ). (event_done s e).answer ∷ as') (answers_parts (event_done s e).state es fs)

pub journal_parts : (s : State) (es fs : List Event) → journal s (es ++ fs) ≡ journal s es ++ journal (after s es) fs
unfolding after journal
journal_parts s [] fs = refl
journal_parts s (e ∷ es) fs =
    ap (λ (j : List ℕ). entry_of s e ++ j) (journal_parts (event_done s e).state es fs)
    ∙ sym (append_assoc (entry_of s e) (journal (event_done s e).state es) (journal (after (event_done s e).state es) fs))

pub events_parts : (bytes more : List ℕ) → length bytes % 2 ≡ 0 → events_of (bytes ++ more) ≡ events_of bytes ++ events_of more
unfolding events_of
events_parts [] more e = refl
events_parts (k ∷ []) more e = absurd (omega arith)
events_parts (k ∷ p ∷ bytes) more e =
    ap (λ (es : List Event). event_of k p ∷ es) (events_parts bytes more (omega arith))

pub bytes_events : (es : List Event) → events_of (list_bytes es) ≡ es
unfolding events_of list_bytes
bytes_events [] = refl
bytes_events (e ∷ es) = ap (λ (fs : List Event). e ∷ fs) (bytes_events es)

pub bytes_length : (es : List Event) → length (list_bytes es) ≡ 2 * length es
unfolding list_bytes
bytes_length [] = refl
bytes_length (e ∷ es) = omega (arith, bytes_length es)

pub bytes_parts : (es fs : List Event) → list_bytes (es ++ fs) ≡ list_bytes es ++ list_bytes fs
unfolding list_bytes
bytes_parts [] fs = refl
bytes_parts (e ∷ es) fs = ap (λ (l : List ℕ). e.kind ∷ e.process ∷ l) (bytes_parts es fs)

pub events_length : (bytes : List ℕ) → length (events_of bytes) ≡ length bytes / 2
unfolding events_of
events_length [] = refl
events_length (k ∷ []) = refl
events_length (k ∷ p ∷ bytes) = omega (arith, events_length bytes)

pub entry_length : (s : State) (e : Event) → length (entry_of s e) ≡ 4
unfolding entry_of
entry_length s e =
    let a : ℕ = (event_done s e).answer in
    by_cond (λ (l : List ℕ). length l ≡ 4) (eqb a 12 || eqb a 6 || eqb a 15) (λ _. refl) (λ _. refl)

pub journal-length : (s : State) (es : List Event) → length (journal s es) ≡ 4 * length es
unfolding journal
journal-length s [] = refl
journal-length s (e ∷ es) =
    length-append (entry_of s e) (journal (event_done s e).state es)
    ∙ omega (arith, entry_length s e, journal-length (event_done s e).state es)

-- the lent journal keeps its length
pub lent_length : (s : State) (bytes lent : List ℕ) → length (run_journal s bytes lent) ≡ length lent
unfolding run_journal
lent_length s bytes lent =
    let Kept : List ℕ → Type 0 = λ l. length l ≡ length lent in
    by_cond Kept (eqb (length bytes % 2) 0)
    (λ _.
    by_cond Kept (leb (journal_length bytes) (length lent))
    (λ e.
    by_cond Kept (in_range s)
    (λ _.
    length-append (journal s (events_of bytes)) (drop (journal_length bytes) lent)
    ∙ omega (
      arith,
      journal-length s (events_of bytes),
      events_length bytes,
      length-drop (journal_length bytes) lent,
      leb-true (journal_length bytes) (length lent) e,
    ))
    (λ _. refl))
    (λ _. refl))
    (λ _. refl)
