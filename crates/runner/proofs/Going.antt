-- A list half run: what is written, and what the rest of the list will do, are the whole run. One event more, and the end, by the pairs of
-- its bytes and the four of an entry. Assumes nothing.
use mathlib.Core.List.{List, [], ◌∷◌, ◌++◌, append_assoc}
use Prim.Native.Nat.{ℕ, zero, suc, ◌+◌, ◌*◌, ◌/◌, ◌≤◌, ◌<◌}
use borrow.Rule.Slice.PartMut.{put_mid}
use native.Mathlib.Decide.{dec_lt}
use native.Mathlib.Numerals.{add-one}
use lib.ListN.{length, take, drop, get_or, drop_of_length-le, take-append-drop}
use lib.Seq.{drop-cons}
use Rattle.std.proofs.lemmas.Slice.{take-put_mid, drop-put_mid}
use Rattle.std.specs.Prelude.{map}
use Rattle.std.specs.Simd.{first_chunks}
use Rattle.machine.proofs.Laws.Answers.{kind-refused, stranger-refused}
use Rattle.machine.proofs.Laws.OnePlace.{setup_unchanged}
use Rattle.machine.proofs.Laws.Parts.{entry_length}
use Rattle.machine.proofs.Ranges.{ranges_of}
use Rattle.machine.proofs.Rules.{◌≡◌, ◌∙◌, sym, ap, refl, true, false, true≢false, arith}
use Rattle.machine.proofs.Valid.{range_kept}
use Rattle.machine.specs.Event.{event}
use Rattle.machine.specs.Kind.{release}
use Rattle.machine.specs.Lists.{shows_none, Event, event_of, events_of, event_done, after}
use Rattle.machine.specs.Lists.{entry_of, journal, journal_length, written}
use Rattle.machine.specs.Range.{in_range}
use Rattle.machine.specs.State.{done, figure, process_at}
use Rattle.machine.specs.declared.Done.{Done}
use Rattle.machine.specs.declared.Setup.{Setup}
use Rattle.machine.specs.declared.State.{State}

-- the event that a pair of bytes is, event i of the pairs, and the events from it on
abbrev event_in : List ℕ → Event
event_in pair = event_of (get_or pair 0 0) (get_or pair 1 0)

abbrev pub event_at : List (List ℕ) → ℕ → Event
event_at pairs i = event_in (get_or pairs i [])

abbrev rest : List (List ℕ) → ℕ → List Event
rest pairs i = map event_in (drop i pairs)

-- the events of a list's bytes are those of its pairs
paired : (k : ℕ) (bytes : List ℕ) → k ≡ length bytes / 2 → map event_in (first_chunks 2 k bytes) ≡ events_of bytes
unfolding events_of
paired zero [] e = refl
paired zero (a ∷ []) e = refl
paired zero (a ∷ b ∷ bytes) e = absurd (omega (arith, e))
paired (suc k) [] e = absurd (omega (arith, e))
paired (suc k) (a ∷ []) e = absurd (omega (arith, e))
paired (suc k) (a ∷ b ∷ bytes) e = ap (λ (es : List Event). event_of a b ∷ es) (paired k bytes (omega (arith, e)))

-- the run from event i on, in a state in range and with what is written before it, is the whole run
pub record Going (pairs : List (List ℕ)) (bytes lent : List ℕ) (s₀ : State) (j : List ℕ) (s : State) (i : ℕ) : Type 0 where
  pub range : in_range s ≡ true
  pub state : after s (rest pairs i) ≡ after s₀ (events_of bytes)
  pub entries : take (4 * i) j ++ (journal s (rest pairs i) ++ drop (journal_length bytes) j) ≡ written s₀ bytes lent

-- nothing has run, and all is still to come
pub begin :
    {pairs : List (List ℕ)} (bytes lent : List ℕ) (s : State) → pairs ≡ first_chunks 2 (length bytes / 2) bytes → in_range s ≡ true
    → Going pairs bytes lent s lent s 0
begin bytes lent s e range =
    let all = ap (map event_in) e ∙ paired (length bytes / 2) bytes refl in
    record {
      range = range;
      state = ap (after s) all;
      entries = ap (λ (es : List Event). journal s es ++ drop (journal_length bytes) lent) all;
    }

rest_step : (pairs : List (List ℕ)) (i : ℕ) → i < length pairs → rest pairs i ≡ event_at pairs i ∷ rest pairs (i + 1)
rest_step pairs i l = rw add-one (ap (map event_in) (drop-cons pairs i [] l))

-- one entry more, put into its place
entry_step :
    (entry j rest : List ℕ) (i n : ℕ) → length entry ≡ 4 → 4 * i + 4 ≤ length j → 4 * i + 4 ≤ n
    → take (4 * (i + 1)) (put_mid (4 * i) 4 j entry) ++ (rest ++ drop n (put_mid (4 * i) 4 j entry))
    ≡ take (4 * i) j ++ ((entry ++ rest) ++ drop n j)
entry_step entry j rest i n four h k =
    rw (
      take-put_mid (4 * i) 4 j entry (4 * (i + 1)) (omega (arith, four)) (omega (arith, h)),
      drop-put_mid (4 * i) 4 j entry n (omega (arith, k)) (omega (arith, h)) four,
    ) (simp append_assoc)

module _
    {pairs : List (List ℕ)} {bytes lent : List ℕ} {s₀ : State} {j : List ℕ} {s : State} {i : ℕ} (g : Going pairs bytes lent s₀ j s i)
  where
    -- one event more: its state, and its entry stored
    pub next : i < length pairs → length pairs ≡ length bytes / 2 → 2 * length bytes ≤ length j
        → Going pairs bytes lent s₀ (put_mid (4 * i) 4 j (entry_of s (event_at pairs i))) (event_done s (event_at pairs i)).state (i + 1)
    unfolding after journal
    next l n room =
        let e = event_at pairs i in
        let t = (event_done s e).state in
        record {
          range = range_kept s g.range e.kind e.process;
          state = sym (ap (after s) (rest_step pairs i l)) ∙ g.state;
          entries = entry_step (entry_of s e) j (journal t (rest pairs (i + 1))) i (journal_length bytes) (entry_length s e)
              (omega (arith, l, n, room)) (omega (arith, l, n))
              ∙ sym (ap (λ (es : List Event). take (4 * i) j ++ (journal s es ++ drop (journal_length bytes) j)) (rest_step pairs i l))
              ∙ g.entries;
        }

    -- at the end of the list
    pub finish : length pairs ≡ length bytes / 2 → length pairs ≤ i → i ≤ length pairs
        → (s ≡ after s₀ (events_of bytes)) × (j ≡ written s₀ bytes lent)
    unfolding after journal
    finish n h k =
        let none : drop i pairs ≡ [] = drop_of_length-le pairs h in
        let size : 4 * i ≡ journal_length bytes = omega (arith, n, h, k) in
        (rw none at g.state, sym (take-append-drop (journal_length bytes) j) ∙ rw (none, size) at g.entries)

-- what an event answers and leaves: an entry that shows its process is a member's, whose figure is a byte
module _ (s : State) (range : in_range s ≡ true) (k p a : ℕ) (t : State) (is : done a t ≡ event s k p) (shows : shows_none a ≡ false) where
  -- it is refused with a number whose entry shows none
  unshown : (n : ℕ) → shows_none n ≡ true → event s k p ≡ done n s → ⊥
  unshown n none e = true≢false (sym none ∙ sym (ap (λ (d : Done). shows_none d.answer) (is ∙ e)) ∙ shows)

  member : Dec (release < k) → Dec (p < s.setup.processes) → p < s.setup.processes
  member (yes l) known = absurd (unshown 12 refl (kind-refused s k p range l))
  member (no n) (yes l) = l
  member (no n) (no m) = absurd (unshown 6 refl (stranger-refused s k p range (omega (arith, n)) (omega (arith, m))))

  pub shown : (p < 64) × (figure (process_at t p) ≤ 255)
  shown =
      let l = member (dec_lt release k) (dec_lt p s.setup.processes) in
      let kept = ap (λ (c : Setup). c.processes) (setup_unchanged s k p) in (
        omega (arith, l, (ranges_of s range).limits.n64),
        omega (
          arith,
          ((ranges_of _ (range_kept s range k p)).process p (omega (arith, l, kept))).shown,
          ap (λ (d : Done). figure (process_at d.state p)) is,
        ),
      )
