-- A file that has the layout is the file of the setup and the events that are read from it: its first 27 bytes are the head's, part
-- by part, and the rest are the events. Assumes nothing.
use mathlib.Core.List.{List, [], ◌∷◌, ◌++◌}
use Prim.Native.Nat.{ℕ, zero, suc, ◌+◌, ◌≤◌}
use native.Mathlib.Nat.{not-suc-le-zero, le_of_suc-le-suc}
use lib.Dec.{eqb}
use lib.ListN.{length, drop, length-drop}
use Rattle.machine.specs.Below.{tabulate}
use Rattle.machine.proofs.Rules.{◌≡◌, ◌∙◌, sym, ap, refl, true, eqb-true, ◌&&◌, Bool}
use Rattle.machine.proofs.Facts.Checks.{Passed, all_passed}
use Rattle.machine.proofs.Facts.Tests.{and_left, and_right}
use Rattle.day_file.specs.Layout.{byte, Bytes, mark, is_marked, word, Entry, is_entry, head_size, setup_entry, events_entry, body_size}
use Rattle.day_file.specs.Layout.{layout_checks, layout_answer, body_setup}
use Rattle.day_file.specs.Writer.{word_bytes, entry_bytes, setup_bytes, head_bytes, file_bytes}
use Rattle.day_file.proofs.Accepted as accepted
use Rattle.round_trip.proofs.Words.{parted}

-- the first n bytes of a list, and the rest
heads : (n : ℕ) (f : List ℕ) → n ≤ length f → f ≡ tabulate n (byte f) ++ drop n f
unfolding tabulate
heads zero f k = refl
heads (suc n) [] k = absurd (not-suc-le-zero k)
heads (suc n) (x ∷ f) k = ap (λ (l : List ℕ). x ∷ l) (heads n f (le_of_suc-le-suc k))

-- two numbers agree by the first of two tests, and the second is left
both : (a b : ℕ) (t : Bool) → eqb a b && t ≡ true → (a ≡ b) × (t ≡ true)
both a b t e = (eqb-true a b (and_left (eqb a b) t e), and_right (eqb a b) t e)

-- equal parts make equal bytes: those of an entry, and those of a head
parts : {k k' : ℕ} {x x' y y' : List ℕ} → k ≡ k' → x ≡ x' → y ≡ y' → k ∷ (x ++ y) ≡ k' ∷ (x' ++ y')
parts p q r = rw (p, q, r)

joins : {x x' y y' z z' : List ℕ} (l : List ℕ) → x ≡ x' → y ≡ y' → z ≡ z' → x ++ y ++ z ++ l ≡ x' ++ y' ++ z' ++ l
joins l p q r = rw (p, q, r)

module _ (f : List ℕ) (bytes : Bytes f) (kept : layout_answer f ≡ 0) where
  passed : Passed (layout_checks f)
  unfolding layout_answer
  passed = all_passed (layout_checks f) refl kept

  -- the bytes of a word, and of an entry
  abbrev four : ℕ → List ℕ
  four i = byte f i ∷ byte f (i + 1) ∷ byte f (i + 2) ∷ byte f (i + 3) ∷ []

  abbrev nine : ℕ → List ℕ
  nine i = byte f i ∷ (four (i + 1) ++ four (i + 5))

  word_bytes_lem : (i m : ℕ) → word f i ≡ m → four i ≡ word_bytes m
  unfolding word
  word_bytes_lem i m e =
      let p = parted _ _ _ _ m (bytes i) (bytes (i + 1)) (bytes (i + 2)) (bytes (i + 3)) e in
      rw (p.0, p.1, p.2, p.3)

  entry_bytes_lem : (i : ℕ) (e : Entry) → is_entry f i e ≡ true → nine i ≡ entry_bytes e
  unfolding is_entry
  entry_bytes_lem i e t =
      let kind = both (byte f i) e.kind _ t in
      let offset = both (word f (i + 1)) e.offset _ kind.1 in
      let size = eqb-true (word f (i + 5)) e.size offset.1 in
      parts kind.0 (word_bytes_lem (i + 1) e.offset offset.0) (word_bytes_lem (i + 5) e.size size)

  mark_bytes : byte f 0 ∷ byte f 1 ∷ byte f 2 ∷ byte f 3 ∷ byte f 4 ∷ [] ≡ mark
  unfolding is_marked
  mark_bytes =
      let b0 = both (byte f 0) 84 _ passed.1.0 in
      let b1 = both (byte f 1) 85 _ b0.1 in
      let b2 = both (byte f 2) 82 _ b1.1 in
      let b3 = both (byte f 3) 78 _ b2.1 in
      rw (b0.0, b1.0, b2.0, b3.0, eqb-true (byte f 4) 2 b3.1)

  -- the first 27 bytes are the mark, the two entries and the setup
  head_is : tabulate head_size (byte f) ≡ head_bytes (body_setup f) (body_size f)
  unfolding head_bytes tabulate
  head_is =
      let second = and_left (is_entry f 14 (events_entry (body_size f))) _ passed.1.1.1.0 in
      joins (setup_bytes (body_setup f)) mark_bytes (entry_bytes_lem 5 setup_entry passed.1.1.0) (entry_bytes_lem 14 _ second)

  pub laid_out : file_bytes (body_setup f) (drop head_size f) ≡ f
  laid_out =
      ap (λ (n : ℕ). head_bytes (body_setup f) n ++ drop head_size f) (length-drop head_size f)
      ∙ ap (λ (l : List ℕ). l ++ drop head_size f) (sym head_is)
      ∙ sym (heads head_size f (accepted.long f kept))
