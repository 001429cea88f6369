-- Texts put behind one another are one text put there: byte by byte. Assumes nothing.
--     same_room                        the buffer's length stays
--     appends_none, appends_append     no text; two texts
--     size-start, fits-start, bytes-start     a text at the start
--     fitting-size, fitting-bytes     as much of a text as fits, by the rest of the buffer
use mathlib.Core.List.{List, [], ◌++◌}
use Prim.Native.Nat.{ℕ, ◌+◌, ◌-◌, ◌≤◌, min}
use lib.ListN.{length, take, drop, length-append, length-take, length-drop, take-append-drop}
use Rattle.std.proofs.Common.{◌≡◌, ◌∙◌, refl, sym, arith, rules}
use Rattle.std.proofs.lemmas.List.{same_lists, places}
use Rattle.lent.specs.Text.{Appends}
use Rattle.lent.specs.declared.Text.{Text}

pub appends_none : {a : Text} → a.size ≤ length a.buffer.now → Appends a a []
appends_none {a} room = record {
  same_buffer = refl;
  size = omega arith;
  room = room;
  bytes = sym (take-append-drop a.size a.buffer.now);
}

module _ {a b : Text} {xs : List ℕ} (p : Appends a b xs) where
  pub same_room : length b.buffer.now ≡ length a.buffer.now
  same_room = rw p.bytes (simp (length-append, length-take, length-drop) (omega (arith, p.size, p.room)))

  pub appends_append : {c : Text} {ys : List ℕ} → Appends b c ys → Appends a c (xs ++ ys)
  appends_append {c} {ys} q = record {
    same_buffer = q.same_buffer ∙ p.same_buffer;
    size = omega (arith, p.size, q.size, length-append xs ys);
    room = omega (arith, q.room, same_room);
    bytes = rw (q.bytes, p.bytes) (same_lists _ _ (search (rules, places)) (λ k d h. grind (arith, places)));
  }

module _ {a b : Text} {text lent : List ℕ} (start : a.size ≡ 0) (whole : a.buffer.now ≡ lent) (p : Appends a b text) where
  pub size-start : b.size ≡ length text
  size-start = omega (arith, start, p.size)

  pub fits-start : length text ≤ length lent
  fits-start = rw (← whole) (omega (arith, size-start, p.room))

  pub bytes-start : b.buffer.now ≡ text ++ drop (length text) lent
  bytes-start = p.bytes ∙ rw (start, size-start, whole) refl

module _ {a b : Text} (more : List ℕ) (p : Appends a b (take (length a.buffer.now - a.size) more)) where
  pub fitting-size : b.size ≡ a.size + min (length more) (length (drop a.size a.buffer.now))
  fitting-size = omega (arith, p.size, length-take (length a.buffer.now - a.size) more, length-drop a.size a.buffer.now)

  pub fitting-bytes :
      b.buffer.now
      ≡ take a.size a.buffer.now
      ++ (take (length (drop a.size a.buffer.now)) more ++ drop (length more) (drop a.size a.buffer.now))
  fitting-bytes = p.bytes ∙ same_lists _ _ (search (rules, places)) (λ k d h. grind (arith, places))
