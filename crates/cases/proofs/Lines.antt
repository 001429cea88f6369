-- Texts put into a buffer one after the other are one text put there, whether or not they fit: by whether the first fits.
--     put_none, put_more     no text; one text more
--     line-more, line-end    a number more is a space and its decimal more; the line feed behind all numbers
-- Assumes nothing.
use mathlib.Core.List.{List, [], ◌∷◌, ◌++◌, append-nil, append_assoc}
use Prim.Native.Nat.{ℕ, ◌+◌, ◌-◌, ◌^◌, ◌≤◌, ◌<◌}
use lib.ListN.{length, get_or, take, drop, length-append, length-drop}
use lib.Seq.{take-nil, take_all}
use Rattle.machine.proofs.Rules.{◌≡◌, ◌∙◌, sym, ap, refl, arith, rules}
use Rattle.std.proofs.lemmas.List.{same_lists, places, take_more}
use Rattle.std.specs.Fmt.{decimal}
use Rattle.lent.specs.Text.{Appends}
use Rattle.lent.specs.declared.Text.{Text}
use Rattle.lent.proofs.Texts.{fitting-size, fitting-bytes}
use Rattle.cases.proofs.Decimals.{figure-decimal}
use Rattle.cases.specs.Line.{figure, figures, line_of, size_in, put_in}

-- a text in a buffer that was o holds the text xs, as far as it fits, and the bytes behind are untouched
pub record Holds (o xs : List ℕ) (a : Text) : Type 0 where
  pub size_is : a.size ≡ size_in o xs
  pub bytes_are : a.buffer.now ≡ put_in o xs

pub put_none : {o : List ℕ} {a : Text} → a.size ≡ 0 → a.buffer.now ≡ o → Holds o [] a
put_none {o} empty whole = record {
  size_is = omega (arith, empty);
  bytes_are = whole ∙ rw (take-nil {A = ℕ} (length o)) refl;
}

length-put_in : (o xs : List ℕ) → length (put_in o xs) ≡ length o
length-put_in o xs = search (rules, places)

put-append : (o xs more : List ℕ)
    → let bytes = put_in o xs in let size = size_in o xs in
    take size bytes ++ put_in (drop size bytes) more ≡ put_in o (xs ++ more)
put-append o xs more = same_lists _ _ (search (rules, places)) (λ k d h. grind (arith, places))

module _ {o xs : List ℕ} {a : Text} (h : Holds o xs a) where
  same_room : length a.buffer.now ≡ length o
  same_room = ap length h.bytes_are ∙ length-put_in o xs

  pub put_more : (more : List ℕ) {b : Text} → Appends a b (take (length a.buffer.now - a.size) more) → Holds o (xs ++ more) b
  put_more more p = record {
    size_is = omega (arith, fitting-size more p, h.size_is, length-drop a.size a.buffer.now, length-append xs more, same_room);
    bytes_are = rw (fitting-bytes more p, h.bytes_are, h.size_is) (put-append o xs more);
  }

figures-push : (ns : List ℕ) (n : ℕ) → figures (ns ++ n ∷ []) ≡ figures ns ++ figure n
unfolding figures
figures-push [] n = append-nil (figure n)
figures-push (m ∷ ns) n = ap (λ (r : List ℕ). figure m ++ r) (figures-push ns n) ∙ sym (append_assoc (figure m) (figures ns) (figure n))

pub line-more : (word ns : List ℕ) (i n : ℕ) → i < length ns → n ≡ get_or ns i 0 → n < 2 ^ 64
    → word ++ figures (take (i + 1) ns) ≡ ((word ++ figures (take i ns)) ++ 32 ∷ []) ++ decimal n
line-more word ns i n k e fits =
    let next : figures (take (i + 1) ns) ≡ figures (take i ns) ++ figure n
    = ap figures (take_more ns i 0 k) ∙ rw (← e) (figures-push (take i ns) n) in
    rw (next, figure-decimal n fits) (simp append_assoc)

pub line-end : (word ns : List ℕ) (i : ℕ) → length ns ≤ i → (word ++ figures (take i ns)) ++ 10 ∷ [] ≡ line_of word ns
unfolding line_of
line-end word ns i k = rw (take_all i ns k, append_assoc)
