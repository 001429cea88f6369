-- The lines of a journal are those of its entries, and how long they are: by induction on the entries.
--     figure-length, line-length       a figure is as long whatever its end, and a line as its four figures
--     lines-entries                    the lines of the whole
--     lines-more, lines-all            those of one entry more, and those of all entries
-- Assumes nothing.
use mathlib.Core.List.{List, [], ◌∷◌, ◌++◌}
use Prim.Native.Nat.{ℕ, zero, suc, ◌+◌, ◌/◌, ◌≤◌, ◌<◌}
use lib.Dec.{eqb}
use lib.ListN.{length, take, get_or, length-append}
use lib.Seq.{take_all}
use Rattle.std.specs.List.{flat_map}
use Rattle.std.specs.Simd.{first_chunks}
use Rattle.std.proofs.lemmas.List.{take_more, flat_map_more}
use Rattle.machine.proofs.Rules.{◌≡◌, ◌∙◌, sym, ap, refl, true, false, cond, Bool, arith}
use Rattle.text.specs.Lines.{space, newline, decimal, figure, line, entry_line, lines}

pub figure-length : (x end : ℕ) → length (figure x end) ≡ length (figure x 0)
unfolding figure
figure-length x end = go (eqb x 255)
  where
    go : (t : Bool) → length (cond t (45 ∷ end ∷ []) (decimal x ++ end ∷ [])) ≡ length (cond t (45 ∷ 0 ∷ []) (decimal x ++ 0 ∷ []))
    go true = refl
    go false = rw (length-append (decimal x) (end ∷ []), length-append (decimal x) (0 ∷ []))

pub line-length : (a b c d : ℕ)
    → length (line a b c d) ≡ length (figure a 0) + length (figure b 0) + length (figure c 0) + length (figure d 0)
unfolding line
line-length a b c d =
    let second = figure b space ++ (figure c space ++ figure d newline) in
    let third = figure c space ++ figure d newline in
    rw (length-append (figure a space) second, length-append (figure b space) third, length-append (figure c space) (figure d newline))
    (omega (arith, figure-length a space, figure-length b space, figure-length c space, figure-length d newline))

chunked : (k : ℕ) (j : List ℕ) → k ≡ length j / 4 → lines j ≡ flat_map entry_line (first_chunks 4 k j)
unfolding lines
chunked zero [] e = refl
chunked zero (a ∷ []) e = refl
chunked zero (a ∷ b ∷ []) e = refl
chunked zero (a ∷ b ∷ c ∷ []) e = refl
chunked zero (a ∷ b ∷ c ∷ d ∷ j) e = absurd (omega (arith, e))
chunked (suc k) [] e = absurd (omega (arith, e))
chunked (suc k) (a ∷ []) e = absurd (omega (arith, e))
chunked (suc k) (a ∷ b ∷ []) e = absurd (omega (arith, e))
chunked (suc k) (a ∷ b ∷ c ∷ []) e = absurd (omega (arith, e))
chunked (suc k) (a ∷ b ∷ c ∷ d ∷ j) e = ap (λ (ls : List ℕ). line a b c d ++ ls) (chunked k j (omega (arith, e)))

pub lines-entries : (j : List ℕ) {es : List (List ℕ)} → es ≡ first_chunks 4 (length j / 4) j → lines j ≡ flat_map entry_line es
lines-entries j e = chunked (length j / 4) j refl ∙ ap (flat_map entry_line) (sym e)

pub lines-more : (es : List (List ℕ)) (i : ℕ) → i < length es
    → flat_map entry_line (take (i + 1) es) ≡ flat_map entry_line (take i es) ++ entry_line (get_or es i [])
lines-more es i k = ap (flat_map entry_line) (take_more es i [] k) ∙ sym (flat_map_more entry_line [] (take i es) (get_or es i []))

pub lines-all : (j : List ℕ) {es : List (List ℕ)} (i : ℕ) → es ≡ first_chunks 4 (length j / 4) j → length es ≤ i
    → flat_map entry_line (take i es) ≡ lines j
lines-all j {es} i e k = rw (take_all i es k) (sym (lines-entries j e))
