-- A file that begins with the letters, letter by letter. By the cases of its first four bytes.
use mathlib.Core.List.{List, [], ◌∷◌}
use Prim.Native.Nat.{ℕ, ◌≤◌}
use lib.Dec.{eqb}
use lib.ListN.{length}
use Rattle.machine.proofs.Rules.{◌≡◌, sym, refl, true, false, Bool, ◌&&◌, and-true, arith, eqb-true, eqb-false, eq-eqb, ne_eqb}
use Rattle.std.specs.List.{starts_with}
use Rattle.day_file.specs.Layout.{byte, turn, is_marked}

flipped : (a b : ℕ) → eqb a b ≡ eqb b a
flipped a b = go (eqb a b) refl
  where
    go : (t : Bool) → eqb a b ≡ t → t ≡ eqb b a
    go true e = sym (eq-eqb b a (sym (eqb-true a b e)))
    go false e = sym (ne_eqb b a (λ d. eqb-false a b e (sym d)))

pub starts_with_turn : (f : List ℕ) → 4 ≤ length f
    → starts_with eqb f turn ≡ eqb (byte f 0) 84 && (eqb (byte f 1) 85 && (eqb (byte f 2) 82 && eqb (byte f 3) 78))
starts_with_turn [] l = absurd (omega (arith, l))
starts_with_turn (a ∷ []) l = absurd (omega (arith, l))
starts_with_turn (a ∷ b ∷ []) l = absurd (omega (arith, l))
starts_with_turn (a ∷ b ∷ c ∷ []) l = absurd (omega (arith, l))
starts_with_turn (a ∷ b ∷ c ∷ d ∷ f) l =
    rw (flipped 84 a, flipped 85 b, flipped 82 c, flipped 78 d, and-true (eqb d 78)) refl

grouped : (a b c d e : Bool) → a && (b && (c && (d && e))) ≡ (a && (b && (c && d))) && e
grouped false b c d e = refl
grouped true false c d e = refl
grouped true true false d e = refl
grouped true true true d e = refl

pub marked : (f : List ℕ) → 4 ≤ length f → is_marked f ≡ starts_with eqb f turn && eqb (byte f 4) 2
unfolding is_marked
marked f l =
    rw (starts_with_turn f l) (grouped (eqb (byte f 0) 84) (eqb (byte f 1) 85) (eqb (byte f 2) 82) (eqb (byte f 3) 78) (eqb (byte f 4) 2))
