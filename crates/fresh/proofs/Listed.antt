-- A list of closed names read one after another, by induction on it, and one name closed, by its bit. Assumes nothing.
use mathlib.Core.List.{List, [], ◌∷◌}
use Prim.Native.Nat.{ℕ, ◌+◌, ◌*◌, ◌%◌, ◌^◌, ◌≤◌, ◌<◌}
use lib.Bits.{bit_and, bit_or, or_add_and}
use lib.Dec.{eqb, ltb}
use native.Mathlib.Nat.{mod-lt}
use Rattle.std.proofs.Math.Nat.{mod-eq_of_lt}
use Rattle.std.proofs.lemmas.Nat.Bits.{and_pow}
use Rattle.std.specs.List.{fold}
use Rattle.machine.proofs.Rules.{◌≡◌, ◌∙◌, ap, refl, Bool, true, false, cond, arith, ltb-true, eqb-true, eqb-false}
use Rattle.machine.specs.Closed.{closing, closed_by, lists_below}
use Rattle.machine.specs.Operations.{bit}
use Rattle.machine.proofs.Facts.Tests.{and_left, and_right}
use Rattle.fresh.proofs.Counted.{shifted_64}

-- names below k, closed one after another
pub closed_fold : (k w : ℕ) (ps : List ℕ) → k ≤ 64 → lists_below k ps ≡ true → fold (λ w p. closing w (p % 64)) w ps ≡ closed_by w ps
unfolding lists_below closed_by
closed_fold k w [] h e = refl
closed_fold k w (p ∷ ps) h e =
    let low = ltb-true p k (and_left (ltb p k) (lists_below k ps) e) in
    let rest = closed_fold k (closing w p) ps h (and_right (ltb p k) (lists_below k ps) e) in
    let small : p < 64 = omega (arith, low, h) in
    rw (mod-eq_of_lt small) rest

-- a bit set by `|` is added where it is clear, and changes nothing where it is set
set_closing : (w p : ℕ) → bit_or w (2 ^ p) ≡ closing w p
unfolding closing
set_closing w p = go (eqb (bit w p) 0) refl
  where
    both_bits : (b : ℕ) → bit w p ≡ b → bit_and w (2 ^ p) ≡ b * 2 ^ p
    both_bits b e = and_pow w p ∙ ap (λ (x : ℕ). x * 2 ^ p) e

    go : (t : Bool) → eqb (bit w p) 0 ≡ t → bit_or w (2 ^ p) ≡ cond t (w + 2 ^ p) w
    go true e = omega (arith, or_add_and w (2 ^ p), both_bits 0 (eqb-true _ 0 e))
    go false e =
        let one : bit w p ≡ 1 = omega (arith, eqb-false (bit w p) 0 e) in
        omega (arith, or_add_and w (2 ^ p), both_bits 1 one)

pub or_closing : (w p : ℕ) → bit_or w ((1 * 2 ^ (p % 64)) % 2 ^ 64) ≡ closing w (p % 64)
or_closing w p = let k : p % 64 < 64 = mod-lt p (omega arith) in
    rw (shifted_64 (p % 64) k) (set_closing w (p % 64))
