-- The rules of words of eight bits: the trailing zeros, and a bit set or cleared, computed once over all of them, with the law that each
-- test gives, and a closed bit passed over as a set one is.
--     first_zero_is    the first index that is clear and not closed is the trailing zeros of the complement, within b bits
--     or_first_zero    setting that bit adds its power of 2
--     and_not          clearing a bit is `clr_bit`
-- Assumes nothing.
use Prim.Native.Nat.{ℕ, zero, suc, ◌+◌, ◌*◌, ◌-◌, ◌/◌, ◌%◌, ◌^◌, ◌≤◌, ◌<◌, max}
use native.Mathlib.Nat.{zero-max, max-zero, suc-max-suc, max-le}
use lib.Bits.{bit_or, bit_and, or_step, or_lt}
use lib.Count.{count_trailing_zeros}
use lib.Dec.{ltb, eqb}
use Rattle.machine.proofs.Rules.{◌≡◌, ◌∙◌, refl, true, cond, Bool, ◌&&◌, and-true, arith, ne_eqb, eq-eqb, eqb-true}
use Rattle.machine.specs.Below.{all_below}
use Rattle.machine.specs.Operations.{bit, first_zero, clr_bit}
use Rattle.machine.proofs.Facts.Below.{all_at}
use Rattle.machine.proofs.Facts.Words.{first_zero_clear}

-- what the code computes
abbrev pub zeros : ℕ → ℕ → ℕ
zeros b w = cond (ltb (count_trailing_zeros 8 (255 - w)) b) (count_trailing_zeros 8 (255 - w)) b

abbrev pub shifted : ℕ → ℕ
shifted i = (1 * 2 ^ i) % 256

-- each of it, for every byte
abbrev counted : ℕ → ℕ → Bool
counted b w = eqb (first_zero b 0 w) (zeros b w)

abbrev all_counted : ℕ → Bool
all_counted b = all_below 256 (counted b)

each_counted : all_below 9 all_counted ≡ true
unfolding all_below first_zero count_trailing_zeros
each_counted = refl

abbrev sum_or : ℕ → ℕ → Bool
sum_or i w = cond (eqb (bit w i) 0) (eqb (bit_or w (shifted i)) (w + 2 ^ i)) true

abbrev all_sums : ℕ → Bool
all_sums i = all_below 256 (sum_or i)

each_sum : all_below 8 all_sums ≡ true
unfolding all_below
each_sum = refl

abbrev cleared : ℕ → ℕ → Bool
cleared i w = eqb (bit_and w (255 - shifted i)) (clr_bit w i)

abbrev all_cleared : ℕ → Bool
all_cleared i = all_below 256 (cleared i)

each_cleared : all_below 8 all_cleared ≡ true
unfolding all_below clr_bit
each_cleared = refl

-- the lowest bits of both words together, and the bits above them
module _ (w x : ℕ) where
  low_one : max (w % 2) (x % 2) ≤ 1
  low_one = max-le (omega arith) (omega arith)

  or_low : bit_or w x % 2 ≡ max (w % 2) (x % 2)
  or_low = omega (arith, or_step w x, low_one)

  or_rest : bit_or w x / 2 ≡ bit_or (w / 2) (x / 2)
  or_rest = omega (arith, or_step w x, low_one)

neither : (a b : ℕ) → eqb (max a b) 0 ≡ (eqb a 0 && eqb b 0)
neither zero b = rw (zero-max b)
neither (suc a) zero = rw (max-zero (suc a), and-true)
neither (suc a) (suc b) = rw (suc-max-suc a b, ne_eqb (suc (max a b)) 0 (λ q. omega arith), ne_eqb (suc a) 0 (λ q. omega arith))

-- a closed bit is passed over as a set one is
first_zero-or : (b x w : ℕ) → first_zero b x w ≡ first_zero b 0 (bit_or w x)
unfolding first_zero
first_zero-or zero x w = refl
first_zero-or (suc b) x w = rw (or_low w x, or_rest w x, neither (w % 2) (x % 2), and-true, first_zero-or b (x / 2) (w / 2))

pub first_zero_is : (b x w : ℕ) → b < 9 → x < 256 → w < 256 → first_zero b x w ≡ zeros b (bit_or w x)
first_zero_is b x w k m l =
    let y : ℕ = bit_or w x in
    first_zero-or b x w ∙ eqb-true _ _ (all_at 256 (counted b) (all_at 9 all_counted each_counted b k) y (or_lt 8 w x l m))

or_clear : (w i : ℕ) → w < 256 → i < 8 → bit w i ≡ 0 → bit_or w (shifted i) ≡ w + 2 ^ i
or_clear w i l k e = eqb-true _ _ (rw (eq-eqb (bit w i) 0 e) at (all_at 256 (sum_or i) (all_at 8 all_sums each_sum i k) w l))

pub or_first_zero : (b x w : ℕ) → b < 9 → w < 256 → first_zero b x w < b
    → bit_or w (shifted (first_zero b x w)) ≡ w + 2 ^ first_zero b x w
or_first_zero b x w k l h = or_clear w (first_zero b x w) l (omega arith) (first_zero_clear b x w h)

pub and_not : (w i : ℕ) → w < 256 → i < 8 → bit_and w (255 - shifted i) ≡ clr_bit w i
and_not w i l k = eqb-true _ _ (all_at 256 (cleared i) (all_at 8 all_cleared each_cleared i k) w l)
