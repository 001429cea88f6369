-- The atomic operations do to the bits of a word what their sentences say: by induction on the index, a word halved at each step.
--     bit-zero, bit-suc                       the lowest bit, and the bits of the half
--     bit_shift, bit-mod                      the bits of a quotient and of a remainder by a power of 2
--     first_zero_le, -clear, -open, -below    the answer of set_first_zero is the lowest clear open index, or b
--     set-bit_same, -other, clr_bit_same, -other    one bit changes and no other
--     set_first_zero_lt, -closed, clr_bit_le, -closed, decremented_le    the word stays in its range
-- Assumes nothing.
use Prim.Native.Nat.{ℕ, zero, suc, ◌+◌, ◌-◌, ◌/◌, ◌%◌, ◌^◌, ◌≤◌, ◌<◌}
use native.Mathlib.Decide.{ℕ_discrete}
use native.Mathlib.Nat.{not-suc-le-zero, div-one, div-div-eq-div-mul, pow-succ'}
use lib.Dec.{eqb, ltb}
use lib.Pow.{shr-shr, field, mod-mod-pow}
use Rattle.machine.proofs.Rules.{◌≡◌, ◌∙◌, sym, ap, refl, Bool, true, false, true≢false, cond, ◌&&◌, ◌≢◌}
use Rattle.machine.proofs.Rules.{arith, eq-eqb, eqb-true, ltb-true, eqb-false}
use Rattle.machine.specs.Operations.{bit, first_zero, set_first_zero, clr_bit, bounded_decrement}
use Rattle.machine.proofs.Facts.Tests.{by_cond, and_left, and_comm}

pub bit-zero : (w : ℕ) → bit w 0 ≡ w % 2
bit-zero w = rw (div-one w)

pub bit-suc : (w i : ℕ) → bit w (suc i) ≡ bit (w / 2) i
bit-suc w i = ap (λ (x : ℕ). x % 2) (ap (λ (x : ℕ). w / x) (pow-succ' 2 i) ∙ sym (div-div-eq-div-mul w 2 (2 ^ i)))

pub bit_shift : (w k i : ℕ) → bit (w / 2 ^ k) i ≡ bit w (k + i)
bit_shift w k i = ap (λ (x : ℕ). x % 2) (shr-shr w k i)

pub bit-mod : (w b i : ℕ) → i < b → bit (w % 2 ^ b) i ≡ bit w i
bit-mod w b i l =
    let e : b ≡ b - i - 1 + 1 + i = omega arith in
    ap (λ (x : ℕ). w % 2 ^ x / 2 ^ i % 2) e
    ∙ ap (λ (x : ℕ). x % 2) (field w (b - i - 1 + 1) i)
    ∙ mod-mod-pow (w / 2 ^ i) (b - i - 1) 1

-- the bits of x are closed
pub first_zero_le : (b x w : ℕ) → first_zero b x w ≤ b
unfolding first_zero
first_zero_le zero x w = omega arith
first_zero_le (suc b) x w =
    by_cond (λ (m : ℕ). m ≤ suc b) (eqb (w % 2) 0 && eqb (x % 2) 0)
    (λ _. omega arith)
    (λ _. omega (arith, first_zero_le b (x / 2) (w / 2)))

pub first_zero_clear : (b x w : ℕ) → first_zero b x w < b → bit w (first_zero b x w) ≡ 0
unfolding first_zero
first_zero_clear zero x w = λ l. absurd (not-suc-le-zero l)
first_zero_clear (suc b) x w =
    by_cond (λ (m : ℕ). m < suc b → bit w m ≡ 0) (eqb (w % 2) 0 && eqb (x % 2) 0)
    (λ e _. bit-zero w ∙ eqb-true (w % 2) 0 (and_left (eqb (w % 2) 0) (eqb (x % 2) 0) e))
    (λ _ l. bit-suc w (first_zero b (x / 2) (w / 2)) ∙ first_zero_clear b (x / 2) (w / 2) (omega arith))

-- a bit that is clear in one and not closed in the other is so whichever is which
first_zero_swap : (b x w : ℕ) → first_zero b x w ≡ first_zero b w x
unfolding first_zero
first_zero_swap zero x w = refl
first_zero_swap (suc b) x w =
    ap (λ (t : Bool). cond t 0 (suc (first_zero b (x / 2) (w / 2)))) (and_comm (eqb (w % 2) 0) (eqb (x % 2) 0))
    ∙ ap (λ (m : ℕ). cond (eqb (x % 2) 0 && eqb (w % 2) 0) 0 (suc m)) (first_zero_swap b (x / 2) (w / 2))

pub first_zero_open : (b x w : ℕ) → first_zero b x w < b → bit x (first_zero b x w) ≡ 0
first_zero_open b x w l = rw (first_zero_swap b x w) (first_zero_clear b w x (rw (← first_zero_swap b x w) l))

pub first_zero_below : (b x w i : ℕ) → i < first_zero b x w → bit x i ≡ 0 → bit w i ≡ 1
unfolding first_zero
first_zero_below zero x w i = λ l. absurd (not-suc-le-zero l)
first_zero_below (suc b) x w zero =
    by_cond (λ (m : ℕ). 0 < m → bit x 0 ≡ 0 → bit w 0 ≡ 1) (eqb (w % 2) 0 && eqb (x % 2) 0)
    (λ _ l. absurd (omega arith))
    (λ e _ z. bit-zero w ∙ odd (eqb (w % 2) 0) refl (rw (eq-eqb (x % 2) 0 (sym (bit-zero x) ∙ z)) at e))
  where
    odd : (t : Bool) → eqb (w % 2) 0 ≡ t → (t && true) ≡ false → w % 2 ≡ 1
    odd true e f = absurd (true≢false f)
    odd false e f = omega (arith, eqb-false (w % 2) 0 e)
first_zero_below (suc b) x w (suc i) =
    by_cond (λ (m : ℕ). suc i < m → bit x (suc i) ≡ 0 → bit w (suc i) ≡ 1) (eqb (w % 2) 0 && eqb (x % 2) 0)
    (λ _ l. absurd (omega arith))
    (λ _ l z. bit-suc w i ∙ first_zero_below b (x / 2) (w / 2) i (omega arith) (sym (bit-suc x i) ∙ z))

-- 2^i added where bit i is clear, and taken away where it is set
pub set-bit_same : (w i : ℕ) → bit w i ≡ 0 → bit (w + 2 ^ i) i ≡ 1
set-bit_same w zero e = bit-zero (w + 1) ∙ omega (arith, bit-zero w)
set-bit_same w (suc i) e =
    let half : (w + 2 ^ suc i) / 2 ≡ w / 2 + 2 ^ i = omega (arith, pow-succ' 2 i) in
    bit-suc (w + 2 ^ suc i) i ∙ ap (λ (x : ℕ). bit x i) half ∙ set-bit_same (w / 2) i (sym (bit-suc w i) ∙ e)

pub set-bit_other : (w i j : ℕ) → bit w i ≡ 0 → j ≢ i → bit (w + 2 ^ i) j ≡ bit w j
set-bit_other w zero zero e d = absurd (d refl)
set-bit_other w zero (suc j) e d =
    let half : (w + 1) / 2 ≡ w / 2 = omega (arith, bit-zero w) in
    bit-suc (w + 1) j ∙ ap (λ (x : ℕ). bit x j) half ∙ sym (bit-suc w j)
set-bit_other w (suc i) zero e d = bit-zero (w + 2 ^ suc i) ∙ omega (arith, bit-zero w, pow-succ' 2 i)
set-bit_other w (suc i) (suc j) e d =
    let half : (w + 2 ^ suc i) / 2 ≡ w / 2 + 2 ^ i = omega (arith, pow-succ' 2 i) in
    bit-suc (w + 2 ^ suc i) j
    ∙ ap (λ (x : ℕ). bit x j) half
    ∙ set-bit_other (w / 2) i j (sym (bit-suc w i) ∙ e) (λ q. d (ap suc q))
    ∙ sym (bit-suc w j)

-- a set bit weighs no more than the word
pub bit_le : (w i : ℕ) → bit w i ≡ 1 → 2 ^ i ≤ w
bit_le w zero e = omega (arith, bit-zero w)
bit_le w (suc i) e = omega (arith, pow-succ' 2 i, bit_le (w / 2) i (sym (bit-suc w i) ∙ e))

module _ (w i : ℕ) where
  half_less : bit w (suc i) ≡ 1 → (w - 2 ^ suc i) / 2 ≡ w / 2 - 2 ^ i
  half_less e = omega (arith, pow-succ' 2 i, bit_le w (suc i) e)

drop-bit_same : (w i : ℕ) → bit w i ≡ 1 → bit (w - 2 ^ i) i ≡ 0
drop-bit_same w zero e = bit-zero (w - 1) ∙ omega (arith, bit-zero w)
drop-bit_same w (suc i) e =
    bit-suc (w - 2 ^ suc i) i ∙ ap (λ (x : ℕ). bit x i) (half_less w i e) ∙ drop-bit_same (w / 2) i (sym (bit-suc w i) ∙ e)

drop-bit_other : (w i j : ℕ) → bit w i ≡ 1 → j ≢ i → bit (w - 2 ^ i) j ≡ bit w j
drop-bit_other w zero zero e d = absurd (d refl)
drop-bit_other w zero (suc j) e d =
    let half : (w - 1) / 2 ≡ w / 2 = omega (arith, bit-zero w) in
    bit-suc (w - 1) j ∙ ap (λ (x : ℕ). bit x j) half ∙ sym (bit-suc w j)
drop-bit_other w (suc i) zero e d = bit-zero (w - 2 ^ suc i) ∙ omega (arith, bit-zero w, pow-succ' 2 i, bit_le w (suc i) e)
drop-bit_other w (suc i) (suc j) e d =
    bit-suc (w - 2 ^ suc i) j
    ∙ ap (λ (x : ℕ). bit x j) (half_less w i e)
    ∙ drop-bit_other (w / 2) i j (sym (bit-suc w i) ∙ e) (λ q. d (ap suc q))
    ∙ sym (bit-suc w j)

pub clr_bit_same : (w i : ℕ) → bit (clr_bit w i) i ≡ 0
unfolding clr_bit
clr_bit_same w i =
    by_cond (λ (x : ℕ). bit x i ≡ 0) (eqb (bit w i) 1)
    (λ e. drop-bit_same w i (eqb-true _ 1 e))
    (λ e. omega (arith, eqb-false (bit w i) 1 e))

pub clr_bit_other : (w i j : ℕ) → j ≢ i → bit (clr_bit w i) j ≡ bit w j
unfolding clr_bit
clr_bit_other w i j d =
    by_cond (λ (x : ℕ). bit x j ≡ bit w j) (eqb (bit w i) 1) (λ e. drop-bit_other w i j (eqb-true _ 1 e) d) (λ _. refl)

pub clr_bit_le : (w i : ℕ) → clr_bit w i ≤ w
unfolding clr_bit
clr_bit_le w i = by_cond (λ (x : ℕ). x ≤ w) (eqb (bit w i) 1) (λ _. omega arith) (λ _. omega arith)

pub clr_bit_closed : (w i j : ℕ) → bit w j ≡ 0 → bit (clr_bit w i) j ≡ 0
clr_bit_closed w i j z = go (ℕ_discrete j i)
  where
    go : Dec (j ≡ i) → bit (clr_bit w i) j ≡ 0
    go (yes e) = rw e (clr_bit_same w i)
    go (no d) = clr_bit_other w i j d ∙ z

pub set-bit_lt : (b w i : ℕ) → w < 2 ^ b → i < b → bit w i ≡ 0 → w + 2 ^ i < 2 ^ b
set-bit_lt zero w i k l z = absurd (not-suc-le-zero l)
set-bit_lt (suc b) w zero k l z = omega (arith, pow-succ' 2 b, bit-zero w)
set-bit_lt (suc b) w (suc i) k l z =
    let half = set-bit_lt b (w / 2) i (omega (arith, pow-succ' 2 b)) (omega arith) (sym (bit-suc w i) ∙ z) in
    omega (arith, pow-succ' 2 b, pow-succ' 2 i, half)

-- the word with its first clear open bit set: still of b bits, with no bit set that is closed and was clear
module _ (b x w : ℕ) where
  abbrev f : ℕ
  f = first_zero b x w

  pub set_first_zero_lt : w < 2 ^ b → (set_first_zero b x w).word < 2 ^ b
  unfolding set_first_zero
  set_first_zero_lt k =
      by_cond (λ (y : ℕ). y < 2 ^ b) (ltb f b)
      (λ e. let l : f < b = ltb-true f b e in set-bit_lt b w f k l (first_zero_clear b x w l))
      (λ _. k)

  pub set_first_zero_closed : (i : ℕ) → bit x i ≡ 1 → bit w i ≡ 0 → bit (set_first_zero b x w).word i ≡ 0
  unfolding set_first_zero
  set_first_zero_closed i e z =
      by_cond (λ (y : ℕ). bit y i ≡ 0) (ltb f b)
      (λ t.
      let l : f < b = ltb-true f b t in
      set-bit_other w f i (first_zero_clear b x w l) (λ q. omega (arith, ap (λ (y : ℕ). bit x y) q, first_zero_open b x w l)) ∙ z)
      (λ _. z)

pub decremented_le : (c : ℕ) → (bounded_decrement c).word ≤ c
unfolding bounded_decrement
decremented_le c = by_cond (λ (x : ℕ). x ≤ c) (eqb c 0) (λ _. omega arith) (λ _. omega arith)
