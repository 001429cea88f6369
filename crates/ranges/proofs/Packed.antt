-- Words side by side have no bit in common with a number exactly when none of them has one with its part of it: word by word, by quotient
-- and rest. Assumes nothing.
--     packed_fold     the words from the last on, each put below those after it
--     shares_none     what words side by side have in common with a number
use Rattle.std.proofs.Common.{ℕ, suc, ◌+◌, ◌*◌, ◌/◌, ◌%◌, ◌^◌, ◌<◌, ◌≤◌, List, [], ◌∷◌, length, get_or, fold, eqb, bit_and, bit_or}
use Rattle.std.proofs.Common.{reverse, pow_pos, pow_mono, mod-eq_of_lt}
use Rattle.std.proofs.Math.Nat.{div-div-eq-div-mul, div-one, mul-mod_left, zero-mod}
use Rattle.std.proofs.lemmas.Nat.{and_shr, and_mod, or_shr, or_mod, shl-shr, pow-add, div-add-mod'}
use Rattle.std.proofs.lemmas.List.{reverse-append}
use Rattle.std.proofs.Math.Pow.{shl_lt}
use Rattle.std.proofs.lemmas.List.Sums.{fold-append}
use Rattle.std.specs.Int.Bits.{or_zero_l, or_zero_r}
use native.Mathlib.Nat.{div-eq_of_lt, mul-le-mul_right, zero-div, zero-mul, suc-mul}
use Rattle.machine.proofs.Rules.{◌≡◌, ◌∙◌, sym, ap, refl, Bool, ◌&&◌, and-true, arith, eqb-true, eq-eqb}
use Rattle.machine.specs.Below.{all_below}
use Rattle.machine.proofs.Facts.Below.{all_parts, all_same}
use Rattle.machine.proofs.Facts.Tests.{both, and_left, and_right, same_test}
use Rattle.ranges.specs.Tests.{packed}

-- a word put below others
abbrev pub put : ℕ → ℕ → ℕ → ℕ
put b p w = bit_or (p * 2 ^ b % 2 ^ 64) w

pub packed_fold : (b : ℕ) (ws : List ℕ) → fold (put b) 0 (reverse ws) ≡ packed b ws
unfolding packed
packed_fold b [] = refl
packed_fold b (w ∷ ws) =
    ap (λ (xs : List ℕ). fold (put b) 0 xs) (reverse-append (w ∷ []) ws)
    ∙ fold-append (put b) 0 (reverse ws) (w ∷ []) ∙ ap (λ (p : ℕ). put b p w) (packed_fold b ws)

-- a number is 0 where quotient and rest are
parts : (n d : ℕ) → eqb n 0 ≡ (eqb (n / d) 0 && eqb (n % d) 0)
parts n d =
    same_test (eqb n 0) (eqb (n / d) 0 && eqb (n % d) 0)
    (λ e.
    let z : n ≡ 0 = eqb-true n 0 e in
    both (eq-eqb (n / d) 0 (ap (λ (m : ℕ). m / d) z ∙ zero-div d)) (eq-eqb (n % d) 0 (ap (λ (m : ℕ). m % d) z ∙ zero-mod d)))
    (λ e.
    let quotient : n / d ≡ 0 = eqb-true (n / d) 0 (and_left (eqb (n / d) 0) (eqb (n % d) 0) e) in
    let rest : n % d ≡ 0 = eqb-true (n % d) 0 (and_right (eqb (n / d) 0) (eqb (n % d) 0) e) in
    eq-eqb n 0 (sym (div-add-mod' n d) ∙ omega (arith, rest, ap (λ (m : ℕ). m * d) quotient, zero-mul d)))

-- a word of b bits below others that leave room for it
module _ (b p w : ℕ) (word : w < 2 ^ b) (room : p * 2 ^ b < 2 ^ 64) where
  others : put b p w / 2 ^ b ≡ p
  others =
      ap (λ (q : ℕ). bit_or q w / 2 ^ b) (mod-eq_of_lt room)
      ∙ or_shr (p * 2 ^ b) w b
      ∙ rw (shl-shr p b, div-eq_of_lt word) (or_zero_r p)

  last : put b p w % 2 ^ b ≡ w
  last =
      ap (λ (q : ℕ). bit_or q w % 2 ^ b) (mod-eq_of_lt room)
      ∙ or_mod (p * 2 ^ b) w b
      ∙ rw (mul-mod_left p (2 ^ b), mod-eq_of_lt word) (or_zero_l w)

-- a test of the numbers below one more, the first by itself
from_first : (n : ℕ) (f : ℕ → Bool) → all_below (suc n) f ≡ (all_below n (λ i. f (suc i)) && f 0)
unfolding all_below
from_first n f =
    ap (λ (m : ℕ). all_below m f) {x = suc n} {y = 1 + n} (omega arith)
    ∙ all_parts 1 n f
    ∙ rw (and-true (f 0))
    (ap (λ (t : Bool). t && f 0)
    (all_same n (λ i. f (1 + i)) (λ i. f (suc i)) (λ i _. ap f {x = 1 + i} {y = suc i} (omega arith))))

-- words of b bits, and what a number has beside them
module _ (b : ℕ) where
  abbrev Words : List ℕ → Type 0
  Words ws = (r : ℕ) → r < length ws → get_or ws r 0 < 2 ^ b

  first : (w : ℕ) (ws : List ℕ) → Words (w ∷ ws) → w < 2 ^ b
  first w ws few = few 0 (omega arith)

  next : (w : ℕ) (ws : List ℕ) → Words (w ∷ ws) → Words ws
  next w ws few r l = few (suc r) (omega (arith, l))

  fewer : (n : ℕ) → suc n * b ≤ 64 → n * b ≤ 64
  fewer n l = omega (arith, l, suc-mul n b)

  room_for : (n p : ℕ) → suc n * b ≤ 64 → p < 2 ^ (n * b) → p * 2 ^ b < 2 ^ 64
  room_for n p l low =
      omega (arith, shl_lt (n * b) b low, pow_mono {i = n * b + b} {j = 64} (omega (arith, l, suc-mul n b)))

  part_after : (x r : ℕ) → x / 2 ^ (suc r * b) ≡ x / 2 ^ b / 2 ^ (r * b)
  part_after x r =
      ap (λ (n : ℕ). x / 2 ^ n) {x = suc r * b} {y = b + r * b} (omega (arith, suc-mul r b))
      ∙ ap (λ (d : ℕ). x / d) (pow-add 2 b (r * b))
      ∙ sym (div-div-eq-div-mul x (2 ^ b) (2 ^ (r * b)))

  small : (ws : List ℕ) → Words ws → length ws * b ≤ 64 → packed b ws < 2 ^ (length ws * b)
  unfolding packed
  small [] few l = pow_pos (0 * b)
  small (w ∷ ws) few l =
      let p = packed b ws in
      let low = small ws (next w ws few) (fewer (length ws) l) in
      let room = room_for (length ws) p l low in
      let word = first w ws few in
      let is : put b p w ≡ p * 2 ^ b + w
      = sym (div-add-mod' (put b p w) (2 ^ b)) ∙ rw (others b p w word room, last b p w word room) refl in
      rw (is, suc-mul (length ws) b, pow-add 2 (length ws * b) b) (omega (arith, word, suc-mul p (2 ^ b), mul-le-mul_right (2 ^ b) low))

  pub shares_none : (ws : List ℕ) (x : ℕ) → Words ws → length ws * b ≤ 64
      → eqb (bit_and (packed b ws) x) 0 ≡ all_below (length ws) (λ r. eqb (bit_and (get_or ws r 0) (x / 2 ^ (r * b) % 2 ^ b)) 0)
  unfolding packed all_below
  shares_none [] x few l = refl
  shares_none (w ∷ ws) x few l =
      let p = packed b ws in
      let room = room_for (length ws) p l (small ws (next w ws few) (fewer (length ws) l)) in
      let word = first w ws few in
      parts (bit_and (put b p w) x) (2 ^ b)
      ∙ rw (and_shr (put b p w) x b, and_mod (put b p w) x b, others b p w word room, last b p w word room) refl
      ∙ ap (λ (t : Bool). t && eqb (bit_and w (x % 2 ^ b)) 0) (shares_none ws (x / 2 ^ b) (next w ws few) (fewer (length ws) l))
      ∙ sym
      (from_first (length ws) (λ r. eqb (bit_and (get_or (w ∷ ws) r 0) (x / 2 ^ (r * b) % 2 ^ b)) 0)
      ∙ rw (zero-mul b, div-one x) (ap (λ (t : Bool). t && eqb (bit_and w (x % 2 ^ b)) 0)
      (all_same (length ws) _ _ (λ r _. ap (λ (y : ℕ). eqb (bit_and (get_or ws r 0) (y % 2 ^ b)) 0) (part_after x r)))))
