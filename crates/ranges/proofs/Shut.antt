-- No closed bit of a word is set exactly when the word and its closed bits have no bit in common: bit by bit. Assumes nothing.
--     and_none       numbers without a bit in common
--     shut_test_lem, words_shut    the test of one word, and of words side by side
--     none_shut     with none closed every word passes
use Rattle.std.proofs.Common.{ℕ, zero, suc, ◌+◌, ◌*◌, ◌/◌, ◌%◌, ◌^◌, ◌<◌, ◌≤◌, min, eqb, List, length, take, length-take, get_or, mod-lt, pow_pos}
use Rattle.std.proofs.lemmas.List.{get_or-take}
use native.Mathlib.Nat.{zero-div, min-zero, zero-min, suc-min-suc, min-le_left, pow-succ'}
use lib.Bits.{bit_and, and_step, and_shr, and_le_r}
use Rattle.machine.proofs.Rules.{◌≡◌, ◌∙◌, sym, ap, refl, Bool, true, false, ◌||◌, or-true, arith, eq-eqb, eqb-true, ltb-true}
use Rattle.machine.specs.Below.{all_below}
use Rattle.machine.specs.Closed.{is_open, closed_word}
use Rattle.machine.specs.Operations.{bit}
use Rattle.machine.specs.Range.{closed_test, word_test}
use Rattle.machine.specs.declared.Setup.{Setup}
use Rattle.machine.proofs.Closed.{closed_word_lem}
use Rattle.machine.proofs.Facts.Below.{all_in, all_at, all_same}
use Rattle.machine.proofs.Facts.Tests.{same_test}
use Rattle.machine.proofs.Facts.Words.{bit-zero, bit-suc}
use Rattle.machine.proofs.Laws.Plain.{all_open}
use Rattle.ranges.specs.Tests.{packed}
use Rattle.ranges.proofs.Packed.{shares_none}

-- the bits that two numbers have in common; a number without bits is 0
bit-and : (w x i : ℕ) → bit (bit_and w x) i ≡ min (bit w i) (bit x i)
bit-and w x i =
    let a : ℕ = w / 2 ^ i in
    let b : ℕ = x / 2 ^ i in
    ap (λ (y : ℕ). y % 2) (and_shr w x i) ∙ omega (arith, and_step a b, min-le_left (a % 2) (b % 2))

no_bits : (b y : ℕ) → y < 2 ^ b → ((i : ℕ) → i < b → bit y i ≡ 0) → y ≡ 0
no_bits zero y l f = omega arith
no_bits (suc b) y l f =
    let half = no_bits b (y / 2) (omega (arith, pow-succ' 2 b)) (λ i k. sym (bit-suc y i) ∙ f (suc i) (omega arith)) in
    omega (arith, half, bit-zero y, f 0 (omega arith))

either : (a b : ℕ) → min a b ≡ 0 → (eqb b 0 || eqb a 0) ≡ true
either zero b e = or-true (eqb b 0)
either (suc a) zero e = refl
either (suc a) (suc b) e = absurd (omega (arith, suc-min-suc a b))

neither : (a b : ℕ) (t : Bool) → eqb b 0 ≡ t → (t || eqb a 0) ≡ true → min a b ≡ 0
neither a b true e f = rw (eqb-true b 0 e) (min-zero a)
neither a b false e f = rw (eqb-true a 0 f) (zero-min b)

pub and_none : (b w x : ℕ) → x < 2 ^ b → eqb (bit_and w x) 0 ≡ all_below b (λ i. eqb (bit x i) 0 || eqb (bit w i) 0)
and_none b w x l =
    same_test _ _
    (λ e.
    let none : bit_and w x ≡ 0 = eqb-true (bit_and w x) 0 e in
    all_in b _ (λ i k. either (bit w i) (bit x i) (sym (bit-and w x i) ∙ ap (λ (y : ℕ). bit y i) none ∙ rw zero-div)))
    (λ e.
    eq-eqb (bit_and w x) 0
    (no_bits b (bit_and w x) (omega (arith, and_le_r w x))
    (λ i k. bit-and w x i ∙ neither (bit w i) (bit x i) (eqb (bit x i) 0) refl (all_at b _ e i k))))

module _ (c : Setup) (words : List ℕ) where
  pub shut_test_lem : (r : ℕ) → eqb (bit_and (get_or words r 0) (closed_word c r)) 0 ≡ closed_test c words r
  unfolding is_open closed_word
  shut_test_lem r =
      let w : ℕ = get_or words r 0 in
      and_none c.bits w (closed_word c r) (mod-lt (c.closed / 2 ^ (r * c.bits)) (pow_pos c.bits))
      ∙ all_same c.bits _ _ (λ i l. ap (λ (y : ℕ). eqb y 0 || eqb (bit w i) 0) (closed_word_lem c r i l))

  -- the first n words side by side, each of the setup's bits
  pub words_shut : (n : ℕ) → n ≤ length words → n * c.bits ≤ 64 → all_below n (word_test c words) ≡ true
      → eqb (bit_and (packed c.bits (take n words)) c.closed) 0 ≡ all_below n (closed_test c words)
  unfolding closed_word
  words_shut n l room low =
      let all : length (take n words) ≡ n = omega (arith, l, length-take n words) in
      let few : (r : ℕ) → r < length (take n words) → get_or (take n words) r 0 < 2 ^ c.bits
      = λ r k.
      let inside : r < n = omega (arith, k, all) in
      rw (get_or-take n words r 0 inside) (ltb-true (get_or words r 0) (2 ^ c.bits) (all_at n (word_test c words) low r inside)) in
      shares_none c.bits (take n words) c.closed few (rw all room)
      ∙ ap (λ (m : ℕ). all_below m (λ r. eqb (bit_and (get_or (take n words) r 0) (closed_word c r)) 0)) all
      ∙ all_same n _ (closed_test c words)
      (λ r k. ap (λ (w : ℕ). eqb (bit_and w (closed_word c r)) 0) (get_or-take n words r 0 k) ∙ shut_test_lem r)

  pub none_shut : c.closed ≡ 0 → (n : ℕ) → all_below n (closed_test c words) ≡ true
  none_shut none n = all_in n _ (λ r _. all_in c.bits _ (λ i _. rw (all_open c none (r * c.bits + i))))
