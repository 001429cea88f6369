-- A name is in its range where it, more 1 and none as 0, is at most the limit, and its bit below 63 is open: by cases on name 63 and none.
-- Assumes nothing.
use mathlib.Core.Bool.{or-false}
use Rattle.std.proofs.Common.{ℕ, ◌+◌, ◌/◌, ◌%◌, ◌^◌, ◌<◌, ◌≤◌, eqb, leb, mod-lt, mod-eq_of_lt, pow_pos, pow_mono}
use native.Mathlib.Decide.{ℕ_discrete, dec_lt}
use native.Mathlib.Nat.{div-eq_of_lt}
use Rattle.machine.proofs.Rules.{◌≡◌, ◌∙◌, sym, ap, Bool, true, false, cond, ◌&&◌, and-true, or-true, ◌≢◌}
use Rattle.machine.proofs.Rules.{arith, le-leb, lt-leb, lt-ltb, le-ltb, eq-eqb, ne_eqb}
use Rattle.machine.specs.Closed.{is_open}
use Rattle.machine.specs.Operations.{bit}
use Rattle.machine.specs.Range.{name_test}
use Rattle.machine.specs.Setup.{names, setup_answer}
use Rattle.machine.specs.declared.Setup.{Setup}
use Rattle.machine.proofs.Facts.Tests.{both}
use Rattle.machine.proofs.Facts.Words.{bit-mod}
use Rattle.machine.proofs.Ranges.{limits_of, closed_of}
use Rattle.ranges.specs.Tests.{name_limit, shut_test}

-- bit 63 of what is below 2^63
no_bit_63 : (w : ℕ) → bit (w % 2 ^ 63) 63 ≡ 0
no_bit_63 w = ap (λ (x : ℕ). x % 2) (div-eq_of_lt (mod-lt w (pow_pos 63)))

module _ (c : Setup) (accepted : setup_answer c ≡ 0) where
  abbrev k : ℕ
  k = names c

  abbrev high : ℕ
  high = c.closed / 2 ^ 63

  k64 : k ≤ 64
  k64 = (limits_of c accepted).k64

  -- name 63 is closed only among 64 names, and then its bit is the highest
  high_low : high < 2
  high_low = omega (arith, (closed_of c accepted).inside, pow_mono {i = k} {j = 64} k64)

  all_64 : high ≢ 0 → 64 ≤ k
  all_64 h = go (dec_lt k 64)
    where
      go : Dec (k < 64) → 64 ≤ k
      go (yes l) =
          absurd (h (div-eq_of_lt (omega (arith, (closed_of c accepted).inside, pow_mono {i = k} {j = 63} (omega (arith, l))))))
      go (no l) = omega (arith, l)

  -- the limit of a name more 1, by whether name 63 is closed
  by_limit : (P : ℕ → Type 0) → (high ≡ 0 → P k) → (high ≢ 0 → P 63) → P (name_limit c)
  unfolding name_limit
  by_limit P f g = go (ℕ_discrete high 0)
    where
      go : Dec (high ≡ 0) → P (cond (eqb high 0) k 63)
      go (yes z) = rw (eq-eqb high 0 z) (f z)
      go (no z) = rw (ne_eqb high 0 z) (g z)

  -- at most 64
  pub limit_64 : name_limit c ≤ 64
  limit_64 = by_limit (λ (x : ℕ). x ≤ 64) (λ _. k64) (λ _. omega arith)

  module _ (m : ℕ) (m255 : m ≤ 255) where
    -- a name below k is not none
    own : m < k → name_test c m ≡ is_open c m
    own l = simp (lt-ltb m k l, ne_eqb m 255 (λ q. absurd (omega (arith, l, k64, q))), or-false)

    -- no name, and name 63, are looked up as 63
    at_63 : m % 64 ≡ 63 → shut_test c.closed m ≡ true
    at_63 e = eq-eqb _ 0 (ap (λ (x : ℕ). bit (c.closed % 2 ^ 63) x) e ∙ no_bit_63 c.closed)

    -- a name below 63 by its bit
    below_63 : m < 63 → shut_test c.closed m ≡ is_open c m
    unfolding is_open
    below_63 l =
        ap (λ (x : ℕ). eqb x 0)
        (ap (λ (x : ℕ). bit (c.closed % 2 ^ 63) x) (mod-eq_of_lt (omega (arith, l))) ∙ bit-mod c.closed 63 m l)

    -- name 63 by the limit
    last : m ≡ 63 → m < k → is_open c m ≡ leb ((m + 1) % 256) (name_limit c)
    unfolding is_open
    last e l =
        by_limit (λ (x : ℕ). eqb (bit c.closed m) 0 ≡ leb ((m + 1) % 256) x)
        (λ z.
        eq-eqb _ 0 (ap (λ (x : ℕ). bit c.closed x) e ∙ ap (λ (x : ℕ). x % 2) z)
        ∙ sym (le-leb ((m + 1) % 256) k (omega (arith, l, k64))))
        (λ z.
        ne_eqb (bit c.closed m) 0
        (λ (n : bit c.closed m ≡ 0). absurd (z (omega (arith, high_low, sym (ap (λ (x : ℕ). bit c.closed x) e) ∙ n))))
        ∙ sym (lt-leb ((m + 1) % 256) 63 (omega (arith, e))))

    pub name_ranked : name_test c m ≡ (leb ((m + 1) % 256) (name_limit c) && shut_test c.closed m)
    name_ranked = go (ℕ_discrete m 255) (dec_lt m k)
      where
        go : Dec (m ≡ 255) → Dec (m < k) → name_test c m ≡ (leb ((m + 1) % 256) (name_limit c) && shut_test c.closed m)
        go (yes q) _ =
            simp (eq-eqb m 255 q, or-true)
            (sym (both (le-leb ((m + 1) % 256) (name_limit c) (omega (arith, q))) (at_63 (omega (arith, q)))))
        go (no q) (yes l) = low (ℕ_discrete m 63)
          where
            low : Dec (m ≡ 63) → name_test c m ≡ (leb ((m + 1) % 256) (name_limit c) && shut_test c.closed m)
            low (yes e) =
                own l ∙ last e l
                ∙ sym (ap (λ (t : Bool). leb ((m + 1) % 256) (name_limit c) && t) (at_63 (omega (arith, e))) ∙ and-true _)
            low (no e) =
                let fits = by_limit (λ (x : ℕ). leb ((m + 1) % 256) x ≡ true)
                (λ _. le-leb ((m + 1) % 256) k (omega (arith, l, k64)))
                (λ _. le-leb ((m + 1) % 256) 63 (omega (arith, l, k64, e))) in
                own l ∙ sym (below_63 (omega (arith, l, k64, e))) ∙ sym (ap (λ (t : Bool). t && shut_test c.closed m) fits)
        go (no q) (no l) =
            let out = by_limit (λ (x : ℕ). leb ((m + 1) % 256) x ≡ false)
            (λ _. lt-leb ((m + 1) % 256) k (omega (arith, l, m255, q)))
            (λ z. lt-leb ((m + 1) % 256) 63 (omega (arith, l, m255, q, all_64 z))) in
            simp (le-ltb m k (omega (arith, l)), ne_eqb m 255 q) (sym (ap (λ (t : Bool). t && shut_test c.closed m) out))
