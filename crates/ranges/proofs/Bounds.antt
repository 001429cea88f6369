-- The greatest of the first numbers of a list is found place by place, and decides the tests of the queue and of the words: by comparing
-- at each place.
--     one_number, of_front     the greatest, one place more, and of a front
--     entry_out, past_decides           the queue
--     words_decide                      the words
-- Assumes nothing.
use Rattle.std.proofs.Common.{ℕ, ◌+◌, ◌*◌, ◌%◌, ◌^◌, ◌<◌, ◌≤◌, max, eqb, ltb, List, length, take, get_or, length-take, sym, le_refl}
use Rattle.std.proofs.Common.{eq-or-lt_of_le, pow_pos}
use Rattle.std.proofs.lemmas.List.{get_or-take}
use native.Mathlib.Decide.{dec_lt}
use lib.Pow.{shl_exact}
use Rattle.machine.proofs.Rules.{◌≡◌, ◌∙◌, refl, cond, false, Bool, ◌||◌, true, ⊎_elim, inl, inr}
use Rattle.machine.proofs.Rules.{arith, ne_eqb, lt-ltb, le-ltb, ltb-true}
use Rattle.machine.specs.Below.{all_below}
use Rattle.machine.specs.Range.{place_test, word_test}
use Rattle.machine.specs.declared.Setup.{Setup}
use Rattle.machine.proofs.Facts.Below.{all_in, all_at, all_fails, all_same}
use Rattle.machine.proofs.Facts.Tests.{by_cond, same_test}
use Rattle.ranges.specs.Tests.{Greatest, past_test}

module _ {xs : List ℕ} where
  -- one place more, with a larger number or without
  larger : {i r : ℕ} → r < get_or xs i 0 → Greatest xs i r → Greatest xs (i + 1) (get_or xs i 0)
  larger {i} {r} h g =
      record {
        most = λ j m. ⊎_elim (λ e. rw e (le_refl _)) (λ n. omega (arith, g.most j n)) (eq-or-lt_of_le {n = j} {m = i} (omega arith));
        met = inr (i, (omega arith, refl));
      }

  no_larger : {i r : ℕ} → get_or xs i 0 ≤ r → Greatest xs i r → Greatest xs (i + 1) r
  no_larger {i} {r} h g =
      record {
        most = λ j m. ⊎_elim (λ e. rw e h) (λ n. g.most j n) (eq-or-lt_of_le {n = j} {m = i} (omega arith));
        met = ⊎_elim inl (λ w. inr (w.0, (omega (arith, w.1.0), w.1.1))) g.met;
      }

  pub one_number : {i r : ℕ} → Greatest xs i r → Greatest xs (i + 1) (max r (get_or xs i 0))
  one_number {i} {r} g = go (dec_lt r (get_or xs i 0))
    where
      go : Dec (r < get_or xs i 0) → Greatest xs (i + 1) (max r (get_or xs i 0))
      go (yes l) = let m : max r (get_or xs i 0) ≡ get_or xs i 0 = omega arith in rw m (larger l g)
      go (no d) = let m : max r (get_or xs i 0) ≡ r = omega (arith, d) in rw m (no_larger (omega (arith, d)) g)

  -- the first numbers by themselves
  pub of_front : {e r : ℕ} → e ≤ length xs → Greatest (take e xs) (length (take e xs)) r → Greatest xs e r
  of_front {e} {r} l g =
      let all : length (take e xs) ≡ e = omega (arith, length-take e xs) in
      record {
        most = λ i k. rw (sym (get_or-take e xs i 0 k)) (g.most i (omega arith));
        met = ⊎_elim inl (λ w. let k : w.0 < e = omega (arith, w.1.0) in inr (w.0, (k, sym (get_or-take e xs w.0 0 k) ∙ w.1.1))) g.met;
      }

  -- a test that fails where the greatest stands
  greatest_fails : {e r n : ℕ} (f : ℕ → Bool) → e ≤ n → Greatest xs e r → (r ≡ 0 → ⊥)
      → ((i : ℕ) → i < e → get_or xs i 0 ≡ r → f i ≡ false) → all_below n f ≡ false
  greatest_fails {e} {r} {n} f l g z h =
      ⊎_elim
      (λ q. absurd (z q))
      (λ w. all_fails n f w.0 (omega (arith, w.1.0)) (h w.0 w.1.0 w.1.1))
      g.met

-- the queue q of m entries below n
module _ (q : List ℕ) (m n : ℕ) where
  pub entry_out : {r : ℕ} → 1 ≤ n → Greatest q 64 r → n ≤ r → all_below 64 (place_test n m q) ≡ false
  entry_out {r} k g h =
      greatest_fails (place_test n m q) (omega arith) g (λ z. omega arith)
      (λ i t e.
      by_cond (λ (x : Bool). x ≡ false) (ltb i m)
      (λ _. le-ltb (get_or q i 0) n (rw e h))
      (λ _. ne_eqb (get_or q i 0) 0 (λ z. absurd (omega (arith, e, z, h, k)))))

  -- where every number is below n, the places past the entries decide
  pub past_decides : {r : ℕ} → Greatest q 64 r → r < n → all_below 64 (place_test n m q) ≡ all_below 64 (past_test m q)
  past_decides {r} g h = all_same 64 (place_test n m q) (past_test m q) (λ i l. go i l (ltb i m) refl) where
    go : (i : ℕ) → i < 64 → (t : Bool) → ltb i m ≡ t → cond t (ltb (get_or q i 0) n) (eqb (get_or q i 0) 0) ≡ (t || eqb (get_or q i 0) 0)
    go i l true e = lt-ltb (get_or q i 0) n (omega (arith, g.most i l))
    go i l false e = refl

-- the words ws, each of a setup's bits
module _ {ws : List ℕ} {e r : ℕ} (c : Setup) (g : Greatest ws e r) where
  pub words_decide : all_below e (word_test c ws) ≡ ltb r (2 ^ c.bits)
  words_decide =
      same_test (all_below e (word_test c ws)) (ltb r (2 ^ c.bits))
      (λ t.
      lt-ltb r (2 ^ c.bits)
      (⊎_elim
      (λ z. omega (arith, z, pow_pos c.bits))
      (λ w. omega (arith, w.1.1, ltb-true (get_or ws w.0 0) (2 ^ c.bits) (all_at e (word_test c ws) t w.0 w.1.0)))
      g.met))
      (λ t.
      let low : r < 2 ^ c.bits = ltb-true r (2 ^ c.bits) t in
      all_in e (word_test c ws) (λ i s. lt-ltb (get_or ws i 0) (2 ^ c.bits) (omega (arith, g.most i s))))

-- 1 shifted by a byte's bits at most
pub shifted_16 : (n : ℕ) → n ≤ 8 → (1 * 2 ^ n) % 65536 ≡ 2 ^ n
shifted_16 n k = shl_exact {a = 1} 1 n 16 (omega arith) (omega arith) ∙ omega arith
