-- Which names are closed: the bits of the number that a setup has. By the bits of a quotient, and by induction on the list.
--     closed_word_lem      the bits of a segment's closed word are those of its names
--     shut_bit, open_bit, bit_open    a closed name's bit is 1, an open one's 0
--     closed_lists     a name is closed exactly when the list names it
--     closed_below     the number is below 2^k exactly when all that the list names are below k
-- Assumes nothing.
use mathlib.Core.List.{List, [], ◌∷◌}
use Prim.Native.Nat.{ℕ, ◌+◌, ◌*◌, ◌/◌, ◌^◌, ◌<◌}
use native.Mathlib.Decide.{ℕ_discrete, dec_lt}
use native.Mathlib.Nat.{zero-div}
use lib.Dec.{eqb, ltb}
use lib.Pow.{pow_pos, pow_mono}
use Rattle.machine.proofs.Rules.{◌≡◌, ◌≢◌, ◌∙◌, sym, ap, refl, Bool, true, false, cond, not, ◌||◌, or-true}
use Rattle.machine.proofs.Rules.{arith, eqb-true, eqb-false, eq-eqb, ne_eqb, ltb-true, lt-ltb}
use Rattle.machine.specs.Closed.{closing, closed_by, lists, lists_below, is_open, closed_word}
use Rattle.machine.specs.Operations.{bit}
use Rattle.machine.specs.Setup.{given}
use Rattle.machine.specs.declared.Setup.{Setup}
use Rattle.machine.proofs.Facts.Tests.{by_cond, both, and_left, and_right, same_test}
use Rattle.machine.proofs.Facts.Words.{bit_shift, bit-mod, bit_le, set-bit_same, set-bit_other, set-bit_lt}

module _ (c : Setup) where
  pub closed_word_lem : (r i : ℕ) → i < c.bits → bit (closed_word c r) i ≡ bit c.closed (r * c.bits + i)
  unfolding closed_word
  closed_word_lem r i l = bit-mod (c.closed / 2 ^ (r * c.bits)) c.bits i l ∙ bit_shift c.closed (r * c.bits) i

  pub open_bit : (p : ℕ) → is_open c p ≡ true → bit c.closed p ≡ 0
  unfolding is_open
  open_bit p e = eqb-true (bit c.closed p) 0 e

  pub shut_bit : (p : ℕ) → is_open c p ≡ false → bit c.closed p ≡ 1
  unfolding is_open
  shut_bit p e = omega (arith, eqb-false (bit c.closed p) 0 e)

  pub bit_open : (p : ℕ) → bit c.closed p ≡ 0 → is_open c p ≡ true
  unfolding is_open
  bit_open p e = eq-eqb (bit c.closed p) 0 e

closing_same : (w p : ℕ) → bit (closing w p) p ≡ 1
unfolding closing
closing_same w p =
    by_cond (λ (x : ℕ). bit x p ≡ 1) (eqb (bit w p) 0)
    (λ e. set-bit_same w p (eqb-true _ 0 e))
    (λ e. omega (arith, eqb-false (bit w p) 0 e))

closing_other : (w p q : ℕ) → q ≢ p → bit (closing w p) q ≡ bit w q
unfolding closing
closing_other w p q d =
    by_cond (λ (x : ℕ). bit x q ≡ bit w q) (eqb (bit w p) 0) (λ e. set-bit_other w p q (eqb-true _ 0 e) d) (λ _. refl)

closed_told : (w : ℕ) (ps : List ℕ) (p : ℕ) → bit (closed_by w ps) p ≡ cond (lists ps p) 1 (bit w p)
unfolding closed_by lists
closed_told w [] p = refl
closed_told w (q ∷ ps) p = closed_told (closing w q) ps p ∙ go (ℕ_discrete p q) (lists ps p)
  where
    go : Dec (p ≡ q) → (t : Bool) → cond t 1 (bit (closing w q) p) ≡ cond (eqb q p || t) 1 (bit w p)
    go i true = rw (or-true (eqb q p))
    go (yes e) false = rw (e, eq-eqb q q refl) (closing_same w q)
    go (no d) false = rw (ne_eqb q p (λ e. d (sym e))) (closing_other w q p d)

pub closed_lists : (n l g b : ℕ) (ps : List ℕ) (p : ℕ) → is_open (given n l g b ps) p ≡ not (lists ps p)
unfolding is_open
closed_lists n l g b ps p =
    ap (λ (x : ℕ). eqb x 0) (closed_told 0 ps p ∙ ap (λ (x : ℕ). cond (lists ps p) 1 x) (rw zero-div)) ∙ go (lists ps p)
  where
    go : (t : Bool) → eqb (cond t 1 0) 0 ≡ not t
    go true = refl
    go false = refl

pub closing_lt : (k w p : ℕ) → w < 2 ^ k → p < k → closing w p < 2 ^ k
unfolding closing
closing_lt k w p e l = by_cond (λ (x : ℕ). x < 2 ^ k) (eqb (bit w p) 0) (λ z. set-bit_lt k w p e l (eqb-true _ 0 z)) (λ _. e)

below_in : (k w : ℕ) (ps : List ℕ) → w < 2 ^ k → lists_below k ps ≡ true → closed_by w ps < 2 ^ k
unfolding closed_by lists_below
below_in k w [] e t = e
below_in k w (q ∷ ps) e t =
    below_in k (closing w q) ps (closing_lt k w q e (ltb-true q k (and_left (ltb q k) (lists_below k ps) t)))
    (and_right (ltb q k) (lists_below k ps) t)

below_out : (k : ℕ) (ps : List ℕ) → ((p : ℕ) → lists ps p ≡ true → p < k) → lists_below k ps ≡ true
unfolding lists lists_below
below_out k [] f = refl
below_out k (q ∷ ps) f =
    both (lt-ltb q k (f q (rw (eq-eqb q q refl)))) (below_out k ps (λ p e. f p (rw e (or-true (eqb q p)))))

pub closed_below : (k : ℕ) (ps : List ℕ) → ltb (closed_by 0 ps) (2 ^ k) ≡ lists_below k ps
closed_below k ps =
    same_test _ (lists_below k ps)
    (λ t. below_out k ps (λ p e. inside p e (dec_lt p k) (ltb-true _ _ t)))
    (λ t. lt-ltb _ _ (below_in k 0 ps (pow_pos k) t))
  where
    inside : (p : ℕ) → lists ps p ≡ true → Dec (p < k) → closed_by 0 ps < 2 ^ k → p < k
    inside p e (yes l) t = l
    inside p e (no d) t =
        absurd (omega (arith, t, bit_le (closed_by 0 ps) p (closed_told 0 ps p ∙ rw e refl), pow_mono {i = k} {j = p} (omega arith)))
