-- Open names are counted by the ones among the bits of the closed ones: a bit more at each step. The names under a left child are a share
-- of all, and lie where its node says.
--     closed_open      the open and the closed names of a range are all of it
--     names_open       all open names
--     counter_is       the open names under a left child
--     before_small, share_small    where they lie, and how many, below 64
-- Assumes nothing.
use Prim.Native.Nat.{ℕ, zero, suc, ◌+◌, ◌*◌, ◌-◌, ◌/◌, ◌%◌, ◌^◌, ◌≤◌, ◌<◌}
use native.Mathlib.Nat.{mod-lt, mod-one, mod-eq_of_lt, div-one, div-mul-le_self, mul_assoc, mul_comm, suc-mul, mul_right_comm}
use native.Mathlib.Nat.{mul-div_cancel, mul-le-mul_left, mul-le-mul_right, pow-succ'}
use native.Mathlib.Numerals.{add-one, one-add}
use lib.Count.{ones, ones_cat, ones-le}
use lib.Dec.{eqb, ltb, leb}
use lib.Pow.{pow_pos, mod-pow-add, shl_exact}
use Rattle.machine.proofs.Rules.{◌≡◌, ◌∙◌, sym, ap, refl, Bool, true, false, cond, ◌&&◌, arith, eqb-true, eqb-false, leb-true, lt-ltb}
use Rattle.machine.specs.Below.{all_below, sum_below, indicator as ind}
use Rattle.machine.specs.Closed.{is_open, open_in}
use Rattle.machine.specs.Operations.{bit}
use Rattle.machine.specs.Setup.{names, open_names, log2}
use Rattle.machine.specs.State.{depth, width, first_leaf, node_first, node_count, fresh_counter}
use Rattle.machine.specs.declared.Setup.{Setup}
use Rattle.machine.proofs.Facts.Below.{all_at}
use Rattle.machine.proofs.Facts.Leaves.{leaves_high, depth_left, width_level}
use Rattle.machine.proofs.Facts.Tests.{and_left, and_right}
use Rattle.machine.proofs.Facts.Words.{bit_shift}
use Rattle.machine.proofs.Ranges.{Limits}
use Rattle.fresh.specs.Counts.{closed_in}

-- one bit is its own count
ones_bit : (a : ℕ) → a < 2 → ones a ≡ a
unfolding ones
ones_bit zero k = refl
ones_bit (suc zero) k = refl
ones_bit (suc (suc a)) k = absurd (omega arith)

ones_more : (x n : ℕ) → ones (x % 2 ^ suc n) ≡ bit x n + ones (x % 2 ^ n)
ones_more x n =
    ap (λ (m : ℕ). ones (x % 2 ^ m)) (sym (one-add n))
    ∙ ap ones (mod-pow-add x 1 n)
    ∙ ones_cat n (x / 2 ^ n % 2) (x % 2 ^ n) (mod-lt x (pow_pos n))
    ∙ ap (λ (y : ℕ). y + ones (x % 2 ^ n)) (ones_bit (bit x n) (omega arith))

pub closed_le : (closed from n : ℕ) → closed_in closed from n ≤ n
unfolding closed_in
closed_le closed from n = ones-le n (closed / 2 ^ from % 2 ^ n) (mod-lt (closed / 2 ^ from) (pow_pos n))

-- 1 shifted by less than 64
pub shifted_64 : (n : ℕ) → n < 64 → (1 * 2 ^ n) % 2 ^ 64 ≡ 2 ^ n
shifted_64 n k = shl_exact {a = 1} 1 n 64 (omega arith) (omega arith) ∙ omega arith

module _ (c : Setup) where
  one_name : (p : ℕ) → ind (is_open c p) + bit c.closed p ≡ 1
  unfolding is_open
  one_name p = go (eqb (bit c.closed p) 0) refl
    where
      go : (t : Bool) → eqb (bit c.closed p) 0 ≡ t → ind t + bit c.closed p ≡ 1
      go true e = omega (arith, eqb-true (bit c.closed p) 0 e)
      go false e = omega (arith, eqb-false (bit c.closed p) 0 e)

  pub closed_open : (from n : ℕ) → open_in c from n + closed_in c.closed from n ≡ n
  unfolding open_in closed_in sum_below
  closed_open from zero = rw (mod-one (c.closed / 2 ^ from)) (unfold ones in refl)
  closed_open from (suc n) =
      omega (
        arith,
        closed_open from n,
        ones_more (c.closed / 2 ^ from) n,
        bit_shift c.closed from n,
        one_name (from + n),
      )

  pub names_open : c.closed < 2 ^ names c → open_names c ≡ names c - ones c.closed
  names_open k =
      let all : closed_in c.closed 0 (names c) ≡ ones c.closed
      = unfold closed_in in ap ones (ap (λ (x : ℕ). x % 2 ^ names c) (div-one c.closed) ∙ mod-eq_of_lt k) in
      omega (arith, closed_open 0 (names c))

  pub open_64 : Limits c → open_names c ≤ 64
  open_64 m = omega (arith, closed_open 0 (names c), m.k64)

-- the left child of node v, at depth d
module _ (c : Setup) (k : Limits c) (v : ℕ) (v0 : 0 < v) (l : v < c.leaves) where
  abbrev d : ℕ
  d = depth v + 1

  abbrev g : ℕ
  g = c.segments * c.bits

  level : depth (2 * v) ≡ d
  level = depth_left v v0 (omega (arith, leaves_high c.leaves k.leaves))

  count_is : node_count c (2 * v) ≡ names c / 2 ^ d
  unfolding node_count
  count_is =
      let w : ℕ = width c.leaves (2 * v) in
      let e : w * 2 ^ d ≡ c.leaves = width_level c.leaves v k.leaves v0 l in
      sym
      (ap (λ (x : ℕ). x / 2 ^ d)
      (ap (λ (x : ℕ). x * c.segments * c.bits) (sym e) ∙ mul_assoc (w * 2 ^ d) c.segments c.bits ∙ mul_right_comm w (2 ^ d) g)
      ∙ mul-div_cancel (w * g) (pow_pos d))

  first_is : node_first c (2 * v) ≡ (2 * v - 2 ^ d) * node_count c (2 * v)
  unfolding node_first node_count first_leaf
  first_is =
      mul_assoc (2 * v - 2 ^ depth (2 * v)) (width c.leaves (2 * v)) g
      ∙ ap (λ (x : ℕ). (2 * v - 2 ^ x) * (width c.leaves (2 * v) * g)) level

  pub counter_is : let n : ℕ = names c / 2 ^ d in fresh_counter c v ≡ n - closed_in c.closed ((2 * v - 2 ^ d) * n) n
  counter_is =
      let n : ℕ = names c / 2 ^ d in
      ap (λ (x : ℕ). open_in c x (node_count c (2 * v))) first_is
      ∙ ap (λ (x : ℕ). open_in c ((2 * v - 2 ^ d) * x) x) count_is
      ∙ omega (arith, closed_open c ((2 * v - 2 ^ d) * n) n)

-- a node's level, and how its names lie among k
level_test : ℕ → Bool
level_test v = cond (ltb 0 v) (leb (2 ^ (depth v + 1)) (2 * v) && leb (2 * v + 1) (2 * 2 ^ (depth v + 1))) true

level_tests : all_below 16 level_test ≡ true
unfolding all_below level_test log2
level_tests = refl

module _ (k v : ℕ) (v0 : 0 < v) (v16 : v < 16) where
  abbrev e : ℕ
  e = 2 ^ (depth v + 1)

  levels : (leb e (2 * v) && leb (2 * v + 1) (2 * e)) ≡ true
  unfolding level_test
  levels = rw (lt-ltb 0 v v0) at (all_at 16 level_test level_tests v v16)

  pub level_low : e ≤ 2 * v
  level_low = leb-true _ _ (and_left (leb e (2 * v)) (leb (2 * v + 1) (2 * e)) levels)

  level_high : 2 * v + 1 ≤ 2 * e
  level_high = leb-true _ _ (and_right (leb e (2 * v)) (leb (2 * v + 1) (2 * e)) levels)

  -- the names before those under the left child, with these, are among k
  before_in : (2 * v - e) * (k / e) + k / e ≤ k
  before_in =
      let n : ℕ = k / e in
      let few : suc (2 * v - e) ≤ e = omega (arith, level_low, level_high) in
      omega (arith, mul-le-mul_right n few, div-mul-le_self k e, suc-mul (2 * v - e) n, mul_comm e n)

  pub share_small : k / e * 2 ≤ k
  share_small =
      let two : 2 ≤ e = omega (arith, ap (λ (x : ℕ). 2 ^ x) (add-one (depth v)), pow-succ' 2 (depth v), pow_pos (depth v)) in
      omega (arith, mul-le-mul_left (k / e) two, div-mul-le_self k e)

  pub before_small : k ≤ 64 → (2 * v - e) * (k / e) < 64
  before_small k64 = go (k / e) before_in share_small
    where
      go : (n : ℕ) → (2 * v - e) * n + n ≤ k → n * 2 ≤ k → (2 * v - e) * n < 64
      go zero a z = omega arith
      go (suc n) a z = omega arith
