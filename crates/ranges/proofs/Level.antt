-- The counters of one level of the tree: node 2^d + i has depth d, and the names under its left child begin 2·i shares in; by cases on
-- the few depths that there are. Assumes nothing.
--     level_test_lem      the test of a counter of a level
--     doubled_le, depth_4    the levels of L leaves
use Rattle.std.proofs.Common.{ℕ, zero, suc, ◌+◌, ◌-◌, ◌*◌, ◌/◌, ◌%◌, ◌^◌, ◌<◌, ◌≤◌, eqb, leb, ltb, List, get_or, mul-le-mul_left, mul-add}
use Rattle.std.proofs.Common.{div-mul-le_self, div-one, add-one, pow_pos, pow_mono}
use native.Mathlib.Decide.{ℕ_discrete, dec_lt}
use native.Mathlib.Nat.{pow-succ', mul-zero, mul_comm}
use lib.Count.{ones}
use Rattle.machine.proofs.Rules.{◌≡◌, ◌∙◌, sym, ap, refl, Bool, true, cond, not, ◌&&◌, ◌||◌}
use Rattle.machine.proofs.Rules.{arith, eqb-true, ne_eqb, leb-true, lt-leb, le-leb, lt-ltb}
use Rattle.machine.specs.Below.{all_below}
use Rattle.machine.specs.Setup.{names, is_leaves, log2}
use Rattle.machine.specs.State.{depth, fresh_counter}
use Rattle.machine.specs.declared.Setup.{Setup}
use Rattle.machine.proofs.Facts.Below.{all_at, all_parts}
use Rattle.machine.proofs.Facts.Leaves.{by_leaves}
use Rattle.machine.proofs.Ranges.{Limits}
use Rattle.ranges.specs.Tests.{node_test}
use Rattle.fresh.specs.Counts.{closed_in}
use Rattle.fresh.proofs.Counted.{counter_is}

depth_test : ℕ → ℕ → Bool
depth_test d i = eqb (depth (2 ^ d + i)) d

all_depths : all_below 4 (λ d. all_below (2 ^ d) (depth_test d)) ≡ true
unfolding all_below depth_test log2
all_depths = refl

depth_is : (d i : ℕ) → d < 4 → i < 2 ^ d → depth (2 ^ d + i) ≡ d
unfolding depth_test
depth_is d i d4 l = eqb-true _ d (all_at (2 ^ d) (depth_test d) (all_at 4 (λ e. all_below (2 ^ e) (depth_test e)) all_depths d d4) i l)

-- a counter of level v, with n names under each left child, by the closed names
abbrev pub level_test : List ℕ → ℕ → ℕ → ℕ → ℕ → Bool
level_test counters closed v n i = leb (get_or counters (v + i) 0) (n - closed_in closed (2 * i * n) n)

module _ (c : Setup) (counters : List ℕ) (k : Limits c) (d i : ℕ) (d4 : d < 4) (l : i < 2 ^ d) (inside : 2 ^ d + i < c.leaves) where
  abbrev v : ℕ
  v = 2 ^ d + i

  abbrev n : ℕ
  n = names c / 2 ^ (d + 1)

  fresh_is : fresh_counter c v ≡ n - closed_in c.closed (2 * i * n) n
  fresh_is =
      let some : 0 < v = omega (arith, pow_pos d) in
      let twice : 2 * v - 2 ^ (d + 1) ≡ 2 * i = omega (arith, ap (λ (x : ℕ). 2 ^ x) (add-one d), pow-succ' 2 d) in
      counter_is c k v some inside
      ∙ ap
      (λ (x : ℕ). names c / 2 ^ (x + 1) - closed_in c.closed ((2 * v - 2 ^ (x + 1)) * (names c / 2 ^ (x + 1))) (names c / 2 ^ (x + 1)))
      (depth_is d i d4 l)
      ∙ ap (λ (x : ℕ). n - closed_in c.closed (x * n) n) twice

  pub level_test_lem : level_test counters c.closed (2 ^ d) n i ≡ node_test c counters v
  level_test_lem =
      simp (ne_eqb v 0 (λ z. absurd (omega (arith, z, pow_pos d)))) (ap (λ (x : ℕ). leb (get_or counters v 0) x) (sym fresh_is))

-- the names under a left child are half of all at most
pub share_32 : (k d : ℕ) → k ≤ 64 → k / 2 ^ (d + 1) ≤ 32
share_32 k d k64 =
    let two : 2 ≤ 2 ^ (d + 1) = omega (arith, ap (λ (x : ℕ). 2 ^ x) (add-one d), pow-succ' 2 d, pow_pos d) in
    omega (arith, mul-le-mul_left (k / 2 ^ (d + 1)) two, div-mul-le_self k (2 ^ (d + 1)), k64)

-- the closed names under the left child of node i of a level, where those from its first name on are left; and those that the next leaves
module _ (closed n i : ℕ) where
  pub left_closed : {rest : ℕ} → rest ≡ closed / 2 ^ (2 * i * n) → closed_in rest 0 n ≡ closed_in closed (2 * i * n) n
  unfolding closed_in
  left_closed {rest} e = ap (λ (x : ℕ). ones (x % 2 ^ n)) (div-one rest ∙ e)

-- the first name under node i of a level, where each of its nodes has n under it on either side
pub first_64 : (k d i : ℕ) → k ≤ 64 → i < 2 ^ d → 2 * i * (k / 2 ^ (d + 1)) < 64
first_64 k d i k64 l = go (ℕ_discrete n 0)
  where
    n : ℕ
    n = k / 2 ^ (d + 1)

    after : n * (2 * i + 2) ≤ 64
    after =
        let inside : 2 * i + 2 ≤ 2 ^ (d + 1) = omega (arith, ap (λ (x : ℕ). 2 ^ x) (add-one d), pow-succ' 2 d, l) in
        omega (arith, mul-le-mul_left n inside, div-mul-le_self k (2 ^ (d + 1)), k64)

    go : Dec (n ≡ 0) → 2 * i * n < 64
    go (yes z) = omega (arith, ap (λ (x : ℕ). 2 * i * x) z, mul-zero (2 * i))
    go (no z) = omega (arith, z, after, mul-add n (2 * i) 2, mul_comm n (2 * i))

-- the nodes of the levels below h, and the root's parent, which is none
pub levels : (h : ℕ) (f : ℕ → Bool) → f 0 ≡ true
    → all_below h (λ d. all_below (2 ^ d) (λ i. f (2 ^ d + i))) ≡ all_below (2 ^ h) f
unfolding all_below
levels zero f e = sym (ap (λ (t : Bool). t && true) e)
levels (suc h) f e =
    let twice : 2 ^ suc h ≡ 2 ^ h + 2 ^ h = omega (arith, pow-succ' 2 h) in
    ap (λ (t : Bool). all_below (2 ^ h) (λ i. f (2 ^ h + i)) && t) (levels h f e)
    ∙ sym (ap (λ (n : ℕ). all_below n f) twice ∙ all_parts (2 ^ h) (2 ^ h) f)

-- twice a power of 2 that is below L is at most L
doubles_in : ℕ → Bool
doubles_in l = all_below 5 (λ d. leb l (2 ^ d) || leb (2 ^ (d + 1)) l)

doubles : all_below 17 (λ l. cond (is_leaves l) (doubles_in l) true) ≡ true
unfolding all_below doubles_in is_leaves
doubles = refl

pub doubled_le : (l d : ℕ) → is_leaves l ≡ true → d < 5 → 2 ^ d < l → 2 ^ (d + 1) ≤ l
unfolding doubles_in
doubled_le l d e d5 low =
    leb-true (2 ^ (d + 1)) l
    (rw (lt-leb l (2 ^ d) low) at (all_at 5 (λ x. leb l (2 ^ x) || leb (2 ^ (x + 1)) l) (by_leaves doubles_in doubles l e) d d5))

-- L is a power of 2
powers_in : ℕ → Bool
powers_in l = all_below 8 (λ h. not (leb (2 ^ h) l && ltb l (2 * 2 ^ h)) || eqb (2 ^ h) l)

powers : all_below 17 (λ l. cond (is_leaves l) (powers_in l) true) ≡ true
unfolding all_below powers_in is_leaves
powers = refl

pub power_of : (l h : ℕ) → is_leaves l ≡ true → h < 8 → 2 ^ h ≤ l → l < 2 * 2 ^ h → 2 ^ h ≡ l
unfolding powers_in
power_of l h e h8 low high =
    eqb-true (2 ^ h) l
    (rw (le-leb (2 ^ h) l low, lt-ltb l (2 * 2 ^ h) high) at
    (all_at 8 (λ x. not (leb (2 ^ x) l && ltb l (2 * 2 ^ x)) || eqb (2 ^ x) l) (by_leaves powers_in powers l e) h h8))

pub depth_4 : (l d : ℕ) → l ≤ 16 → 2 ^ d < l → d < 4
depth_4 l d l16 low = go (dec_lt d 4)
  where
    go : Dec (d < 4) → d < 4
    go (yes k) = k
    go (no k) = absurd (omega (arith, pow_mono {i = 4} {j = d} (omega (arith, k)), low, l16))
