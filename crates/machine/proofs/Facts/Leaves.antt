-- What holds of each of the five numbers of leaves, and of the tree's nodes: one computed test each, and the law that it gives.
--     by_leaves     a test that 1, 2, 4, 8 and 16 pass, passed by every accepted number of leaves
--     height_is     2^h = L
--     width_level    the leaves under a left child are 1 in 2^(d+1), where d is the depth of its parent
--     depth_root, depth_left, depth-right    node 1 has depth 0, and a child lies one level below its parent
-- Assumes nothing.
use Prim.Native.Nat.{ℕ, ◌+◌, ◌*◌, ◌^◌, ◌≤◌, ◌<◌}
use native.Mathlib.Decide.{dec_lt}
use lib.Dec.{eqb, ltb, leb}
use Rattle.machine.proofs.Rules.{◌≡◌, refl, true, cond, Bool, ◌&&◌, ◌||◌, false≢true, arith, lt-ltb, eqb-true, ne_eqb, leb-true}
use Rattle.machine.specs.Below.{all_below}
use Rattle.machine.specs.Setup.{is_leaves, log2, height}
use Rattle.machine.specs.State.{width}
use Rattle.machine.proofs.Facts.Tests.{and_left, and_right}
use Rattle.machine.proofs.Facts.Below.{all_at}

leaves_small : (l : ℕ) → is_leaves l ≡ true → Dec (l < 17) → l < 17
unfolding is_leaves
leaves_small l e (yes k) = k
leaves_small l e (no k) =
    absurd
    (false≢true
    (simp (
      ne_eqb l 1 (λ q. omega arith),
      ne_eqb l 2 (λ q. omega arith),
      ne_eqb l 4 (λ q. omega arith),
      ne_eqb l 8 (λ q. omega arith),
      ne_eqb l 16 (λ q. omega arith),
    ) at e))

-- a test of the accepted numbers of leaves alone
abbrev of_leaves : (ℕ → Bool) → ℕ → Bool
of_leaves f l = cond (is_leaves l) (f l) true

pub by_leaves : (f : ℕ → Bool) → all_below 17 (of_leaves f) ≡ true → (l : ℕ) → is_leaves l ≡ true → f l ≡ true
by_leaves f t l e = rw e at (all_at 17 (of_leaves f) t l (leaves_small l e (dec_lt l 17)))

pub leaves_low : (l : ℕ) → is_leaves l ≡ true → 1 ≤ l
leaves_low l e = leb-true 1 l (by_leaves (leb 1) low l e)
  where
    low : all_below 17 (of_leaves (leb 1)) ≡ true
    low = unfold all_below is_leaves in refl

pub leaves_high : (l : ℕ) → is_leaves l ≡ true → l ≤ 16
leaves_high l e = omega (arith, leaves_small l e (dec_lt l 17))

power_is : ℕ → Bool
power_is l = eqb (2 ^ height l) l

powers : all_below 17 (of_leaves power_is) ≡ true
unfolding all_below is_leaves power_is log2
powers = refl

pub height_is : (l : ℕ) → is_leaves l ≡ true → 2 ^ height l ≡ l
unfolding power_is
height_is l e = eqb-true (2 ^ height l) l (by_leaves power_is powers l e)

-- of each node below L, but for 0
shares_are : ℕ → Bool
shares_are l = all_below l (λ v. eqb v 0 || eqb (width l (2 * v) * 2 ^ (log2 v + 1)) l)

shares : all_below 17 (of_leaves shares_are) ≡ true
unfolding all_below is_leaves shares_are width log2
shares = refl

pub width_level : (l v : ℕ) → is_leaves l ≡ true → 0 < v → v < l → width l (2 * v) * 2 ^ (log2 v + 1) ≡ l
unfolding shares_are
width_level l v e low k =
    eqb-true _ l
    (rw (ne_eqb v 0 (omega arith)) at
    (all_at l (λ u. eqb u 0 || eqb (width l (2 * u) * 2 ^ (log2 u + 1)) l) (by_leaves shares_are shares l e) v k))

-- the children of node v, if it is one
below : ℕ → Bool
below v = cond (ltb 0 v) (eqb (log2 (2 * v)) (log2 v + 1) && eqb (log2 (2 * v + 1)) (log2 v + 1)) true

levels : all_below 16 below ≡ true
unfolding all_below below log2
levels = refl

pub depth_root : log2 1 ≡ 0
unfolding log2
depth_root = refl

module _ (v : ℕ) (k : 0 < v) (l : v < 16) where
  deeper : (eqb (log2 (2 * v)) (log2 v + 1) && eqb (log2 (2 * v + 1)) (log2 v + 1)) ≡ true
  unfolding below
  deeper = rw (lt-ltb 0 v k) at (all_at 16 below levels v l)

  pub depth_left : log2 (2 * v) ≡ log2 v + 1
  depth_left = eqb-true _ _ (and_left (eqb (log2 (2 * v)) (log2 v + 1)) _ deeper)

  pub depth-right : log2 (2 * v + 1) ≡ log2 v + 1
  depth-right = eqb-true _ _ (and_right (eqb (log2 (2 * v)) (log2 v + 1)) _ deeper)
