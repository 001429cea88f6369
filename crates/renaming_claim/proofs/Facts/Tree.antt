-- The tree of at most 31 nodes: who lies under whom, and which leaves lie under a node. One computed test each, and its law.
--     under            node v lies in the subtree of u
--     down, pair       a node lies in its own subtree and where its parent does; the children's subtrees are apart
--     under_self, under_up, under_root    a node, a node above it, and node 1
--     width_both, first_left, first_right    the leaves under the children of a node
--     width_leaf, first_leaf_lem, width_root, first_root      those of a leaf and of node 1
--     depth_up         a parent lies one level above its child
--     depth_le, leaf_level, height_four    no node lies deeper than a leaf, and a leaf at most four levels down
-- Assumes nothing.
use Prim.Native.Nat.{ℕ, ◌+◌, ◌*◌, ◌/◌, ◌≤◌, ◌<◌}
use lib.Dec.{eqb, ltb, leb}
use Rattle.machine.proofs.Rules.{◌≡◌, ◌∙◌, refl, true, ◌||◌, Bool, arith, lt-ltb, eq-eqb, eqb-true, ne_eqb, leb-true}
use Rattle.machine.specs.Below.{all_below, indicator as ind}
use Rattle.machine.specs.Setup.{is_leaves, log2, height}
use Rattle.machine.specs.State.{width, first_leaf}
use Rattle.machine.proofs.Facts.Leaves.{by_leaves, leaves_high}
use Rattle.renaming_claim.proofs.Facts.Computed.{◌⊓◌, ◌⇒◌, meet, computed}

unfoldable pub under : ℕ → ℕ → Bool
under u v = eqb u v || eqb u (v / 2) || eqb u (v / 4) || eqb u (v / 8) || eqb u (v / 16)

pub down : (u w : ℕ) → 0 < u → u < 32 → 1 < w → w < 32 → ind (under u w) ≡ ind (under u (w / 2)) + ind (eqb u w)
down u w u0 u32 w1 w32 =
    eqb-true _ _
    (computed 32 32 (λ u w. ltb 0 u ⊓ ltb 1 w) (λ u w. eqb (ind (under u w)) (ind (under u (w / 2)) + ind (eqb u w)))
    (unfold all_below ◌⊓◌ ◌⇒◌ under in refl) u w u32 w32 (meet _ _ (lt-ltb 0 u u0) (lt-ltb 1 w w1)))

pub pair : (v w : ℕ) → 0 < v → v < 16 → 0 < w → w < 32 → ind (under (2 * v) w) + ind (under (2 * v + 1) w) ≤ ind (under v w)
pair v w v0 v16 w0 w32 =
    leb-true _ _
    (computed 16 32 (λ v w. ltb 0 v ⊓ ltb 0 w) (λ v w. leb (ind (under (2 * v) w) + ind (under (2 * v + 1) w)) (ind (under v w)))
    (unfold all_below ◌⊓◌ ◌⇒◌ under in refl) v w v16 w32 (meet _ _ (lt-ltb 0 v v0) (lt-ltb 0 w w0)))

pub under_self : (u : ℕ) → under u u ≡ true
unfolding under
under_self u = rw (eq-eqb u u refl)

-- of the nodes that are no deeper, only u itself lies under u
shallow : (u w : ℕ) → u < 32 → 0 < w → w < 32 → w < 2 * u → ind (under u w) ≡ ind (eqb u w)
shallow u w u32 w0 w32 l =
    eqb-true _ _
    (computed 32 32 (λ u w. ltb 0 w ⊓ ltb w (2 * u)) (λ u w. eqb (ind (under u w)) (ind (eqb u w)))
    (unfold all_below ◌⊓◌ ◌⇒◌ under in refl) u w u32 w32 (meet _ _ (lt-ltb 0 w w0) (lt-ltb w (2 * u) l)))

pub under_up : (u w : ℕ) → u < 32 → 0 < w → w < u → ind (under u w) ≡ 0
under_up u w u32 w0 l = shallow u w u32 w0 (omega arith) (omega arith) ∙ rw (ne_eqb u w (λ e. omega arith))

pub under_root : (u : ℕ) → 0 < u → u < 32 → ind (under u 1) ≡ ind (eqb u 1)
under_root u u0 u32 = shallow u 1 u32 (omega arith) (omega arith) (omega arith)

pub depth_up : (w : ℕ) → 1 < w → w < 32 → log2 (w / 2) + 1 ≡ log2 w
depth_up w w1 w32 =
    eqb-true _ _
    (computed 1 32 (λ _ w. ltb 1 w) (λ _ w. eqb (log2 (w / 2) + 1) (log2 w)) (unfold all_below ◌⇒◌ log2 in refl) 0 w (omega arith) w32
    (lt-ltb 1 w w1))

module _ (l : ℕ) (e : is_leaves l ≡ true) where
  small : l ≤ 16
  small = leaves_high l e

  -- the leaves under the children of an inner node
  module _ {v : ℕ} (v0 : 0 < v) (k : v < l) where
    inner : (a z : ℕ → ℕ → ℕ)
        → all_below 17 (λ l. all_below 16 (λ v. (is_leaves l ⊓ (ltb 0 v ⊓ ltb v l)) ⇒ eqb (a l v) (z l v))) ≡ true → a l v ≡ z l v
    inner a z t =
        eqb-true _ _
        (computed 17 16 (λ l v. is_leaves l ⊓ (ltb 0 v ⊓ ltb v l)) (λ l v. eqb (a l v) (z l v)) t l v (omega (arith, small))
        (omega (arith, small)) (meet _ _ e (meet _ _ (lt-ltb 0 v v0) (lt-ltb v l k))))

    pub width_both : width l v ≡ width l (2 * v) + width l (2 * v + 1)
    width_both = inner width (λ l v. width l (2 * v) + width l (2 * v + 1)) (unfold all_below ◌⊓◌ ◌⇒◌ is_leaves width log2 in refl)

    pub first_left : first_leaf l (2 * v) ≡ first_leaf l v
    first_left = inner (λ l v. first_leaf l (2 * v)) first_leaf (unfold all_below ◌⊓◌ ◌⇒◌ is_leaves width first_leaf log2 in refl)

    pub first_right : first_leaf l (2 * v + 1) ≡ first_leaf l v + width l (2 * v)
    first_right =
        inner (λ l v. first_leaf l (2 * v + 1)) (λ l v. first_leaf l v + width l (2 * v))
        (unfold all_below ◌⊓◌ ◌⇒◌ is_leaves width first_leaf log2 in refl)

  -- those of leaf j
  module _ {j : ℕ} (k : j < l) where
    outer : (a z : ℕ → ℕ → ℕ) → all_below 17 (λ l. all_below 16 (λ j. (is_leaves l ⊓ ltb j l) ⇒ eqb (a l j) (z l j))) ≡ true → a l j ≡ z l j
    outer a z t =
        eqb-true _ _
        (computed 17 16 (λ l j. is_leaves l ⊓ ltb j l) (λ l j. eqb (a l j) (z l j)) t l j (omega (arith, small)) (omega (arith, small))
        (meet _ _ e (lt-ltb j l k)))

    pub width_leaf : width l (l + j) ≡ 1
    width_leaf = outer (λ l j. width l (l + j)) (λ l j. 1) (unfold all_below ◌⊓◌ ◌⇒◌ is_leaves width log2 in refl)

    pub first_leaf_lem : first_leaf l (l + j) ≡ j
    first_leaf_lem = outer (λ l j. first_leaf l (l + j)) (λ l j. j) (unfold all_below ◌⊓◌ ◌⇒◌ is_leaves width first_leaf log2 in refl)

    pub leaf_level : log2 (l + j) ≡ height l
    leaf_level = outer (λ l j. log2 (l + j)) (λ l j. log2 l) (unfold all_below ◌⊓◌ ◌⇒◌ is_leaves log2 in refl)

  pub depth_le : {u : ℕ} → u < 2 * l → log2 u ≤ height l
  depth_le {u} k =
      leb-true _ _
      (computed 17 32 (λ l u. is_leaves l ⊓ ltb u (2 * l)) (λ l u. leb (log2 u) (log2 l)) (unfold all_below ◌⊓◌ ◌⇒◌ is_leaves log2 in refl)
      l u (omega (arith, small)) (omega (arith, small)) (meet _ _ e (lt-ltb u (2 * l) k)))

  pub height_four : height l ≤ 4
  height_four = leb-true _ _ (by_leaves (λ l. leb (height l) 4) (unfold all_below is_leaves log2 in refl) l e)

-- those of node 1
pub width_root : (l : ℕ) → width l 1 ≡ l
unfolding width log2
width_root l = omega arith

pub first_root : (l : ℕ) → first_leaf l 1 ≡ 0
unfolding first_leaf log2
first_root l = omega arith
