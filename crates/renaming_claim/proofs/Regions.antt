-- The regions of the tree: the names that lie in them, and who stands in them. The open names under a node, and those from a segment of
-- a leaf on, split as the tree and the segments do, and so do the open names below the first of them: by splitting the sums, for any
-- choice of open names. Who stands in a region follows from where it stands: by cases on the tests.
--     rank_split                the open names below a name, in two
--     open_both, rank_right     names under the children of a node
--     open_next, rank_next      names from the next segment on
--     subtree-, segments-       who stands in a subtree, or at a leaf in a segment or a later one
-- Assumes nothing.
use Prim.Native.Nat.{ℕ, suc, ◌+◌, ◌*◌, ◌-◌, ◌≤◌, ◌<◌}
use native.Mathlib.Decide.{ℕ_discrete, dec_lt}
use native.Mathlib.Nat.{sub-zero}
use lib.Dec.{eqb, leb}
use Rattle.machine.proofs.Rules.{◌≡◌, ◌∙◌, ap, true, false, Bool, ◌≢◌, arith, eq-eqb, le-leb, ne_eqb, lt-leb}
use Rattle.machine.specs.Below.{sum_below, indicator as ind}
use Rattle.machine.specs.Closed.{is_open, open_in, rank}
use Rattle.machine.specs.Setup.{names, is_leaves}
use Rattle.machine.specs.State.{node_first, node_count}
use Rattle.machine.specs.declared.Setup.{Setup}
use Rattle.machine.specs.Stage.{getname}
use Rattle.machine.specs.declared.Process.{Process}
use Rattle.renaming_claim.proofs.Facts.Computed.{◌⊓◌, meet_false}
use Rattle.renaming_claim.proofs.Facts.Sums.{ind_le, sum_eq, sum_split}
use Rattle.renaming_claim.proofs.Facts.Tree as tree
use Rattle.renaming_claim.proofs.Facts.Tree.{under, pair, under_self}
use Rattle.renaming_claim.proofs.Invariant.{in_subtree, in_segments, segment_first, segment_count}

module _ (c : Setup) where
  open_split : (from n m : ℕ) → open_in c from (n + m) ≡ open_in c from n + open_in c (from + n) m
  unfolding open_in
  open_split from n m =
      sum_split n m (λ i. ind (is_open c (from + i)))
      ∙ ap (λ (x : ℕ). sum_below n (λ i. ind (is_open c (from + i))) + x)
      (sum_eq m _ _ (λ i l. ap (λ (x : ℕ). ind (is_open c x)) (omega arith)))

  pub rank_split : (m n : ℕ) → rank c (m + n) ≡ rank c m + open_in c m n
  unfolding open_in rank
  rank_split m n = sum_split m n (λ i. ind (is_open c i))

  -- the open names under a node
  abbrev open_under : ℕ → ℕ
  open_under u = open_in c (node_first c u) (node_count c u)

  module _ (e : is_leaves c.leaves ≡ true) where
    module _ {v : ℕ} (v0 : 0 < v) (k : v < c.leaves) where
      pub first_left : node_first c (2 * v) ≡ node_first c v
      unfolding node_first
      first_left = ap (λ (x : ℕ). x * (c.segments * c.bits)) (tree.first_left c.leaves e v0 k)

      first_right : node_first c (2 * v + 1) ≡ node_first c v + node_count c (2 * v)
      unfolding node_first node_count
      first_right = rw (tree.first_right c.leaves e v0 k) (omega arith)

      count_both : node_count c v ≡ node_count c (2 * v) + node_count c (2 * v + 1)
      unfolding node_count
      count_both = rw (tree.width_both c.leaves e v0 k) (omega arith)

      pub open_both : open_under v ≡ open_under (2 * v) + open_under (2 * v + 1)
      open_both = rw (first_left, first_right, count_both) (open_split (node_first c v) (node_count c (2 * v)) (node_count c (2 * v + 1)))

      pub rank_right : rank c (node_first c (2 * v + 1)) ≡ rank c (node_first c v) + open_under (2 * v)
      rank_right = rw (first_left, first_right) (rank_split (node_first c v) (node_count c (2 * v)))

    module _ {j : ℕ} (k : j < c.leaves) where
      pub first_leaf_lem : node_first c (c.leaves + j) ≡ segment_first c j 0
      unfolding node_first
      first_leaf_lem = rw (tree.first_leaf_lem c.leaves e k) (omega arith)

      pub count_leaf : node_count c (c.leaves + j) ≡ segment_count c 0
      unfolding node_count
      count_leaf = rw (tree.width_leaf c.leaves e k, sub-zero) (omega arith)

  pub first_root : node_first c 1 ≡ 0
  unfolding node_first
  first_root = rw (tree.first_root c.leaves) (omega arith)

  pub count_root : node_count c 1 ≡ names c
  unfolding node_count
  count_root = rw (tree.width_root c.leaves) (omega arith)

  module _ (j i : ℕ) where
    next_first : segment_first c j (suc i) ≡ segment_first c j i + c.bits
    next_first = omega arith

    pub open_next : i < c.segments → open_in c (segment_first c j i) (segment_count c i)
        ≡ open_in c (segment_first c j i) c.bits + open_in c (segment_first c j (suc i)) (segment_count c (suc i))
    open_next l =
        let e : c.segments - i ≡ suc (c.segments - suc i) = omega arith in
        let f : suc (c.segments - suc i) * c.bits ≡ c.bits + (c.segments - suc i) * c.bits = omega arith in
        rw (e, f, next_first) (open_split (segment_first c j i) c.bits ((c.segments - suc i) * c.bits))

    pub rank_next : rank c (segment_first c j (suc i)) ≡ rank c (segment_first c j i) + open_in c (segment_first c j i) c.bits
    rank_next = rw next_first (rank_split (segment_first c j i) c.bits)

meet_le : (t a z : Bool) → ind a ≤ ind z → ind (t ⊓ a) ≤ ind (t ⊓ z)
unfolding ◌⊓◌
meet_le true a z k = k
meet_le false a z k = omega arith

module _ (u : ℕ) (h : Process) where
  pub subtree_busy : {v : ℕ} → getname ≤ h.stage → h.node ≡ v → ind (in_subtree u h) ≡ ind (under u v)
  unfolding in_subtree ◌⊓◌
  subtree_busy k e = rw (le-leb getname h.stage k, e)

  pub subtree_out : h.stage < getname → ind (in_subtree u h) ≡ 0
  unfolding in_subtree ◌⊓◌
  subtree_out k = rw (lt-leb getname h.stage k)

  pub subtree_same : (x : Process) → getname ≤ h.stage → getname ≤ x.stage → x.node ≡ h.node
      → ind (in_subtree u x) ≡ ind (in_subtree u h)
  unfolding in_subtree ◌⊓◌
  subtree_same x k l e = rw (le-leb getname h.stage k, le-leb getname x.stage l, e)

  -- the children's subtrees are apart
  pub subtree_apart : 0 < u → u < 16 → 0 < h.node → h.node < 32
      → ind (in_subtree (2 * u) h) + ind (in_subtree (2 * u + 1) h) ≤ ind (in_subtree u h)
  unfolding in_subtree ◌⊓◌
  subtree_apart k k16 l l32 = go (leb getname h.stage)
    where
      go : (t : Bool) → ind (t ⊓ under (2 * u) h.node) + ind (t ⊓ under (2 * u + 1) h.node) ≤ ind (t ⊓ under u h.node)
      go true = pair u h.node k k16 l l32
      go false = omega arith

module _ (u i : ℕ) (h : Process) where
  pub segments_in : getname ≤ h.stage → u ≡ h.node → i ≤ h.segment → ind (in_segments u i h) ≡ 1
  unfolding in_segments ◌⊓◌
  segments_in k e l = rw (le-leb getname h.stage k, eq-eqb u h.node e, le-leb i h.segment l)

  pub segments_out : h.stage < getname → ind (in_segments u i h) ≡ 0
  unfolding in_segments ◌⊓◌
  segments_out k = rw (lt-leb getname h.stage k)

  pub segments_far : u ≢ h.node → ind (in_segments u i h) ≡ 0
  unfolding in_segments ◌⊓◌
  segments_far d = rw (ne_eqb u h.node d, meet_false (leb getname h.stage))

  pub segments_low : h.segment < i → ind (in_segments u i h) ≡ 0
  unfolding in_segments ◌⊓◌
  segments_low k = rw (lt-leb i h.segment k, meet_false (eqb u h.node), meet_false (leb getname h.stage))

  pub segments_same : (x : Process) → getname ≤ h.stage → getname ≤ x.stage → x.node ≡ h.node → x.segment ≡ h.segment
      → ind (in_segments u i x) ≡ ind (in_segments u i h)
  unfolding in_segments ◌⊓◌
  segments_same x k l e f = rw (le-leb getname h.stage k, le-leb getname x.stage l, e, f)

  -- from a later segment on there are no more
  pub segments_next : ind (in_segments u (suc i) h) ≤ ind (in_segments u i h)
  unfolding in_segments
  segments_next = meet_le (leb getname h.stage) _ _ (meet_le (eqb u h.node) _ _ (go (dec_lt i h.segment)))
    where
      go : Dec (i < h.segment) → ind (leb (suc i) h.segment) ≤ ind (leb i h.segment)
      go (yes k) = rw (le-leb i h.segment (omega arith)) (ind_le (leb (suc i) h.segment))
      go (no k) = rw (lt-leb (suc i) h.segment (omega arith)) (omega arith)

  -- a leaf's segments lie in its subtree
  pub segments_subtree : ind (in_segments u i h) ≤ ind (in_subtree u h)
  unfolding in_segments in_subtree
  segments_subtree = meet_le (leb getname h.stage) _ _ (go (ℕ_discrete u h.node))
    where
      go : Dec (u ≡ h.node) → ind (eqb u h.node ⊓ leb i h.segment) ≤ ind (under u h.node)
      go (yes e) = rw (← e, under_self u) (ind_le (eqb u u ⊓ leb i h.segment))
      go (no d) = rw (ne_eqb u h.node d) (unfold ◌⊓◌ in omega arith)

-- one segment further on at the same node, h has become x, which enters no other region of segments
pub segments_on : (u i : ℕ) (h x : Process) → getname ≤ h.stage → x.node ≡ h.node → x.segment ≡ suc h.segment
    → (u ≡ h.node → i ≢ suc h.segment) → ind (in_segments u i x) ≤ ind (in_segments u i h)
segments_on u i h x busy e next d = go (ℕ_discrete u h.node) (dec_lt h.segment i)
  where
    go : Dec (u ≡ h.node) → Dec (h.segment < i) → ind (in_segments u i x) ≤ ind (in_segments u i h)
    go (no t) k = omega (arith, segments_far u i x (λ q. t (q ∙ e)))
    go (yes t) (no k) = omega (arith, ind_le (in_segments u i x), segments_in u i h busy t (omega arith))
    go (yes t) (yes k) =
        let other : i ≢ suc h.segment = d t in
        omega (arith, segments_low u i x (omega arith))
