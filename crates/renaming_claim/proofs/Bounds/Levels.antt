-- The bounds when a process comes in at node 1, goes down to a child, up to the parent, or out at node 1: one subtree gains or loses it.
-- In: nobody stands in the tree who is not admitted. Left: the counter was above 0 and pays for the newcomer. Right: the counter is 0,
-- so all open names on the left are taken, and the bound of the parent, which counts the mover too, leaves it one on the right. Up and
-- out: no region gains anybody, and from the left the counter takes back what it paid.
--     bounds_enter, bounds_left, bounds_right    in and down
--     bounds_up_left, bounds_up_right, bounds_leave    up and out
-- Assumes nothing.
use mathlib.Core.List.{List}
use Prim.Native.Nat.{ℕ, suc, ◌+◌, ◌*◌, ◌-◌, ◌/◌, ◌≤◌, ◌<◌}
use native.Mathlib.Decide.{ℕ_discrete}
use lib.Dec.{eqb}
use lib.ListN.{get_or, set}
use lib.Seq.{get_or-set_same, get_or-set_other}
use Rattle.machine.proofs.Rules.{◌≡◌, ◌∙◌, refl, arith, eq-eqb, ne_eqb}
use Rattle.machine.specs.Below.{sum_below, indicator as ind}
use Rattle.machine.specs.Closed.{rank}
use Rattle.machine.specs.Setup.{open_names}
use Rattle.machine.specs.Stage.{getname}
use Rattle.machine.specs.State.{counter_at}
use Rattle.renaming_claim.proofs.Bounds.{bounds_move}
use Rattle.renaming_claim.proofs.Facts.Sums.{sum_with_one}
use Rattle.renaming_claim.proofs.Facts.Tree.{under, down, under_self, under_up, under_root}
use Rattle.renaming_claim.proofs.Invariant.{tally, in_subtree, in_segments, SubtreeBound, Bounds}
use Rattle.renaming_claim.proofs.Mover.{Setup, Process, State, process_at, Mover, inv, in_range_lem}
use Rattle.renaming_claim.proofs.Mover.{own_range, limits, leaves_16, counters_fit, stored, counts_grow}
use Rattle.renaming_claim.proofs.Regions.{first_left, open_both, rank_right, first_root, count_root, subtree_busy}
use Rattle.renaming_claim.proofs.Regions.{subtree_out, subtree_apart, segments_out, segments_far, segments_low}

module _ {M : ℕ} {s : State} {p : ℕ} (m : Mover M s p) where
  abbrev c : Setup
  c = s.setup

  abbrev h : Process
  h = process_at s p

  abbrev cs : List ℕ
  cs = s.counters

  -- z stands in the subtrees that a stands in, and in that of t besides
  abbrev Enters : ℕ → Process → Process → Type 0
  Enters t a z = (u : ℕ) → 0 < u → u < 2 * c.leaves → ind (in_subtree u z) ≡ ind (in_subtree u a) + ind (eqb u t)

  -- a out of the tree and z at node 1; a at the parent and z at node w
  root_enters : (a z : Process) → a.stage < getname → getname ≤ z.stage → z.node ≡ 1 → Enters 1 a z
  root_enters a z out busy e u u0 l =
      omega (arith, subtree_out u a out, subtree_busy u z busy e, under_root u u0 (omega (arith, leaves_16 m)))

  child_enters : (w : ℕ) (a z : Process) → getname ≤ a.stage → getname ≤ z.stage → a.node ≡ w / 2 → z.node ≡ w → 1 < w
      → w < 2 * c.leaves → Enters w a z
  child_enters w a z busy busy' e f w1 k u u0 l =
      let small : c.leaves ≤ 16 = leaves_16 m in
      omega (arith, subtree_busy u a busy e, subtree_busy u z busy' f, down u w u0 (omega arith) w1 (omega arith))

  -- the counter of v becomes y: it pays, or takes back, for whoever enters or leaves the left child
  paid_for : (v y a z : ℕ) → v < c.leaves → counter_at s v + a ≡ y + z → (w : ℕ)
      → counter_at s w + a * ind (eqb (2 * w) (2 * v)) ≡ get_or (set cs v y) w 0 + z * ind (eqb (2 * w) (2 * v))
  paid_for v y a z l e w = go (ℕ_discrete w v)
    where
      go : Dec (w ≡ v) → counter_at s w + a * ind (eqb (2 * w) (2 * v)) ≡ get_or (set cs v y) w 0 + z * ind (eqb (2 * w) (2 * v))
      go (yes t) = rw (t, eq-eqb (2 * v) (2 * v) refl, get_or-set_same cs v y 0 (omega (arith, counters_fit m))) (omega arith)
      go (no d) = rw (ne_eqb (2 * w) (2 * v) (λ t. d (omega arith)), get_or-set_other cs v w y 0 d) (omega arith)

  -- a right child, and node 1, are nobody's left child
  odd : (w v : ℕ) → ind (eqb (2 * w) (2 * v + 1)) ≡ 0
  odd w v = rw (ne_eqb (2 * w) (2 * v + 1) (λ t. omega arith))

  -- it becomes x
  module _ (x : Process) where
    -- it enters the subtree of t, at segment 0; the counter over t, if t is a left child, pays
    enters : (t : ℕ) (cs' : List ℕ) → Enters t h x → x.segment ≡ 0 → SubtreeBound c M (stored m x) t
        → ((w : ℕ) → counter_at s w ≡ get_or cs' w 0 + ind (eqb (2 * w) t)) → Bounds c M (stored m x) cs'
    enters t cs' e flat new paid =
        bounds_move m x t cs' (λ u u0 k. omega (arith, e u u0 k)) (λ _. new)
        (λ u i k. omega (arith, segments_low u (suc i) x (omega arith)))
        (λ w w0 l. omega (arith, paid w, e (2 * w) (omega arith) (omega arith)))

    -- it leaves the subtree of t, and is nowhere at a leaf; the counter takes back
    leaves : (t : ℕ) (cs' : List ℕ) → Enters t x h → ((u i : ℕ) → c.leaves ≤ u → ind (in_segments u (suc i) x) ≡ 0)
        → ((w : ℕ) → counter_at s w + ind (eqb (2 * w) t) ≡ get_or cs' w 0) → Bounds c M (stored m x) cs'
    leaves t cs' e high back =
        bounds_move m x 0 cs' (λ u u0 k. omega (arith, e u u0 k)) (λ k. absurd (omega arith)) (λ u i k. omega (arith, high u i k))
        (λ w w0 l. omega (arith, back w, e (2 * w) (omega arith) (omega arith)))

    pub bounds_enter : h.stage < getname → getname ≤ x.stage → x.node ≡ 1 → x.segment ≡ 0
        → tally c (in_subtree 1) (stored m x) ≤ open_names c → tally c (in_subtree 1) (stored m x) ≤ M → Bounds c M (stored m x) cs
    bounds_enter out busy e flat within withinM =
        let rank-zero : rank c 0 ≡ 0 = unfold rank sum_below in refl in
        enters 1 cs (root_enters h x out busy e) flat
        (record { cap = rw (first_root c, count_root c) within; top = rw (first_root c, rank-zero) (omega arith) })
        (λ w. omega (arith, odd w 0))

    pub bounds_leave : getname ≤ h.stage → h.node ≡ 1 → x.stage < getname → Bounds c M (stored m x) cs
    bounds_leave busy e out =
        leaves 1 cs (root_enters x h out busy e) (λ u i _. segments_out u (suc i) x out) (λ w. omega (arith, odd w 0))

    module _ (busy : getname ≤ h.stage) (busy' : getname ≤ x.stage) where
      -- one level up
      module _ (above : 1 < h.node) (up : x.node ≡ h.node / 2) where
        inner : x.node < c.leaves
        inner = omega (arith, (own_range m).node)

        gone : (t : ℕ) → h.node ≡ t → Enters t x h
        gone t e = child_enters t x h busy' busy (omega arith) e (omega arith) (omega (arith, (own_range m).node))

        high : (u i : ℕ) → c.leaves ≤ u → ind (in_segments u (suc i) x) ≡ 0
        high u i k = segments_far u (suc i) x (λ t. omega (arith, inner))

        pub bounds_up_left : h.node ≡ 2 * x.node → Bounds c M (stored m x) (set cs x.node (counter_at s x.node + 1))
        bounds_up_left e =
            let u : ℕ = x.node in
            leaves (2 * u) (set cs u (counter_at s u + 1)) (gone (2 * u) e) high
            (λ w. omega (arith, paid_for u (counter_at s u + 1) 1 0 inner (omega arith) w))

        pub bounds_up_right : h.node ≡ 2 * x.node + 1 → Bounds c M (stored m x) cs
        bounds_up_right e =
            leaves (2 * x.node + 1) cs (gone (2 * x.node + 1) e) high (λ w. omega (arith, odd w x.node))

      -- one level down
      module _ (below : h.node < c.leaves) (flat : x.segment ≡ 0) where
        abbrev v : ℕ
        v = h.node

        v0 : 0 < v
        v0 = (own_range m).node1

        own : SubtreeBound c M s.process v
        own = (inv m).bounds.subtrees v v0 (omega arith)

        child : (t : ℕ) → t / 2 ≡ v → x.node ≡ t → Enters t h x
        child t d e = child_enters t h x busy busy' (omega arith) e (omega (arith, v0)) (omega arith)

        -- those on either side, with the mover, stand in the subtree of v
        sides : tally c (in_subtree (2 * v)) s.process + tally c (in_subtree (2 * v + 1)) s.process
            < tally c (in_subtree v) s.process
        unfolding tally
        sides =
            let in_tree : ℕ → ℕ → ℕ = λ u q. ind (in_subtree u (process_at s q)) in
            let small : c.leaves ≤ 16 = leaves_16 m in
            let self : ind (under v v) ≡ 1 = rw (under_self v) in
            let left = subtree_busy (2 * v) h busy refl ∙ under_up (2 * v) v (omega arith) v0 (omega (arith, v0)) in
            let right = subtree_busy (2 * v + 1) h busy refl ∙ under_up (2 * v + 1) v (omega arith) v0 (omega (arith, v0)) in
            sum_with_one c.processes p (in_tree (2 * v)) (in_tree (2 * v + 1)) (in_tree v) m.known
            (omega (arith, subtree_busy v h busy refl))
            (λ q l _. subtree_apart v (process_at s q) v0 (omega arith) (in_range_lem m l).node1 (omega (arith, (in_range_lem m l).node)))

        pub bounds_left : x.node ≡ 2 * v → 0 < counter_at s v → Bounds c M (stored m x) (set cs v (counter_at s v - 1))
        bounds_left e some =
            let full = (inv m).bounds.counters v v0 below in
            let grown = counts_grow m x (in_subtree (2 * v)) in
            enters (2 * v) (set cs v (counter_at s v - 1)) (child (2 * v) (omega arith) e) flat
            (record {
              cap = omega (arith, grown, full);
              top = rw (first_left c (limits m).leaves v0 below) (omega (arith, sides, own.top, grown));
            })
            (λ w. omega (arith, paid_for v (counter_at s v - 1) 0 1 below (omega arith) w))

        pub bounds_right : x.node ≡ 2 * v + 1 → counter_at s v ≡ 0 → Bounds c M (stored m x) cs
        bounds_right e empty =
            let full = (inv m).bounds.counters v v0 below in
            let grown = counts_grow m x (in_subtree (2 * v + 1)) in
            enters (2 * v + 1) cs (child (2 * v + 1) (omega arith) e) flat
            (record {
              cap = omega (arith, open_both c (limits m).leaves v0 below, sides, own.cap, grown, full);
              top = omega (arith, rank_right c (limits m).leaves v0 below, sides, own.top, grown, full);
            })
            (λ w. omega (arith, odd w v))
