-- One getname step more costs no more than the invariant allows: above the leaves it is one of h, and at a leaf the process stands in the
-- segment that it tries, below whose names there are fewer than M. Assumes nothing.
use Prim.Native.Nat.{ℕ, ◌+◌, ◌*◌, ◌-◌, ◌≤◌, ◌<◌}
use native.Mathlib.Decide.{dec_lt}
use Rattle.machine.proofs.Rules.{◌≡◌, ◌∙◌, ap, arith}
use Rattle.machine.specs.Closed.{rank}
use Rattle.machine.specs.Getname.{segment_of}
use Rattle.machine.specs.Setup.{height}
use Rattle.machine.specs.Stage.{getname}
use Rattle.machine.proofs.Facts.Leaves.{depth_left}
use Rattle.renaming_claim.proofs.Bounds.Segments.{low_name}
use Rattle.renaming_claim.proofs.Facts.Tree.{depth_le}
use Rattle.renaming_claim.proofs.Implies.{fewer_steps}
use Rattle.renaming_claim.proofs.Invariant.{CostAt, Claiming}
use Rattle.renaming_claim.proofs.Mover.{Setup, Process, State, process_at, Mover, by_stage, own_range, limits, leaves_16}
use Rattle.renaming_claim.proofs.Regions.{rank_split}

module _ {M : ℕ} {s : State} {p : ℕ} (m : Mover M s p) (st : (process_at s p).stage ≡ getname) where
  abbrev c : Setup
  c = s.setup

  abbrev h : Process
  h = process_at s p

  -- what its numbers say of each other
  pub claiming : Claiming c h
  claiming = by_stage m getname st

  -- a step above the leaves is one of h
  high : h.node < c.leaves → h.steps < height c.leaves
  high k =
      omega (
        arith,
        claiming.steps,
        claiming.flat k,
        depth_left h.node (own_range m).node1 (omega (arith, leaves_16 m)),
        depth_le c.leaves (limits m).leaves {u = 2 * h.node} (omega arith),
      )

  -- the segments up to the one that it stands in
  below : c.leaves ≤ h.node → (i : ℕ) → i ≤ h.segment → rank c (i * c.bits) < M
  below leaf i k =
      let r : ℕ = segment_of c h in
      let d : ℕ = r - i in
      let parts : r ≡ i + d = omega arith in
      let place : r * c.bits + 0 ≡ i * c.bits + d * c.bits = ap (λ (x : ℕ). x * c.bits + 0) parts ∙ omega arith in
      omega (
        arith,
        rw place at (low_name m st leaf 0 (limits m).b1 (λ n l. absurd (omega arith))),
        rank_split c (i * c.bits) (d * c.bits),
      )

  pub one_more : CostAt c M (h.steps + 1)
  one_more = record { most = omega (arith, fewer_steps m st); tried = λ i k. go i k (dec_lt h.node c.leaves) }
    where
      go : (i : ℕ) → height c.leaves + i < h.steps + 1 → Dec (h.node < c.leaves) → rank c (i * c.bits) < M
      go i k (yes l) = absurd (omega (arith, high l))
      go i k (no l) =
          below (omega arith) i
          (omega (arith, claiming.steps, depth_le c.leaves (limits m).leaves {u = h.node} (own_range m).node))
