-- The invariant of every reachable state, with M any bound on how many were admitted at any moment so far: all that it is made of, in
-- the order of docs/PROOF.md, and no lemma.
--     Shape        what a process's own numbers say of each other, by its stage
--     Gate         the gate word, the queue, and who waits in it
--     Bits         a bit is the number of processes that have its name
--     Bounds       how many stand in each subtree, and at each leaf from a segment on; what each counter is
--     Invariant    the four, of a state
-- Assumes nothing.
use mathlib.Core.List.{List, [], ◌∷◌}
use Prim.Native.Nat.{ℕ, suc, ◌+◌, ◌*◌, ◌-◌, ◌≤◌, ◌<◌}
use lib.Dec.{eqb, leb}
use lib.IntN.{ℤ, pos, negsuc}
use lib.ListN.{get_or}
use Rattle.machine.proofs.Rules.{◌≡◌, Bool, ◌≢◌}
use Rattle.machine.specs.Below.{sum_below, indicator as ind}
use Rattle.machine.specs.Closed.{open_in, rank}
use Rattle.machine.specs.Operations.{bit}
use Rattle.machine.specs.Setup.{open_names, height, log2}
use Rattle.machine.specs.declared.Setup.{Setup}
use Rattle.machine.specs.Stage.{waiting, getname, working}
use Rattle.machine.specs.State.{none, no_process, process_at, node_first, node_count, fresh_counter}
use Rattle.machine.specs.declared.Process.{Process}
use Rattle.machine.specs.declared.State.{State}
use Rattle.renaming_claim.proofs.Facts.Computed.{◌⊓◌}
use Rattle.renaming_claim.proofs.Facts.Tree.{under}

-- the process at a place
abbrev pub at : List Process → ℕ → Process
at ps p = get_or ps p no_process

-- how many processes pass a test
unfoldable pub tally : Setup → (Process → Bool) → List Process → ℕ
tally c test ps = sum_below c.processes (λ p. ind (test (at ps p)))

-- SHAPES. What a process's own numbers say of each other. Said of numbers, so that it holds alike of two records that differ elsewhere.

-- Outside the tree (stages 0 to 2): node 1, segment 0, no name.
pub record HomeAt (node segment name : ℕ) : Type 0 where
  pub root : node ≡ 1
  pub flat : segment ≡ 0
  pub nameless : name ≡ none

-- In stages 1 and 2 besides: no step taken, nothing returned.
pub record EnteringAt (node segment name taken back : ℕ) : Type 0 where
  pub home : HomeAt node segment name
  pub steps : taken ≡ 0
  pub returns : back ≡ 0

module _ (c : Setup) where
  -- In getname: no name, segment 0 above the leaves, steps = depth + segment, nothing returned.
  pub record ClaimingAt (node segment name taken back : ℕ) : Type 0 where
    pub nameless : name ≡ none
    pub flat : node < c.leaves → segment ≡ 0
    pub steps : taken ≡ log2 node + segment
    pub returns : back ≡ 0

  -- Working: with a name, steps = h + segment + 1, nothing returned.
  pub record WorkingAt (segment name taken back : ℕ) : Type 0 where
    pub named : name ≢ none
    pub steps : taken ≡ height c.leaves + segment + 1
    pub returns : back ≡ 0

  -- In putname: steps of a working process. Nothing returned as long as the name is there; then one operation for its bit and at most
  -- one for each level climbed, of which there are as many as lie between a leaf and the node.
  pub record ReturningAt (node name taken back : ℕ) : Type 0 where
    pub steps : height c.leaves + 1 ≤ taken
    pub named : name ≢ none → back ≡ 0
    pub least : name ≡ none → 1 ≤ back
    pub most : name ≡ none → back + log2 node ≤ height c.leaves + 1

  -- By the stage; nobody is exhausted.
  abbrev pub StageAt : ℕ → ℕ → ℕ → ℕ → ℕ → ℕ → Type 0
  StageAt stage node segment name taken back =
      get_or
      (HomeAt node segment name
      ∷ EnteringAt node segment name taken back
      ∷ EnteringAt node segment name taken back
      ∷ ClaimingAt node segment name taken back
      ∷ WorkingAt segment name taken back
      ∷ ReturningAt node name taken back
      ∷ [])
      stage
      ⊥

  -- With a name: working or returning it, at a leaf, in the segment of its name.
  pub record StandsAt (stage node segment name : ℕ) : Type 0 where
    pub busy : working ≤ stage
    pub leaf : c.leaves ≤ node
    pub mark : ℕ
    pub within : mark < c.bits
    pub is : name ≡ ((node - c.leaves) * c.segments + segment) * c.bits + mark

  -- What a claim has cost: at most h + g steps; and whoever took more than h + i of them had come to segment i of a leaf, so that fewer
  -- than M names lie below that of leaf 0.
  pub record CostAt (M taken : ℕ) : Type 0 where
    pub most : taken ≤ height c.leaves + c.segments
    pub tried : (i : ℕ) → height c.leaves + i < taken → rank c (i * c.bits) < M

  -- With a name in any stage: fewer than M names lie below it.
  pub record ShapeAt (M stage node segment name taken back : ℕ) : Type 0 where
    pub stands : name ≢ none → StandsAt stage node segment name
    pub low : name ≢ none → rank c name < M
    pub cost : CostAt M taken
    pub by : StageAt stage node segment name taken back

  -- the same of a process
  abbrev pub Claiming : Process → Type 0
  Claiming h = ClaimingAt h.node h.segment h.name h.steps h.returns

  abbrev pub Working : Process → Type 0
  Working h = WorkingAt h.segment h.name h.steps h.returns

  abbrev pub Returning : Process → Type 0
  Returning h = ReturningAt h.node h.name h.steps h.returns

  abbrev pub ByStage : ℕ → Process → Type 0
  ByStage stage h = StageAt stage h.node h.segment h.name h.steps h.returns

  abbrev pub Stands : Process → Type 0
  Stands h = StandsAt h.stage h.node h.segment h.name

  abbrev pub Shape : ℕ → Process → Type 0
  Shape M h = ShapeAt M h.stage h.node h.segment h.name h.steps h.returns

abbrev pub Home : Process → Type 0
Home h = HomeAt h.node h.segment h.name

abbrev pub Entering : Process → Type 0
Entering h = EnteringAt h.node h.segment h.name h.steps h.returns

-- GATE. The gate word is the number of open names less the number of processes in stage 2 or later, and the queue has one place for each
-- that it fell below 0. Nobody stands in the queue twice, and whoever does is in stage 2.

-- in stage 2 or later: past the gate, or in its queue
unfoldable pub beyond : Process → Bool
beyond h = leb waiting h.stage

-- how often a process stands among the first n of the queue
unfoldable pub occurs : List ℕ → ℕ → ℕ → ℕ
occurs q n p = sum_below n (λ i. ind (eqb (get_or q i 0) p))

module _ (c : Setup) where
  -- the gate word, with so many in stage 2 or later and so many queued
  abbrev pub GateWord : ℤ → ℕ → ℕ → Type 0
  GateWord (pos a) count n = (count + a ≡ open_names c) × (n ≡ 0)
  GateWord (negsuc a) count n = (open_names c + suc a ≡ count) × (n ≡ suc a)

  pub record Gate (ps : List Process) (a : ℤ) (n : ℕ) (q : List ℕ) : Type 0 where
    pub word : GateWord a (tally c beyond ps) n
    pub queue : (p : ℕ) → occurs q n p ≤ ind (eqb (at ps p).stage waiting)

-- BITS. For each bit, the number of processes that have its name is the bit: 0 or 1.

unfoldable pub has_name : ℕ → Process → Bool
has_name m h = eqb h.name m

module _ (c : Setup) where
  abbrev pub words : ℕ
  words = c.leaves * c.segments

  pub record Bits (ps : List Process) (ws : List ℕ) : Type 0 where
    pub told : (r m : ℕ) → r < words → m < c.bits → tally c (has_name (r * c.bits + m)) ps ≡ bit (get_or ws r 0) m

-- BOUNDS. Processes are counted by where they stand, not by what they hold: in the subtree of node u, C(u); at leaf j in segment i or a
-- later one, R(j, i).

-- in getname or later, at a node of the subtree of u; at node u, in segment i or a later one
unfoldable pub in_subtree : ℕ → Process → Bool
in_subtree u h = leb getname h.stage ⊓ under u h.node

unfoldable pub in_segments : ℕ → ℕ → Process → Bool
in_segments u i h = leb getname h.stage ⊓ (eqb u h.node ⊓ leb i h.segment)

module _ (c : Setup) where
  -- the first name of segment i of leaf j, and how many from there to the leaf's end
  abbrev pub segment_first : ℕ → ℕ → ℕ
  segment_first j i = (j * c.segments + i) * c.bits

  abbrev pub segment_count : ℕ → ℕ
  segment_count i = (c.segments - i) * c.bits

  module _ (M : ℕ) where
    -- at most the names of the region, and at most those of the M lowest that lie past its start
    pub record Bound (count from n : ℕ) : Type 0 where
      pub cap : count ≤ open_in c from n
      pub top : count ≤ M - rank c from

    -- C(u) ≤ names under u, and ≤ M - (first name under u)
    abbrev pub SubtreeBound : List Process → ℕ → Type 0
    SubtreeBound ps u = Bound (tally c (in_subtree u) ps) (node_first c u) (node_count c u)

    -- R(j, i) ≤ names from segment i on, and ≤ M - (first name of segment i)
    abbrev pub SegmentBound : List Process → ℕ → ℕ → Type 0
    SegmentBound ps j i = Bound (tally c (in_segments (c.leaves + j) i) ps) (segment_first j i) (segment_count i)

  -- counter of v + C(left child of v) = names under the left child of v
  abbrev pub CounterIs : List Process → List ℕ → ℕ → Type 0
  CounterIs ps cs v = get_or cs v 0 + tally c (in_subtree (2 * v)) ps ≡ fresh_counter c v

  -- of every node, of every leaf from segment 1 on (segment 0 is the leaf's own bound), and of every node above the leaves
  pub record Bounds (M : ℕ) (ps : List Process) (cs : List ℕ) : Type 0 where
    pub subtrees : (u : ℕ) → 0 < u → u < 2 * c.leaves → SubtreeBound M ps u
    pub segments : (j i : ℕ) → j < c.leaves → i < c.segments → SegmentBound M ps j (suc i)
    pub counters : (v : ℕ) → 0 < v → v < c.leaves → CounterIs ps cs v

-- THE INVARIANT.

pub record Invariant (M : ℕ) (s : State) : Type 0 where
  pub shapes : (p : ℕ) → p < s.setup.processes → Shape s.setup M (process_at s p)
  pub gate : Gate s.setup s.process s.gate s.queued s.queue
  pub bits : Bits s.setup s.process s.words
  pub bounds : Bounds s.setup M s.process s.counters
