-- The invariant is kept by a request, by entering or joining the queue, and by going on once out of the queue. The newcomer to the
-- tree is one of the admitted, of whom there are at most the open names, and at most M. Assumes nothing.
use Prim.Native.Nat.{ℕ, ◌≤◌, ◌<◌}
use lib.Dec.{leb}
use lib.IntN.{ℤ, pred_ℤ}
use lib.ListN.{length}
use Rattle.machine.proofs.Rules.{◌≡◌, ◌∙◌, sym, ap, refl, true, false, ◌||◌, Bool, arith, ltb-false}
use Rattle.machine.specs.Admitted.{is_admitted, admitted}
use Rattle.machine.specs.Below.{indicator as ind}
use Rattle.machine.specs.Gate.{above0, in_queue, lowered, joined, enter, await}
use Rattle.machine.specs.Range.{in_range}
use Rattle.machine.specs.Setup.{log2}
use Rattle.machine.specs.Stage.{remainder, entry, waiting, getname}
use Rattle.machine.specs.State.{fresh_process, with_stage, with_gate, with_process, update}
use Rattle.machine.proofs.Facts.Leaves.{depth_root}
use Rattle.machine.proofs.Facts.Tests.{by_cond}
use Rattle.machine.proofs.Ranges.{ranges_of}
use Rattle.renaming_claim.proofs.Bits.{bits_same}
use Rattle.renaming_claim.proofs.Bounds.{stays_out}
use Rattle.renaming_claim.proofs.Bounds.Levels.{bounds_enter}
use Rattle.renaming_claim.proofs.Facts.Computed.{◌⊓◌}
use Rattle.renaming_claim.proofs.Facts.Sums.{ind_le, sum_le}
use Rattle.renaming_claim.proofs.Facts.Tree.{under}
use Rattle.renaming_claim.proofs.Gate.{queue_is, admitted_open, gate_before, gate_resume, gate_enter, gate_join}
use Rattle.renaming_claim.proofs.Invariant.{tally, occurs, in_subtree, Entering, Gate, Invariant}
use Rattle.renaming_claim.proofs.Mover.{Setup, Process, State, process_at, Mover, no_cost, shape, by_stage, stored, shapes_nameless}

-- who stands in the tree is admitted
tree_admitted : (t : State) (u : ℕ) → tally t.setup (in_subtree u) t.process ≤ admitted t
unfolding tally admitted is_admitted in_subtree ◌⊓◌
tree_admitted t u = sum_le _ _ _ (λ q l. go (leb getname (process_at t q).stage) (under u (process_at t q).node) _)
  where
    go : (a z w : Bool) → ind (a ⊓ z) ≤ ind (a || w)
    go true z w = ind_le z
    go false z w = omega arith

module _ {M : ℕ} {s : State} {p : ℕ} (m : Mover M s p) where
  abbrev c : Setup
  c = s.setup

  abbrev h : Process
  h = process_at s p

  pub request_keeps : h.stage ≡ remainder → Invariant M (with_process p (with_stage entry fresh_process) s)
  request_keeps e =
      let x : Process = with_stage entry fresh_process in
      record {
        shapes = shapes_nameless m x entry refl refl (no_cost c M)
            (record { home = record { root = refl; flat = refl; nameless = refl }; steps = refl; returns = refl });
        gate = gate_before m x (omega arith) (omega arith);
        bits = bits_same m x (sym (by_stage m remainder e).nameless);
        bounds = stays_out m x (omega arith) (omega arith);
      }

  module _ (k : Entering h) (out : h.stage < getname) where
    -- in the tree, with gate word a
    abbrev entered : ℤ → State
    entered a = update p (with_stage getname) (with_gate a s)

    entered_keeps : (a : ℤ) → in_range (entered a) ≡ true → admitted (entered a) ≤ M
        → Gate c (stored m (with_stage getname h)) a s.queued s.queue → Invariant M (entered a)
    entered_keeps a r few gate =
        let x : Process = with_stage getname h in
        let t : State = entered a in
        let level : log2 h.node ≡ 0 = ap log2 k.home.root ∙ depth_root in
        let all = admitted_open t gate (ranges_of t r).queue.entries in
        record {
          shapes = shapes_nameless m x getname refl k.home.nameless (shape m).cost
              (record {
                nameless = k.home.nameless;
                flat = λ _. k.home.flat;
                steps = omega (arith, k.steps, k.home.flat);
                returns = k.returns;
              });
          gate = gate;
          bits = bits_same m x refl;
          bounds =
              bounds_enter m x out (omega arith) k.home.root k.home.flat
              (omega (arith, tree_admitted t 1)) (omega (arith, tree_admitted t 1));
        }

    -- in the queue
    abbrev queueing : State
    queueing = update p (with_stage waiting) (joined p (lowered s))

    queueing_keeps : h.stage < waiting → above0 s.gate ≡ false → in_range queueing ≡ true → Invariant M queueing
    queueing_keeps low shut r =
        let x : Process = with_stage waiting h in
        let room : s.queued < length s.queue = omega (arith, (ranges_of queueing r).queue.size, m.sound.valid.sized.queue) in
        record {
          shapes = shapes_nameless m x waiting refl k.home.nameless (shape m).cost
              (record {
                home = record { root = k.home.root; flat = k.home.flat; nameless = k.home.nameless };
                steps = k.steps;
                returns = k.returns;
              });
          gate = gate_join m x low (omega arith) shut refl room;
          bits = bits_same m x refl;
          bounds = stays_out m x out (omega arith);
        }

  pub enter_keeps : h.stage ≡ entry → in_range (enter s p) ≡ true → admitted (enter s p) ≤ M → Invariant M (enter s p)
  unfolding enter
  enter_keeps e =
      let k : Entering h = by_stage m entry e in
      by_cond (λ (t : State). in_range t ≡ true → admitted t ≤ M → Invariant M t) (above0 s.gate)
      (λ free r few.
      entered_keeps k (omega arith) (pred_ℤ s.gate) r few (gate_enter m (with_stage getname h) (omega arith) (omega arith) free))
      (λ shut r few. queueing_keeps k (omega arith) (omega arith) shut r)

  pub await_keeps : h.stage ≡ waiting → in_range (await s p) ≡ true → admitted (await s p) ≤ M → Invariant M (await s p)
  unfolding await
  await_keeps e =
      let places : ℕ = occurs s.queue s.queued p in
      by_cond (λ (t : State). in_range t ≡ true → admitted t ≤ M → Invariant M t) (in_queue s p) (λ _ _ _. m.sound.inv)
      (λ out r few.
      let gone : places ≡ 0 = omega (arith, ltb-false 0 places (sym (queue_is s p) ∙ out)) in
      entered_keeps (by_stage m waiting e) (omega arith) s.gate r few
      (gate_resume m (with_stage getname h) (omega arith) (omega arith) gone))
