-- The invariant is kept by a release and by each putname step: the bit cleared, a level climbed from the left or from the right, and
-- the tree left at node 1. They only lower what is counted. Assumes nothing.
use Prim.Native.Nat.{ℕ, ◌+◌, ◌/◌, ◌%◌, ◌≤◌, ◌<◌}
use lib.Arith.{digits_div, digits_mod}
use lib.Dec.{eqb, ltb}
use Rattle.machine.proofs.Rules.{◌≡◌, ◌∙◌, ap, refl, ◌≢◌, arith, eqb-true, ltb-false, ltb-true, eqb-false}
use Rattle.machine.specs.Gate.{head_gone, leave}
use Rattle.machine.specs.Getname.{segment_of}
use Rattle.machine.specs.Putname.{returned, give_back, climb, putname_step}
use Rattle.machine.specs.Stage.{remainder, working, putname}
use Rattle.machine.specs.State.{none, with_stage, with_node, with_segment, with_name, update}
use Rattle.machine.proofs.Facts.Tests.{by_cond}
use Rattle.machine.proofs.Places.{leaf_segment}
use Rattle.renaming_claim.proofs.Bits.{bits_same, bits_clear}
use Rattle.renaming_claim.proofs.Bounds.{stays_put}
use Rattle.renaming_claim.proofs.Bounds.Levels.{bounds_leave, bounds_up_left, bounds_up_right}
use Rattle.renaming_claim.proofs.Gate.{gate_past, gate_leave}
use Rattle.renaming_claim.proofs.Facts.Tree.{depth_le, depth_up}
use Rattle.renaming_claim.proofs.Invariant.{ReturningAt, Returning, Stands, Invariant}
use Rattle.renaming_claim.proofs.Mover.{Setup, Process, State, process_at, Mover, shape, by_stage, own_range, limits, leaves_16}
use Rattle.renaming_claim.proofs.Mover.{shapes_set, shapes_nameless}

module _ {M : ℕ} {s : State} {p : ℕ} (m : Mover M s p) where
  abbrev c : Setup
  c = s.setup

  abbrev h : Process
  h = process_at s p

  pub release_keeps : h.stage ≡ working → Invariant M (update p (with_stage putname) s)
  release_keeps e =
      let x : Process = with_stage putname h in
      record {
        shapes = shapes_set m x
            (record {
              stands = λ d.
                  let k : Stands c h = (shape m).stands d in
                  record { busy = omega arith; leaf = k.leaf; mark = k.mark; within = k.within; is = k.is };
              low = (shape m).low;
              cost = (shape m).cost;
              by =
                  record {
                    steps = omega (arith, (by_stage m working e).steps);
                    named = λ _. (by_stage m working e).returns;
                    least = λ n. absurd ((by_stage m working e).named n);
                    most = λ n. absurd ((by_stage m working e).named n);
                  };
            });
        gate = gate_past m x (omega arith) (omega arith);
        bits = bits_same m x refl;
        bounds = stays_put m x (omega arith) (omega arith) refl refl;
      }

  module _ (st : h.stage ≡ putname) where
    old : Returning c h
    old = by_stage m putname st

    give_keeps : h.name ≢ none → Invariant M (give_back s p)
    unfolding give_back
    give_keeps named =
        let x : Process = returned (with_name none h) in
        let k : Stands c h = (shape m).stands named in
        let r : ℕ = segment_of s.setup h in
        let word : h.name / c.bits ≡ r = ap (λ (n : ℕ). n / c.bits) k.is ∙ digits_div r k.within in
        let mark : h.name % c.bits ≡ k.mark = ap (λ (n : ℕ). n % c.bits) k.is ∙ digits_mod r k.within in
        let deep = depth_le c.leaves (limits m).leaves (own_range m).node in
        record {
          shapes = shapes_nameless m x putname st refl (shape m).cost
              (record {
                steps = old.steps;
                named = λ d. absurd (d refl);
                least = λ _. omega arith;
                most = λ _. omega (arith, old.named named, deep);
              });
          gate = gate_past m x (omega arith) (omega arith);
          bits = rw (word, mark) (bits_clear m (leaf_segment (own_range m) k.leaf) k.within x k.is refl);
          bounds = stays_put m x (omega arith) (omega arith) refl refl;
        }

    module _ (nameless : h.name ≡ none) where
      module _ (above : 1 < h.node) where
        abbrev u : ℕ
        u = h.node / 2

        -- one level up, where so many operations are counted
        up : (n : ℕ) → h.returns ≤ n → n ≤ h.returns + 1 → ReturningAt c u h.name h.steps n
        up n least most =
            let level = depth_up h.node above (omega (arith, (own_range m).node, leaves_16 m)) in
            record {
              steps = old.steps;
              named = λ d. absurd (d nameless);
              least = λ _. omega (arith, old.least nameless);
              most = λ _. omega (arith, old.most nameless);
            }

        climb_keeps : Invariant M (climb s p)
        unfolding climb
        climb_keeps =
            by_cond (Invariant M) (eqb (h.node % 2) 0)
            (λ e.
            let x : Process = returned (with_node u h) in
            record {
              shapes = shapes_nameless m x putname st nameless (shape m).cost (up (h.returns + 1) (omega arith) (omega arith));
              gate = gate_past m x (omega arith) (omega arith);
              bits = bits_same m x refl;
              bounds = bounds_up_left m x (omega arith) (omega arith) above refl (omega (arith, eqb-true (h.node % 2) 0 e));
            })
            (λ e.
            let x : Process = with_node u h in
            record {
              shapes = shapes_nameless m x putname st nameless (shape m).cost (up h.returns (omega arith) (omega arith));
              gate = gate_past m x (omega arith) (omega arith);
              bits = bits_same m x refl;
              bounds = bounds_up_right m x (omega arith) (omega arith) above refl (omega (arith, eqb-false (h.node % 2) 0 e));
            })

      leave_keeps : h.node ≡ 1 → Invariant M (leave s p)
      unfolding leave head_gone
      leave_keeps root =
          let x : Process = with_stage remainder (with_segment 0 h) in
          record {
            shapes = shapes_nameless m x remainder refl nameless (shape m).cost (record { root = root; flat = refl; nameless = nameless });
            gate = gate_leave m x (omega arith) (omega arith);
            bits = bits_same m x refl;
            bounds = bounds_leave m x (omega arith) root (omega arith);
          }

    pub putname_keeps : Invariant M (putname_step s p)
    unfolding putname_step
    putname_keeps =
        by_cond (Invariant M) (eqb h.name none)
        (λ e.
        by_cond (Invariant M) (ltb 1 h.node)
        (λ l. climb_keeps (eqb-true _ _ e) (ltb-true _ _ l))
        (λ l. leave_keeps (eqb-true _ _ e) (omega (arith, ltb-false 1 h.node l, (own_range m).node1))))
        (λ e. give_keeps (eqb-false _ _ e))
