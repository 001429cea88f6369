-- Stage 5: a putname step stays in range exactly when the counter that it raises is below its fresh value, or, at node 1, the
-- gate word below k, and when its figure has room for the return operation that it counts. The numbers that rise are read off, both
-- ways. Assumes nothing.
use Prim.Native.Nat.{ℕ, ◌+◌, ◌*◌, ◌/◌, ◌%◌, ◌<◌}
use lib.Dec.{eqb, ltb}
use lib.IntN.{suc_ℤ}
use lib.ListN.{length}
use lib.Seq.{get_or-set_same}
use Rattle.machine.proofs.Rules.{◌≡◌, ◌∙◌, sym, refl, true, false, cond, Bool, ◌&&◌, arith, lt-ltb, ltb-true, eqb-false}
use Rattle.machine.specs.Gate.{head_gone, leave}
use Rattle.machine.specs.Operations.{clr_bit}
use Rattle.machine.specs.Putname.{returned, give_back, climb, putname_step}
use Rattle.machine.specs.Range.{in_range, ProcessRanges}
use Rattle.machine.specs.Room.{can_rise, has_room, climb_room, putname_room}
use Rattle.machine.specs.Stage.{remainder}
use Rattle.machine.specs.Setup.{open_names}
use Rattle.machine.specs.State.{none, with_stage, with_segment, with_node, with_name, figure, process_at}
use Rattle.machine.specs.State.{counter_at, word_at, fresh_counter, with_counter, with_process, update, Sized}
use Rattle.machine.specs.declared.Process.{Process}
use Rattle.machine.specs.declared.State.{State}
use Rattle.machine.proofs.Facts.Tests.{both, and_left, and_right, same_test}
use Rattle.machine.proofs.Facts.Leaves.{leaves_high}
use Rattle.machine.proofs.Facts.Words.{clr_bit_le, clr_bit_closed}
use Rattle.machine.proofs.Laws.Room.Gate.{gate_rises}
use Rattle.machine.proofs.Places.{name_segment}
use Rattle.machine.proofs.Ranges.{WordRanges, Ranges, ranges_of, in_range_lem}
use Rattle.machine.proofs.Stores.{new_node, new_name, new_returns, own_record, store_process, store_counter, store_word}
use Rattle.machine.proofs.Stores.{set_gate, advance_queue}

module _ (s : State) (p : ℕ) (k : Ranges s) (kp : p < s.setup.processes) (z : Sized s) where
  abbrev h : Process
  h = process_at s p

  kh : ProcessRanges s.setup h
  kh = k.process p kp

  -- the parent, whose counter rises where p came from the left
  abbrev u : ℕ
  u = h.node / 2

  -- one return operation more was counted in range, so there was room for it
  return_room : (x : Process) → figure x ≡ figure h → ProcessRanges s.setup (process_at (with_process p (returned x) s) p)
      → has_room h ≡ true
  return_room x e kx =
      let own : ProcessRanges s.setup (returned x) = rw (own_record s k p (returned x) kp z.process) at kx in
      lt-ltb (figure h) 255 (omega (arith, own.shown))

  module _ (above : 1 < h.node) where
    up : ProcessRanges s.setup (with_node u h)
    up = new_node u (omega arith) (omega (arith, kh.node)) kh

    below : u < s.setup.leaves
    below = omega (arith, kh.node)

    -- from the left: the counter and the figure rise
    abbrev raised : State
    raised = with_counter u (counter_at s u + 1) s

    counter_room :
        in_range (update p (λ x. returned (with_node u x)) raised)
        ≡ (ltb (counter_at s u) (fresh_counter s.setup u) && has_room h)
    counter_room =
        let inside : u < length s.counters = omega (arith, below, leaves_high s.setup.leaves k.limits.leaves, z.counters) in
        let t : State = update p (λ x. returned (with_node u x)) raised in
        same_test _ (ltb (counter_at s u) (fresh_counter s.setup u) && has_room h)
        (λ i.
        let high = rw (get_or-set_same s.counters u (counter_at s u + 1) 0 inside) at ((ranges_of t i).counters u (omega arith) below) in
        both (lt-ltb (counter_at s u) (fresh_counter s.setup u) (omega arith))
        (return_room (with_node u h) refl ((ranges_of t i).process p kp)))
        (λ i.
        let room : counter_at s u < fresh_counter s.setup u = ltb-true _ _ (and_left _ _ i) in
        let shown : figure h < 255 = ltb-true _ _ (and_right (ltb (counter_at s u) (fresh_counter s.setup u)) _ i) in
        in_range_lem _ (store_process _ (store_counter s k u (counter_at s u + 1) (omega arith)) p _ (new_returns _ (omega arith) up)))

    climb_room_lem : in_range (climb s p) ≡ climb_room s p
    unfolding climb
    climb_room_lem = go (eqb (h.node % 2) 0)
      where
        go : (t : Bool)
            → in_range (cond t (update p (λ x. returned (with_node u x)) raised) (update p (with_node u) s))
            ≡ cond t (ltb (counter_at s u) (fresh_counter s.setup u) && has_room h) true
        go true = counter_room
        go false = in_range_lem _ (store_process s k p _ up)

  leave_room : in_range (leave s p) ≡ can_rise (open_names s.setup) s.gate
  unfolding leave head_gone
  leave_room =
      let rises = gate_rises (open_names s.setup) s.gate k.gate in
      let left : ProcessRanges s.setup (with_stage remainder (with_segment 0 h))
      = record { stage = omega arith; node1 = kh.node1; node = kh.node; segment = k.limits.g1; name = kh.name; shown = kh.shown } in
      same_test _ (can_rise (open_names s.setup) s.gate)
      (λ i. sym rises ∙ (ranges_of (leave s p) i).gate)
      (λ i. in_range_lem _ (store_process _ (set_gate (head_gone s) (advance_queue s k z.queue) (suc_ℤ s.gate) (rises ∙ i)) p _ left))

  name_room : (h.name ≡ none → ⊥) → in_range (give_back s p) ≡ has_room h
  unfolding give_back
  name_room d =
      let r : ℕ = h.name / s.setup.bits in
      let i : ℕ = h.name % s.setup.bits in
      let l : r < s.setup.leaves * s.setup.segments = name_segment kh k.limits.b1 d in
      let w : WordRanges s.setup r (clr_bit (word_at s r) i)
      = record {
        size = omega (arith, clr_bit_le (word_at s r) i, (k.words r l).size);
        shut = λ j m o. clr_bit_closed (word_at s r) i j ((k.words r l).shut j m o);
      } in
      let nameless : ProcessRanges s.setup (with_name none h) = new_name none (λ n. absurd (n refl)) kh in
      same_test _ (has_room h)
      (λ e. return_room (with_name none h) refl ((ranges_of (give_back s p) e).process p kp))
      (λ e.
      let shown : figure h < 255 = ltb-true _ _ e in
      in_range_lem _ (store_process _ (store_word s k r _ w) p _ (new_returns _ (omega arith) nameless)))

  pub putname_room_lem : in_range (putname_step s p) ≡ putname_room s p
  unfolding putname_step
  putname_room_lem = go (eqb h.name none) (ltb 1 h.node) refl refl
    where
      go : (t above : Bool) → eqb h.name none ≡ t → ltb 1 h.node ≡ above
          → in_range (cond t (cond above (climb s p) (leave s p)) (give_back s p))
          ≡ cond t (cond above (climb_room s p) (can_rise (open_names s.setup) s.gate)) (has_room h)
      go true true e l = climb_room_lem (ltb-true _ _ l)
      go true false e l = leave_room
      go false above e l = name_room (eqb-false _ _ e)
