-- Stages 1, 2 and 6: entering stays in range exactly when the gate word and the queue have room, and waiting always does.
-- The gate word and the queue's length after the step are read off, both ways. Assumes nothing.
use Prim.Native.Nat.{ℕ, zero, suc, ◌<◌}
use lib.Dec.{ltb, leb-suc-suc}
use lib.IntN.{ℤ, pos, negsuc, suc_ℤ, pred_ℤ}
use Rattle.machine.proofs.Rules.{◌≡◌, ◌∙◌, sym, refl, true, false, cond, Bool, ◌&&◌}
use Rattle.machine.proofs.Rules.{false≢true, arith, lt-ltb, le-leb, ltb-true, leb-true}
use Rattle.machine.specs.Gate.{above0, in_queue, lowered, joined, enter, await}
use Rattle.machine.specs.Range.{gate_in_range, in_range, ProcessRanges}
use Rattle.machine.specs.Room.{can_fall, can_rise, enter_room}
use Rattle.machine.specs.Stage.{waiting, getname}
use Rattle.machine.specs.Setup.{open_names}
use Rattle.machine.specs.State.{with_stage, process_at, update}
use Rattle.machine.specs.declared.State.{State}
use Rattle.machine.proofs.Facts.Tests.{by_cond, both, and_left, and_right, same_test}
use Rattle.machine.proofs.Ranges.{Ranges, ranges_of, in_range_lem}
use Rattle.machine.proofs.Stores.{new_stage, store_process, set_gate, join_queue}

gate_falls : (k : ℕ) (a : ℤ) → gate_in_range k a ≡ true → gate_in_range k (pred_ℤ a) ≡ can_fall a
unfolding gate_in_range can_fall
gate_falls k (pos zero) e = refl
gate_falls k (pos (suc n)) e = le-leb n k (omega (arith, leb-true (suc n) k e))
gate_falls k (negsuc n) e = leb-suc-suc (suc n) 63

pub gate_rises : (k : ℕ) (a : ℤ) → gate_in_range k a ≡ true → gate_in_range k (suc_ℤ a) ≡ can_rise k a
unfolding gate_in_range can_rise
gate_rises k (pos n) e = refl
gate_rises k (negsuc zero) e = le-leb 0 k (omega arith)
gate_rises k (negsuc (suc n)) e = lt-ltb n 64 (omega (arith, ltb-true (suc n) 64 e))

pub above_falls : (a : ℤ) → above0 a ≡ true → can_fall a ≡ true
unfolding above0 can_fall
above_falls (pos n) e = refl
above_falls (negsuc n) e = absurd (false≢true e)

module _ (s : State) (p : ℕ) (k : Ranges s) (kp : p < s.setup.processes) where
  h : ProcessRanges s.setup (process_at s p)
  h = k.process p kp

  lowered_ranges : can_fall s.gate ≡ true → Ranges (lowered s)
  lowered_ranges e = set_gate s k (pred_ℤ s.gate) (gate_falls (open_names s.setup) s.gate k.gate ∙ e)

  queue_room : in_range (update p (with_stage waiting) (joined p (lowered s))) ≡ (can_fall s.gate && ltb s.queued 64)
  queue_room =
      same_test _ (can_fall s.gate && ltb s.queued 64)
      (λ i.
      let r = ranges_of _ i in
      both (sym (gate_falls (open_names s.setup) s.gate k.gate) ∙ r.gate) (lt-ltb s.queued 64 (omega (arith, r.queue.size))))
      (λ i.
      let falls = lowered_ranges (and_left (can_fall s.gate) (ltb s.queued 64) i) in
      let free = ltb-true s.queued 64 (and_right (can_fall s.gate) (ltb s.queued 64) i) in
      in_range_lem _ (store_process _ (join_queue (lowered s) falls p kp free) p _ (new_stage 2 (omega arith) h)))

  pub enter_room_lem : in_range (enter s p) ≡ enter_room s
  unfolding enter
  enter_room_lem = go (above0 s.gate) refl
    where
      go : (t : Bool) → above0 s.gate ≡ t
          → in_range (cond t (update p (with_stage getname) (lowered s)) (update p (with_stage waiting) (joined p (lowered s))))
          ≡ cond t true (can_fall s.gate && ltb s.queued 64)
      go true e =
          in_range_lem _ (store_process (lowered s) (lowered_ranges (above_falls s.gate e)) p _ (new_stage 3 (omega arith) h))
      go false e = queue_room

  pub await_room : in_range (await s p) ≡ true
  unfolding await
  await_room =
      by_cond (λ (t : State). in_range t ≡ true) (in_queue s p)
      (λ _. in_range_lem s k)
      (λ _. in_range_lem _ (store_process s k p _ (new_stage 3 (omega arith) h)))
