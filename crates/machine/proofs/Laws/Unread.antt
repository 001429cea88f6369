-- Places that N, L and g leave unused are never read: two states that differ there alone give the same answer to every event, and
-- differ there alone afterwards. Each test of a step looks at used places, and each store is made on both sides.
--     event_alike     an event keeps states alike, with one answer
-- Assumes nothing.
use mathlib.Core.List.{List}
use Prim.Native.Nat.{ℕ, ◌+◌, ◌*◌, ◌-◌, ◌/◌, ◌%◌, ◌^◌, ◌≤◌, ◌<◌}
use native.Mathlib.Decide.{ℕ_discrete}
use lib.Dec.{eqb, ltb, leb}
use lib.IntN.{ℤ, suc_ℤ}
use lib.ListN.{get_or, set}
use Rattle.machine.proofs.Rules.{◌≡◌, ap, refl, true, false, cond, Bool, ◌||◌, arith, eq-eqb, ltb-false, ltb-true, eqb-false}
use Rattle.machine.specs.Below.{all_below}
use Rattle.machine.specs.Event.{refused, request, release, guarded, stages, stay, step, kinds, event}
use Rattle.machine.specs.Gate.{above0, in_queue, moved_up, head_gone, enter, await, leave}
use Rattle.machine.specs.Getname.{segment_of, descend, probe, getname_step}
use Rattle.machine.specs.Putname.{give_back, climb, putname_step}
use Rattle.machine.specs.Closed.{is_open}
use Rattle.machine.specs.Operations.{bit}
use Rattle.machine.specs.Range.{counter_test, word_test, closed_test, process_test, in_range, ProcessRanges}
use Rattle.machine.specs.Stage.{remainder, waiting, getname, working}
use Rattle.machine.specs.State.{done, none, no_process, with_stage, with_segment, process_at}
use Rattle.machine.specs.State.{counter_at, with_gate, with_queue, with_counter, with_word, with_process, update}
use Rattle.machine.specs.Touches.{with_arrays, Alike, alike, Same}
use Rattle.machine.specs.declared.Done.{Done}
use Rattle.machine.specs.declared.Process.{Process}
use Rattle.machine.specs.declared.Setup.{Setup}
use Rattle.machine.specs.declared.State.{State}
use Rattle.machine.proofs.Facts.Below.{all_same}
use Rattle.machine.proofs.Facts.Lists.{store_agrees}
use Rattle.machine.proofs.Facts.Rows.{by_row}
use Rattle.machine.proofs.Places.{leaf_segment, name_segment}
use Rattle.machine.proofs.Ranges.{Ranges, ranges_of}

-- the same store on both sides
gate_alike : {s t : State} (a : ℤ) → Alike s t → Alike (with_gate a s) (with_gate a t)
gate_alike a (alike x k) = alike x k

queue_alike : {s t : State} (n : ℕ) (q : List ℕ) → Alike s t → Alike (with_queue n q s) (with_queue n q t)
queue_alike n q (alike x k) = alike x k

counter_alike : {s t : State} (v n : ℕ) → Alike s t → Alike (with_counter v n s) (with_counter v n t)
counter_alike v n (alike x k) =
    alike (record { counters = set x.counters v n; words = x.words; process = x.process })
    (record { counters = store_agrees v n k.counters; words = k.words; process = k.process })

word_alike : {s t : State} (r n : ℕ) → Alike s t → Alike (with_word r n s) (with_word r n t)
word_alike r n (alike x k) =
    alike (record { counters = x.counters; words = set x.words r n; process = x.process })
    (record { counters = k.counters; words = store_agrees r n k.words; process = k.process })

process_alike : {s t : State} (p : ℕ) (h : Process) → Alike s t → Alike (with_process p h s) (with_process p h t)
process_alike p h (alike x k) =
    alike (record { counters = x.counters; words = x.words; process = set x.process p h })
    (record { counters = k.counters; words = k.words; process = store_agrees p h k.process })

cond_alike : (b : Bool) {x y x' y' : State} → (b ≡ true → Alike x x') → (b ≡ false → Alike y y') → Alike (cond b x y) (cond b x' y')
cond_alike true f g = f refl
cond_alike false f g = g refl

update_alike : {s t : State} (p : ℕ) → p < s.setup.processes → (f : Process → Process) → Alike s t → Alike (update p f s) (update p f t)
update_alike p l f (alike x k) = rw (k.process.at p l) (process_alike p _ (alike x k))

range_alike : {s t : State} → Alike s t → in_range t ≡ in_range s
unfolding in_range
range_alike {s} (alike x k) =
    simp (
      all_same c.leaves (λ v. counter_test c v (get_or x.counters v 0)) (λ v. counter_test c v (counter_at s v))
          (λ v l. counter_same v l (ℕ_discrete v 0)),
      all_same (c.leaves * c.segments) (word_test c x.words) (word_test c s.words)
          (λ r l. ap (λ (w : ℕ). ltb w (2 ^ c.bits)) (k.words.at r l)),
      all_same (c.leaves * c.segments) (closed_test c x.words) (closed_test c s.words)
          (λ r l. ap (λ (w : ℕ). all_below c.bits (λ i. is_open c (r * c.bits + i) || eqb (bit w i) 0)) (k.words.at r l)),
      all_same c.processes (λ p. process_test c (get_or x.process p no_process)) (λ p. process_test c (process_at s p))
          (λ p l. ap (process_test c) (k.process.at p l)),
    )
  where
    c : Setup
    c = s.setup

    counter_same : (v : ℕ) → v < c.leaves → Dec (v ≡ 0) → counter_test c v (get_or x.counters v 0) ≡ counter_test c v (counter_at s v)
    counter_same v l (yes e) = rw (eq-eqb v 0 e)
    counter_same v l (no d) = ap (counter_test c v) (k.counters.at v (omega arith, l))

-- each step, where p is a process of s
module _ {s : State} (ranges : Ranges s) (p : ℕ) (l : p < s.setup.processes) where
  h : ProcessRanges s.setup (process_at s p)
  h = ranges.process p l

  enter_alike : {t : State} → Alike s t → Alike (enter s p) (enter t p)
  unfolding enter
  enter_alike (alike x k) =
      let a : Alike s (with_arrays x s) = alike x k in
      cond_alike (above0 s.gate)
      (λ _. update_alike p l (with_stage getname) (gate_alike _ a))
      (λ _. update_alike p l (with_stage waiting) (queue_alike _ _ (gate_alike _ a)))

  await_alike : {t : State} → Alike s t → Alike (await s p) (await t p)
  unfolding await
  await_alike (alike x k) =
      let a : Alike s (with_arrays x s) = alike x k in
      cond_alike (in_queue s p) (λ _. a) (λ _. update_alike p l (with_stage getname) a)

  descend_alike : (process_at s p).node < s.setup.leaves → {t : State} → Alike s t → Alike (descend s p) (descend t p)
  unfolding descend
  descend_alike e (alike x k) =
      rw (k.process.at p l)
      (rw (k.counters.at (process_at s p).node (h.node1, e)) (process_alike p _ (counter_alike _ _ (alike x k))))

  probe_alike : s.setup.leaves ≤ (process_at s p).node → {t : State} → Alike s t → Alike (probe s p) (probe t p)
  unfolding probe
  probe_alike e (alike x k) =
      rw (k.process.at p l)
      (rw (k.words.at (segment_of s.setup (process_at s p)) (leaf_segment h e)) (process_alike p _ (word_alike _ _ (alike x k))))

  claim_alike : {t : State} → Alike s t → Alike (getname_step s p) (getname_step t p)
  unfolding getname_step
  claim_alike (alike x k) =
      let a : Alike s (with_arrays x s) = alike x k in
      rw (k.process.at p l)
      (cond_alike (ltb (process_at s p).node s.setup.leaves)
      (λ e. descend_alike (ltb-true _ _ e) a)
      (λ e. probe_alike (ltb-false _ _ e) a))

  give_alike : ((process_at s p).name ≡ none → ⊥) → {t : State} → Alike s t → Alike (give_back s p) (give_back t p)
  unfolding give_back
  give_alike d (alike x k) =
      rw (k.process.at p l)
      (rw (k.words.at ((process_at s p).name / s.setup.bits) (name_segment h ranges.limits.b1 d))
      (process_alike p _ (word_alike _ _ (alike x k))))

  leave_alike : {t : State} → Alike s t → Alike (leave s p) (leave t p)
  unfolding leave head_gone
  leave_alike (alike x k) =
      let q : List ℕ = cond (eqb s.queued 0) s.queue (moved_up s.queue) in
      let gone : Alike (head_gone s) (head_gone (with_arrays x s)) = queue_alike {s = s} (s.queued - 1) q (alike x k) in
      update_alike p l (λ x. with_stage remainder (with_segment 0 x)) (gate_alike (suc_ℤ s.gate) gone)

  climb_alike : 1 < (process_at s p).node → {t : State} → Alike s t → Alike (climb s p) (climb t p)
  unfolding climb
  climb_alike above (alike x k) =
      let u : ℕ = (process_at s p).node / 2 in
      let a : Alike s (with_arrays x s) = alike x k in
      rw (k.process.at p l)
      (rw (k.counters.at u (omega arith, omega (arith, h.node)))
      (cond_alike (eqb ((process_at s p).node % 2) 0)
      (λ _. process_alike p _ (counter_alike u (counter_at s u + 1) a))
      (λ _. process_alike p _ a)))

  return_alike : {t : State} → Alike s t → Alike (putname_step s p) (putname_step t p)
  unfolding putname_step
  return_alike (alike x k) =
      let a : Alike s (with_arrays x s) = alike x k in
      rw (k.process.at p l)
      (cond_alike (eqb (process_at s p).name none)
      (λ _. cond_alike (ltb 1 (process_at s p).node) (λ e. climb_alike (ltb-true _ _ e) a) (λ _. leave_alike a))
      (λ e. give_alike (eqb-false _ _ e) a))

same : {s t : State} (a : ℕ) → Alike s t → Same (done a s) (done a t)
same a k = record { answer = refl; states = k }

cond_same : (b : Bool) {x y x' y' : Done} → (b ≡ true → Same x x') → (b ≡ false → Same y y') → Same (cond b x y) (cond b x' y')
cond_same true f g = f refl
cond_same false f g = g refl

module _ {s : State} (ranges : Ranges s) (p : ℕ) (l : p < s.setup.processes) where
  guarded_same : (f : State → ℕ → State) {t : State} → Alike s t → Alike (f s p) (f t p) → Same (guarded f s p) (guarded f t p)
  unfolding guarded
  guarded_same f {t} a m =
      rw (range_alike m) (cond_same (in_range (f s p)) (λ _. same 0 m) (λ _. same 15 a))

  step_same : (stage : ℕ) {t : State} → Alike s t → Same (get_or stages stage (refused 15) s p) (get_or stages stage (refused 15) t p)
  step_same stage {t} a =
      by_row (λ _ f. Same (f s p) (f t p)) stages (refused 15) (
        same 8 a,
        (
          guarded_same enter a (enter_alike ranges p l a),
          (
            guarded_same await a (await_alike ranges p l a),
            (
              guarded_same getname_step a (claim_alike ranges p l a),
              (
                same 8 a,
                (
                  guarded_same putname_step a (return_alike ranges p l a),
                  (
                    guarded_same stay a a,
                    λ _. same 15 a,
                  ),
                ),
              ),
            ),
          ),
        ),
      )
      stage

  request_same : {t : State} → Alike s t → Same (request s p) (request t p)
  unfolding request
  request_same (alike x k) =
      let a : Alike s (with_arrays x s) = alike x k in
      rw (k.process.at p l)
      (cond_same (eqb (process_at s p).stage remainder) (λ _. same 0 (process_alike p _ a)) (λ _. same 7 a))

  turn_same : {t : State} → Alike s t → Same (step s p) (step t p)
  unfolding step
  turn_same (alike x k) = rw (k.process.at p l) (step_same (process_at s p).stage (alike x k))

  release_same : {t : State} → Alike s t → Same (release s p) (release t p)
  unfolding release
  release_same (alike x k) =
      let a : Alike s (with_arrays x s) = alike x k in
      rw (k.process.at p l)
      (cond_same (eqb (process_at s p).stage working) (λ _. same 0 (process_alike p _ a)) (λ _. same 9 a))

  kind_same : (kind : ℕ) {t : State} → Alike s t → Same (get_or kinds kind (refused 12) s p) (get_or kinds kind (refused 12) t p)
  kind_same kind {t} a =
      by_row (λ _ f. Same (f s p) (f t p)) kinds (refused 12) (request_same a, (turn_same a, (release_same a, λ _. same 12 a))) kind

pub event_alike : {s t : State} → Alike s t → (kind p : ℕ) → Same (event s kind p) (event t kind p)
unfolding event
event_alike {s} (alike x k) kind p =
    let a : Alike s (with_arrays x s) = alike x k in
    rw (range_alike a)
    (cond_same (in_range s)
    (λ e.
    cond_same (leb kind 2)
    (λ _. cond_same (ltb p s.setup.processes) (λ l. kind_same (ranges_of s e) p (ltb-true _ _ l) kind a) (λ _. same 6 a))
    (λ _. same 12 a))
    (λ _. same 15 a))
