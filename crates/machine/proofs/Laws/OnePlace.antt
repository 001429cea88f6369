-- An event touches its own process's record and at most one shared place, one that the setup uses: the gate with its queue,
-- the counter of one node, or one segment word. By the moves. It is what one operation in a radio frame means.
--     event_touches    every event does
--     others_unchanged, setup_unchanged, unused_process, -counter, -word, sized_kept    what it therefore leaves alone
-- Assumes nothing.
use mathlib.Core.List.{List}
use Prim.Native.Nat.{ℕ, ◌*◌, ◌/◌, ◌%◌, ◌≤◌, ◌<◌}
use lib.Dec.{eqb, ltb}
use lib.ListN.{length, length-set}
use lib.Seq.{get_or-set_other}
use Rattle.machine.proofs.Rules.{◌≡◌, ◌∙◌, refl, ◌≢◌, arith, ltb-false, ltb-true, eqb-false}
use Rattle.machine.specs.Event.{event}
use Rattle.machine.specs.Gate.{above0, in_queue, head_gone, enter, await, leave}
use Rattle.machine.specs.Getname.{descend, probe, getname_step}
use Rattle.machine.specs.Putname.{give_back, climb, putname_step}
use Rattle.machine.specs.Range.{ProcessRanges}
use Rattle.machine.specs.State.{none, no_process, process_at, counter_at, word_at, Sized}
use Rattle.machine.specs.Touches.{Touches, nothing, own, gate, counter, word}
use Rattle.machine.specs.declared.Done.{Done}
use Rattle.machine.specs.declared.State.{State}
use Rattle.machine.proofs.Facts.Tests.{by_cond}
use Rattle.machine.proofs.Places.{leaf_segment, name_segment}
use Rattle.machine.proofs.Ranges.{Ranges}
use Rattle.machine.proofs.Sized.{moved_up-length}
use Rattle.machine.proofs.Moves.{Move, requests, enters, awaits, claims, returns, stays}
use Rattle.machine.proofs.Moves.{releases, Outcome, refuses, accepts, event-outcome}

module _ (s : State) (p : ℕ) (k : Ranges s) (kp : p < s.setup.processes) where
  abbrev At : State → Type 0
  At t = Touches s p t

  h : ProcessRanges s.setup (process_at s p)
  h = k.process p kp

  enter_touches : At (enter s p)
  unfolding enter
  enter_touches =
      by_cond At (above0 s.gate)
      (λ _. gate _ _ _ _ (λ e. e))
      (λ _. gate _ _ _ _ (λ e. length-set s.queue s.queued p ∙ e))

  await_touches : At (await s p)
  unfolding await
  await_touches = by_cond At (in_queue s p) (λ _. nothing) (λ _. own _)

  claim_touches : At (getname_step s p)
  unfolding getname_step descend probe
  claim_touches =
      by_cond At (ltb (process_at s p).node s.setup.leaves)
      (λ e. counter _ _ _ h.node1 (ltb-true _ _ e))
      (λ e. word _ _ _ (leaf_segment h (ltb-false _ _ e)))

  leave_touches : At (leave s p)
  unfolding leave head_gone
  leave_touches =
      gate _ _ _ _
      (λ e.
      by_cond (λ (q : List ℕ). length q ≡ 64) (eqb s.queued 0)
      (λ _. e)
      (λ _. moved_up-length s.queue (omega arith) ∙ e))

  climb_touches : 1 < (process_at s p).node → At (climb s p)
  unfolding climb
  climb_touches l =
      let u : ℕ = (process_at s p).node / 2 in
      by_cond At (eqb ((process_at s p).node % 2) 0)
      (λ _. counter _ u _ (omega arith) (omega (arith, h.node)))
      (λ _. own _)

  return_touches : At (putname_step s p)
  unfolding putname_step give_back
  return_touches =
      by_cond At (eqb (process_at s p).name none)
      (λ _. by_cond At (ltb 1 (process_at s p).node) (λ e. climb_touches (ltb-true _ _ e)) (λ _. leave_touches))
      (λ e. word _ _ _ (name_segment h k.limits.b1 (eqb-false _ _ e)))

  move_touches : {kind : ℕ} {t : State} → Move s p kind t → Touches s p t
  move_touches (requests e) = own _
  move_touches (enters e) = enter_touches
  move_touches (awaits e) = await_touches
  move_touches (claims e) = claim_touches
  move_touches (returns e) = return_touches
  move_touches (stays e) = nothing
  move_touches (releases e) = own _

module _ (s : State) (kind p : ℕ) where
  outcome_touches : {d : Done} → Outcome s kind p d → Touches s p d.state
  outcome_touches (refuses a e) = nothing
  outcome_touches (accepts k kp m e) = move_touches s p k kp m

  pub event_touches : Touches s p (event s kind p).state
  event_touches = outcome_touches (event-outcome s kind p)

-- what an event leaves alone
module _ (s : State) (p : ℕ) where
  others_in : (q : ℕ) → q ≢ p → {t : State} → Touches s p t → process_at t q ≡ process_at s q
  others_in q d nothing = refl
  others_in q d (own h) = get_or-set_other s.process p q h no_process d
  others_in q d (gate h a n x e) = get_or-set_other s.process p q h no_process d
  others_in q d (counter h v c z l) = get_or-set_other s.process p q h no_process d
  others_in q d (word h r w l) = get_or-set_other s.process p q h no_process d

  counter_in : (v : ℕ) → (0 < v → v < s.setup.leaves → ⊥) → {t : State} → Touches s p t → counter_at t v ≡ counter_at s v
  counter_in v o nothing = refl
  counter_in v o (own h) = refl
  counter_in v o (gate h a n x e) = refl
  counter_in v o (counter h u c z l) = get_or-set_other s.counters u v c 0 (λ e. o (omega arith) (omega arith))
  counter_in v o (word h r w l) = refl

  word_in : (r : ℕ) → s.setup.leaves * s.setup.segments ≤ r → {t : State} → Touches s p t → word_at t r ≡ word_at s r
  word_in r o nothing = refl
  word_in r o (own h) = refl
  word_in r o (gate h a n x e) = refl
  word_in r o (counter h v c z l) = refl
  word_in r o (word h q w l) = get_or-set_other s.words q r w 0 (λ e. omega arith)

  setup_in : {t : State} → Touches s p t → t.setup ≡ s.setup
  setup_in nothing = refl
  setup_in (own h) = refl
  setup_in (gate h a n x e) = refl
  setup_in (counter h v c z l) = refl
  setup_in (word h r w l) = refl

  sized_in : Sized s → {t : State} → Touches s p t → Sized t
  sized_in k nothing = k
  sized_in k (own h) =
      record { queue = k.queue; counters = k.counters; words = k.words; process = length-set s.process p h ∙ k.process }
  sized_in k (gate h a n x e) =
      record { queue = e k.queue; counters = k.counters; words = k.words; process = length-set s.process p h ∙ k.process }
  sized_in k (counter h v c z l) =
      record {
        queue = k.queue;
        counters = length-set s.counters v c ∙ k.counters;
        words = k.words;
        process = length-set s.process p h ∙ k.process;
      }
  sized_in k (word h r w l) =
      record {
        queue = k.queue;
        counters = k.counters;
        words = length-set s.words r w ∙ k.words;
        process = length-set s.process p h ∙ k.process;
      }

module _ (s : State) (kind p : ℕ) where
  abbrev t : State
  t = (event s kind p).state

  pub others_unchanged : (q : ℕ) → q ≢ p → process_at t q ≡ process_at s q
  others_unchanged q d = others_in s p q d (event_touches s kind p)

  pub setup_unchanged : t.setup ≡ s.setup
  setup_unchanged = setup_in s p (event_touches s kind p)

  -- places that N, L and g leave unused
  stranger : (q : ℕ) → s.setup.processes ≤ q → {d : Done} → Outcome s kind p d → process_at d.state q ≡ process_at s q
  stranger q o (refuses a e) = refl
  stranger q o (accepts k kp m e) = others_in s p q (λ i. omega arith) (move_touches s p k kp m)

  pub unused_process : (q : ℕ) → s.setup.processes ≤ q → process_at t q ≡ process_at s q
  unused_process q o = stranger q o (event-outcome s kind p)

  pub unused_counter : (v : ℕ) → (0 < v → v < s.setup.leaves → ⊥) → counter_at t v ≡ counter_at s v
  unused_counter v o = counter_in s p v o (event_touches s kind p)

  pub unused_word : (r : ℕ) → s.setup.leaves * s.setup.segments ≤ r → word_at t r ≡ word_at s r
  unused_word r o = word_in s p r o (event_touches s kind p)

  pub sized_kept : Sized s → Sized t
  sized_kept k = sized_in s p k (event_touches s kind p)
