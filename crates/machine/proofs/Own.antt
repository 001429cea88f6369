-- What an accepted event makes of its process's own record: one case for each move, with what it found. Whatever is said of one
-- record along a list goes by these cases and opens no definition of the machine.
--     Own            the cases, from the gate word and the record before the event
--     Became         the record that an event left is one of them
--     move_became    every move is
--     getname_is, claimed_returns    a getname step, by what it does; it counts no return operation
-- Assumes nothing.
use Prim.Native.Nat.{ℕ, ◌/◌, ◌%◌, ◌≤◌, ◌<◌}
use lib.Dec.{eqb, ltb}
use lib.IntN.{ℤ}
use lib.ListN.{get_or, set}
use lib.Seq.{get_or-set_same}
use Rattle.machine.proofs.Rules.{◌≡◌, refl, true, false, cond, Bool, ◌≢◌, arith, eqb-true, ltb-false, ltb-true, eqb-false}
use Rattle.machine.specs.Closed.{closed_word}
use Rattle.machine.specs.Gate.{above0, in_queue, head_gone, enter, await, leave}
use Rattle.machine.specs.Getname.{claimed, side, outcome, segment_of, descend, probe, getname_step}
use Rattle.machine.specs.Kind.{request, step, release}
use Rattle.machine.specs.Operations.{set_first_zero, bounded_decrement}
use Rattle.machine.specs.Putname.{returned, give_back, climb, putname_step}
use Rattle.machine.specs.Stage.{remainder, entry, waiting, getname, working, putname, exhausted}
use Rattle.machine.specs.State.{none, no_process, fresh_process, with_stage, with_node, with_segment, with_name}
use Rattle.machine.specs.State.{process_at, counter_at, word_at}
use Rattle.machine.specs.declared.ClaimStep.{ClaimStep}
use Rattle.machine.specs.declared.ClaimStep.TheVariants.{Left, Right, Won, NextSegment, Exhausted}
use Rattle.machine.specs.declared.Process.{Process}
use Rattle.machine.specs.declared.State.{State}
use Rattle.machine.proofs.Facts.Tests.{by_cond}
use Rattle.machine.proofs.Moves.{Move, requests, enters, awaits, claims, returns, stays, releases}
use Rattle.machine.proofs.Valid.{Valid}

pub data Own (gate : ℤ) (h : Process) : ℕ → Process → Type 0 where
  begins : h.stage ≡ remainder → Own gate h request (with_stage entry fresh_process)
  queues : h.stage ≡ entry → above0 gate ≡ false → Own gate h step (with_stage waiting h)
  passes : entry ≤ h.stage → h.stage ≤ waiting → Own gate h step (with_stage getname h)
  waits : h.stage ≡ waiting → Own gate h step h
  steps : h.stage ≡ getname → (k : ClaimStep) → Own gate h step (claimed k h)
  ends : h.stage ≡ working → Own gate h release (with_stage putname h)
  gives : h.stage ≡ putname → h.name ≢ none → Own gate h step (returned (with_name none h))
  climbs_left : h.stage ≡ putname → h.name ≡ none → 1 < h.node → h.node % 2 ≡ 0
      → Own gate h step (returned (with_node (h.node / 2) h))
  climbs_right : h.stage ≡ putname → h.name ≡ none → 1 < h.node → h.node % 2 ≢ 0 → Own gate h step (with_node (h.node / 2) h)
  leaves : h.stage ≡ putname → h.name ≡ none → h.node ≤ 1 → Own gate h step (with_stage remainder (with_segment 0 h))
  remains : h.stage ≡ exhausted → Own gate h step h

-- whatever a getname step does, return operations stay
pub claimed_returns : (k : ClaimStep) (h : Process) → (claimed k h).returns ≡ h.returns
claimed_returns (Left v) h = refl
claimed_returns (Right v) h = refl
claimed_returns (Won m) h = refl
claimed_returns (NextSegment i) h = refl
claimed_returns Exhausted h = refl

pub record Became (s t : State) (p kind : ℕ) : Type 0 where
  pub now : Process
  pub by : Own s.gate (process_at s p) kind now
  pub is : process_at t p ≡ now

module _ {s : State} {p : ℕ} (v : Valid s) (known : p < s.setup.processes) where
  abbrev h : Process
  h = process_at s p

  abbrev To : ℕ → State → Type 0
  To kind t = Became s t p kind

  -- what is stored for p stands at its place
  pub own_stored : (x : Process) → get_or (set s.process p x) p no_process ≡ x
  own_stored x = get_or-set_same s.process p x no_process (omega (arith, v.sized.process, v.ranges.limits.n64, known))

  enter_became : h.stage ≡ entry → To step (enter s p)
  unfolding enter
  enter_became e =
      by_cond (To step) (above0 s.gate)
      (λ _. record { now = with_stage getname h; by = passes (omega arith) (omega arith); is = own_stored _ })
      (λ shut. record { now = with_stage waiting h; by = queues e shut; is = own_stored _ })

  await_became : h.stage ≡ waiting → To step (await s p)
  unfolding await
  await_became e =
      by_cond (To step) (in_queue s p)
      (λ _. record { now = h; by = waits e; is = refl })
      (λ _. record { now = with_stage getname h; by = passes (omega arith) (omega arith); is = own_stored _ })

  pub getname_is : (k : ClaimStep) × (process_at (getname_step s p) p ≡ claimed k h)
  unfolding getname_step descend probe
  getname_is = go (ltb h.node s.setup.leaves)
    where
      go : (b : Bool) → (k : ClaimStep) × (process_at (cond b (descend s p) (probe s p)) p ≡ claimed k h)
      go true =
          let k : ClaimStep = side h.node (bounded_decrement (counter_at s h.node)).answer in
          (k, own_stored (claimed k h))
      go false =
          let r : ℕ = segment_of s.setup h in
          let first : ℕ = (set_first_zero s.setup.bits (closed_word s.setup r) (word_at s r)).answer in
          let k : ClaimStep = outcome s.setup r h.segment first in
          (k, own_stored (claimed k h))

  climb_became : h.stage ≡ putname → h.name ≡ none → 1 < h.node → To step (climb s p)
  unfolding climb
  climb_became e n l =
      let u : ℕ = h.node / 2 in
      by_cond (To step) (eqb (h.node % 2) 0)
      (λ i. record { now = returned (with_node u h); by = climbs_left e n l (eqb-true _ 0 i); is = own_stored _ })
      (λ i. record { now = with_node u h; by = climbs_right e n l (eqb-false _ 0 i); is = own_stored _ })

  return_became : h.stage ≡ putname → To step (putname_step s p)
  unfolding putname_step give_back leave head_gone
  return_became e =
      by_cond (To step) (eqb h.name none)
      (λ n.
      by_cond (To step) (ltb 1 h.node)
      (λ l. climb_became e (eqb-true _ _ n) (ltb-true _ _ l))
      (λ l.
      record {
        now = with_stage remainder (with_segment 0 h);
        by = leaves e (eqb-true _ _ n) (ltb-false _ _ l);
        is = own_stored _;
      }))
      (λ n. record { now = returned (with_name none h); by = gives e (eqb-false _ _ n); is = own_stored _ })

  pub move_became : {kind : ℕ} {t : State} → Move s p kind t → Became s t p kind
  move_became (requests e) = record { now = with_stage entry fresh_process; by = begins e; is = own_stored _ }
  move_became (enters e) = enter_became e
  move_became (awaits e) = await_became e
  move_became (claims e) = record { now = claimed getname_is.0 h; by = steps e getname_is.0; is = getname_is.1 }
  move_became (returns e) = return_became e
  move_became (stays e) = record { now = h; by = remains e; is = refl }
  move_became (releases e) = record { now = with_stage putname h; by = ends e; is = own_stored _ }
