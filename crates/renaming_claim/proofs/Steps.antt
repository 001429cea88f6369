-- What an event does to a process's own record: a getname step is never refused and adds 1 to its steps, a return operation to its
-- returns; a request sets both to 0; no other event changes them; and nothing but a step moves a process that is in getname. By the
-- cases of Own.
--     event_steps, event_returns    the steps and the returns after an event
--     claim_steps_lem, claim_next    after a step in getname: one more, and still there or working
--     claim-accepted    it is never refused
--     claim_waits    after any other event: as it was
-- Assumes nothing.
use Prim.Native.Nat.{ℕ, suc, ◌%◌, ◌<◌}
use native.Mathlib.Decide.{ℕ_discrete}
use native.Mathlib.Numerals.{add-one}
use lib.Dec.{eqb}
use Rattle.machine.proofs.Rules.{sym, ◌≡◌, ◌∙◌, ap, refl, true≢false, cond, false, Bool, true, ◌&&◌}
use Rattle.machine.proofs.Rules.{and-false, ◌≢◌, inl, ◌⊎◌, inr, arith, eq-eqb, eqb-true, le-ltb, lt-ltb, ne_eqb}
use Rattle.machine.specs.Answer.{accepted}
use Rattle.machine.specs.Event.{event, guarded}
use Rattle.machine.specs.Event.{step as Event-step}
use Rattle.machine.specs.Kind.{request, step}
use Rattle.machine.specs.Getname.{claimed, getname_step}
use Rattle.machine.specs.Lists.{Event, event_done}
use Rattle.machine.specs.Range.{in_range}
use Rattle.machine.specs.Stage.{getname, working, putname, exhausted}
use Rattle.machine.specs.State.{done, none, figure}
use Rattle.machine.specs.declared.ClaimStep.{ClaimStep}
use Rattle.machine.specs.declared.ClaimStep.TheVariants.{Left, Right, Won, NextSegment, Exhausted}
use Rattle.machine.specs.declared.Done.{Done}
use Rattle.machine.proofs.Facts.Tests.{and_left, and_right}
use Rattle.machine.proofs.Laws.OnePlace.{others_unchanged}
use Rattle.machine.proofs.Laws.Room.Getname.{getname_room_lem}
use Rattle.machine.proofs.Moves.{Outcome, refuses, accepts, event-outcome}
use Rattle.machine.proofs.Own.{Own, begins, queues, passes, waits, steps, ends, gives, climbs_left, climbs_right, leaves, remains}
use Rattle.machine.proofs.Own.{getname_is, claimed_returns, move_became}
use Rattle.machine.proofs.Ranges.{in_range_lem}
use Rattle.renaming_claim.specs.History.{step_of, request_of, claim_of, returns_part, return_of}
use Rattle.renaming_claim.proofs.Facts.Tree.{height_four}
use Rattle.renaming_claim.proofs.Mover.{Setup, Process, State, process_at, Mover, shape, by_stage, limits}

module _ {M : ℕ} {s : State} {p : ℕ} (m : Mover M s p) where
  abbrev c : Setup
  c = s.setup

  abbrev h : Process
  h = process_at s p

  -- p's steps in t
  abbrev steps_in : State → ℕ
  steps_in t = (process_at t p).steps

  stepped : (k : ClaimStep) × (process_at (getname_step s p) p ≡ claimed k h)
  stepped = getname_is m.sound.valid m.known

  -- the height is at most 4, the segments at most 8 and nothing is returned yet, so that the figure has room
  few_steps : h.stage ≡ getname → figure h < 255
  few_steps e =
      omega (arith, (shape m).cost.most, (by_stage m getname e).returns, height_four c.leaves (limits m).leaves, (limits m).g8)

  -- a step in getname is accepted
  pub claim-accepted : h.stage ≡ getname → event s step p ≡ done 0 (getname_step s p)
  unfolding event Event-step guarded
  claim-accepted e =
      let ranges = m.sound.valid.ranges in
      let room : in_range (getname_step s p) ≡ true
      = getname_room_lem s p ranges m.known m.sound.valid.sized.process ∙ lt-ltb (figure h) 255 (few_steps e) in
      simp (in_range_lem s ranges, lt-ltb p c.processes m.known, e, room)

  module _ (st : h.stage ≡ getname) (e : Event) where
    abbrev t : State
    t = (event_done s e).state

    claim_is : step_of p e ≡ true → t ≡ getname_step s p
    claim_is i =
        let own : e.process ≡ p = eqb-true _ _ (and_left (eqb e.process p) (eqb e.kind step) i) in
        let is-step : e.kind ≡ step = eqb-true _ _ (and_right (eqb e.process p) (eqb e.kind step) i) in
        ap (λ (d : Done). d.state) (ap (event s e.kind) own ∙ ap (λ (kind : ℕ). event s kind p) is-step ∙ claim-accepted st)

    pub claim_steps_lem : step_of p e ≡ true → steps_in t ≡ suc h.steps
    claim_steps_lem i = rw (claim_is i) (ap (λ (x : Process). x.steps) stepped.1 ∙ add-one h.steps)

    -- nothing else is left by the invariant
    pub claim_next : step_of p e ≡ true → (process_at t p).stage ≢ exhausted
        → ((process_at t p).stage ≡ working) ⊎ ((process_at t p).stage ≡ getname)
    claim_next i there = go stepped.0 (rw (claim_is i) (ap (λ (x : Process). x.stage) stepped.1))
      where
        go : (k : ClaimStep) → (process_at t p).stage ≡ (claimed k h).stage
            → ((process_at t p).stage ≡ working) ⊎ ((process_at t p).stage ≡ getname)
        go (Left u) is = inr (is ∙ st)
        go (Right u) is = inr (is ∙ st)
        go (Won n) is = inl is
        go (NextSegment n) is = inr (is ∙ st)
        go Exhausted is = absurd (there is)

    pub claim_waits : step_of p e ≡ false → process_at t p ≡ h
    claim_waits off = go (ℕ_discrete e.process p)
      where
        -- a claiming process is neither asking nor working
        kept : {kind : ℕ} {x : Process} → Own s.gate h kind x → kind ≢ step → x ≡ h
        kept (begins i) n = absurd (omega arith)
        kept (queues i shut) n = absurd (n refl)
        kept (passes low high) n = absurd (n refl)
        kept (waits i) n = refl
        kept (steps i k) n = absurd (n refl)
        kept (ends i) n = absurd (omega arith)
        kept (gives i d) n = absurd (n refl)
        kept (climbs_left i d l even) n = absurd (n refl)
        kept (climbs_right i d l odd) n = absurd (n refl)
        kept (leaves i d l) n = absurd (n refl)
        kept (remains i) n = refl

        same : {kind : ℕ} {d : Done} → Outcome s kind p d → kind ≢ step → process_at d.state p ≡ h
        same (refuses a k) n = refl
        same (accepts k kp mv r) n = let b = move_became m.sound.valid m.known mv in b.is ∙ kept b.by n

        go : Dec (e.process ≡ p) → process_at t p ≡ h
        go (no i) = others_unchanged s e.kind e.process p (λ q. i (sym q))
        go (yes i) =
            let no_step : e.kind ≢ step = λ k. true≢false (sym (rw (eq-eqb e.process p i, eq-eqb e.kind step k)) ∙ off) in
            rw i (same (event-outcome s e.kind p) no_step)

  -- A number of the record that an accepted request sets to 0, to which a step of p adds 1 where its answer passes a test, and which no
  -- other event changes: it follows the tests of History.
  module _ (f : Process → ℕ) (test : ℕ → Bool) where
    abbrev counted : ℕ → ℕ → ℕ
    counted kind a = cond (eqb kind request && eqb a 0) 0 (cond (eqb kind step && test a) (suc (f h)) (f h))

    abbrev Follows : Type 0
    Follows = (kind : ℕ) (x : Process) → Own s.gate h kind x → f x ≡ counted kind 0

    -- a refused step counts nothing
    abbrev Refused : Type 0
    Refused = (a : ℕ) → (event s step p).answer ≡ a → 0 < a → test a ≡ false

    refused_counts : Refused → (kind a : ℕ) → (event s kind p).answer ≡ a → 0 < a → f h ≡ counted kind a
    refused_counts none kind a is k = rw (ne_eqb a 0 (λ e. omega arith), and-false (eqb kind request)) (go (eqb kind step) refl)
      where
        go : (x : Bool) → eqb kind step ≡ x → f h ≡ cond (x && test a) (suc (f h)) (f h)
        go true e = rw (none a (ap (λ (n : ℕ). (event s n p).answer) (sym (eqb-true kind step e)) ∙ is) k)
        go false e = refl

    outcome_counts : Refused → Follows → {kind : ℕ} {d : Done} → Outcome s kind p d → (event s kind p).answer ≡ d.answer
        → f (process_at d.state p) ≡ counted kind d.answer
    outcome_counts none follows {kind} (refuses a k) is = refused_counts none kind a is k
    outcome_counts none follows (accepts k kp mv i) is =
        let b = move_became m.sound.valid m.known mv in ap f b.is ∙ follows _ _ b.by

    event_counts : Refused → Follows → (e : Event)
        → f (process_at (event_done s e).state p)
        ≡ cond (request_of p s e) 0 (cond (step_of p e && test (event_done s e).answer) (suc (f h)) (f h))
    event_counts none follows e = go (ℕ_discrete e.process p)
      where
        go : Dec (e.process ≡ p)
            → f (process_at (event_done s e).state p)
            ≡ cond (request_of p s e) 0 (cond (step_of p e && test (event_done s e).answer) (suc (f h)) (f h))
        go (yes i) = rw (i, eq-eqb p p refl) (outcome_counts none follows (event-outcome s e.kind p) refl)
        go (no i) = rw (ne_eqb e.process p i) (ap f (others_unchanged s e.kind e.process p (λ t. i (sym t))))

  claim_follows : {kind : ℕ} {x : Process} → Own s.gate h kind x
      → x.steps ≡ counted (λ y. y.steps) (λ _. eqb h.stage getname) kind 0
  claim_follows (begins e) = refl
  claim_follows (queues e shut) = rw e
  claim_follows (passes low high) = rw (ne_eqb h.stage getname (λ z. omega arith))
  claim_follows (waits e) = rw e
  claim_follows (steps e k) = rw e (add-one h.steps)
  claim_follows (ends e) = refl
  claim_follows (gives e n) = rw e
  claim_follows (climbs_left e n l even) = rw e
  claim_follows (climbs_right e n l odd) = rw e
  claim_follows (leaves e n l) = rw e
  claim_follows (remains e) = rw e

  pub event_steps : (e : Event)
      → (process_at (event_done s e).state p).steps ≡ cond (request_of p s e) 0 (cond (claim_of p s e) (suc h.steps) h.steps)
  event_steps =
      event_counts (λ x. x.steps) (λ _. eqb h.stage getname)
      (λ a is k. ne_eqb h.stage getname (λ e. omega (arith, is, ap (λ (d : Done). d.answer) (claim-accepted e))))
      (λ _ _ o. claim_follows o)

  return_follows : {kind : ℕ} {x : Process} → Own s.gate h kind x
      → x.returns ≡ counted (λ y. y.returns) (λ a. eqb a accepted && returns_part h) kind 0
  return_follows (begins e) = refl
  return_follows (queues e shut) = rw e
  return_follows (passes low high) = rw (ne_eqb h.stage putname (λ z. omega arith))
  return_follows (waits e) = rw e
  return_follows (steps e k) = rw e (claimed_returns k h)
  return_follows (ends e) = refl
  return_follows (gives e n) = rw (e, ne_eqb h.name none n) (add-one h.returns)
  return_follows (climbs_left e n l even) = rw (e, n, lt-ltb 1 h.node l, even) (add-one h.returns)
  return_follows (climbs_right e n l odd) = rw (e, n, lt-ltb 1 h.node l, ne_eqb (h.node % 2) 0 odd)
  return_follows (leaves e n l) = rw (e, n, le-ltb 1 h.node l)
  return_follows (remains e) = rw e

  pub event_returns : (e : Event)
      → (process_at (event_done s e).state p).returns ≡ cond (request_of p s e) 0 (cond (return_of p s e) (suc h.returns) h.returns)
  event_returns =
      event_counts (λ x. x.returns) (λ a. eqb a accepted && returns_part h)
      (λ a is k. rw (ne_eqb a accepted (λ e. omega arith))) (λ _ _ o. return_follows o)
