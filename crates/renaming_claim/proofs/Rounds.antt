-- An idle process that has had an accepted request has made a full round: it took a step for each level and the one that won at least,
-- and returned its name's bit and at most one counter for each level. An accepted request leaves the idle stage, and only the last step
-- of a return leads back to it; what that step finds is the shape of putname at node 1.
--     Full, Rested    such a round, of an idle process
--     asked_rested    whoever has had an accepted request is rested
-- Assumes nothing.
use mathlib.Core.List.{List, [], ◌∷◌}
use Prim.Native.Nat.{ℕ, ◌+◌, ◌≤◌}
use native.Mathlib.Decide.{ℕ_discrete}
use lib.Dec.{eqb}
use Rattle.machine.proofs.Rules.{◌≡◌, ◌∙◌, sym, ap, refl, true, false, false≢true, Bool, ◌||◌, ◌&&◌, arith, eqb-true}
use Rattle.machine.specs.Answer.{accepted}
use Rattle.machine.specs.Event.{event}
use Rattle.machine.specs.Kind.{request}
use Rattle.machine.specs.Lists.{Event, event_done, after}
use Rattle.machine.specs.Setup.{height}
use Rattle.machine.specs.Stage.{remainder, putname}
use Rattle.machine.specs.declared.ClaimStep.TheVariants.{Left, Right, Won, NextSegment, Exhausted}
use Rattle.machine.specs.declared.Done.{Done}
use Rattle.machine.proofs.Facts.Tests.{and_left, and_right}
use Rattle.machine.proofs.Laws.OnePlace.{others_unchanged, setup_unchanged}
use Rattle.machine.proofs.Laws.Steps.{request_becomes}
use Rattle.machine.proofs.Moves.{Outcome, refuses, accepts, event-outcome}
use Rattle.machine.proofs.Own.{Own, begins, queues, passes, waits, steps, ends, gives, climbs_left, climbs_right, leaves, remains}
use Rattle.machine.proofs.Own.{move_became}
use Rattle.renaming_claim.specs.History.{request_of, asked}
use Rattle.renaming_claim.proofs.Along.{OneOf, next}
use Rattle.renaming_claim.proofs.Invariant.{Returning}
use Rattle.renaming_claim.proofs.Mover.{Setup, Process, State, process_at, Mover, by_stage}

pub record Full (c : Setup) (h : Process) : Type 0 where
  pub claimed : height c.leaves + 1 ≤ h.steps
  pub cleared : 1 ≤ h.returns
  pub most : h.returns ≤ height c.leaves + 1

abbrev pub Rested : Setup → Process → Type 0
Rested c h = h.stage ≡ remainder → Full c h

module _ {M : ℕ} {s : State} {p : ℕ} (m : Mover M s p) where
  abbrev c : Setup
  c = s.setup

  abbrev h : Process
  h = process_at s p

  -- a step out of putname at node 1; every other event leaves another stage, or the record
  own_rested : {kind : ℕ} {x : Process} → Own s.gate h kind x → Rested c h → Rested c x
  own_rested (begins e) k z = absurd (omega arith)
  own_rested (queues e shut) k z = absurd (omega arith)
  own_rested (passes low high) k z = absurd (omega arith)
  own_rested (waits e) k z = k z
  own_rested (steps e (Left v)) k z = absurd (omega arith)
  own_rested (steps e (Right v)) k z = absurd (omega arith)
  own_rested (steps e (Won n)) k z = absurd (omega arith)
  own_rested (steps e (NextSegment i)) k z = absurd (omega arith)
  own_rested (steps e Exhausted) k z = absurd (omega arith)
  own_rested (ends e) k z = absurd (omega arith)
  own_rested (gives e n) k z = absurd (omega arith)
  own_rested (climbs_left e n l even) k z = absurd (omega arith)
  own_rested (climbs_right e n l odd) k z = absurd (omega arith)
  own_rested (leaves e n l) k z =
      let r : Returning c h = by_stage m putname e in
      record { claimed = r.steps; cleared = r.least n; most = omega (arith, r.most n) }
  own_rested (remains e) k z = k z

  outcome_rested : {kind : ℕ} {d : Done} → Outcome s kind p d → Rested c h → Rested c (process_at d.state p)
  outcome_rested (refuses a l) k = k
  outcome_rested (accepts r kp mv i) k =
      let b = move_became m.sound.valid m.known mv in
      rw b.is (own_rested b.by k)

  event_rested : (e : Event) → Rested c h → Rested (event_done s e).state.setup (process_at (event_done s e).state p)
  event_rested e k = rw (setup_unchanged s e.kind e.process) (go (ℕ_discrete e.process p))
    where
      go : Dec (e.process ≡ p) → Rested c (process_at (event_done s e).state p)
      go (yes i) = rw i (outcome_rested (event-outcome s e.kind p) k)
      go (no i) = rw (others_unchanged s e.kind e.process p (λ t. i (sym t))) k

  -- an accepted request leaves it in entry
  request_rested : (e : Event) → request_of p s e ≡ true → Rested (event_done s e).state.setup (process_at (event_done s e).state p)
  request_rested e i z =
      let own : e.process ≡ p = eqb-true _ _ (and_left (eqb e.process p) _ i) in
      let tests = and_right (eqb e.process p) (eqb e.kind request && eqb (event_done s e).answer accepted) i in
      let ask : e.kind ≡ request = eqb-true _ _ (and_left (eqb e.kind request) _ tests) in
      let same : event_done s e ≡ event s request p = ap (event s e.kind) own ∙ ap (λ (n : ℕ). event s n p) ask in
      let taken : (event s request p).answer ≡ 0
      = ap (λ (d : Done). d.answer) (sym same) ∙ eqb-true _ _ (and_right (eqb e.kind request) _ tests) in
      let stage = ap (λ (x : Process). x.stage) (request_becomes s p m.sound.valid.sized taken) in
      absurd (omega (arith, stage, ap (λ (d : Done). (process_at d.state p).stage) same))

list_rested : (s : State) (p : ℕ) → OneOf s p → Rested s.setup (process_at s p) → (es : List Event)
    → Rested (after s es).setup (process_at (after s es) p)
unfolding after
list_rested s p m k [] = k
list_rested s p m k (e ∷ es) = list_rested (event_done s e).state p (next m e) (event_rested m e k) es

pub asked_rested : (s : State) (p : ℕ) → OneOf s p → (es : List Event) → asked p s es ≡ true
    → Rested (after s es).setup (process_at (after s es) p)
unfolding after asked
asked_rested s p m [] a = absurd (false≢true a)
asked_rested s p m (e ∷ es) a = go (request_of p s e) refl a (asked_rested (event_done s e).state p (next m e) es)
  where
    t : State
    t = (event_done s e).state

    Then : Type 0
    Then = Rested (after t es).setup (process_at (after t es) p)

    go : (b : Bool) → request_of p s e ≡ b → (b || asked p t es) ≡ true → (asked p t es ≡ true → Then) → Then
    go true i a later = list_rested t p (next m e) (request_rested m e i) es
    go false i a later = later a
