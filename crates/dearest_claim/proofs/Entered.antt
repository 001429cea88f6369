-- A request from the remainder section is accepted, and so is the step past an open gate; what each makes of its process's own record.
-- By the checks that an event passes. Assumes nothing.
use Prim.Native.Nat.{ℕ}
use Rattle.machine.proofs.Rules.{◌≡◌, ◌∙◌, ap, true, lt-ltb}
use Rattle.machine.specs.Event.{event, guarded}
use Rattle.machine.specs.Event.{request as Event·request, step as Event-step}
use Rattle.machine.specs.Gate.{above0, enter}
use Rattle.machine.specs.Kind.{request, step}
use Rattle.machine.specs.Range.{in_range}
use Rattle.machine.specs.Stage.{remainder, entry, getname}
use Rattle.machine.specs.State.{done, fresh_process, with_stage, with_process}
use Rattle.machine.specs.declared.Done.{Done}
use Rattle.machine.proofs.Laws.Room.Gate.{enter_room_lem}
use Rattle.machine.proofs.Ranges.{in_range_lem}
use Rattle.renaming_claim.proofs.Mover.{Process, State, process_at, Mover, own_stored}

module _ {M : ℕ} {s : State} {p : ℕ} (m : Mover M s p) where
  abbrev h : Process
  h = process_at s p

  pub request-accepted : h.stage ≡ remainder → event s request p ≡ done 0 (with_process p (with_stage entry fresh_process) s)
  unfolding event Event·request
  request-accepted e = simp (in_range_lem s m.sound.valid.ranges, lt-ltb p s.setup.processes m.known, e)

  pub requested : h.stage ≡ remainder → process_at (event s request p).state p ≡ with_stage entry fresh_process
  requested e = ap (λ (d : Done). process_at d.state p) (request-accepted e) ∙ own_stored m (with_stage entry fresh_process)

  module _ (e : h.stage ≡ entry) (free : above0 s.gate ≡ true) where
    pub enter-accepted : event s step p ≡ done 0 (enter s p)
    unfolding event Event-step guarded
    enter-accepted =
        let room : in_range (enter s p) ≡ true = enter_room_lem s p m.sound.valid.ranges m.known ∙ rw free in
        simp (in_range_lem s m.sound.valid.ranges, lt-ltb p s.setup.processes m.known, e, room)

    pub entered : process_at (event s step p).state p ≡ with_stage getname h
    unfolding enter
    entered = ap (λ (d : Done). process_at d.state p) enter-accepted ∙ rw free (own_stored m (with_stage getname h))
