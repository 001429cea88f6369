-- What a list of events gives one process: its steps (document 01: turns), and, since its last accepted request (ask), its getname steps
-- (claim turns) and its return operations (document 02, b). The machine's own states and answers decide.
use Rattle.std.specs.Prelude.{◌≡◌, Bool, true, false, cond, ◌&&◌, ◌||◌, List, [], ◌∷◌, length, get_or, take}
use Rattle.std.specs.Prelude.{ℕ, suc, ◌+◌, ◌%◌, ◌<◌, eqb, ltb}
use Rattle.machine.specs.Answer.{accepted}
use Rattle.machine.specs.Below.{indicator}
use Rattle.machine.specs.Kind.{request, step}
use Rattle.machine.specs.Lists.{Event, event_done}
use Rattle.machine.specs.Stage.{getname, working, putname}
use Rattle.machine.specs.State.{none, process_at}
use Rattle.machine.specs.declared.Process.{Process}
use Rattle.machine.specs.declared.State.{State}

-- the event is a step of p, accepted or refused
abbrev pub step_of : ℕ → Event → Bool
step_of p e = eqb e.process p && eqb e.kind step

-- it is an accepted request of p; it is a step of p at stage 3
abbrev pub request_of : ℕ → State → Event → Bool
request_of p s e = eqb e.process p && (eqb e.kind request && eqb (event_done s e).answer accepted)

abbrev pub claim_of : ℕ → State → Event → Bool
claim_of p s e = step_of p e && eqb (process_at s p).stage getname

-- "The bit clear and each counter given back": on the way back with a name, or at a left child. "But not a level left by the right" (an
-- odd node) "and not the gate" (node 1).
abbrev pub returns_part : Process → Bool
returns_part h = eqb h.stage putname && cond (eqb h.name none) (ltb 1 h.node && eqb (h.node % 2) 0) true

-- it is an accepted step of p that does one of these
abbrev pub return_of : ℕ → State → Event → Bool
return_of p s e = step_of p e && (eqb (event_done s e).answer accepted && returns_part (process_at s p))

-- how many events of a list from s pass a test since p's last accepted request; n of them before the list
unfoldable pub since_request : (ℕ → State → Event → Bool) → ℕ → State → List Event → ℕ → ℕ
since_request test p s [] n = n
since_request test p s (e ∷ es) n =
    since_request test p (event_done s e).state es (cond (request_of p s e) 0 (cond (test p s e) (suc n) n))

-- p's getname steps, and its return operations
abbrev pub claim_steps : ℕ → State → List Event → ℕ → ℕ
claim_steps = since_request claim_of

abbrev pub return_operations : ℕ → State → List Event → ℕ → ℕ
return_operations = since_request return_of

-- some event of the list is an accepted request of p
unfoldable pub asked : ℕ → State → List Event → Bool
asked p s [] = false
asked p s (e ∷ es) = request_of p s e || asked p (event_done s e).state es

-- how many steps a list gives p
unfoldable pub steps_given : ℕ → List Event → ℕ
steps_given p [] = 0
steps_given p (e ∷ es) = indicator (step_of p e) + steps_given p es

-- event number `place` of the list is one of the first k steps given to p, and directly after it p holds a name; said of what gives
-- the state after each prefix of the list: the machine, or calls. (Past the list stands an event of no kind, which is no step.)
pub record HoldsWithin (k : ℕ) (state_after : List Event → State) (p : ℕ) (es : List Event) : Type 0 where
  pub place : ℕ
  pub inside : place < length es
  pub is_step : step_of p (get_or es place (record { kind = 3; process = 0 })) ≡ true
  pub early : steps_given p (take place es) < k
  pub holds : (process_at (state_after (take (suc place) es)) p).stage ≡ working
