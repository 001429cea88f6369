-- Document 01, section Events: ask (request), turn (step) and finish (release), and an event with its refusals in order.
use Rattle.std.specs.Prelude.{List, [], ◌∷◌, ℕ, leb, ltb, eqb, get_or}
use Rattle.machine.specs.Answer as answer
use Rattle.machine.specs.Check.{Check, check, checked}
use Rattle.machine.specs.Gate.{enter, await}
use Rattle.machine.specs.Getname.{getname_step}
use Rattle.machine.specs.Kind as kind
use Rattle.machine.specs.Putname.{putname_step}
use Rattle.machine.specs.Range.{in_range}
use Rattle.machine.specs.Stage.{remainder, entry, working, putname}
use Rattle.machine.specs.State.{done, fresh_process, with_stage, process_at, with_process, update}
use Rattle.machine.specs.declared.State.{State}
use Rattle.machine.specs.declared.Done.{Done}

-- A refused event gives the number and the state it was lent.
abbrev pub refused : ℕ → State → ℕ → Done
refused a s p = done a s

-- Ask, only when idle: stage 1, node 1, segment 0, name 255, steps 0, and return operations 0 (document 02, b: "at each ask"). That is a
-- fresh process in stage 1.
unfoldable pub request : State → ℕ → Done
request s p =
    checked (check answer.busy (eqb (process_at s p).stage remainder) ∷ []) (λ a. done a s)
    (done answer.accepted (with_process p (with_stage entry fresh_process) s))

-- Finish, only when holding: stage 5.
unfoldable pub release : State → ℕ → Done
release s p =
    checked (check answer.no_name_held (eqb (process_at s p).stage working) ∷ []) (λ a. done a s)
    (done answer.accepted (update p (with_stage putname) s))

-- A turn that would take a number outside its range is refused.
unfoldable pub guarded : (State → ℕ → State) → State → ℕ → Done
guarded f s p = checked (check answer.broken_state (in_range (f s p)) ∷ []) (λ a. done a s) (done answer.accepted (f s p))

-- Stage 6: no change.
abbrev pub stay : State → ℕ → State
stay s p = s

-- Turn, never when idle or holding; the stage decides.
abbrev pub stages : List (State → ℕ → Done)
stages =
    refused answer.not_moving
    ∷ guarded enter
    ∷ guarded await
    ∷ guarded getname_step
    ∷ refused answer.not_moving
    ∷ guarded putname_step
    ∷ guarded stay
    ∷ []

unfoldable pub step : State → ℕ → Done
step s p = get_or stages (process_at s p).stage (refused answer.broken_state) s p

-- Kinds 0 to 2.
abbrev pub kinds : List (State → ℕ → Done)
kinds = request ∷ step ∷ release ∷ []

abbrev pub event_checks : State → ℕ → ℕ → List Check
event_checks s k p =
    check answer.broken_state (in_range s)
    ∷ check answer.kind (leb k kind.release)
    ∷ check answer.stranger (ltb p s.setup.processes)
    ∷ []

-- An event: 15 for the state, 12, 6, then 7, 8 or 9, then 15 for the turn.
unfoldable pub event : State → ℕ → ℕ → Done
event s k p = checked (event_checks s k p) (λ a. done a s) (get_or kinds k (refused answer.kind) s p)
