-- The four repairs that document 01 says were made and unmade: each is a machine that differs from document 01's in one place, and a
-- list on which it breaks the claim. The document's own machine keeps the claim on the same lists, by the theorem.
--     Variant, run        a machine by its three sections, and its runs with no range checked
--     no_root_first       counters given back from the root down: a newcomer enters a leaf that is still full
--     no_last_gap         a claim begun at the segment last won: a process strays with a name free
--     no_gate_first       the gate raised before the bit is cleared: two are admitted among one name
--     no_right_at_one     right when the old counter is 1: a process strays
-- `repairs` in proofs/Controls/Repairs.antt computes each.
use Rattle.std.specs.Prelude.{◌≡◌, cond, List, [], ◌∷◌, ◌++◌, ℕ, ◌+◌, ◌*◌, ◌-◌, ◌/◌, ◌%◌, ◌^◌, eqb, ltb, get_or}
use Rattle.machine.specs.Admitted.{admitted}
use Rattle.machine.specs.Gate.{head_gone, raised, enter, await, leave}
use Rattle.machine.specs.Getname.{claimed, descend, probe, getname_step}
use Rattle.machine.specs.Lists.{Event, events_of}
use Rattle.machine.specs.Operations.{bounded_decrement}
use Rattle.machine.specs.Putname.{give_back, putname_step}
use Rattle.machine.specs.Runs.{request, step, release}
use Rattle.machine.specs.Setup.{log2}
use Rattle.machine.specs.Stage.{remainder, entry, working, putname, exhausted}
use Rattle.machine.specs.Setup.{plain}
use Rattle.machine.specs.State.{none, fresh_process, with_stage, with_node, with_segment, process_at}
use Rattle.machine.specs.State.{counter_at, word_at, with_counter, with_process, update, fresh}
use Rattle.machine.specs.declared.ClaimStep.{ClaimStep}
use Rattle.machine.specs.declared.ClaimStep.TheVariants.{Left, Right}
use Rattle.machine.specs.declared.State.{State}

-- what a step does in stages 1, 3 and 5
pub record Variant : Type 0 where
  pub enters : State → ℕ → State
  pub claims : State → ℕ → State
  pub returns : State → ℕ → State

-- an event of a process that is there, with nothing refused but what its stage rules out
unfoldable pub does : Variant → State → Event → State
does v s e =
    let p : ℕ = e.process in
    let stage : ℕ = (process_at s p).stage in
    let asks : State = cond (eqb stage remainder) (with_process p (with_stage entry fresh_process) s) s in
    let turns : State = get_or (s ∷ v.enters s p ∷ await s p ∷ v.claims s p ∷ s ∷ v.returns s p ∷ []) stage s in
    let ends : State = cond (eqb stage working) (update p (with_stage putname) s) s in
    get_or (asks ∷ turns ∷ ends ∷ []) e.kind s

unfoldable pub run : Variant → State → List Event → State
run v s [] = s
run v s (e ∷ es) = run v (does v s e) es

-- document 01's machine
abbrev pub right : Variant
right = record { enters = enter; claims = getname_step; returns = putname_step }

-- Counters from the root down. A process with no name gives back the counter of its ancestor at the level that `segment` counts, and
-- leaves once it has given back all; `segment` is 0 when it begins, with one segment in a leaf.
unfoldable pub root_down : State → ℕ → State
root_down s p =
    let v : ℕ = (process_at s p).node in
    let level : ℕ = (process_at s p).segment in
    let child : ℕ = v / 2 ^ (log2 v - (level + 1)) in
    let given : State = cond (eqb (child % 2) 0) (with_counter (child / 2) (counter_at s (child / 2) + 1) s) s in
    cond (ltb level (log2 v)) (update p (with_segment (level + 1)) given) (update p (with_node 1) (leave s p))

-- the bit first, then the counters; the counters first, then the bit
abbrev pub bit_then_root : Variant
bit_then_root =
    record {
      enters = enter;
      claims = getname_step;
      returns = λ s p. cond (eqb (process_at s p).name none) (root_down s p) (give_back s p);
    }

abbrev pub root_then_bit : Variant
root_then_bit =
    record {
      enters = enter;
      claims = getname_step;
      returns = λ s p.
          cond (ltb (process_at s p).segment (log2 (process_at s p).node)) (root_down s p)
          (cond (eqb (process_at s p).name none) (root_down s p) (give_back s p));
    }

-- The segment last won at a leaf is kept in the counter's place of the leaf, which is unused. A process that comes to a leaf, with one
-- step for each level so far, begins there.
unfoldable pub from_gap : State → ℕ → State
from_gap s p =
    let v : ℕ = (process_at s p).node in
    let begun : State = cond (eqb (process_at s p).steps (log2 v)) (update p (with_segment (counter_at s v)) s) s in
    let t : State = probe begun p in
    cond (eqb (process_at t p).stage working) (with_counter v (process_at t p).segment t) t

abbrev pub last_gap : Variant
last_gap =
    record {
      enters = enter;
      claims = λ s p. cond (ltb (process_at s p).node s.setup.leaves) (descend s p) (from_gap s p);
      returns = putname_step;
    }

-- The gate is raised by the first step of the return, the bit cleared by the next; `segment` says that the gate was raised, with one
-- segment in a leaf.
unfoldable pub raise_first : State → ℕ → State
raise_first s p =
    cond (eqb (process_at s p).segment 0) (update p (with_segment 1) (raised (head_gone s)))
    (cond (eqb (process_at s p).name none) (update p (λ h. with_stage remainder (with_segment 0 h)) s) (give_back s p))

abbrev pub gate_first : Variant
gate_first = record { enters = enter; claims = getname_step; returns = raise_first }

-- right when the old counter is 1
unfoldable pub descend_at_two : State → ℕ → State
descend_at_two s p =
    let v : ℕ = (process_at s p).node in
    let c = bounded_decrement (counter_at s v) in
    let side : ClaimStep = cond (ltb 1 c.answer) (Left (2 * v)) (Right (2 * v + 1)) in
    update p (claimed side) (with_counter v c.word s)

abbrev pub right_at_one : Variant
right_at_one =
    record {
      enters = enter;
      claims = λ s p. cond (ltb (process_at s p).node s.setup.leaves) (descend_at_two s p) (probe s p);
      returns = putname_step;
    }

-- a request and three steps: past the gate, and the win where there is one level
abbrev pub wins : ℕ → List ℕ
wins p = request p ++ step p ++ step p ++ step p

abbrev pub root_first : List Event
root_first =
    events_of
    (wins 0 ++ step 0 ++ release 0 ++ step 0 ++ step 0
    ++ wins 1 ++ step 1
    ++ wins 2 ++ step 2)

abbrev pub root_then_bit_events : List Event
root_then_bit_events = events_of (wins 0 ++ release 0 ++ step 0 ++ wins 1)

abbrev pub last_gap_events : List Event
last_gap_events =
    events_of
    (request 0 ++ step 0 ++ step 0 ++ release 0 ++ request 1 ++ step 1 ++ step 1 ++ step 0 ++ step 0
    ++ request 0 ++ step 0 ++ step 1 ++ step 0)

abbrev pub gate_first_events : List Event
gate_first_events = events_of (request 0 ++ step 0 ++ step 0 ++ release 0 ++ step 0 ++ request 1 ++ step 1)

abbrev pub right_at_one_events : List Event
right_at_one_events = events_of (wins 0 ++ wins 1)

pub record Repairs : Type 0 where
  pub no_root_first : (process_at (run bit_then_root (fresh (plain 3 4 1 1)) root_first) 2).stage ≡ exhausted
  pub no_root_then_bit : (process_at (run root_then_bit (fresh (plain 2 2 1 1)) root_then_bit_events) 1).stage ≡ exhausted
  pub no_last_gap : (process_at (run last_gap (fresh (plain 2 1 2 1)) last_gap_events) 0).stage ≡ exhausted
  -- while name 0 is free
  pub no_last_gap_free : word_at (run last_gap (fresh (plain 2 1 2 1)) last_gap_events) 0 ≡ 0
  pub no_gate_first : admitted (run gate_first (fresh (plain 2 1 1 1)) gate_first_events) ≡ 2
  pub no_right_at_one : (process_at (run right_at_one (fresh (plain 2 2 1 1)) right_at_one_events) 1).stage ≡ exhausted
  -- on the same lists document 01's machine wins, waits or is still on its way
  pub right_root_first : (process_at (run right (fresh (plain 3 4 1 1)) root_first) 2).stage ≡ working
  pub right_root_then_bit : (process_at (run right (fresh (plain 2 2 1 1)) root_then_bit_events) 1).stage ≡ working
  pub right_last_gap : (process_at (run right (fresh (plain 2 1 2 1)) last_gap_events) 0).stage ≡ working
  pub right_gate_first : admitted (run right (fresh (plain 2 1 1 1)) gate_first_events) ≡ 1
  pub right_right_at_one : (process_at (run right (fresh (plain 2 2 1 1)) right_at_one_events) 1).stage ≡ working
