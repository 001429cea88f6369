-- Document 01, section Events: "a turn that would take one outside" a range gets 15. What room a number needs for a turn, stage by stage.
use Rattle.std.specs.Prelude.{Bool, true, cond, ◌&&◌, ℕ, ◌/◌, ◌%◌, eqb, ltb, ℤ, pos, negsuc}
use Rattle.machine.specs.Answer.{accepted, broken_state}
use Rattle.machine.specs.Gate.{above0}
use Rattle.machine.specs.Setup.{open_names}
use Rattle.machine.specs.State.{done, none, figure, process_at, counter_at, fresh_counter}
use Rattle.machine.specs.declared.Done.{Done}
use Rattle.machine.specs.declared.Process.{Process}
use Rattle.machine.specs.declared.State.{State}

-- the turn from s that leads to t: t where there is room for it, and otherwise 15 and the state as it was
abbrev pub where_room : Bool → State → State → Done
where_room room t s = cond room (done accepted t) (done broken_state s)

-- A falls by 1 and stays at -64 or above; it rises by 1 and stays at k, the number of open names, or below
unfoldable pub can_fall : ℤ → Bool
can_fall (pos n) = true
can_fall (negsuc n) = ltb n 63

unfoldable pub can_rise : ℕ → ℤ → Bool
can_rise k (pos n) = ltb n k
can_rise k (negsuc n) = true

-- stage 1: past the gate; or the gate word can fall, and the queue has a place
abbrev pub enter_room : State → Bool
enter_room s = cond (above0 s.gate) true (can_fall s.gate && ltb s.queued 64)

-- the sum of steps and return operations rises by 1 and stays at 255 or below
abbrev pub has_room : Process → Bool
has_room h = ltb (figure h) 255

-- stage 3: one step more
abbrev pub getname_room : State → ℕ → Bool
getname_room s p = has_room (process_at s p)

-- stage 5 above node 1: a counter that rises is below its fresh value, and one return operation more has room
abbrev pub climb_room : State → ℕ → Bool
climb_room s p =
    let u : ℕ = (process_at s p).node / 2 in
    cond (eqb ((process_at s p).node % 2) 0) (ltb (counter_at s u) (fresh_counter s.setup u) && has_room (process_at s p)) true

-- stage 5: a name is given back where one return operation more has room; a counter must have room, and at node 1 the gate word
abbrev pub putname_room : State → ℕ → Bool
putname_room s p =
    cond (eqb (process_at s p).name none)
    (cond (ltb 1 (process_at s p).node) (climb_room s p) (can_rise (open_names s.setup) s.gate))
    (has_room (process_at s p))
