-- Document 01, section State: who is let in.
use Rattle.std.specs.Prelude.{Bool, not, ◌&&◌, ◌||◌, ℕ, leb, eqb}
use Rattle.machine.specs.Below.{count_below}
use Rattle.machine.specs.Gate.{in_queue}
use Rattle.machine.specs.Stage.{waiting, getname}
use Rattle.machine.specs.State.{process_at}
use Rattle.machine.specs.declared.State.{State}

-- A process is admitted (let in) in stages 3 to 6, and in stage 2 once it is no longer in the queue.
unfoldable pub is_admitted : State → ℕ → Bool
is_admitted s p = leb getname (process_at s p).stage || (eqb (process_at s p).stage waiting && not (in_queue s p))

-- how many are
unfoldable pub admitted : State → ℕ
admitted s = count_below s.setup.processes (is_admitted s)
