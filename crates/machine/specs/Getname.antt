-- Document 01, section Events: stage 3, one step of the getname section (003, Figures 7.7 and 7.9). A step goes left, goes
-- right, wins a name, moves to the next segment, or finds none left.
use Rattle.std.specs.Prelude.{cond, ℕ, ◌+◌, ◌*◌, ◌-◌, ltb}
use Rattle.machine.specs.Closed.{closed_word}
use Rattle.machine.specs.Operations.{set_first_zero, bounded_decrement}
use Rattle.machine.specs.Stage.{working, exhausted}
use Rattle.machine.specs.State.{with_stage, with_node, with_segment, with_name, with_steps}
use Rattle.machine.specs.State.{process_at, counter_at, word_at, with_counter, with_word, update}
use Rattle.machine.specs.declared.ClaimStep.{ClaimStep}
use Rattle.machine.specs.declared.ClaimStep.TheVariants.{Left, Right, Won, NextSegment, Exhausted}
use Rattle.machine.specs.declared.Process.{Process}
use Rattle.machine.specs.declared.Setup.{Setup}
use Rattle.machine.specs.declared.State.{State}

-- the numbers that each case gives the process: a node; stage 4 with a name; a segment; or stage 6 with the segment unchanged
abbrev pub moved : ClaimStep → Process → Process
moved (Left v) h = with_node v h
moved (Right v) h = with_node v h
moved (Won m) h = with_stage working (with_name m h)
moved (NextSegment i) h = with_segment i h
moved Exhausted h = with_stage exhausted h

-- Steps (spent) rises by 1.
abbrev pub claimed : ClaimStep → Process → Process
claimed c h = with_steps (h.steps + 1) (moved c h)

-- The process goes left if the counter's old value was above 0, otherwise right.
unfoldable pub side : ℕ → ℕ → ClaimStep
side v old = cond (ltb 0 old) (Left (2 * v)) (Right (2 * v + 1))

-- An answer m below b gives name r·b + m. An answer of b moves to the next segment, or, at segment g - 1, finds none left.
unfoldable pub outcome : Setup → ℕ → ℕ → ℕ → ClaimStep
outcome c r i m =
    cond (ltb m c.bits) (Won (r * c.bits + m)) (cond (ltb (i + 1) c.segments) (NextSegment (i + 1)) Exhausted)

-- At a node below L: bounded decrement of the counter.
unfoldable pub descend : State → ℕ → State
descend s p =
    let v : ℕ = (process_at s p).node in
    let c = bounded_decrement (counter_at s v) in
    update p (claimed (side v c.answer)) (with_counter v c.word s)

-- Leaf j has segments j·g to j·g + g - 1; node L + j is leaf j.
abbrev pub segment_of : Setup → Process → ℕ
segment_of c h = (h.node - c.leaves) * c.segments + h.segment

-- At leaf j: set_first_zero on segment word r = j·g + segment.
unfoldable pub probe : State → ℕ → State
probe s p =
    let h = process_at s p in
    let r : ℕ = segment_of s.setup h in
    let w = set_first_zero s.setup.bits (closed_word s.setup r) (word_at s r) in
    update p (claimed (outcome s.setup r h.segment w.answer)) (with_word r w.word s)

unfoldable pub getname_step : State → ℕ → State
getname_step s p = cond (ltb (process_at s p).node s.setup.leaves) (descend s p) (probe s p)
