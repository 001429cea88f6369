-- Document 01, section Events: stage 5, one step of the putname section (003, Figures 7.7 and 7.9). Document 02, b): of its operations
-- "the bit clear and each counter given back" count, "but not a level left by the right and not the gate".
use Rattle.std.specs.Prelude.{cond, ℕ, ◌+◌, ◌/◌, ◌%◌, ltb, eqb}
use Rattle.machine.specs.Gate.{leave}
use Rattle.machine.specs.Operations.{clr_bit}
use Rattle.machine.specs.State.{none, with_node, with_name, with_returns, process_at, counter_at, word_at, with_counter, with_word, update}
use Rattle.machine.specs.declared.Process.{Process}
use Rattle.machine.specs.declared.State.{State}

-- Return operations rise by 1.
abbrev pub returned : Process → Process
returned h = with_returns (h.returns + 1) h

-- With a name: bit (name mod b) of segment word (name div b) is cleared; name 255.
unfoldable pub give_back : State → ℕ → State
give_back s p =
    let m : ℕ = (process_at s p).name in
    let r : ℕ = m / s.setup.bits in
    update p (λ h. returned (with_name none h)) (with_word r (clr_bit (word_at s r) (m % s.setup.bits)) s)

-- With no name, node v above 1: if v is even, the counter of v/2 rises by 1; the node becomes v div 2.
unfoldable pub climb : State → ℕ → State
climb s p =
    let v : ℕ = (process_at s p).node in
    let u : ℕ = v / 2 in
    cond (eqb (v % 2) 0) (update p (λ h. returned (with_node u h)) (with_counter u (counter_at s u + 1) s)) (update p (with_node u) s)

unfoldable pub putname_step : State → ℕ → State
putname_step s p =
    cond (eqb (process_at s p).name none) (cond (ltb 1 (process_at s p).node) (climb s p) (leave s p)) (give_back s p)
