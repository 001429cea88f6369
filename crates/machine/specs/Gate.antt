-- Document 01, section Events: what the gate does in stages 1 and 2, and when a process leaves (003, Figure 6.2).
use Rattle.std.specs.Prelude.{Bool, false, cond, List, [], ◌∷◌, ◌++◌, ℕ, ◌+◌, ◌-◌, ltb, eqb, ℤ, pos, negsuc, get_or, set, drop}
use Rattle.std.proofs.Math.IntN.{suc_ℤ, pred_ℤ}
use Rattle.machine.specs.Below.{any_below}
use Rattle.machine.specs.Stage.{remainder, waiting, getname}
use Rattle.machine.specs.State.{with_stage, with_segment, with_gate, with_queue, update}
use Rattle.machine.specs.declared.State.{State}

unfoldable pub above0 : ℤ → Bool
above0 (pos n) = ltb 0 n
above0 (negsuc n) = false

abbrev pub lowered : State → State
lowered s = with_gate (pred_ℤ s.gate) s

abbrev pub raised : State → State
raised s = with_gate (suc_ℤ s.gate) s

-- the process is among the first n of a list; it is in the queue
unfoldable pub among : List ℕ → ℕ → ℕ → Bool
among q n p = any_below n (λ i. eqb (get_or q i 0) p)

abbrev pub in_queue : State → ℕ → Bool
in_queue s p = among s.queue s.queued p

-- the process joins the queue's end
abbrev pub joined : ℕ → State → State
joined p s = with_queue (s.queued + 1) (set s.queue s.queued p) s

-- the head gone, the rest moved up, and the place freed at the end 0
unfoldable pub moved_up : List ℕ → List ℕ
moved_up q = drop 1 q ++ (0 ∷ [])

-- the queue's head, if there is one, leaves
unfoldable pub head_gone : State → State
head_gone s = with_queue (s.queued - 1) (cond (eqb s.queued 0) s.queue (moved_up s.queue)) s

-- Stage 1: A falls by 1. If its old value was above 0, stage 3; otherwise the process joins the queue's end, stage 2.
unfoldable pub enter : State → ℕ → State
enter s p =
    cond (above0 s.gate) (update p (with_stage getname) (lowered s)) (update p (with_stage waiting) (joined p (lowered s)))

-- Stage 2: if it is in the queue, no change; otherwise stage 3.
unfoldable pub await : State → ℕ → State
await s p = cond (in_queue s p) s (update p (with_stage getname) s)

-- Stage 5 with no name at node 1: the queue's head, if there is one, leaves; A rises by 1; stage 0, segment 0; steps and
-- return operations kept.
unfoldable pub leave : State → ℕ → State
leave s p = update p (λ h. with_stage remainder (with_segment 0 h)) (raised (head_gone s))
