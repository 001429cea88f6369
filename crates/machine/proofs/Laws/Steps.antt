-- An accepted request leaves its process with no getname step and no return operation counted, and the queue is served from its head:
-- the record that a request stores, and the places of the queue moved up. Assumes nothing.
use mathlib.Core.List.{List}
use Prim.Native.Nat.{ℕ, suc, ◌<◌}
use lib.Dec.{eqb}
use lib.ListN.{get_or}
use Rattle.machine.proofs.Rules.{ap, ◌≡◌, arith, eqb-true}
use Rattle.machine.specs.Event.{event}
use Rattle.machine.specs.Gate.{moved_up, head_gone}
use Rattle.machine.specs.Stage.{entry}
use Rattle.machine.specs.State.{fresh_process, with_stage, process_at, Sized}
use Rattle.machine.specs.declared.Done.{Done}
use Rattle.machine.specs.declared.Process.{Process}
use Rattle.machine.specs.declared.State.{State}
use Rattle.machine.proofs.Facts.Lists.{get_or_moved}
use Rattle.machine.proofs.Facts.Tests.{by_cond}
use Rattle.machine.proofs.Moves.{Outcome, refuses, accepts, requests, event-outcome}
use Rattle.machine.proofs.Stores.{own_record}

reset_in : (s : State) (p : ℕ) → Sized s → {d : Done} → Outcome s 0 p d → d.answer ≡ 0
    → process_at d.state p ≡ with_stage entry fresh_process
reset_in s p z (refuses a l) e = absurd (omega arith)
reset_in s p z (accepts k kp (requests i) r) e = own_record s k p (with_stage entry fresh_process) kp z.process

module _ (s : State) (p : ℕ) (z : Sized s) (e : (event s 0 p).answer ≡ 0) where
  pub request_becomes : process_at (event s 0 p).state p ≡ with_stage entry fresh_process
  request_becomes = reset_in s p z (event-outcome s 0 p) e

  pub steps_reset : (process_at (event s 0 p).state p).steps ≡ 0
  steps_reset = ap (λ (x : Process). x.steps) request_becomes

  pub returns_reset : (process_at (event s 0 p).state p).returns ≡ 0
  returns_reset = ap (λ (x : Process). x.returns) request_becomes

pub head_leaves : (s : State) (i : ℕ) → 0 < s.queued → get_or (head_gone s).queue i 0 ≡ get_or s.queue (suc i) 0
unfolding head_gone moved_up
head_leaves s i k =
    by_cond (λ (q : List ℕ). get_or q i 0 ≡ get_or s.queue (suc i) 0) (eqb s.queued 0)
    (λ e. absurd (omega (arith, eqb-true s.queued 0 e)))
    (λ _. get_or_moved s.queue i 0)
