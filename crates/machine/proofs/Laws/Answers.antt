-- An accepted event leaves a state in range, and a refused one the state it was lent: by the cases of an event. A broken state,
-- a bad kind and a stranger are refused in that order: by the checks. Assumes nothing.
use Prim.Native.Nat.{ℕ, ◌≤◌, ◌<◌}
use Rattle.machine.proofs.Rules.{◌≡◌, refl, true, false, arith, le-leb, le-ltb, lt-leb}
use Rattle.machine.specs.Event.{event}
use Rattle.machine.specs.Range.{in_range}
use Rattle.machine.specs.State.{done}
use Rattle.machine.specs.declared.Done.{Done}
use Rattle.machine.specs.declared.State.{State}
use Rattle.machine.proofs.Moves.{Outcome, refuses, accepts, event-outcome}

module _ (s : State) (kind p : ℕ) where
  in-range-if : {d : Done} → Outcome s kind p d → d.answer ≡ 0 → in_range d.state ≡ true
  in-range-if (refuses a k) e = absurd (omega arith)
  in-range-if (accepts k kp m e) _ = e

  same_if : {d : Done} → Outcome s kind p d → (d.answer ≡ 0 → ⊥) → d.state ≡ s
  same_if (refuses a k) e = refl
  same_if (accepts k kp m e) n = absurd (n refl)

  pub accepted-in-range : (event s kind p).answer ≡ 0 → in_range (event s kind p).state ≡ true
  accepted-in-range = in-range-if (event-outcome s kind p)

  pub refused-unchanged : ((event s kind p).answer ≡ 0 → ⊥) → (event s kind p).state ≡ s
  refused-unchanged = same_if (event-outcome s kind p)

  pub state-refused : in_range s ≡ false → event s kind p ≡ done 15 s
  unfolding event
  state-refused e = rw e

  pub kind-refused : in_range s ≡ true → 2 < kind → event s kind p ≡ done 12 s
  unfolding event
  kind-refused e k = rw (e, lt-leb kind 2 k)

  pub stranger-refused : in_range s ≡ true → kind ≤ 2 → s.setup.processes ≤ p → event s kind p ≡ done 6 s
  unfolding event
  stranger-refused e k l = rw (e, le-leb kind 2 k, le-ltb p s.setup.processes l)
