-- What a setup of either form gives: its number and the blank state, or 0 and the state with so many counters, of the setup that passed its
-- checks. By the laws of its two answers. Assumes nothing.
use Prim.Native.Nat.{ℕ, ◌<◌}
use Rattle.machine.proofs.Rules.{◌≡◌, ◌∙◌, sym, ap, arith}
use Rattle.machine.specs.Setup.{setup_answer}
use Rattle.machine.specs.State.{done, blank, partial, partial_setup}
use Rattle.machine.specs.declared.Setup.{Setup}
use Rattle.machine.specs.declared.State.{State}
use Rattle.machine.proofs.Laws.Setup.{partial-accepted, partial-refused}

module _ (c : Setup) (count : ℕ) where
  pub refused : (a : ℕ) → a ≡ setup_answer c → 0 < a → done a blank ≡ partial_setup c count
  refused a e pos = ap (λ a. done a blank) e ∙ sym (partial-refused c count (λ z. absurd (omega (arith, e, z, pos))))

  pub accepted : (passed : Setup) (s : State) → 0 ≡ setup_answer c → passed ≡ c → s ≡ partial passed count
      → done 0 s ≡ partial_setup c count
  accepted passed s e same is = ap (done 0) (is ∙ ap (λ d. partial d count) same) ∙ sym (partial-accepted c count (sym e))
