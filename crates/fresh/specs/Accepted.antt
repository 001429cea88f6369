-- What the checks of a setup give: the number of the first that fails, or the setup itself.
use Rattle.std.specs.Prelude.{◌≡◌, Result, IfOk}
use Rattle.machine.specs.Refusal.{answered}
use Rattle.machine.specs.Setup.{setup_answer}
use Rattle.machine.specs.declared.Setup.{Setup}
use Rattle.machine.specs.declared.refusal.Refusal.{Refusal}

pub record Accepts (c : Setup) (r : Result Setup Refusal) : Type 0 where
  pub answer : answered r ≡ setup_answer c
  pub value : IfOk r (λ a. a ≡ c)
