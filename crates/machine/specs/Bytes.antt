-- The four numbers of a setup and the six of a process as bytes, in the order of their fields.
use Rattle.std.specs.Prelude.{List, [], ◌∷◌, ℕ}
use Rattle.machine.specs.declared.Process.{Process}
use Rattle.machine.specs.declared.numbers.Numbers.{Numbers}

abbrev pub numbers_bytes : Numbers → List ℕ
numbers_bytes n = n.processes ∷ n.leaves ∷ n.segments ∷ n.bits ∷ []

abbrev pub process_bytes : Process → List ℕ
process_bytes h = h.stage ∷ h.node ∷ h.segment ∷ h.name ∷ h.steps ∷ h.returns ∷ []
