-- A number of 32 bits as a byte, where 255 stands for every larger one.
use Rattle.std.specs.Prelude.{cond, ℕ, ltb}
use Rattle.machine.specs.declared.numbers.Numbers.{Numbers}

unfoldable pub narrow : ℕ → ℕ
narrow x = cond (ltb 255 x) 255 x

abbrev pub numbers_of : ℕ → ℕ → ℕ → ℕ → Numbers
numbers_of n l g b = record { processes = narrow n; leaves = narrow l; segments = narrow g; bits = narrow b }
