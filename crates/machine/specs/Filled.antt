-- Document 01: a call that fills a lent buffer says how many bytes it wrote and leaves the rest; one that is refused writes nothing
-- and gives the length 0.
use Rattle.std.specs.Prelude.{List, ◌++◌, ℕ, length, drop}
use Rattle.machine.specs.Answer as answer
use Rattle.machine.specs.Check.{Check, checked}
use Rattle.machine.specs.declared.Written.{Written}

abbrev pub written_of : ℕ → ℕ → Written
written_of a n = record { answer = a; size = n }

-- what the call gives, by its checks and the bytes that it is to write
abbrev pub filled : List Check → List ℕ → Written
filled checks bytes = checked checks (λ a. written_of a 0) (written_of answer.accepted (length bytes))

-- the lent buffer afterwards
abbrev pub buffer_after : List Check → List ℕ → List ℕ → List ℕ
buffer_after checks bytes lent = checked checks (λ a. lent) (bytes ++ drop (length bytes) lent)
