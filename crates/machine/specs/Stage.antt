-- The stages of a process, 0 to 6; behind each, document 01's word for it.
use Rattle.std.specs.Prelude.{ℕ}

-- idle
abbrev pub remainder : ℕ
remainder = 0

-- asking
abbrev pub entry : ℕ
entry = 1

-- waiting
abbrev pub waiting : ℕ
waiting = 2

-- claiming
abbrev pub getname : ℕ
getname = 3

-- holding
abbrev pub working : ℕ
working = 4

-- returning
abbrev pub putname : ℕ
putname = 5

-- astray
abbrev pub exhausted : ℕ
exhausted = 6
