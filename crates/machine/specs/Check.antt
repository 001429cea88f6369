-- Checks in their order, each with the number of its refusal (document 01, the table of numbers).
use Rattle.std.specs.Prelude.{Bool, cond, true, ◌&&◌, List, [], ◌∷◌, ℕ}

pub record Check : Type 0 where
  pub number : ℕ
  pub passes : Bool

abbrev pub check : ℕ → Bool → Check
check n t = record { number = n; passes = t }

-- the first check that fails refuses with its number; past them all stands what is accepted
abbrev pub checked : {A : Type 0} → List Check → (ℕ → A) → A → A
checked [] refuse accept = accept
checked (c ∷ cs) refuse accept = cond c.passes (checked cs refuse accept) (refuse c.number)

-- every test of a list passes
abbrev pub all_of : List Bool → Bool
all_of [] = true
all_of (t ∷ ts) = t && all_of ts
