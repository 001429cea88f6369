-- What runs are written with: the bytes of events, and the lines of a journal.
use Rattle.std.specs.Prelude.{List, [], ◌∷◌, ℕ}
use Rattle.machine.specs.Kind as kind

-- the bytes of a request (ask), a step (turn) and a release (finish)
abbrev pub request : ℕ → List ℕ
request p = kind.request ∷ p ∷ []

abbrev pub step : ℕ → List ℕ
step p = kind.step ∷ p ∷ []

abbrev pub release : ℕ → List ℕ
release p = kind.release ∷ p ∷ []

-- a journal entry: answer, stage, name, steps
abbrev pub line : ℕ → ℕ → ℕ → ℕ → List ℕ
line a stage name steps = a ∷ stage ∷ name ∷ steps ∷ []
