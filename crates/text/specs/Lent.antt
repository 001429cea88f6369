-- A text in a lent buffer: 13 (short) when the buffer is shorter than the text.
use Rattle.std.specs.Prelude.{List, [], ◌∷◌, ℕ, leb, length}
use Rattle.machine.specs.Answer as answer
use Rattle.machine.specs.Check.{Check, check}
use Rattle.machine.specs.Filled.{filled, buffer_after}
use Rattle.machine.specs.declared.Written.{Written}

abbrev pub text_checks : List ℕ → List ℕ → List Check
text_checks text lent = check answer.short (leb (length text) (length lent)) ∷ []

unfoldable pub given : List ℕ → List ℕ → Written
given text lent = filled (text_checks text lent) text

-- the buffer afterwards
unfoldable pub lent_after : List ℕ → List ℕ → List ℕ
lent_after text lent = buffer_after (text_checks text lent) text lent
