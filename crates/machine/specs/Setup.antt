-- Document 01, section Setup, and document 02, e): the limits of a setup and its refusals 1 to 5, 19 and 20, the names, the height.
use Rattle.std.specs.Prelude.{Bool, cond, ◌&&◌, ◌||◌, List, [], ◌∷◌, ◌++◌, ℕ, ◌*◌, ◌^◌, leb, ltb, eqb}
use Rattle.machine.specs.Answer as answer
use Rattle.machine.specs.Check.{Check, check, checked}
use Rattle.machine.specs.Closed.{closed_by, open_in}
use Rattle.machine.specs.declared.Setup.{Setup}
use Rattle.machine.specs.declared.numbers.Numbers.{Numbers}

-- Four numbers: processes (handsets) N, leaves L, segments (rows) in a leaf g, bits in a segment b; and the number of the closed names.
-- src/lib.rt declares the record.
abbrev pub numbered : ℕ → ℕ → ℕ → ℕ → ℕ → Setup
numbered n l g b closed = record { processes = n; leaves = l; segments = g; bits = b; closed = closed }

-- "The setup gains a list of closed pads" (document 02, e).
abbrev pub given : ℕ → ℕ → ℕ → ℕ → List ℕ → Setup
given n l g b ps = numbered n l g b (closed_by 0 ps)

-- The setup of four numbers closes none.
abbrev pub plain : ℕ → ℕ → ℕ → ℕ → Setup
plain n l g b = numbered n l g b 0

-- four numbers as a record
abbrev pub four : ℕ → ℕ → ℕ → ℕ → Numbers
four n l g b = record { processes = n; leaves = l; segments = g; bits = b }

-- the same of that record; and the setup that closes the names whose bits are 1 in a number
abbrev pub closing_of : ℕ → Numbers → Setup
closing_of closed n = numbered n.processes n.leaves n.segments n.bits closed

abbrev pub plain_of : Numbers → Setup
plain_of n = closing_of 0 n

abbrev pub given_of : List ℕ → Numbers → Setup
given_of ps n = closing_of (closed_by 0 ps) n

-- Names (document 01: pads) k = L·g·b; those that are open.
abbrev pub names : Setup → ℕ
names c = c.leaves * c.segments * c.bits

abbrev pub open_names : Setup → ℕ
open_names c = open_in c 0 (names c)

abbrev pub within : ℕ → ℕ → ℕ → Bool
within low high n = leb low n && leb n high

-- Leaves L, one of 1, 2, 4, 8, 16.
unfoldable pub is_leaves : ℕ → Bool
is_leaves l = eqb l 1 || eqb l 2 || eqb l 4 || eqb l 8 || eqb l 16

-- N is 1 to 64; L as above; g and b are 1 to 8; k is at most 64.
-- Setup checks 1 to 5 in that order.
abbrev pub number_checks : Setup → List Check
number_checks c =
    check answer.processes (within 1 64 c.processes)
    ∷ check answer.leaves (is_leaves c.leaves)
    ∷ check answer.segments (within 1 8 c.segments)
    ∷ check answer.bits (within 1 8 c.bits)
    ∷ check answer.names (leb (names c) 64)
    ∷ []

-- "19 when a closed number is not below k" (document 02, e): no bit is set from k on exactly when the number is below 2^k.
abbrev pub inside_check : Setup → Check
inside_check c = check answer.closed_name (ltb c.closed (2 ^ names c))

-- "20 when no pad stays open"
abbrev pub open_check : Setup → Check
open_check c = check answer.none_open (ltb 0 (open_names c))

-- 19 "after 5, and 20 .. next"
abbrev pub closed_checks : Setup → List Check
closed_checks c = inside_check c ∷ open_check c ∷ []

abbrev pub setup_checks : Setup → List Check
setup_checks c = number_checks c ++ closed_checks c

-- 0, or the number of the refusal: of the four numbers, and of the setup
unfoldable pub number_answer : Setup → ℕ
number_answer c = checked (number_checks c) (λ a. a) answer.accepted

unfoldable pub setup_answer : Setup → ℕ
setup_answer c = checked (setup_checks c) (λ a. a) answer.accepted

-- how often a number from 1 to 31 can be halved before it is 1
unfoldable pub log2 : ℕ → ℕ
log2 v = cond (ltb v 2) 0 (cond (ltb v 4) 1 (cond (ltb v 8) 2 (cond (ltb v 16) 3 4)))

-- The height h has 2^h = L.
abbrev pub height : ℕ → ℕ
height l = log2 l
