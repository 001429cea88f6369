-- Document 01, section Worked orders: the lines that the program `pads` prints, as ASCII bytes.
use Rattle.std.specs.Prelude.{cond, List, [], ◌∷◌, ◌++◌, ℕ, ◌+◌, ◌/◌, ◌%◌, ltb, eqb, get_or}

abbrev pub space : ℕ
space = 32

abbrev pub newline : ℕ
newline = 10

abbrev pub digit : ℕ → ℕ
digit d = 48 + d

-- a byte in decimal, without leading zeros
unfoldable pub decimal : ℕ → List ℕ
decimal n =
    cond (ltb n 10) (digit n ∷ [])
    (cond (ltb n 100) (digit (n / 10) ∷ digit (n % 10) ∷ [])
    (digit (n / 100) ∷ digit (n / 10 % 10) ∷ digit (n % 10) ∷ []))

-- As decimal figures, 255 printed as `-`; then what parts it from the next.
unfoldable pub figure : ℕ → ℕ → List ℕ
figure n end = cond (eqb n 255) (45 ∷ end ∷ []) (decimal n ++ end ∷ [])

-- One line for each event: answer, stage, pad, and the sum that the journal shows (document 02, b, where document 01 has spent), parted by
-- one space.
unfoldable pub line : ℕ → ℕ → ℕ → ℕ → List ℕ
line answer stage name sum = figure answer space ++ (figure stage space ++ (figure name space ++ figure sum newline))

-- the line of an entry, which is four bytes
abbrev pub entry_line : List ℕ → List ℕ
entry_line e = line (get_or e 0 0) (get_or e 1 0) (get_or e 2 0) (get_or e 3 0)

-- a line for each four bytes of a journal (fewer than four left over are no entry)
unfoldable pub lines : List ℕ → List ℕ
lines [] = []
lines (answer ∷ []) = []
lines (answer ∷ stage ∷ []) = []
lines (answer ∷ stage ∷ name ∷ []) = []
lines (answer ∷ stage ∷ name ∷ sum ∷ entries) = line answer stage name sum ++ lines entries

-- A refused file prints only `refused n`.
abbrev pub refused_word : List ℕ
refused_word = 114 ∷ 101 ∷ 102 ∷ 117 ∷ 115 ∷ 101 ∷ 100 ∷ space ∷ []

unfoldable pub refused : ℕ → List ℕ
refused n = refused_word ++ figure n newline
