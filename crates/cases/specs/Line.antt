-- A line of output: a word, numbers in decimal with a space before each, and a line feed. A lent buffer takes as much of it as fits.
use Rattle.std.specs.Prelude.{cond, List, [], ◌∷◌, ◌++◌, ℕ, zero, suc, ◌+◌, ◌/◌, ◌%◌, min, ltb, length, take, drop}

abbrev pub digit : ℕ → ℕ
digit d = 48 + d

-- a number below 10^(k + 1) in decimal, without leading zeros
unfoldable pub decimal_in : ℕ → ℕ → List ℕ
decimal_in zero n = digit n ∷ []
decimal_in (suc k) n = cond (ltb n 10) (digit n ∷ []) (decimal_in k (n / 10) ++ digit (n % 10) ∷ [])

-- a space, and a number of 64 bits, which has at most 20 digits
unfoldable pub figure : ℕ → List ℕ
figure n = 32 ∷ decimal_in 19 n

unfoldable pub figures : List ℕ → List ℕ
figures [] = []
figures (n ∷ ns) = figure n ++ figures ns

unfoldable pub line_of : List ℕ → List ℕ → List ℕ
line_of word ns = word ++ (figures ns ++ 10 ∷ [])

-- how many bytes of a text a lent buffer takes, and the buffer after it: bytes that the text does not reach are untouched
abbrev pub size_in : List ℕ → List ℕ → ℕ
size_in lent text = min (length text) (length lent)

abbrev pub put_in : List ℕ → List ℕ → List ℕ
put_in lent text = take (length lent) text ++ drop (length text) lent
