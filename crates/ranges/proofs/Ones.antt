-- The bits of a number below 256 are those of its two halves of four bits, which are looked up: each is computed. Assumes nothing.
--     looked_up      the bits of a number below 256
--     at_most_4      those of a half
use Rattle.std.proofs.Common.{ℕ, ◌+◌, ◌/◌, ◌%◌, ◌<◌, ◌≤◌, List, [], ◌∷◌, get_or, eqb, leb}
use Rattle.std.proofs.Math.ListN.{get_or-eq_default}
use native.Mathlib.Decide.{dec_lt}
use lib.Count.{ones}
use Rattle.machine.proofs.Rules.{◌≡◌, refl, Bool, true, arith, eqb-true, leb-true}
use Rattle.machine.specs.Below.{all_below}
use Rattle.machine.proofs.Facts.Below.{all_at}

-- how many bits each number of four bits has
abbrev pub table : List ℕ
table = 0 ∷ 1 ∷ 1 ∷ 2 ∷ 1 ∷ 2 ∷ 2 ∷ 3 ∷ 1 ∷ 2 ∷ 2 ∷ 3 ∷ 2 ∷ 3 ∷ 3 ∷ 4 ∷ []

sum_test : ℕ → Bool
sum_test x = eqb (get_or table (x % 16) 0 + get_or table (x / 16) 0) (ones x)

all_sums : all_below 256 sum_test ≡ true
unfolding all_below sum_test ones
all_sums = refl

pub looked_up : (x : ℕ) → x < 256 → get_or table (x % 16) 0 + get_or table (x / 16) 0 ≡ ones x
unfolding sum_test
looked_up x l = eqb-true (get_or table (x % 16) 0 + get_or table (x / 16) 0) (ones x) (all_at 256 sum_test all_sums x l)

most_test : ℕ → Bool
most_test x = leb (get_or table x 0) 4

all_most : all_below 16 most_test ≡ true
unfolding all_below most_test
all_most = refl

pub at_most_4 : (x : ℕ) → get_or table x 0 ≤ 4
unfolding most_test
at_most_4 x = go (dec_lt x 16)
  where
    go : Dec (x < 16) → get_or table x 0 ≤ 4
    go (yes l) = leb-true (get_or table x 0) 4 (all_at 16 most_test all_most x l)
    go (no l) = omega (arith, get_or-eq_default table 0 {n = x} (omega (arith, l)))
