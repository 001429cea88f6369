-- A byte's decimal figures are right: read back they are the byte, each is a digit from 0 to 9, and only a single one may begin with 0.
-- One computed test over the 256 bytes, and the laws that it gives.
--     decimal_reads, decimal_digits, decimal_leads
-- Assumes nothing.
use mathlib.Core.List.{List, [], ◌∷◌}
use Prim.Native.Nat.{ℕ, ◌+◌, ◌*◌, ◌-◌, ◌<◌}
use lib.Dec.{ltb, leb, eqb}
use lib.ListN.{get_or}
use Rattle.machine.proofs.Rules.{◌≡◌, refl, true, ◌||◌, Bool, ◌&&◌, eqb-true}
use Rattle.machine.specs.Below.{all_below}
use Rattle.machine.specs.Check.{all_of}
use Rattle.machine.proofs.Facts.Below.{all_at}
use Rattle.machine.proofs.Facts.Tests.{all_of_lem}
use Rattle.text.specs.Lines.{decimal}

-- what figures read as, after those already read
unfoldable pub read_from : ℕ → List ℕ → ℕ
read_from n [] = n
read_from n (d ∷ ds) = read_from (10 * n + (d - 48)) ds

unfoldable pub are_digits : List ℕ → Bool
are_digits [] = true
are_digits (d ∷ ds) = (leb 48 d && leb d 57) && are_digits ds

-- a number below 10, or figures that do not begin with 0
abbrev pub leads : ℕ → Bool
leads n = ltb n 10 || ltb 48 (get_or (decimal n) 0 0)

abbrev right : ℕ → List Bool
right n = eqb (read_from 0 (decimal n)) n ∷ are_digits (decimal n) ∷ leads n ∷ []

all_right : all_below 256 (λ n. all_of (right n)) ≡ true
unfolding all_below decimal read_from are_digits
all_right = refl

module _ (n : ℕ) (k : n < 256) where
  passes : (i : ℕ) → get_or (right n) i true ≡ true
  passes = all_of_lem (right n) (all_at 256 (λ m. all_of (right m)) all_right n k)

  pub decimal_reads : read_from 0 (decimal n) ≡ n
  decimal_reads = eqb-true (read_from 0 (decimal n)) n (passes 0)

  pub decimal_digits : are_digits (decimal n) ≡ true
  decimal_digits = passes 1

  pub decimal_leads : leads n ≡ true
  decimal_leads = passes 2
