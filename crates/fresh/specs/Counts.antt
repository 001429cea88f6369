-- How many names are closed, by the ones among the bits of a number. proofs/Counted.antt shows that the others are those that machine
-- counts as open.
use Rattle.std.specs.Prelude.{ℕ, ◌/◌, ◌%◌, ◌^◌}
use Rattle.std.specs.Int.Count.{ones}

-- of n names from one on
unfoldable pub closed_in : ℕ → ℕ → ℕ → ℕ
closed_in closed from n = ones (closed / 2 ^ from % 2 ^ n)
