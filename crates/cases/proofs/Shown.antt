-- A list is the front of the longer list that has its places: by place. Assumes nothing.
use mathlib.Core.List.{List}
use Prim.Native.Nat.{ℕ, ◌≤◌}
use lib.ListN.{length, get_or, take}
use Rattle.machine.proofs.Rules.{◌≡◌, arith}
use Rattle.std.proofs.lemmas.List.{same_lists, places}
use Rattle.machine.specs.Below.{tabulate}
use Rattle.machine.proofs.Facts.Below.{length-tabulate, get_or_tabulate}

pub take_tabulate : (xs : List ℕ) (n : ℕ) → length xs ≤ n → take (length xs) (tabulate n (λ i. get_or xs i 0)) ≡ xs
take_tabulate xs n fits =
    let long = length-tabulate n (λ i. get_or xs i 0) in
    same_lists _ _ (grind (arith, places, long))
    (λ k d h. grind (arith, places, long, get_or_tabulate n (λ i. get_or xs i 0) k d))
