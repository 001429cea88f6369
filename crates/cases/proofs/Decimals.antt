-- What std writes of a number of 64 bits is its decimal: by how std writes one digit more. Assumes nothing.
use mathlib.Core.List.{List, [], ◌∷◌, ◌++◌}
use Prim.Native.Nat.{ℕ, zero, suc, ◌+◌, ◌/◌, ◌%◌, ◌^◌, ◌≤◌, ◌<◌}
use lib.ListN.{length, length-append}
use Rattle.machine.proofs.Rules.{◌≡◌, ap, refl, arith, lt-ltb, le-ltb}
use Rattle.std.specs.Fmt.{decimal}
use Rattle.std.proofs.lemmas.Fmt.{decimal_by_steps, length-decimal-le}
use Rattle.cases.specs.Line.{digit, decimal_in, figure}

-- the digits are the number's decimal in any number of places that holds them
abbrev IsDecimal : ℕ → List ℕ → Type 0
IsDecimal n ds = (0 < length ds) × ((k : ℕ) → length ds ≤ k + 1 → decimal_in k n ≡ ds)

one : (n : ℕ) → n < 10 → IsDecimal n ((48 + n) ∷ [])
unfolding decimal_in
one n small = (omega arith, go)
  where
    go : (k : ℕ) → length ((48 + n) ∷ []) ≤ k + 1 → decimal_in k n ≡ (48 + n) ∷ []
    go zero room = refl
    go (suc k) room = rw (lt-ltb n 10 small)

more : (n : ℕ) (ds : List ℕ) → 10 ≤ n → IsDecimal (n / 10) ds → IsDecimal n (ds ++ (48 + n % 10) ∷ [])
unfolding decimal_in
more n ds large h = (omega (arith, length-append ds ((48 + n % 10) ∷ [])), go)
  where
    go : (k : ℕ) → length (ds ++ (48 + n % 10) ∷ []) ≤ k + 1 → decimal_in k n ≡ ds ++ (48 + n % 10) ∷ []
    go zero room = absurd (omega (arith, h.0, length-append ds ((48 + n % 10) ∷ [])))
    go (suc k) room =
        rw (le-ltb n 10 large)
        (ap (λ (front : List ℕ). front ++ digit (n % 10) ∷ []) (h.1 k (omega (arith, length-append ds ((48 + n % 10) ∷ [])))))

pub figure-decimal : (n : ℕ) → n < 2 ^ 64 → figure n ≡ 32 ∷ decimal n
unfolding figure
figure-decimal n fits =
    let few : length (decimal n) ≤ 20 = length-decimal-le 20 n (omega arith) (omega arith) fits in
    ap (λ (ds : List ℕ). 32 ∷ ds) ((decimal_by_steps IsDecimal one more n fits).1 19 few)
