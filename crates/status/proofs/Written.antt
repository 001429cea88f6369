-- The status records while they are filled: one more record stored is one more written. By induction on the records written. Assumes
-- nothing.
use mathlib.Core.List.{List, [], ◌∷◌, ◌++◌, map}
use Prim.Native.Nat.{ℕ, zero, suc, ◌<◌}
use lib.ListN.{length, get_or, set, take, drop}
use Rattle.machine.proofs.Rules.{◌≡◌, ap, refl, arith}

-- the first i places of ys hold f of the first i of xs
abbrev pub written : {A B : Type 0} → (A → B) → List A → ℕ → List B → List B
written f xs i ys = map f (take i xs) ++ drop i ys

pub written_more : {A B : Type 0} (f : A → B) (xs : List A) (d : A) (i : ℕ) (ys : List B) → i < length xs → i < length ys
    → set (written f xs i ys) i (f (get_or xs i d)) ≡ written f xs (suc i) ys
written_more f [] d i ys k l = absurd (omega (arith, k))
written_more f (x ∷ xs) d i [] k l = absurd (omega (arith, l))
written_more f (x ∷ xs) d zero (y ∷ ys) k l = refl
written_more {B = B} f (x ∷ xs) d (suc i) (y ∷ ys) k l =
    ap (λ (zs : List B). f x ∷ zs) (written_more f xs d i ys (omega (arith, k)) (omega (arith, l)))
