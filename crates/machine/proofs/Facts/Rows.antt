-- What holds of every row of a table, and past its last one, holds of the table read at any number: by induction on the table.
-- Assumes nothing.
use mathlib.Core.List.{List, [], ◌∷◌}
use Prim.Native.Nat.{ℕ, zero, suc}
use lib.ListN.{get_or}

-- P of each row and its number, and of the default at every number past them
abbrev pub Rows : {A : Type 0} → (ℕ → A → Type 0) → List A → A → Type 0
Rows P [] d = (n : ℕ) → P n d
Rows P (x ∷ xs) d = P 0 x × Rows (λ n. P (suc n)) xs d

pub by_row : {A : Type 0} (P : ℕ → A → Type 0) (xs : List A) (d : A) → Rows P xs d → (n : ℕ) → P n (get_or xs n d)
by_row P [] d r n = r n
by_row P (x ∷ xs) d r zero = r.0
by_row P (x ∷ xs) d r (suc n) = by_row (λ m. P (suc m)) xs d r.1 n
