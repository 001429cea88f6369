-- A test computed at every pair of numbers below two bounds where another holds, and the law that it gives at each. The connectives are
-- shut, so that their arguments are found. Assumes nothing.
use Prim.Native.Nat.{ℕ, ◌<◌}
use Rattle.machine.proofs.Rules.{◌≡◌, refl, true, false, Bool, false≢true}
use Rattle.machine.specs.Below.{all_below}
use Rattle.machine.proofs.Facts.Below.{all_at}

infixr 30 ◌⊓◌
unfoldable pub ◌⊓◌ : Bool → Bool → Bool
true ⊓ t = t
false ⊓ t = false

infixr 20 ◌⇒◌
unfoldable pub ◌⇒◌ : Bool → Bool → Bool
true ⇒ t = t
false ⇒ t = true

pub meet : (a c : Bool) → a ≡ true → c ≡ true → (a ⊓ c) ≡ true
unfolding ◌⊓◌
meet true c p q = q
meet false c p q = p

pub meet_false : (a : Bool) → (a ⊓ false) ≡ false
unfolding ◌⊓◌
meet_false true = refl
meet_false false = refl

follows : (a c : Bool) → (a ⇒ c) ≡ true → a ≡ true → c ≡ true
unfolding ◌⇒◌
follows true c e p = e
follows false c e p = absurd (false≢true p)

pub computed : (n m : ℕ) (g f : ℕ → ℕ → Bool) → all_below n (λ i. all_below m (λ j. g i j ⇒ f i j)) ≡ true
    → (i j : ℕ) → i < n → j < m → g i j ≡ true → f i j ≡ true
computed n m g f t i j k l =
    let row = all_at n (λ i. all_below m (λ j. g i j ⇒ f i j)) t i k in
    follows (g i j) (f i j) (all_at m (λ j. g i j ⇒ f i j) row j l)
