-- What stands at a place of a list after a store, and after every element moved up by one: by whether it is that place.
-- Assumes nothing.
use mathlib.Core.List.{List, [], ◌∷◌, ◌++◌}
use Prim.Native.Nat.{ℕ, zero, suc, ◌+◌, ◌≤◌, ◌<◌}
use native.Mathlib.Decide.{ℕ_discrete, dec_lt}
use native.Mathlib.Nat.{zero-add}
use lib.ListN.{length, get_or, set, drop, length-set}
use lib.Seq.{sets, sets-eq, get_or-set_same, get_or-set_other, set_out}
use Rattle.machine.proofs.Rules.{◌≡◌, ◌∙◌, sym, ap, subst, refl, arith}
use Rattle.machine.specs.Touches.{Agrees}

-- what holds of the value stored, and of what stood there, holds of what stands there after the store
pub get_or-set_by : {A : Type 0} (P : A → Type 0) (l : List A) (i : ℕ) (a : A) (j : ℕ) (d : A)
    → (j ≡ i → P a) → P (get_or l j d) → P (get_or (set l i a) j d)
get_or-set_by P l i a j d f o = go (ℕ_discrete j i) (dec_lt i (length l))
  where
    go : Dec (j ≡ i) → Dec (i < length l) → P (get_or (set l i a) j d)
    go (yes e) (yes k) = rw (e, get_or-set_same l i a d k) (f e)
    go (yes e) (no k) = rw (set_out l i a (omega arith)) o
    go (no e) k = rw (get_or-set_other l i j a d e) o

-- the last place takes what stands past the end
pub get_or_moved : {A : Type 0} (l : List A) (i : ℕ) (d : A) → get_or (drop 1 l ++ (d ∷ [])) i d ≡ get_or l (suc i) d
get_or_moved [] zero d = refl
get_or_moved [] (suc i) d = refl
get_or_moved (x ∷ []) zero d = refl
get_or_moved (x ∷ []) (suc i) d = refl
get_or_moved (x ∷ y ∷ l) zero d = refl
get_or_moved (x ∷ y ∷ l) (suc i) d = get_or_moved (y ∷ l) i d

-- two lists that agree at the places in use agree there after the same store
pub store_agrees : {A : Type 0} {d : A} {used : ℕ → Type 0} {l l' : List A} (i : ℕ) (a : A) → Agrees d used l l'
    → Agrees d used (set l i a) (set l' i a)
store_agrees {d = d} {used} {l} {l'} i a k =
    record { at = λ j u. go j u (ℕ_discrete j i) (dec_lt i (length l)); size = length-set l' i a ∙ k.size ∙ sym (length-set l i a) }
  where
    go : (j : ℕ) → used j → Dec (j ≡ i) → Dec (i < length l) → get_or (set l' i a) j d ≡ get_or (set l i a) j d
    go j u (yes q) (yes e) = rw q (get_or-set_same l' i a d (omega (arith, k.size)) ∙ sym (get_or-set_same l i a d e))
    go j u (yes q) (no e) = rw (set_out l i a (omega arith), set_out l' i a (omega (arith, k.size))) (k.at j u)
    go j u (no q) e = get_or-set_other l' i j a d q ∙ k.at j u ∙ sym (get_or-set_other l i j a d q)

-- two runs of stores in a row are one
pub sets-append : (xs ys l : List ℕ) (i j : ℕ) → j ≡ i + length xs → sets (sets l i xs) j ys ≡ sets l i (xs ++ ys)
sets-append [] ys l i j e = ap (λ (k : ℕ). sets l k ys) (omega (arith, e))
sets-append (x ∷ xs) ys l i j e = sets-append xs ys (set l i x) (suc i) j (omega (arith, e))

-- a run of stores at the start leaves what it does not reach
pub sets_start : (xs l : List ℕ) → length xs ≤ length l → sets l 0 xs ≡ xs ++ drop (length xs) l
sets_start xs l h =
    subst (λ (n : ℕ). sets l 0 xs ≡ xs ++ drop n l) (zero-add (length xs)) (sets-eq xs l 0 (omega (arith, h)))
