-- A tabulated list is known by its places, since lists of one length that agree at each place are equal.
--     by_place          a list of one length, with the function's value at each place, is the tabulated one
--     tabulate_same     two functions that agree below the length
--     tabulate-set      a store at one place, and two functions that agree at every other
-- Assumes nothing.
use mathlib.Core.List.{List}
use Prim.Native.Nat.{ℕ, ◌<◌}
use native.Mathlib.Decide.{ℕ_discrete}
use lib.ListN.{length, get_or, set, length-set}
use lib.Seq.{ext_get_or, get_or-set_same, get_or-set_other}
use Rattle.machine.proofs.Rules.{◌≡◌, ◌∙◌, sym, subst, arith}
use Rattle.machine.specs.Below.{tabulate}
use Rattle.machine.proofs.Facts.Below.{length-tabulate, get_or_tabulate}

pub by_place : {A : Type 0} (n : ℕ) (f : ℕ → A) (d : A) (xs : List A) → length xs ≡ n
    → ((j : ℕ) → j < n → get_or xs j d ≡ f j) → xs ≡ tabulate n f
by_place n f d xs e h =
    ext_get_or d xs (tabulate n f) (e ∙ sym (length-tabulate n f))
    (λ j l. let k : j < n = subst (λ (m : ℕ). j < m) e l in h j k ∙ sym (get_or_tabulate n f j d k))

module _ {A : Type 0} (n : ℕ) (f g : ℕ → A) where
  pub tabulate_same : A → ((j : ℕ) → j < n → f j ≡ g j) → tabulate n f ≡ tabulate n g
  tabulate_same d h = by_place n g d (tabulate n f) (length-tabulate n f) (λ j l. get_or_tabulate n f j d l ∙ h j l)

  pub tabulate-set : (i : ℕ) (x : A) → i < n → x ≡ g i → ((j : ℕ) → (j ≡ i → ⊥) → f j ≡ g j) → set (tabulate n f) i x ≡ tabulate n g
  tabulate-set i x l e h =
      by_place n g x (set (tabulate n f) i x) (length-set (tabulate n f) i x ∙ length-tabulate n f) (λ j k. go j k (ℕ_discrete j i))
    where
      go : (j : ℕ) → j < n → Dec (j ≡ i) → get_or (set (tabulate n f) i x) j x ≡ g j
      go j k (yes q) = rw q (get_or-set_same (tabulate n f) i x x (omega (arith, length-tabulate n f)) ∙ e)
      go j k (no q) = get_or-set_other (tabulate n f) i j x x q ∙ get_or_tabulate n f j x k ∙ h j q
