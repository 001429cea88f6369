-- What `array::from_fn` makes is the tabulated list, where each call gives its place's value and leaves the closure as it was: by place.
-- Assumes nothing.
use mathlib.Core.List.{List}
use Prim.Native.Nat.{ℕ, zero, suc, ◌+◌, ◌≤◌, ◌<◌}
use native.Mathlib.Nat.{add-zero, zero-add}
use lib.ListN.{get_or}
use denote.Param.Members.{Mut, Called}
use Rattle.std.specs.Array.{IsFromFnResultFrom, IsFromFnResult}
use Rattle.machine.proofs.Rules.{◌≡◌, ◌∙◌, subst, arith}
use Rattle.machine.specs.Below.{tabulate}
use Rattle.machine.proofs.Facts.Tabulated.{by_place}

module _ {F A : Type 0} (g : Mut F (ℕ × Unit {0}) A) (f : ℕ → A) (c : F) (size : ℕ)
    (gives : (i : ℕ) → i < size → (x : A) (q : F) → Called g c (i, tt) x q → (x ≡ f i) × (q ≡ c)) where
  at_place : (xs : List A) (i n : ℕ) → i + n ≤ size → IsFromFnResultFrom g c xs i n → (j : ℕ) (d : A) → j < n
      → get_or xs (i + j) d ≡ f (i + j)
  at_place xs i zero l made j d k = absurd (omega (arith, k))
  at_place xs i (suc n) l made zero d k = rw (add-zero i) (made.2.1 d ∙ (gives i (omega (arith, l)) made.1 made.0 made.3).0)
  at_place xs i (suc n) l made (suc j) d k =
      let same = (gives i (omega (arith, l)) made.1 made.0 made.3).1 in
      let rest = subst (λ (q : F). IsFromFnResultFrom g q xs (i + 1) n) same made.4 in
      let e : i + 1 + j ≡ i + suc j = omega arith in
      rw e at (at_place xs (i + 1) n (omega (arith, l)) rest j d (omega (arith, k)))

  pub from_fn-tabulate : (xs : List A) → A → IsFromFnResult g c xs size → xs ≡ tabulate size f
  from_fn-tabulate xs d made =
      by_place size f d xs made.long (λ j k. simp zero-add at (at_place xs 0 size (omega arith) made.each j d k))
