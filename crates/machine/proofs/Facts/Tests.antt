-- A `cond` and an `all_of` taken apart by their tests: by cases on each Boolean.
--     by_cond      what holds of each side of a `cond`, given what the test was there, holds of the `cond`
--     all_of_lem       the test at a place of a list of tests that all pass
--     same_test    two tests that pass together are one
-- Assumes nothing.
use mathlib.Core.List.{List, [], ◌∷◌}
use Prim.Native.Nat.{ℕ, zero, suc}
use lib.ListN.{get_or}
use Rattle.machine.proofs.Rules.{◌≡◌, sym, refl, and-eq-true_iff, true, false, cond, Bool, ◌&&◌}
use Rattle.machine.specs.Check.{all_of}

pub by_cond : {A : Type 0} (P : A → Type 0) (t : Bool) {x y : A} → (t ≡ true → P x) → (t ≡ false → P y) → P (cond t x y)
by_cond P true f g = f refl
by_cond P false f g = g refl

pub both : {a b : Bool} → a ≡ true → b ≡ true → (a && b) ≡ true
both {a} {b} p q = rw (p, q)

pub and_left : (a b : Bool) → (a && b) ≡ true → a ≡ true
and_left a b e = ((and-eq-true_iff a b).0 e).0

pub and_right : (a b : Bool) → (a && b) ≡ true → b ≡ true
and_right a b e = ((and-eq-true_iff a b).0 e).1

pub and_comm : (a b : Bool) → (a && b) ≡ (b && a)
and_comm true true = refl
and_comm true false = refl
and_comm false true = refl
and_comm false false = refl

pub all_of_lem : (ts : List Bool) → all_of ts ≡ true → (i : ℕ) → get_or ts i true ≡ true
all_of_lem [] e i = refl
all_of_lem (t ∷ ts) e zero = and_left t (all_of ts) e
all_of_lem (t ∷ ts) e (suc i) = all_of_lem ts (and_right t (all_of ts) e) i

pub same_test : (a b : Bool) → (a ≡ true → b ≡ true) → (b ≡ true → a ≡ true) → a ≡ b
same_test true b f g = sym (f refl)
same_test false true f g = g refl
same_test false false f g = refl
