-- What a list of checks decides, whatever it decides between: by induction on the list, a check at a time.
--     read_of          reading a part of the outcome
--     refused_with     refused, it is refused with the number that the checks answer
--     all_passed       answered 0, every check passed, where no check has the number 0
--     accepted_with    answered 0, the outcome is what is accepted
-- Assumes nothing.
use mathlib.Core.List.{List, [], ◌∷◌}
use Prim.Native.Nat.{ℕ}
use lib.Dec.{ltb}
use Rattle.machine.proofs.Rules.{◌≡◌, refl, true, false, cond, Bool, ◌&&◌, arith, ltb-true}
use Rattle.machine.specs.Check.{Check, checked}
use Rattle.machine.proofs.Facts.Tests.{and_left, and_right}

pub read_of : {A B : Type 0} (f : A → B) (cs : List Check) (refuse : ℕ → A) (accept : A)
    → f (checked cs refuse accept) ≡ checked cs (λ a. f (refuse a)) (f accept)
read_of f [] refuse accept = refl
read_of f (c ∷ cs) refuse accept = go c.passes (read_of f cs refuse accept)
  where
    go : (t : Bool) → f (checked cs refuse accept) ≡ checked cs (λ a. f (refuse a)) (f accept)
        → f (cond t (checked cs refuse accept) (refuse c.number))
        ≡ cond t (checked cs (λ a. f (refuse a)) (f accept)) (f (refuse c.number))
    go true e = e
    go false e = refl

pub refused_with : {A : Type 0} (cs : List Check) (refuse : ℕ → A) (accept : A) → (checked cs (λ a. a) 0 ≡ 0 → ⊥)
    → checked cs refuse accept ≡ refuse (checked cs (λ a. a) 0)
refused_with [] refuse accept d = absurd (d refl)
refused_with (c ∷ cs) refuse accept d = go c.passes (refused_with cs refuse accept) d
  where
    go : (t : Bool) → ((checked cs (λ a. a) 0 ≡ 0 → ⊥) → checked cs refuse accept ≡ refuse (checked cs (λ a. a) 0))
        → (cond t (checked cs (λ a. a) 0) c.number ≡ 0 → ⊥)
        → cond t (checked cs refuse accept) (refuse c.number) ≡ refuse (cond t (checked cs (λ a. a) 0) c.number)
    go true more n = more n
    go false more n = refl

-- no check has the number 0
abbrev pub numbered : List Check → Bool
numbered [] = true
numbered (c ∷ cs) = ltb 0 c.number && numbered cs

-- every check passed
abbrev pub Passed : List Check → Type 0
Passed [] = Unit
Passed (c ∷ cs) = (c.passes ≡ true) × Passed cs

pub all_passed : (cs : List Check) → numbered cs ≡ true → checked cs (λ a. a) 0 ≡ 0 → Passed cs
all_passed [] ns e = tt
all_passed (c ∷ cs) ns e =
    let n = ltb-true 0 c.number (and_left (ltb 0 c.number) (numbered cs) ns) in
    let at = first c.passes (λ z. omega (arith, n, z)) e in
    (at.0, all_passed cs (and_right (ltb 0 c.number) (numbered cs) ns) at.1)
  where
    first : (t : Bool) → (c.number ≡ 0 → ⊥) → cond t (checked cs (λ a. a) 0) c.number ≡ 0 → (t ≡ true) × (checked cs (λ a. a) 0 ≡ 0)
    first true n z = (refl, z)
    first false n z = absurd (n z)

pub passed_with : {A : Type 0} (cs : List Check) (refuse : ℕ → A) (accept : A) → Passed cs → checked cs refuse accept ≡ accept
passed_with [] refuse accept p = refl
passed_with (c ∷ cs) refuse accept p = rw p.0 (passed_with cs refuse accept p.1)

pub accepted_with : {A : Type 0} (cs : List Check) (refuse : ℕ → A) (accept : A) → numbered cs ≡ true
    → checked cs (λ a. a) 0 ≡ 0 → checked cs refuse accept ≡ accept
accepted_with cs refuse accept ns e = passed_with cs refuse accept (all_passed cs ns e)
