-- A state whose setup is refused is out of range; and the first processes of an array are tested as they stand in it.
use Rattle.std.proofs.Common.{ℕ, List, length, get_or, take, length-take, ◌≤◌, arith}
use Rattle.std.proofs.lemmas.List.{get_or-take}
use Rattle.machine.proofs.Rules.{◌≡◌, ◌∙◌, ap, false, Bool, ne_eqb}
use Rattle.machine.specs.Below.{all_below}
use Rattle.machine.specs.Range.{in_range}
use Rattle.machine.specs.Setup.{setup_answer}
use Rattle.machine.specs.declared.State.{State}
use Rattle.machine.proofs.Facts.Below.{all_same}

pub refused_out : (s : State) → (setup_answer s.setup ≡ 0 → ⊥) → false ≡ in_range s
unfolding in_range
refused_out s d = rw (ne_eqb (setup_answer s.setup) 0 d)

pub front_tests : {A : Type 0} (test : A → Bool) (d : A) (n : ℕ) (xs : List A) → n ≤ length xs
    → all_below (length (take n xs)) (λ i. test (get_or (take n xs) i d)) ≡ all_below n (λ i. test (get_or xs i d))
front_tests test d n xs l =
    let all : length (take n xs) ≡ n = omega (arith, length-take n xs) in
    ap (λ (m : ℕ). all_below m (λ i. test (get_or (take n xs) i d))) all
    ∙ all_same n (λ i. test (get_or (take n xs) i d)) (λ i. test (get_or xs i d)) (λ i k. ap test (get_or-take n xs i d k))
