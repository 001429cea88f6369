-- Every name passes the test exactly when the list is below k: by the list's next name.
use Rattle.std.proofs.Common.{◌≡◌, ℕ, ◌<◌, List, [], ◌∷◌, Bool, true, refl, arith, rules}
use Rattle.std.specs.Prelude.{All, IsTrue, ◌↔◌}
use Rattle.machine.proofs.Rules.{lt-ltb, ltb-true}
use Rattle.machine.proofs.Facts.Tests.{both, and_left, and_right, same_test}
use Rattle.machine.specs.Closed.{lists_below}
use lib.Dec.{ltb}
use Prim.Native.Nat.{zero, suc}
use Rattle.fresh.proofs.closing.are_below.Goals as goal

to_test : (k : ℕ) (xs : List ℕ) → All (λ p. p < k) xs → lists_below k xs ≡ true
unfolding lists_below
to_test k [] h = refl
to_test k (x ∷ xs) h = both (lt-ltb x k (h 0 0 (omega arith))) (to_test k xs (λ i d l. h (suc i) d (omega arith)))

of_test : (k : ℕ) (xs : List ℕ) → lists_below k xs ≡ true → All (λ p. p < k) xs
unfolding lists_below
of_test k [] e i d l = absurd (omega arith)
of_test k (x ∷ xs) e zero d l = ltb-true x k (and_left (ltb x k) (lists_below k xs) e)
of_test k (x ∷ xs) e (suc i) d l = of_test k xs (and_right (ltb x k) (lists_below k xs) e) i d (omega arith)

decided : (t : Bool) (k : ℕ) (xs : List ℕ) → (IsTrue t ↔ All (λ p. p < k) xs) → t ≡ lists_below k xs
decided t k xs h = same_test t (lists_below k xs) (λ e. to_test k xs (h.0 e)) (λ e. h.1 (of_test k xs e))

pub returns : goal.returns
returns c = decided c.all.result c.args.k c.args.list.now (search rules)
