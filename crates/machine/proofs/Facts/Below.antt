-- A test of every number below a bound says that each of them passes, and a tabulated list has the function's value at each
-- place: by induction on the bound.
--     all_in, all_at                    the test from its instances, and an instance from the test
--     all_more, all_fails               one number more, and a test that one number fails
--     all_same                          two tests that agree on each number
--     all_parts                         a test in two parts
--     length-tabulate, get_or_tabulate    a tabulated list
-- At a numeral bound the test computes, so that `refl` proves it and `all_at` turns it into a law.
-- Assumes nothing.
use mathlib.Core.Bool.{and_assoc}
use Prim.Native.Nat.{ℕ, zero, suc, ◌+◌, ◌<◌}
use native.Mathlib.Nat.{add-zero, add-suc, not-suc-le-zero, eq-or-lt_of_le, le_of_suc-le-suc}
use native.Mathlib.Numerals.{add-one}
use lib.ListN.{length, get_or, replicate}
use Rattle.machine.proofs.Rules.{◌≡◌, ◌∙◌, sym, ap, refl, true, false, Bool, ◌&&◌, and-false, ⊎_elim, arith}
use Rattle.machine.specs.Below.{all_below, tabulate}
use Rattle.machine.proofs.Facts.Tests.{and_left, and_right}

pub all_in : (n : ℕ) (f : ℕ → Bool) → ((i : ℕ) → i < n → f i ≡ true) → all_below n f ≡ true
unfolding all_below
all_in zero f h = refl
all_in (suc n) f h = simp (h n (omega arith), all_in n f (λ i l. h i (omega arith)))

pub all_at : (n : ℕ) (f : ℕ → Bool) → all_below n f ≡ true → (i : ℕ) → i < n → f i ≡ true
unfolding all_below
all_at zero f e i l = absurd (not-suc-le-zero l)
all_at (suc n) f e i l =
    ⊎_elim
    (λ q. ap f q ∙ and_left (f n) (all_below n f) e)
    (λ k. all_at n f (and_right (f n) (all_below n f) e) i k)
    (eq-or-lt_of_le (le_of_suc-le-suc l))

-- for a loop that counts up: one number more, and one that fails
pub all_more : (i : ℕ) (f : ℕ → Bool) → all_below i f ≡ true → f i ≡ true → all_below (i + 1) f ≡ true
unfolding all_below
all_more i f e h = rw add-one (simp (h, e))

pub all_fails : (n : ℕ) (f : ℕ → Bool) (i : ℕ) → i < n → f i ≡ false → all_below n f ≡ false
unfolding all_below
all_fails zero f i l e = absurd (not-suc-le-zero l)
all_fails (suc n) f i l e =
    ⊎_elim
    (λ q. ap (λ (t : Bool). t && all_below n f) (ap f (sym q) ∙ e))
    (λ k. ap (λ (t : Bool). f n && t) (all_fails n f i k e) ∙ and-false (f n))
    (eq-or-lt_of_le (le_of_suc-le-suc l))

pub all_same : (n : ℕ) (f g : ℕ → Bool) → ((i : ℕ) → i < n → f i ≡ g i) → all_below n f ≡ all_below n g
unfolding all_below
all_same zero f g h = refl
all_same (suc n) f g h = simp (h n (omega arith), all_same n f g (λ i l. h i (omega arith)))

-- a test of the numbers below a and of those from a on
pub all_parts : (a b : ℕ) (f : ℕ → Bool) → all_below (a + b) f ≡ (all_below b (λ i. f (a + i)) && all_below a f)
unfolding all_below
all_parts a zero f = ap (λ (x : ℕ). all_below x f) (add-zero a)
all_parts a (suc b) f =
    ap (λ (x : ℕ). all_below x f) (add-suc a b)
    ∙ ap (λ (t : Bool). f (a + b) && t) (all_parts a b f)
    ∙ sym (and_assoc (f (a + b)) (all_below b (λ i. f (a + i))) (all_below a f))

pub length-tabulate : {A : Type 0} (n : ℕ) (f : ℕ → A) → length (tabulate n f) ≡ n
unfolding tabulate
length-tabulate zero f = refl
length-tabulate (suc n) f = ap suc (length-tabulate n (λ i. f (suc i)))

pub get_or_tabulate : {A : Type 0} (n : ℕ) (f : ℕ → A) (i : ℕ) (d : A) → i < n → get_or (tabulate n f) i d ≡ f i
unfolding tabulate
get_or_tabulate zero f i d l = absurd (not-suc-le-zero l)
get_or_tabulate (suc n) f zero d l = refl
get_or_tabulate (suc n) f (suc i) d l = get_or_tabulate n (λ j. f (suc j)) i d (le_of_suc-le-suc l)

-- a list of one value has it everywhere, past its end too
pub get_or_constant : {A : Type 0} (n i : ℕ) (d : A) → get_or (replicate n d) i d ≡ d
get_or_constant zero i d = refl
get_or_constant (suc n) zero d = refl
get_or_constant (suc n) (suc i) d = get_or_constant n i d
