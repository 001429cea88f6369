-- Sums over the numbers below a bound: by induction on the bound. Every count of the proof is such a sum of indicators.
--     sum_eq, sum_le, sum-add, sum-zero, sum_const, sum_split, sum_first, sum_swap    the ordinary laws
--     sum_change      one term changes
--     sum-found       exactly one number is a given one
--     sum_with_one, sum_two    two sums and one more lie below a third; two terms that count make two
--     hits            how often a number stands in a range: once or never
-- Assumes nothing.
use Prim.Native.Nat.{ℕ, zero, suc, ◌+◌, ◌*◌, ◌≤◌, ◌<◌}
use native.Mathlib.Decide.{ℕ_discrete}
use native.Mathlib.Nat.{not-suc-le-zero, add-zero, add-suc}
use lib.Dec.{eqb}
use Rattle.machine.proofs.Rules.{◌≡◌, sym, refl, true, false, Bool, ◌≢◌, arith, eq-eqb, ne_eqb}
use Rattle.machine.specs.Below.{sum_below, indicator as ind}

pub ind_le : (t : Bool) → ind t ≤ 1
ind_le true = omega arith
ind_le false = omega arith

pub sum_eq : (n : ℕ) (f g : ℕ → ℕ) → ((i : ℕ) → i < n → f i ≡ g i) → sum_below n f ≡ sum_below n g
unfolding sum_below
sum_eq zero f g h = refl
sum_eq (suc n) f g h = omega (arith, sum_eq n f g (λ i l. h i (omega arith)), h n (omega arith))

pub sum_le : (n : ℕ) (f g : ℕ → ℕ) → ((i : ℕ) → i < n → f i ≤ g i) → sum_below n f ≤ sum_below n g
unfolding sum_below
sum_le zero f g h = omega arith
sum_le (suc n) f g h = omega (arith, sum_le n f g (λ i l. h i (omega arith)), h n (omega arith))

pub sum-add : (n : ℕ) (f g : ℕ → ℕ) → sum_below n (λ i. f i + g i) ≡ sum_below n f + sum_below n g
unfolding sum_below
sum-add zero f g = refl
sum-add (suc n) f g = omega (arith, sum-add n f g)

pub sum-zero : (n : ℕ) (f : ℕ → ℕ) → ((i : ℕ) → i < n → f i ≡ 0) → sum_below n f ≡ 0
unfolding sum_below
sum-zero zero f h = refl
sum-zero (suc n) f h = omega (arith, sum-zero n f (λ i l. h i (omega arith)), h n (omega arith))

pub sum_const : (n a : ℕ) → sum_below n (λ i. a) ≡ n * a
unfolding sum_below
sum_const zero a = omega arith
sum_const (suc n) a = omega (arith, sum_const n a)

pub sum_split : (n m : ℕ) (f : ℕ → ℕ) → sum_below (n + m) f ≡ sum_below n f + sum_below m (λ i. f (n + i))
unfolding sum_below
sum_split n zero f = rw (add-zero n) (omega arith)
sum_split n (suc m) f = rw (add-suc n m) (omega (arith, sum_split n m f))

pub sum_first : (n : ℕ) (f : ℕ → ℕ) → sum_below (suc n) f ≡ f 0 + sum_below n (λ i. f (suc i))
unfolding sum_below
sum_first zero f = omega arith
sum_first (suc n) f = omega (arith, sum_first n f)

pub sum_swap : (n m : ℕ) (f : ℕ → ℕ → ℕ) → sum_below n (λ i. sum_below m (λ j. f i j)) ≡ sum_below m (λ j. sum_below n (λ i. f i j))
unfolding sum_below
sum_swap zero m f = sym (sum-zero m (λ j. 0) (λ j l. refl))
sum_swap (suc n) m f = omega (arith, sum_swap n m f, sum-add m (λ j. sum_below n (λ i. f i j)) (λ j. f n j))

pub sum_change : (n i : ℕ) (f g : ℕ → ℕ) → i < n → ((j : ℕ) → j < n → j ≢ i → g j ≡ f j)
    → sum_below n g + f i ≡ sum_below n f + g i
unfolding sum_below
sum_change zero i f g l h = absurd (not-suc-le-zero l)
sum_change (suc n) i f g l h = go (ℕ_discrete i n) (λ m. sum_change n i f g m (λ j k. h j (omega arith)))
  where
    go : Dec (i ≡ n) → (i < n → sum_below n g + f i ≡ sum_below n f + g i) → sum_below (suc n) g + f i ≡ sum_below (suc n) f + g i
    go (yes e) r = rw e (omega (arith, sum_eq n g f (λ j m. h j (omega arith) (omega arith))))
    go (no d) r = omega (arith, r (omega arith), h n (omega arith) (λ q. d (sym q)))

pub sum-found : (n i : ℕ) → i < n → sum_below n (λ j. ind (eqb i j)) ≡ 1
sum-found n i l =
    let own : ind (eqb i i) ≡ 1 = rw (eq-eqb i i refl) in
    let other = sum_change n i (λ j. 0) (λ j. ind (eqb i j)) l (λ j _ d. rw (ne_eqb i j (λ e. d (sym e)))) in
    omega (arith, sum-zero n (λ j. 0) (λ j _. refl))

-- wherever f and g fit into k, and at p with room for one more
pub sum_with_one : (n p : ℕ) (f g k : ℕ → ℕ) → p < n → f p + g p < k p → ((q : ℕ) → q < n → q ≢ p → f q + g q ≤ k q)
    → sum_below n f + sum_below n g < sum_below n k
sum_with_one n p f g k l own other =
    let one : ℕ → ℕ = λ q. ind (eqb p q) in
    let less = sum_le n (λ q. f q + g q + one q) k (λ q m. go q m (ℕ_discrete q p)) in
    omega (arith, sum-found n p l, sum-add n f g, sum-add n (λ q. f q + g q) one)
  where
    go : (q : ℕ) → q < n → Dec (q ≡ p) → f q + g q + ind (eqb p q) ≤ k q
    go q m (yes e) = rw (e, eq-eqb p p refl) (omega arith)
    go q m (no d) = rw (ne_eqb p q (λ e. d (sym e))) (omega (arith, other q m d))

pub sum_two : (n i j : ℕ) (f : ℕ → ℕ) → i < n → j < n → i ≢ j → 0 < f i → 0 < f j → 1 < sum_below n f
sum_two n i j f l m d a c =
    let apart : ind (eqb j i) ≡ 0 = rw (ne_eqb j i (λ e. d (sym e))) in
    let more = sum_with_one n i (λ q. ind (eqb j q)) (λ q. 0) f l (omega arith) (λ q _ _. go q (ℕ_discrete j q)) in
    omega (arith, sum-found n j m)
  where
    go : (q : ℕ) → Dec (j ≡ q) → ind (eqb j q) + 0 ≤ f q
    go q (yes e) = rw (← e, eq-eqb j j refl) (omega arith)
    go q (no t) = rw (ne_eqb j q t) (omega arith)

unfoldable pub hits : ℕ → ℕ → ℕ → ℕ
hits from n x = sum_below n (λ m. ind (eqb x (from + m)))

pub hits_out : (from n x : ℕ) → (from ≤ x → x < from + n → ⊥) → hits from n x ≡ 0
unfolding hits
hits_out from n x h = sum-zero n _ (λ m l. rw (ne_eqb x (from + m) (λ e. h (omega arith) (omega arith))))

pub hits_le : (from n x : ℕ) → hits from n x ≤ 1
unfolding hits sum_below
hits_le from zero x = omega arith
hits_le from (suc n) x = go (ℕ_discrete x (from + n)) (hits_le from n x)
  where
    go : Dec (x ≡ from + n) → hits from n x ≤ 1 → hits from n x + ind (eqb x (from + n)) ≤ 1
    go (yes e) r = omega (arith, hits_out from n x (λ a c. omega arith), ind_le (eqb x (from + n)))
    go (no d) r = rw (ne_eqb x (from + n) d) (omega arith)
