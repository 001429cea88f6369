-- A test of every item of a list is a test at each of its places, and a fold by `&&` is such a test: by induction. Assumes nothing.
--     list_all_below    a test of every item, by places
--     fold_all          a fold that takes in one test after another
--     placed_below      a test of numbers beside their places
--     numbers_below     a test of the numbers of a range
--     padded            a test of the numbers below a bound, among more
--     greatest_of       the greatest of all numbers, as a fold finds it
use mathlib.Core.Bool.{and_assoc}
use native.Mathlib.Decide.{dec_lt}
use Rattle.std.proofs.Common.{ℕ, zero, suc, ◌≤◌, ◌<◌, max, List, [], ◌∷◌, length, take, get_or, fold, leb, arith, add-one}
use Rattle.std.proofs.lemmas.List.{take_all}
use Rattle.std.proofs.lemmas.List.Sums.{fold_more}
use Rattle.std.proofs.lemmas.List.Folds.{list_all_more}
use Rattle.std.proofs.lemmas.List.FromFn.{length-range_with_len, get_or-range_with_len}
use Rattle.std.proofs.lemmas.Slice.Zip.{length-zip, get_or-zip}
use Rattle.std.specs.List.{list_all, range_with_len, zip}
use Rattle.machine.proofs.Rules.{◌≡◌, ◌∙◌, sym, ap, refl, Bool, true, ◌&&◌, ◌||◌, and-true, or-true, inl, le-leb, lt-leb}
use Rattle.machine.specs.Below.{all_below}
use Rattle.machine.proofs.Facts.Below.{all_in, all_at, all_same}
use Rattle.machine.proofs.Facts.Tests.{and_comm, same_test}
use Rattle.ranges.specs.Tests.{Greatest}
use Rattle.ranges.proofs.Bounds.{one_number}

module _ {A : Type 0} (test : A → Bool) where
  module _ (d : A) (xs : List A) where
    front_below : (i : ℕ) → i ≤ length xs → list_all test (take i xs) ≡ all_below i (λ j. test (get_or xs j d))
    unfolding all_below
    front_below zero l = refl
    front_below (suc i) l =
        ap (λ (n : ℕ). list_all test (take n xs)) (sym (add-one i))
        ∙ list_all_more test xs i d (omega arith)
        ∙ ap (λ (t : Bool). t && test (get_or xs i d)) (front_below i (omega arith))
        ∙ and_comm (all_below i (λ j. test (get_or xs j d))) (test (get_or xs i d))

    pub list_all_below : list_all test xs ≡ all_below (length xs) (λ i. test (get_or xs i d))
    list_all_below =
        ap (λ (ys : List A). list_all test ys) (sym (take_all (length xs) xs (omega arith))) ∙ front_below (length xs) (omega arith)

  pub fold_all : (b : Bool) (xs : List A) → fold (λ b x. b && test x) b xs ≡ (b && list_all test xs)
  fold_all b [] = sym (and-true b)
  fold_all b (x ∷ xs) = fold_all (b && test x) xs ∙ and_assoc b (test x) (list_all test xs)

pub placed_below : (test : ℕ × ℕ → Bool) (xs : List ℕ) (n : ℕ) → n ≤ length xs
    → list_all test (zip xs (range_with_len 0 n)) ≡ all_below n (λ i. test (get_or xs i 0, i))
placed_below test xs n l =
    let places = zip xs (range_with_len 0 n) in
    let all : length places ≡ n = omega (arith, l, length-zip xs (range_with_len 0 n), length-range_with_len 0 n) in
    list_all_below test (0, 0) places
    ∙ ap (λ (m : ℕ). all_below m (λ i. test (get_or places i (0, 0)))) all
    ∙ all_same n (λ i. test (get_or places i (0, 0))) (λ i. test (get_or xs i 0, i))
    (λ i k.
    ap test
    (get_or-zip xs (range_with_len 0 n) i (0, 0) (omega (arith, l, k)) (omega (arith, k, length-range_with_len 0 n))
    ∙ ap (λ (j : ℕ). (get_or xs i 0, j)) {x = get_or (range_with_len 0 n) i 0} {y = i} (omega (arith, get_or-range_with_len 0 n i 0 k))))

pub numbers_below : (test : ℕ → Bool) (n : ℕ) → list_all test (range_with_len 0 n) ≡ all_below n test
numbers_below test n =
    list_all_below test 0 (range_with_len 0 n)
    ∙ ap (λ (m : ℕ). all_below m (λ i. test (get_or (range_with_len 0 n) i 0))) (length-range_with_len 0 n)
    ∙ all_same n (λ i. test (get_or (range_with_len 0 n) i 0)) test
    (λ i l. ap test {x = get_or (range_with_len 0 n) i 0} {y = i} (omega (arith, get_or-range_with_len 0 n i 0 l)))

pub padded : (n m : ℕ) (f : ℕ → Bool) → n ≤ m → all_below m (λ i. leb n i || f i) ≡ all_below n f
padded n m f l =
    same_test (all_below m (λ i. leb n i || f i)) (all_below n f)
    (λ e. all_in n f (λ i k. rw (lt-leb n i k) at (all_at m (λ j. leb n j || f j) e i (omega (arith, k)))))
    (λ e. all_in m (λ i. leb n i || f i) (λ i k. one i (dec_lt i n) e))
  where
    one : (i : ℕ) → Dec (i < n) → all_below n f ≡ true → (leb n i || f i) ≡ true
    one i (yes k) e = rw (all_at n f e i k) (or-true (leb n i))
    one i (no k) e = rw (le-leb n i (omega (arith, k)))

module _ (xs : List ℕ) where
  front_greatest : (i : ℕ) → i ≤ length xs → Greatest xs i (fold max 0 (take i xs))
  front_greatest zero l = record { most = λ i k. absurd (omega (arith, k)); met = inl refl }
  front_greatest (suc i) l =
      rw (sym (add-one i), fold_more max 0 xs i 0 (omega arith)) (one_number (front_greatest i (omega arith)))

  pub greatest_of : Greatest xs (length xs) (fold max 0 xs)
  greatest_of = rw (take_all (length xs) xs (omega arith)) at (front_greatest (length xs) (omega arith))
