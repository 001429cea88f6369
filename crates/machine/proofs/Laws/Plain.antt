-- A setup that closes none is document 01's: every name is open, the gate word starts at k, a counter at k / 2^(d+1), which is above 0, and
-- 19 and 20 never come. By counting. Assumes nothing.
use Prim.Native.Nat.{ℕ, zero, suc, ◌+◌, ◌*◌, ◌/◌, ◌^◌, ◌≤◌, ◌<◌}
use native.Mathlib.Decide.{ℕ_discrete}
use native.Mathlib.Nat.{mul_assoc, mul_right_comm, mul-div_cancel, mul-le-mul, zero-div}
use lib.Dec.{ltb}
use lib.Pow.{pow_pos}
use Rattle.machine.proofs.Rules.{◌≡◌, ◌∙◌, sym, ap, refl, true, arith, lt-ltb}
use Rattle.machine.specs.Below.{sum_below}
use Rattle.machine.specs.Closed.{is_open, open_in, rank}
use Rattle.machine.specs.Setup.{names, open_names, is_leaves, number_answer, setup_answer}
use Rattle.machine.specs.State.{depth, width, node_first, node_count, fresh_counter}
use Rattle.machine.specs.declared.Setup.{Setup}
use Rattle.machine.proofs.Facts.Leaves.{leaves_low, width_level}
use Rattle.machine.proofs.Laws.Setup.{numbers-refused, numbers_passed}
use Rattle.machine.proofs.Ranges.{Limits, numbers_of}

module _ (c : Setup) (none : c.closed ≡ 0) where
  pub all_open : (p : ℕ) → is_open c p ≡ true
  unfolding is_open
  all_open p = rw (none, zero-div (2 ^ p))

  pub open_all : (from n : ℕ) → open_in c from n ≡ n
  unfolding open_in sum_below
  open_all from zero = refl
  open_all from (suc n) = rw (all_open (from + n)) (omega (arith, open_all from n))

  pub rank_all : (p : ℕ) → rank c p ≡ p
  unfolding rank sum_below
  rank_all zero = refl
  rank_all (suc p) = rw (all_open p) (omega (arith, rank_all p))

  module _ (e : is_leaves c.leaves ≡ true) (v : ℕ) (low : 0 < v) (k : v < c.leaves) where
    abbrev w : ℕ
    w = width c.leaves (2 * v)

    abbrev d : ℕ
    d = 2 ^ (depth v + 1)

    counter_is : fresh_counter c v ≡ w * (c.segments * c.bits)
    unfolding node_count
    counter_is = open_all (node_first c (2 * v)) (w * (c.segments * c.bits))

    pub counter_share : fresh_counter c v ≡ names c / d
    counter_share =
        let g : ℕ = c.segments in
        let b : ℕ = c.bits in
        let s : w * d ≡ c.leaves = width_level c.leaves v e low k in
        counter_is
        ∙ sym
        (ap (λ (x : ℕ). x / d) (ap (λ (x : ℕ). x * g * b) (sym s) ∙ mul_assoc (w * d) g b ∙ mul_right_comm w d (g * b))
        ∙ mul-div_cancel (w * (g * b)) (pow_pos (depth v + 1)))

    pub counter_low : 1 ≤ c.segments → 1 ≤ c.bits → 1 ≤ fresh_counter c v
    counter_low g1 b1 =
        let some : 1 ≤ w = go w (width_level c.leaves v e low k) in
        omega (arith, counter_is, mul-le-mul some (mul-le-mul g1 b1))
      where
        go : (n : ℕ) → n * d ≡ c.leaves → 1 ≤ n
        go zero z = omega (arith, leaves_low c.leaves e)
        go (suc n) z = omega arith

  pub numbers_decide : setup_answer c ≡ number_answer c
  numbers_decide = go (ℕ_discrete (number_answer c) 0)
    where
      some : Limits c → 0 < names c
      some k = omega (arith, mul-le-mul (mul-le-mul (leaves_low c.leaves k.leaves) k.g1) k.b1)

      go : Dec (number_answer c ≡ 0) → setup_answer c ≡ number_answer c
      go (yes e) =
          let inside : ltb c.closed (2 ^ names c) ≡ true
          = ap (λ (x : ℕ). ltb x (2 ^ names c)) none ∙ lt-ltb 0 (2 ^ names c) (pow_pos (names c)) in
          let open-one : ltb 0 (open_names c) ≡ true = ap (ltb 0) (open_all 0 (names c)) ∙ lt-ltb 0 (names c) (some (numbers_of c e)) in
          numbers_passed c e ∙ rw (inside, open-one) (sym e)
      go (no d) = numbers-refused c d
