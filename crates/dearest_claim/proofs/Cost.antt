-- What a claim can cost where none is closed and at most M are admitted at any moment: h and a step for each of the segments tried, of
-- which there are at most g and at most 1 + (M - 1) div b, since fewer than M names lie below the last of them. Assumes nothing.
use Prim.Native.Nat.{ℕ, ◌+◌, ◌*◌, ◌-◌, ◌/◌, ◌≤◌, ◌<◌, min}
use native.Mathlib.Decide.{dec_lt}
use native.Mathlib.Nat.{div-lt_iff_lt-mul}
use Rattle.machine.proofs.Rules.{◌≡◌, arith}
use Rattle.machine.specs.Setup.{height}
use Rattle.machine.specs.declared.Setup.{Setup}
use Rattle.machine.proofs.Laws.Plain.{rank_all}
use Rattle.renaming_claim.proofs.Invariant.{CostAt}

div_least : (n i b : ℕ) → 1 ≤ b → i * b ≤ n → i ≤ n / b
div_least n i b b1 l = go (dec_lt (n / b) i)
  where
    go : Dec (n / b < i) → i ≤ n / b
    go (yes k) = absurd (omega (arith, (div-lt_iff_lt-mul b1).0 k))
    go (no k) = omega arith

pub cost_most : (c : Setup) (M : ℕ) {n : ℕ} → c.closed ≡ 0 → 1 ≤ c.bits → CostAt c M n
    → n ≤ height c.leaves + min c.segments (1 + (M - 1) / c.bits)
cost_most c M {n} none b1 k = go (dec_lt (height c.leaves) n)
  where
    i : ℕ
    i = n - height c.leaves - 1

    go : Dec (height c.leaves < n) → n ≤ height c.leaves + min c.segments (1 + (M - 1) / c.bits)
    go (yes l) =
        let low : i * c.bits < M = omega (arith, k.tried i (omega arith), rank_all c none (i * c.bits)) in
        omega (arith, k.most, div_least (M - 1) i c.bits b1 (omega arith))
    go (no l) = omega arith
