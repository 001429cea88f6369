-- The gate word of a state in range is at most 64 either way, so that its negation fits; by cases on its sign. Assumes nothing.
use Prim.Native.Nat.{ℕ, zero, suc, ◌≤◌}
use lib.IntN.{ℤ, pos, negsuc, neg_ℤ, ◌-ℤ◌, +ℤ_idl}
use mir.Facts.{sfits_lit}
use mir.Syntax.{w8}
use mir.Val.{SFits}
use Rattle.machine.proofs.Rules.{◌≡◌, true, arith, le-leb, ltb-true, leb-true}
use Rattle.machine.specs.Range.{gate_in_range}

pub zero_minus : (z : ℤ) → pos 0 -ℤ z ≡ neg_ℤ z
zero_minus z = +ℤ_idl (neg_ℤ z)

pub neg_fits : (z : ℤ) → gate_in_range 64 z ≡ true → SFits w8 (neg_ℤ z)
unfolding gate_in_range
neg_fits (pos zero) e = sfits_lit tt
neg_fits (pos (suc n)) e = record { sfits = omega (arith, leb-true (suc n) 64 e) }
neg_fits (negsuc n) e = record { sfits = omega (arith, ltb-true n 64 e) }

-- a gate word of at most k is one of at most 64
pub gate_64 : (k : ℕ) (z : ℤ) → gate_in_range k z ≡ true → k ≤ 64 → gate_in_range 64 z ≡ true
unfolding gate_in_range
gate_64 k (pos n) e l = le-leb n 64 (omega (arith, leb-true n k e))
gate_64 k (negsuc n) e l = e
