-- A setup answered 0 has its numbers within the machine's limits, 1 to 16 leaves, at most 64 segment words, and at most 64 names up to
-- the end of each. Assumes nothing.
use mathlib.Core.Path.{◌≡◌, subst}
use Prim.Native.Nat.{ℕ, ◌+◌, ◌*◌, ◌≤◌, ◌<◌}
use native.Mathlib.Nat.{mul-le-mul_right}
use native.Mathlib.Omega.{arith}
use Rattle.machine.specs.Setup.{setup_answer}
use Rattle.machine.specs.declared.Setup.{Setup}
use Rattle.machine.proofs.Facts.Leaves.{leaves_low, leaves_high}
use Rattle.machine.proofs.Places.{segments_64}
use Rattle.machine.proofs.Ranges.{Limits, limits_of}

-- what is known of an accepted setup's field is known of its value
pub same_answer : {field value : Setup} → field ≡ value → setup_answer field ≡ 0 → setup_answer value ≡ 0
same_answer e z = subst (λ (c : Setup). setup_answer c ≡ 0) e z

module _ {c : Setup} (k : Limits c) where
  pub leaves_1 : 1 ≤ c.leaves
  leaves_1 = leaves_low c.leaves k.leaves

  pub leaves_16 : c.leaves ≤ 16
  leaves_16 = leaves_high c.leaves k.leaves

  pub words_64 : c.leaves * c.segments ≤ 64
  words_64 = segments_64 c k.b1 k.k64

-- the names of a used word
pub names_64 : (c : Setup) (r : ℕ) → setup_answer c ≡ 0 → r < c.leaves * c.segments → r * c.bits + c.bits ≤ 64
names_64 c r a e = omega (arith, (limits_of c a).k64, mul-le-mul_right c.bits e)
