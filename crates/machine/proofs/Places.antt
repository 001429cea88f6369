-- The shared places that a process in range points at are ones that its setup uses, its leaf's segment and its name's, and there are
-- at most 64 segments. By division with remainder. Assumes nothing.
use Prim.Native.Nat.{◌*◌, ◌/◌, ◌≤◌, ◌<◌}
use native.Mathlib.Nat.{div-lt_iff_lt-mul, mul-le-mul_left}
use lib.Arith.{digits_lt}
use Rattle.machine.proofs.Rules.{◌≡◌, arith}
use Rattle.machine.specs.Getname.{segment_of}
use Rattle.machine.specs.Range.{ProcessRanges}
use Rattle.machine.specs.Setup.{names}
use Rattle.machine.specs.State.{none}
use Rattle.machine.specs.declared.Process.{Process}
use Rattle.machine.specs.declared.Setup.{Setup}

-- a segment has a name, so there are no more segments than names
pub segments_64 : (c : Setup) → 1 ≤ c.bits → names c ≤ 64 → c.leaves * c.segments ≤ 64
segments_64 c b1 k64 = omega (arith, mul-le-mul_left (c.leaves * c.segments) b1)

module _ {c : Setup} {h : Process} (k : ProcessRanges c h) where
  pub leaf_segment : c.leaves ≤ h.node → segment_of c h < c.leaves * c.segments
  leaf_segment e = digits_lt (omega (arith, k.node)) k.segment

  pub name_segment : 1 ≤ c.bits → (h.name ≡ none → ⊥) → h.name / c.bits < c.leaves * c.segments
  name_segment b1 d = (div-lt_iff_lt-mul {k = c.bits} {x = h.name} {y = c.leaves * c.segments} b1).1 (k.name d).below
