-- The names of a word are among 64, and a part of at most eight bits is a byte.
use Rattle.std.proofs.Common.{◌*◌, ◌/◌, ◌^◌, arith}
use native.Mathlib.Nat.{mod-lt}
use lib.Pow.{pow_pos, pow_mono}
use Rattle.machine.specs.Closed.{closed_word}
use Rattle.machine.proofs.Ranges.{limits_of}
use Rattle.fresh.proofs.Sizes.{same_answer, names_64}
use Rattle.fresh.proofs.accepted.Accepted.closed_word.Goals as goal

pub overflow_mul-r : goal.overflow_mul-r
overflow_mul-r c =
    let ends = names_64 c.args.self c.args.r (same_answer c.self.view_is c.self.invariant) c.requires in
    rw c.self.view_is (record { fits = omega (arith, ends) })

pub part-requires : goal.part-requires
part-requires c =
    let accepted = same_answer c.self.view_is c.self.invariant in
    let k = limits_of c.args.self accepted in
    let ends = names_64 c.args.self c.args.r accepted c.requires in
    rw c.self.view_is (omega (arith, ends, k.b1), omega (arith, k.b8))

pub overflow_cast-result : goal.overflow_cast-result
overflow_cast-result c =
    let s = c.self.inside.setup in
    let low = mod-lt (s.closed / 2 ^ (c.args.r * s.bits)) (pow_pos s.bits) in
    record { fits = omega (arith, c.part.ensures, low, pow_mono {i = s.bits} {j = 8} (limits_of s c.self.invariant).b8) }

pub returns : goal.returns
unfolding closed_word
returns c = rw c.self.view_is at c.part.ensures
