-- The closed names left begin with those under the node's left child, and what is compared is its fresh value.
use Rattle.std.proofs.Common.{◌≡◌, ℕ, ◌+◌, ◌*◌, ◌/◌, ◌%◌, ◌^◌, ◌<◌, ◌≤◌, ap, refl, arith, add-one, pow_mono}
use native.Mathlib.Nat.{pow-succ'}
use Rattle.machine.proofs.Rules.{◌∙◌}
use Rattle.machine.specs.Setup.{names}
use Rattle.machine.proofs.Ranges.{limits_of}
use Rattle.fresh.proofs.Sizes.{same_answer}
use Rattle.fresh.specs.Counts.{closed_in}
use Rattle.fresh.proofs.Counted.{closed_le}
use Rattle.fresh.proofs.Levels.{shifted_is}
use Rattle.ranges.proofs.Level.{level_test_lem, share_32, left_closed, doubled_le, first_64}
use Rattle.ranges.proofs.counters.Counters.level_counter_in_range.Goals as goal

-- a level of depth 3 at most
module _ (d i : ℕ) (d4 : d < 4) (l : i < 2 ^ d) where
  nodes : (1 * 2 ^ d) % 256 ≡ 2 ^ d
  nodes = shifted_is d (omega (arith, d4))

  few : 2 ^ d ≤ 8
  few = pow_mono {i = d} {j = 3} (omega (arith, d4))

  place : (1 * 2 ^ d) % 256 + i < 16
  place = omega (arith, nodes, few, l)

pub overflow_add-v : goal.overflow_add-v
overflow_add-v c = omega (arith, place c.args.d c.args.i c.requires.0 c.requires.1.1)

pub overflow_mul-rest : goal.overflow_mul-rest
overflow_mul-rest c = record { fits = omega (arith, few c.args.d c.args.i c.requires.0 c.requires.1.1, c.requires.1.1) }

pub overflow_shr-rest : goal.overflow_shr-rest
overflow_shr-rest c =
    let s = c.args.self.now.accepted in
    let k = limits_of s (same_answer c.setup-closed.ensures.value c.setup-closed.ensures.accepted) in
    rw c.names.ensures (first_64 (names s) c.args.d c.args.i k.k64 c.requires.1.1)

pub bounds-self-from : goal.bounds-self-from
bounds-self-from c = rw c.from.ensures (place c.args.d c.args.i c.requires.0 c.requires.1.1)

pub ones_of_lowest-requires : goal.ones_of_lowest-requires
ones_of_lowest-requires c =
    let s = c.args.self.now.accepted in
    let k = limits_of s (same_answer c.setup-closed.ensures.value c.setup-closed.ensures.accepted) in
    rw c.names.ensures (share_32 (names s) c.args.d k.k64)

pub overflow_sub-result : goal.overflow_sub-result
overflow_sub-result c = rw c.ones_of_lowest.ensures (closed_le _ _ _)

pub returns : goal.returns
returns c =
    let s = c.args.self.now.accepted in
    let d = c.args.d in
    let i = c.args.i in
    let k = limits_of s (same_answer c.setup-closed.ensures.value c.setup-closed.ensures.accepted) in
    let deep = c.requires.0 in
    let l = c.requires.1.1 in
    let double = doubled_le s.leaves d k.leaves (omega (arith, deep)) c.requires.1.0 in
    let inside : 2 ^ d + i < s.leaves = omega (arith, l, double, ap (λ (x : ℕ). 2 ^ x) (add-one d), pow-succ' 2 d) in
    let n = names s / 2 ^ (d + 1) in
    let shut : c.ones_of_lowest.result ≡ closed_in s.closed (2 * i * n) n
    = (rw (c.setup-closed.ensures.value, c.names.ensures) at c.ones_of_lowest.ensures) ∙ left_closed s.closed n i refl in
    rw (c.from.ensures, nodes d i deep l, c.names.ensures, shut) (level_test_lem s c.args.self.now.counters.now k d i deep l inside)
