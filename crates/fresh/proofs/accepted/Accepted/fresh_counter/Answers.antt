-- At a node's level the names under its left child are a share of all, less those that are closed.
use Rattle.std.proofs.Common.{◌≡◌, ℕ, ◌+◌, ◌*◌, ◌-◌, ◌/◌, ◌^◌, ◌≤◌, ◌<◌, sym, arith}
use Rattle.machine.specs.Setup.{names, setup_answer}
use Rattle.machine.specs.State.{depth}
use Rattle.machine.specs.declared.Setup.{Setup}
use Rattle.machine.proofs.Laws.Plain.{counter_share}
use Rattle.machine.proofs.Ranges.{Limits, limits_of}
use Rattle.fresh.proofs.Sizes.{same_answer, leaves_16}
use Rattle.fresh.proofs.Counted.{closed_le, counter_is, level_low, share_small, before_small}
use Rattle.fresh.proofs.Levels.{level_small, power_is_lem}
use Rattle.fresh.proofs.accepted.Accepted.fresh_counter.Goals as goal

-- how many names lie under the left child, and where they begin
module _ (s : Setup) (v : ℕ) (accepted : setup_answer s ≡ 0) (used : (0 < v) × (v < s.leaves)) where
  limits : Limits s
  limits = limits_of s accepted

  node-16 : v < 16
  node-16 = omega (arith, leaves_16 limits)

  abbrev n : ℕ
  n = names s / 2 ^ (depth v + 1)

  begins : (2 * v - 2 ^ (depth v + 1)) * n < 64
  begins = before_small (names s) v used.0 node-16 limits.k64

  few : n ≤ 32
  few = omega (arith, share_small (names s) v used.0 node-16, limits.k64)

  starts-low : 2 ^ (depth v + 1) ≤ 2 * v
  starts-low = level_low (names s) v used.0 node-16

pub level-d-requires : goal.level-d-requires
level-d-requires c =
    let accepted = same_answer c.self.view_is c.self.invariant in
    (c.requires.0, node-16 c.args.self c.args.v accepted c.requires)

pub overflow_shr-n : goal.overflow_shr-n
overflow_shr-n c =
    let small = node-16 c.args.self c.args.v (same_answer c.self.view_is c.self.invariant) c.requires in
    rw c.level-d.ensures (level_small c.args.v small)

pub returns-then-all_open : goal.returns-then-all_open
returns-then-all_open c =
    let k = limits_of c.args.self (same_answer c.self.view_is c.self.invariant) in
    rw (c.names.ensures, c.level-d.ensures)
    (sym (counter_share c.args.self (rw c.self.view_is at c.if-all_open.true) k.leaves c.args.v c.requires.0 c.requires.1))

pub overflow_mul-before : goal.overflow_mul-before
overflow_mul-before c = omega (arith, node-16 c.args.self c.args.v (same_answer c.self.view_is c.self.invariant) c.requires)

pub overflow_shl-before : goal.overflow_shl-before
overflow_shl-before c =
    let small = node-16 c.args.self c.args.v (same_answer c.self.view_is c.self.invariant) c.requires in
    rw c.level-d.ensures (level_small c.args.v small)

pub overflow_sub-before : goal.overflow_sub-before
overflow_sub-before c =
    let accepted = same_answer c.self.view_is c.self.invariant in
    let small = node-16 c.args.self c.args.v accepted c.requires in
    rw (c.level-d.ensures, power_is_lem c.args.v small) (starts-low c.args.self c.args.v accepted c.requires)

pub overflow_mul-before-2 : goal.overflow_mul-before-2
overflow_mul-before-2 c =
    let accepted = same_answer c.self.view_is c.self.invariant in
    let small = node-16 c.args.self c.args.v accepted c.requires in
    let low = begins c.args.self c.args.v accepted c.requires in
    record { fits = rw (c.names.ensures, c.level-d.ensures, power_is_lem c.args.v small) (omega (arith, low)) }

pub closed_in-requires : goal.closed_in-requires
closed_in-requires c =
    let accepted = same_answer c.self.view_is c.self.invariant in
    let small = node-16 c.args.self c.args.v accepted c.requires in
    rw (c.names.ensures, c.level-d.ensures, power_is_lem c.args.v small)
    (begins c.args.self c.args.v accepted c.requires, few c.args.self c.args.v accepted c.requires)

pub overflow_sub-result : goal.overflow_sub-result
overflow_sub-result c = rw c.closed_in.ensures (closed_le _ _ _)

pub returns : goal.returns
returns c =
    let accepted = same_answer c.self.view_is c.self.invariant in
    let small = node-16 c.args.self c.args.v accepted c.requires in
    rw (c.closed_in.ensures, c.self.view_is, c.names.ensures, c.level-d.ensures, power_is_lem c.args.v small)
    (sym (counter_is c.args.self (limits_of c.args.self accepted) c.args.v c.requires.0 c.requires.1))
