-- A turn stores the counter that a count more fills, which is the law of the order; at the end those that the count reaches are filled.
use Rattle.std.proofs.Common.{◌≡◌, ◌∙◌, sym, ◌<◌, ◌≤◌, ◌+◌, ◌-◌, ℕ, min, ap, arith}
use native.Mathlib.Decide.{dec_le}
use Rattle.machine.specs.declared.Setup.{Setup}
use Rattle.machine.proofs.Laws.Partial.{counters, counters_none, counters_next, counters_whole}
use Rattle.machine.proofs.Ranges.{limits_of}
use Rattle.fresh.proofs.Sizes.{leaves_1, leaves_16}
use Rattle.fresh.proofs.accepted.Accepted.counters.Goals as goal

pub overflow_sub-every : goal.overflow_sub-every
overflow_sub-every c = omega (arith, leaves_1 (limits_of c.self.inside.setup c.self.invariant))

pub loop-v-init : goal.loop-v-init
loop-v-init c =
    let none : c.self.inside.setup.leaves - c.self.inside.setup.leaves ≡ 0 = omega arith in
    (omega arith, rw none (counters_none c.args.self))

pub bounds-counters-from : goal.bounds-counters-from
bounds-counters-from c = omega (arith, leaves_16 (limits_of c.self.inside.setup c.self.invariant), c.loop-v.auto.v)

pub loop-v-preserved : goal.loop-v-preserved
loop-v-preserved c =
    let k = limits_of c.self.inside.setup c.self.invariant in
    let same : c.self.inside.setup.leaves ≡ c.args.self.leaves = ap (λ (s : Setup). s.leaves) c.self.view_is in
    let v : ℕ = c.loop-v.v - 1 in
    let up : c.loop-v.v ≡ v + 1 = omega (arith, c.loop-v-test.true) in
    let low : 0 < v = omega (arith, leaves_1 k, c.loop-v-test.true, c.min-filled.ensures) in
    let high : v < c.self.inside.setup.leaves = omega (arith, c.loop-v.auto.v, up) in
    let left : ℕ = c.self.inside.setup.leaves - c.loop-v.v in
    let more : c.self.inside.setup.leaves - v ≡ left + 1 = omega (arith, c.loop-v.auto.v, up) in
    let next = counters_next c.args.self left v c.fresh_counter.result (omega (arith, same, c.loop-v.auto.v, up)) low
    (omega (arith, high, leaves_16 k)) c.fresh_counter.ensures in
    (omega (arith, c.loop-v-test.true), rw (c.loop-v.invariant.1, c.from.ensures, more) next)

-- as many as the count says, or as there are
ended : (c : Setup) (count left : ℕ) → left ≡ min count (c.leaves - 1) → Dec (count ≤ c.leaves - 1) → counters c left ≡ counters c count
ended c count left e (yes k) = ap (counters c) (omega (arith, e, k))
ended c count left e (no k) =
    counters_whole c left (omega (arith, e, k)) ∙ sym (counters_whole c count (omega (arith, k)))

pub returns : goal.returns
returns c =
    let k = limits_of c.self.inside.setup c.self.invariant in
    let same : c.self.inside.setup.leaves ≡ c.args.self.leaves = ap (λ (s : Setup). s.leaves) c.self.view_is in
    let left : ℕ = c.self.inside.setup.leaves - c.loop-v.v in
    let filled : left ≡ min c.args.count (c.args.self.leaves - 1)
    = omega (arith, same, leaves_1 k, c.min-filled.ensures, c.loop-v.invariant.0, c.loop-v-test.false, c.loop-v.auto.v) in
    c.loop-v.invariant.1 ∙ ended c.args.self c.args.count left filled (dec_le c.args.count (c.args.self.leaves - 1))
