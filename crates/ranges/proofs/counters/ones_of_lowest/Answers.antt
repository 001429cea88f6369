-- At most eight bits are those of a number below 256.
use Rattle.std.proofs.Common.{ℕ, ◌≡◌, ◌∙◌, ◌≤◌, get_or, ◌+◌, ◌/◌, ◌%◌, ◌^◌, ◌<◌, ap, sym, arith, mod-lt, pow_pos, pow_mono, div-one}
use Rattle.fresh.specs.Counts.{closed_in}
use lib.Count.{ones}
use Rattle.ranges.proofs.Ones.{table, looked_up, at_most_4}
use Rattle.ranges.proofs.counters.ones_of_lowest.Goals as goal

-- at most eight of the bits are a number below 256
module _ (w n low : ℕ) (few : n ≤ 8) (is : low ≡ w % 2 ^ n) where
  below_256 : low < 256
  below_256 = omega (arith, is, mod-lt w (pow_pos n), pow_mono {i = n} {j = 8} few)

  bits : get_or table (low % 16) 0 + get_or table (low / 16) 0 ≡ closed_in w 0 n
  unfolding closed_in
  bits = looked_up low below_256 ∙ ap ones (is ∙ ap (λ (x : ℕ). x % 2 ^ n) (sym (div-one w)))

pub overflow_add-result : goal.overflow_add-result
overflow_add-result c = record { fits = omega (arith, at_most_4) }

pub returns : goal.returns
returns c = bits c.args.w c.args.n c.lowest-low.result c.if-n-gt8.false c.lowest-low.ensures
