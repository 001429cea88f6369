-- How long the list is: each claim takes at most 14 events, and at most 64 processes claim.
--     dear_known, dear_inside    the dear process is one of the setup's, and its name one of leaf 0
--     figure-byte      the figure fits a byte
--     steps_few        the steps of a claim
--     claims_length    the events of the first n claims
-- Assumes nothing.
use Prim.Native.Nat.{ℕ, zero, suc, ◌*◌, ◌-◌, ◌/◌, ◌≤◌, ◌<◌}
use native.Mathlib.Nat.{div-add-mod', div-lt_iff_lt-mul, mul-le-mul_right}
use lib.ListN.{length, length-append, length-replicate}
use Rattle.machine.proofs.Rules.{◌≡◌, arith}
use Rattle.machine.specs.Kind.{step}
use Rattle.machine.specs.Lists.{event_of}
use Rattle.machine.specs.Setup.{setup_answer}
use Rattle.machine.specs.declared.Setup.{Setup}
use Rattle.machine.proofs.Ranges.{Limits, limits_of}
use Rattle.renaming_claim.proofs.Facts.Tree.{height_four}
use Rattle.dearest_claim.specs.Dearest.{tried, dearest_figure, steps_of, claim, claims, dear}

module _ (c : Setup) (accepted : setup_answer c ≡ 0) where
  limits : Limits c
  limits = limits_of c accepted

  pub dear_known : dear c < c.processes
  dear_known =
      let fewer : tried c - 1 ≤ (c.processes - 1) / c.bits = omega arith in
      omega (arith, mul-le-mul_right c.bits fewer, div-add-mod' (c.processes - 1) c.bits, limits.n1)

  pub dear_inside : dear c < c.segments * c.bits
  dear_inside =
      let fewer : suc (tried c - 1) ≤ c.segments = omega (arith, limits.g1) in
      omega (arith, mul-le-mul_right c.bits fewer, limits.b1)

  pub figure-byte : dearest_figure c < 256
  figure-byte = omega (arith, height_four c.leaves limits.leaves, limits.g8)

  pub steps_few : (p : ℕ) → p < c.segments * c.bits → steps_of c p ≤ 13
  steps_few p inside =
      let tries : p / c.bits < c.segments = (div-lt_iff_lt-mul {k = c.bits} {x = p} {y = c.segments} limits.b1).1 inside in
      omega (arith, tries, height_four c.leaves limits.leaves, limits.g8)

  pub claims_length : (n : ℕ) → n ≤ c.segments * c.bits → length (claims c n) ≤ 14 * n
  unfolding claims
  claims_length zero l = omega arith
  claims_length (suc n) l =
      omega (
        arith,
        length-append (claims c n) (claim c n),
        claims_length n (omega arith),
        length-replicate (steps_of c n) (event_of step n),
        steps_few n l,
      )
