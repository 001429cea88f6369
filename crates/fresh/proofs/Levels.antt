-- A node's depth is how often its number can be halved, and a byte holds 1 shifted by less than eight: one computed test each, and the laws
-- that it gives. Assumes nothing.
use Prim.Native.Nat.{ℕ, ◌+◌, ◌*◌, ◌%◌, ◌^◌, ◌≤◌, ◌<◌}
use lib.Dec.{eqb, leb, ltb}
use Rattle.machine.proofs.Rules.{◌≡◌, refl, true, Bool, not, ◌&&◌, ◌||◌, eqb-true, le-leb, lt-ltb, ltb-true}
use Rattle.machine.specs.Below.{all_below}
use Rattle.machine.specs.Setup.{log2}
use Rattle.machine.specs.State.{depth}
use Rattle.machine.proofs.Facts.Below.{all_at}

abbrev halved : ℕ → ℕ → Bool
halved v r = not (leb (2 ^ r) v && ltb v (2 * 2 ^ r)) || eqb r (depth v)

all_halved : all_below 16 (λ v. all_below 8 (halved v)) ≡ true
unfolding all_below log2
all_halved = refl

pub depth_between : (v r : ℕ) → v < 16 → r < 8 → 2 ^ r ≤ v → v < 2 * 2 ^ r → r ≡ depth v
depth_between v r v16 r8 low high =
    eqb-true r (depth v)
    (rw (le-leb (2 ^ r) v low, lt-ltb v (2 * 2 ^ r) high) at
    (all_at 8 (halved v) (all_at 16 (λ u. all_below 8 (halved u)) all_halved v v16) r r8))

abbrev few : ℕ → Bool
few v = ltb (depth v + 1) 8

all_few : all_below 16 few ≡ true
unfolding all_below log2
all_few = refl

abbrev shifted : ℕ → Bool
shifted i = eqb ((1 * 2 ^ i) % 256) (2 ^ i)

all_shifted : all_below 8 shifted ≡ true
unfolding all_below
all_shifted = refl

pub shifted_is : (i : ℕ) → i < 8 → (1 * 2 ^ i) % 256 ≡ 2 ^ i
shifted_is i k = eqb-true ((1 * 2 ^ i) % 256) (2 ^ i) (all_at 8 shifted all_shifted i k)

module _ (v : ℕ) (k : v < 16) where
  pub level_small : depth v + 1 < 8
  level_small = ltb-true (depth v + 1) 8 (all_at 16 few all_few v k)

  pub power_is_lem : (1 * 2 ^ (depth v + 1)) % 256 ≡ 2 ^ (depth v + 1)
  power_is_lem = shifted_is (depth v + 1) level_small
