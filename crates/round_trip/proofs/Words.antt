-- A number and its four bytes, low byte first: each fixes the other. By arithmetic. Assumes nothing.
use Prim.Native.Nat.{ℕ, ◌+◌, ◌*◌, ◌/◌, ◌%◌, ◌<◌}
use Rattle.machine.proofs.Rules.{◌≡◌, arith}

pub joined : (m : ℕ) → m < 65536
    → m % 256 + 256 * (m / 256 % 256) + 65536 * (m / 65536 % 256) + 16777216 * (m / 16777216 % 256) ≡ m
joined m k = omega (arith, k)

pub parted : (a b c d m : ℕ) → a < 256 → b < 256 → c < 256 → d < 256 → a + 256 * b + 65536 * c + 16777216 * d ≡ m
    → (a ≡ m % 256) × (b ≡ m / 256 % 256) × (c ≡ m / 65536 % 256) × (d ≡ m / 16777216 % 256)
parted a b c d m ka kb kc kd e =
    (omega (arith, e, ka), omega (arith, e, ka, kb), omega (arith, e, ka, kb, kc), omega (arith, e, ka, kb, kc, kd))
