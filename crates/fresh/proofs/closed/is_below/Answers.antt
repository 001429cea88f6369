-- A number has no bit from k on exactly when it is below 2^k: by division with remainder.
use Rattle.std.proofs.Common.{◌≡◌, ℕ, ◌*◌, ◌/◌, ◌^◌, ap, arith}
use native.Mathlib.Nat.{mod-lt, div-eq_of_lt}
use lib.Dec.{eqb, ltb}
use lib.Pow.{pow_pos, split}
use Rattle.machine.proofs.Rules.{eq-eqb, eqb-true, lt-ltb, ltb-true}
use Rattle.machine.proofs.Facts.Tests.{same_test}
use Rattle.fresh.proofs.closed.is_below.Goals as goal

shift_none : (w k : ℕ) → eqb (w / 2 ^ k) 0 ≡ ltb w (2 ^ k)
shift_none w k =
    same_test _ _
    (λ e.
    let none : w / 2 ^ k * 2 ^ k ≡ 0 * 2 ^ k = ap (λ (x : ℕ). x * 2 ^ k) (eqb-true (w / 2 ^ k) 0 e) in
    lt-ltb w (2 ^ k) (omega (arith, split w k, mod-lt w (pow_pos k))))
    (λ e. eq-eqb _ 0 (div-eq_of_lt (ltb-true w (2 ^ k) e)))

pub returns-else-k-ge64 : goal.returns-else-k-ge64
returns-else-k-ge64 c = shift_none c.args.w c.args.k
