-- Document 02, e): which names (pads) are closed, and how many are open. A setup has the closed ones as one number, whose bit p is 1 where
-- name p is closed.
use Rattle.std.specs.Prelude.{Bool, true, false, cond, ◌&&◌, ◌||◌, List, [], ◌∷◌, ℕ, ◌+◌, ◌*◌, ◌/◌, ◌%◌, ◌^◌, ltb, eqb}
use Rattle.machine.specs.Below.{count_below}
use Rattle.machine.specs.Operations.{bit}
use Rattle.machine.specs.declared.Setup.{Setup}

-- Name p is closed beside those of w; "a pad named twice is closed once".
unfoldable pub closing : ℕ → ℕ → ℕ
closing w p = cond (eqb (bit w p) 0) (w + 2 ^ p) w

-- "A list of closed pads, one byte each": its names are closed beside those of w.
unfoldable pub closed_by : ℕ → List ℕ → ℕ
closed_by w [] = w
closed_by w (p ∷ ps) = closed_by (closing w p) ps

-- the list names p; all that it names are below k
unfoldable pub lists : List ℕ → ℕ → Bool
lists [] p = false
lists (q ∷ ps) p = eqb q p || lists ps p

unfoldable pub lists_below : ℕ → List ℕ → Bool
lists_below k [] = true
lists_below k (q ∷ ps) = ltb q k && lists_below k ps

unfoldable pub is_open : Setup → ℕ → Bool
is_open c p = eqb (bit c.closed p) 0

-- how many of n names from one on are open; how many below one
unfoldable pub open_in : Setup → ℕ → ℕ → ℕ
open_in c from n = count_below n (λ i. is_open c (from + i))

unfoldable pub rank : Setup → ℕ → ℕ
rank c p = count_below p (λ i. is_open c i)

-- the closed bits of segment word r, whose bit i stands for name r·b + i
unfoldable pub closed_word : Setup → ℕ → ℕ
closed_word c r = c.closed / 2 ^ (r * c.bits) % 2 ^ c.bits
