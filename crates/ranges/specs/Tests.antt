-- What helpers of the range check promise: the numbers past the queue's end, the greatest of numbers, words side by side, the tests of a
-- process, its name apart, the bytes that its numbers are tested by, and the test of a node's counter.
use Rattle.std.specs.Prelude.{◌≡◌, ℕ, ◌+◌, ◌-◌, ◌*◌, ◌/◌, ◌%◌, ◌^◌, ◌<◌, ◌≤◌, Bool, cond, ◌&&◌, ◌||◌, ◌⊎◌, List, [], ◌∷◌, ◌==◌}
use Rattle.std.specs.Prelude.{nat_le, nat_lt, slice_index, bit_or}
use Rattle.machine.specs.Operations.{bit}
use Rattle.machine.specs.Range.{counter_test}
use Rattle.machine.specs.Setup.{names}
use Rattle.machine.specs.Stage.{exhausted}
use Rattle.machine.specs.State.{figure}
use Rattle.machine.specs.declared.Process.{Process}
use Rattle.machine.specs.declared.Setup.{Setup}

-- place i of the queue q: 0 past the first m places
abbrev pub past_test : ℕ → List ℕ → ℕ → Bool
past_test m q i = nat_lt i m || slice_index q i == 0

-- r is the greatest of the first e numbers of xs, or 0 where there is none
pub record Greatest (xs : List ℕ) (e r : ℕ) : Type 0 where
  pub most : (i : ℕ) → i < e → slice_index xs i ≤ r
  pub met : (r ≡ 0) ⊎ ((i : ℕ) × ((i < e) × (slice_index xs i ≡ r)))

-- words of b bits side by side, the first lowest, in 64 bits
unfoldable pub packed : ℕ → List ℕ → ℕ
packed b [] = 0
packed b (w ∷ ws) = bit_or (packed b ws * 2 ^ b % 2 ^ 64) w

-- one more than the greatest name that may be open
unfoldable pub name_limit : Setup → ℕ
name_limit c = cond (c.closed / 2 ^ 63 == 0) (names c) 63

-- name m, of those below 63, is open where these are closed; 255, which is none, is looked up as 63 and passes
abbrev pub shut_test : ℕ → ℕ → Bool
shut_test closed m = bit (closed % 2 ^ 63) (m % 64) == 0

-- a stage, a node less 1, a segment and a name more 1 in their ranges, the name only against the limit
abbrev pub ranks_fit : Setup → ℕ → ℕ → ℕ → ℕ → Bool
ranks_fit c stage node segment name =
    nat_le stage exhausted
    && (nat_le node (2 * c.leaves - 2) && (nat_lt segment c.segments && nat_le name (name_limit c)))

-- the tests of a process, its name more 1 only against the limit
abbrev pub ranked : Setup → Process → Bool
ranked c h =
    (
    nat_le h.stage exhausted
    && (
    (nat_le 1 h.node && nat_lt h.node (2 * c.leaves))
    && (nat_lt h.segment c.segments && nat_le ((h.name + 1) % 256) (name_limit c))
    )
    )
    && nat_le (figure h) 255

-- byte i of a number is below 128
abbrev pub byte_test : ℕ → ℕ → Bool
byte_test x i = nat_lt (x / 256 ^ i % 256) 128

-- what the greatest stage, node less 1, segment and name more 1 lack to 127, a byte each
unfoldable pub headroom : Setup → ℕ
headroom c =
    (127 - exhausted)
    + (127 - (2 * c.leaves - 2)) * 256
    + (127 - (c.segments - 1)) * 65536
    + (127 - name_limit c) * 16777216

-- the counter of node v, in its range
abbrev pub node_test : Setup → List ℕ → ℕ → Bool
node_test c counters v = counter_test c v (slice_index counters v)
