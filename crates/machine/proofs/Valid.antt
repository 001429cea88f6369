-- A state with arrays of their lengths and every number in range. An event keeps it so: accepted, by the check that it passed;
-- refused, since the state is the one it was lent. Assumes nothing.
use Prim.Native.Nat.{ℕ}
use native.Mathlib.Decide.{ℕ_discrete}
use Rattle.machine.proofs.Rules.{◌≡◌, true}
use Rattle.machine.specs.Event.{event}
use Rattle.machine.specs.Range.{in_range}
use Rattle.machine.specs.State.{Sized}
use Rattle.machine.specs.declared.State.{State}
use Rattle.machine.proofs.Laws.Answers.{accepted-in-range, refused-unchanged}
use Rattle.machine.proofs.Laws.OnePlace.{sized_kept}
use Rattle.machine.proofs.Ranges.{Ranges, ranges_of, in_range_lem}

pub record Valid (s : State) : Type 0 where
  pub sized : Sized s
  pub ranges : Ranges s

-- an event of a state in range leaves one in range
module _ (s : State) (e : in_range s ≡ true) (kind p : ℕ) where
  kept : Dec ((event s kind p).answer ≡ 0) → in_range (event s kind p).state ≡ true
  kept (yes a) = accepted-in-range s kind p a
  kept (no d) = rw (refused-unchanged s kind p d) e

  pub range_kept : in_range (event s kind p).state ≡ true
  range_kept = kept (ℕ_discrete (event s kind p).answer 0)

pub event_valid : {s : State} → Valid s → (kind p : ℕ) → Valid (event s kind p).state
event_valid {s} v kind p =
    record { sized = sized_kept s kind p v.sized; ranges = ranges_of _ (range_kept s (in_range_lem s v.ranges) kind p) }
