-- No refusal has the number 0, so that a result is refused exactly when its answer is not 0: by the refusals one by one. Assumes nothing.
use Prim.Native.Nat.{◌<◌}
use lib.Dec.{ltb}
use Rattle.std.specs.Prelude.{Result, Ok, Err}
use Rattle.std.specs.Result.{is_err}
use Rattle.machine.proofs.Rules.{◌≡◌, ◌≢◌, ◌∙◌, sym, ap, refl, true, false, true≢false, arith, ltb-true}
use Rattle.machine.specs.Refusal.{number, answered}
use Rattle.machine.specs.declared.refusal.Refusal.{Refusal}
use Rattle.machine.specs.declared.refusal.Refusal.TheVariants.{Processes, Leaves, Segments, Bits, Names, Stranger, Busy, NotMoving}
use Rattle.machine.specs.declared.refusal.Refusal.TheVariants.{NoNameHeld, NoDayFile, Contents, Kind, Short, Odd}
use Rattle.machine.specs.declared.refusal.Refusal.TheVariants.{BrokenState, TooLong, NoRoom, SmallBuffer, ClosedName, NoneOpen}

above : (r : Refusal) → ltb 0 (number r) ≡ true
above Processes = refl
above Leaves = refl
above Segments = refl
above Bits = refl
above Names = refl
above Stranger = refl
above Busy = refl
above NotMoving = refl
above NoNameHeld = refl
above NoDayFile = refl
above Contents = refl
above Kind = refl
above Short = refl
above Odd = refl
above BrokenState = refl
above TooLong = refl
above NoRoom = refl
above SmallBuffer = refl
above ClosedName = refl
above NoneOpen = refl

pub number_pos : (r : Refusal) → 0 < number r
number_pos r = ltb-true 0 (number r) (above r)

pub number_above : (r : Refusal) → number r ≢ 0
number_above r e = omega (arith, number_pos r, e)

-- a result that answers 0 is no refusal
pub accepted_none : {A : Type 0} {r : Refusal} (o : Result A Refusal) → o ≡ Err r → answered o ≡ 0 → ⊥
accepted_none {r = r} o is e = number_above r (sym (ap answered is) ∙ e)

-- the same by what `is_err` says
pub accepted_of : {A : Type 0} (o : Result A Refusal) → is_err o ≡ false → answered o ≡ 0
accepted_of (Ok x) e = refl
accepted_of (Err r) e = absurd (true≢false e)

pub refused_of : {A : Type 0} (o : Result A Refusal) → is_err o ≡ true → answered o ≢ 0
refused_of (Ok x) e = absurd (true≢false (sym e))
refused_of (Err r) e = number_above r
