-- An event is refused and gives back the state it was lent, or it is one of seven moves between states in range: by the checks
-- in their order, the kind and the stage. Every law of events goes by these cases and opens no definition of Event again.
--     Move             what an accepted event of a kind does, with the stage that it found
--     event-outcome    every event is refused or a move
-- Assumes nothing.
use Prim.Native.Nat.{ℕ, ◌<◌}
use lib.Dec.{eqb, ltb, leb}
use lib.ListN.{get_or}
use Rattle.machine.proofs.Rules.{◌≡◌, refl, true, arith, eqb-true, ltb-true}
use Rattle.machine.specs.Event.{refused, request, release, guarded, stages, stay, step, kinds, event}
use Rattle.machine.specs.Gate.{enter, await}
use Rattle.machine.specs.Getname.{getname_step}
use Rattle.machine.specs.Putname.{putname_step}
use Rattle.machine.specs.Range.{in_range}
use Rattle.machine.specs.Stage.{remainder, entry, waiting, getname, working, putname, exhausted}
use Rattle.machine.specs.State.{done, fresh_process, with_stage, process_at, with_process, update}
use Rattle.machine.specs.declared.Done.{Done}
use Rattle.machine.specs.declared.State.{State}
use Rattle.machine.proofs.Facts.Rows.{by_row}
use Rattle.machine.proofs.Facts.Tests.{by_cond}
use Rattle.machine.proofs.Ranges.{Ranges, ranges_of, in_range_lem}
use Rattle.machine.proofs.Stores.{fresh_process_lem, new_stage, store_process}

-- an accepted event of a kind, from s to the state at the end
pub data Move (s : State) (p : ℕ) : ℕ → State → Type 0 where
  requests : (process_at s p).stage ≡ remainder → Move s p 0 (with_process p (with_stage entry fresh_process) s)
  enters : (process_at s p).stage ≡ entry → Move s p 1 (enter s p)
  awaits : (process_at s p).stage ≡ waiting → Move s p 1 (await s p)
  claims : (process_at s p).stage ≡ getname → Move s p 1 (getname_step s p)
  returns : (process_at s p).stage ≡ putname → Move s p 1 (putname_step s p)
  stays : (process_at s p).stage ≡ exhausted → Move s p 1 s
  releases : (process_at s p).stage ≡ working → Move s p 2 (update p (with_stage putname) s)

pub data Outcome (s : State) (kind p : ℕ) : Done → Type 0 where
  refuses : (a : ℕ) → 0 < a → Outcome s kind p (done a s)
  accepts : {t : State} → Ranges s → p < s.setup.processes → Move s p kind t → in_range t ≡ true → Outcome s kind p (done 0 t)

module _ (s : State) (p : ℕ) (k : Ranges s) (kp : p < s.setup.processes) where
  request-outcome : Outcome s 0 p (request s p)
  unfolding request
  request-outcome =
      by_cond (Outcome s 0 p) (eqb (process_at s p).stage remainder)
      (λ e.
      accepts k kp (requests (eqb-true _ _ e))
      (in_range_lem _ (store_process s k p (with_stage entry fresh_process) (new_stage 1 (omega arith) (fresh_process_lem k.limits)))))
      (λ _. refuses 7 (omega arith))

  release-outcome : Outcome s 2 p (release s p)
  unfolding release
  release-outcome =
      by_cond (Outcome s 2 p) (eqb (process_at s p).stage working)
      (λ e.
      accepts k kp (releases (eqb-true _ _ e))
      (in_range_lem _ (store_process s k p (with_stage putname (process_at s p)) (new_stage 5 (omega arith) (k.process p kp)))))
      (λ _. refuses 9 (omega arith))

  turn-outcome : (f : State → ℕ → State) → Move s p 1 (f s p) → Outcome s 1 p (guarded f s p)
  unfolding guarded
  turn-outcome f m = by_cond (Outcome s 1 p) (in_range (f s p)) (accepts k kp m) (λ _. refuses 15 (omega arith))

  step-outcome : (stage : ℕ) → (process_at s p).stage ≡ stage → Outcome s 1 p (get_or stages stage (refused 15) s p)
  step-outcome =
      by_row (λ stage f. (process_at s p).stage ≡ stage → Outcome s 1 p (f s p)) stages (refused 15) (
        λ _. refuses 8 (omega arith),
        (
          λ e. turn-outcome enter (enters e),
          (
            λ e. turn-outcome await (awaits e),
            (
              λ e. turn-outcome getname_step (claims e),
              (
                λ _. refuses 8 (omega arith),
                (
                  λ e. turn-outcome putname_step (returns e),
                  (
                    λ e. turn-outcome stay (stays e),
                    λ _ _. refuses 15 (omega arith),
                  ),
                ),
              ),
            ),
          ),
        ),
      )

  kind-outcome : (kind : ℕ) → Outcome s kind p (get_or kinds kind (refused 12) s p)
  unfolding step
  kind-outcome =
      by_row (λ kind f. Outcome s kind p (f s p)) kinds (refused 12)
      (request-outcome, (step-outcome (process_at s p).stage refl, (release-outcome, λ _. refuses 12 (omega arith))))

pub event-outcome : (s : State) (kind p : ℕ) → Outcome s kind p (event s kind p)
unfolding event
event-outcome s kind p =
    by_cond (Outcome s kind p) (in_range s)
    (λ e.
    by_cond (Outcome s kind p) (leb kind 2)
    (λ _.
    by_cond (Outcome s kind p) (ltb p s.setup.processes)
    (λ l. kind-outcome s p (ranges_of s e) (ltb-true p s.setup.processes l) kind)
    (λ _. refuses 6 (omega arith)))
    (λ _. refuses 12 (omega arith)))
    (λ _. refuses 15 (omega arith))
