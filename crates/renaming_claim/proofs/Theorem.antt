-- Demand 3 holds: for every setup that is accepted, with closed names or none, and every list of events, the claim. The invariant holds
-- along the list with M the number of processes, which gives all but the low names, and with M any bound on the admitted, which gives
-- those. Assumes nothing.
use mathlib.Core.List.{List}
use Prim.Native.Nat.{ℕ, ◌+◌, ◌≤◌, ◌<◌}
use lib.ListN.{length, take}
use Rattle.machine.proofs.Rules.{◌≡◌, ◌∙◌, ap, subst, refl, true, arith}
use Rattle.machine.specs.Admitted.{admitted}
use Rattle.machine.specs.Closed.{rank}
use Rattle.machine.specs.Lists.{Event, after}
use Rattle.machine.specs.Range.{OpenName}
use Rattle.machine.specs.Setup.{plain, names, open_names, setup_answer, height}
use Rattle.machine.specs.Stage.{remainder, working}
use Rattle.machine.specs.State.{fresh}
use Rattle.machine.proofs.Laws.Fresh.{process_fresh}
use Rattle.machine.proofs.Laws.Plain.{open_all, rank_all}
use Rattle.renaming_claim.specs.Claim.{Claim, NoneClosed, after_list, EveryList, EveryPlainList}
use Rattle.renaming_claim.specs.History.{claim_steps, return_operations, asked}
use Rattle.renaming_claim.proofs.Along.{list_steps, list_returns, list_wins}
use Rattle.renaming_claim.proofs.Implies.{admitted_few, not-exhausted, name_open, name_low, names_unlike, least_steps, most_steps_lem}
use Rattle.renaming_claim.proofs.Mover.{Setup, Process, State, process_at, Mover}
use Rattle.renaming_claim.proofs.Preserved.{Steady, list_sound, list_steady, list_setup}
use Rattle.renaming_claim.proofs.Rounds.{Full, asked_rested}
use Rattle.renaming_claim.proofs.Start.{start_sound}

module _ (c : Setup) (accepted : setup_answer c ≡ 0) where
  abbrev s : State
  s = fresh c

  start : Steady s
  start = start_sound c accepted s.setup.processes

  -- process p at the start
  first : (p : ℕ) → p < c.processes → Mover s.setup.processes s p
  unfolding fresh
  first p k = record { sound = start; known = k }

  steps_are : (es : List Event) (p : ℕ) → p < c.processes → (process_at (after s es) p).steps ≡ claim_steps p s es 0
  steps_are es p k =
      list_steps s p (first p k) es ∙ ap (λ (x : Process). claim_steps p s es x.steps) (process_fresh c accepted p k)

  returns_are : (es : List Event) (p : ℕ) → p < c.processes → (process_at (after s es) p).returns ≡ return_operations p s es 0
  returns_are es p k =
      list_returns s p (first p k) es ∙ ap (λ (x : Process). return_operations p s es x.returns) (process_fresh c accepted p k)

  module _ (es : List Event) where
    abbrev t : State
    t = after s es

    sound : Steady t
    sound = list_steady s start es

    -- the setup's numbers are those of the state
    setup_is : t.setup ≡ c
    unfolding fresh
    setup_is = list_setup s es

    height_is : height t.setup.leaves ≡ height c.leaves
    height_is = ap (λ (d : Setup). height d.leaves) setup_is

    most_is : height t.setup.leaves + t.setup.segments ≡ height c.leaves + c.segments
    most_is = ap (λ (d : Setup). height d.leaves + d.segments) setup_is

    -- process p after the list
    module _ (p : ℕ) (k : p < c.processes) where
      known : p < t.setup.processes
      known = omega (arith, k, ap (λ (d : Setup). d.processes) setup_is)

      one : Mover t.setup.processes t p
      one = record { sound = sound; known = known }

      -- it holds a name of the setup, an open one
      held : (process_at t p).stage ≡ working → OpenName c (process_at t p).name
      held e = subst (λ (d : Setup). OpenName d (process_at t p).name) setup_is (name_open one e)

      -- it is idle, with an accepted request behind it
      round : (process_at t p).stage ≡ remainder → asked p s es ≡ true → Full t.setup (process_at t p)
      round e a = asked_rested s p (first p k) es a e

      -- with M any bound on how many are admitted at a moment of the list
      low : (m : ℕ) → ((i : ℕ) → i ≤ length es → admitted (after s (take i es)) ≤ m) → Mover m t p
      low m few = record { sound = list_sound (start_sound c accepted m) es few; known = known }

  holds : (es : List Event) → Claim c (after_list c) es
  holds es =
      record {
        admitted_open = omega (arith, subst (λ (d : Setup). admitted (t es) ≤ open_names d) (setup_is es) (admitted_few (t es) (sound es)));
        held_open = λ p k e. (held es p k e).not_closed;
        held_below = λ p k e. omega (arith, (held es p k e).below);
        held_unlike = λ p q k j d e f. names_unlike (one es p k) e q (known es q j) d;
        none_exhausted = λ p k. not-exhausted (one es p k);
        held_low = λ m few p k e.
            omega (arith, subst (λ (d : Setup). rank d (process_at (t es) p).name < m) (setup_is es) (name_low (low es p k m few) e));
        steps_counted = steps_are es;
        returns_counted = returns_are es;
        steps_least = λ p k e. omega (arith, least_steps (one es p k) e, height_is es);
        steps_most = λ p k e. omega (arith, most_steps_lem (one es p k), most_is es);
        round_claimed = λ p k e a. omega (arith, (round es p k e a).claimed, height_is es);
        round_cleared = λ p k e a. (round es p k e a).cleared;
        shows_least = λ p k e a. omega (arith, (round es p k e a).claimed, (round es p k e a).cleared, height_is es);
        shows_most = λ p k e a. omega (arith, most_steps_lem (one es p k), (round es p k e a).most, height_is es, most_is es);
        wins = λ p k e fs given.
            list_wins (height c.leaves + c.segments) (t es) p (one es p k) fs (e, omega (arith, most_is es)) (omega (arith, given));
      }

pub theorem : EveryList
theorem = holds

-- where none is closed, the open names are all names
pub none_closed : {c : Setup} {state_after : List Event → State} {es : List Event} → c.closed ≡ 0 → Claim c state_after es
    → NoneClosed c state_after es
none_closed {c} {state_after} {es} none claim =
    record {
      admitted_k = omega (arith, claim.admitted_open, open_all c none 0 (names c));
      held_low_m = λ m few p k e. omega (arith, claim.held_low m few p k e, rank_all c none (process_at (state_after es) p).name);
    }

pub plain_theorem : EveryPlainList
plain_theorem n l g b accepted es = none_closed refl (theorem (plain n l g b) accepted es)
