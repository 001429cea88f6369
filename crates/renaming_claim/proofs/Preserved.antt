-- Every event keeps the invariant and reachability, where no more than M are admitted after it; and so does every list in which at no
-- moment more than M are. By the moves; nobody stays exhausted, since nobody is.
--     event_sound, list_sound    one event, and a list
--     event_steady, list_steady    the same with M the number of processes: nobody can be admitted beside them
--     list_setup    the setup's numbers stay
-- Assumes nothing.
pub mod Entry
pub mod Getname
pub mod Putname
use mathlib.Core.List.{List, [], ◌∷◌}
use Prim.Native.Nat.{ℕ, suc, ◌≤◌}
use lib.ListN.{length, take}
use Rattle.machine.proofs.Rules.{◌≡◌, ◌∙◌, ap, refl, true, arith}
use Rattle.machine.specs.Admitted.{is_admitted, admitted}
use Rattle.machine.specs.Below.{indicator as ind}
use Rattle.machine.specs.Lists.{Event, event_done, after}
use Rattle.machine.specs.Range.{in_range}
use Rattle.machine.specs.Stage.{exhausted}
use Rattle.machine.specs.State.{Sized}
use Rattle.machine.specs.declared.Done.{Done}
use Rattle.machine.proofs.Laws.OnePlace.{setup_unchanged, sized_kept}
use Rattle.machine.proofs.Moves.{Move, requests, enters, awaits, claims, returns, stays, releases, Outcome, refuses, accepts, event-outcome}
use Rattle.machine.proofs.Ranges.{ranges_of}
use Rattle.renaming_claim.proofs.Facts.Sums.{ind_le, sum_le, sum_const}
use Rattle.renaming_claim.proofs.Invariant.{Invariant}
use Rattle.renaming_claim.proofs.Mover.{Setup, State, Sound, Mover, by_stage}
use Rattle.renaming_claim.proofs.Preserved.Entry.{request_keeps, enter_keeps, await_keeps}
use Rattle.renaming_claim.proofs.Preserved.Getname.{getname_keeps}
use Rattle.renaming_claim.proofs.Preserved.Putname.{release_keeps, putname_keeps}

move_keeps : {M : ℕ} {s : State} {p kind : ℕ} {t : State} → Mover M s p → Move s p kind t → in_range t ≡ true → admitted t ≤ M
    → Invariant M t
move_keeps m (requests e) r few = request_keeps m e
move_keeps m (enters e) r few = enter_keeps m e r few
move_keeps m (awaits e) r few = await_keeps m e r few
move_keeps m (claims e) r few = getname_keeps m e
move_keeps m (returns e) r few = putname_keeps m e
move_keeps m (stays e) r few = absurd (by_stage m exhausted e)
move_keeps m (releases e) r few = release_keeps m e

pub event_sound : {M : ℕ} {s : State} → Sound M s → (e : Event) → admitted (event_done s e).state ≤ M → Sound M (event_done s e).state
event_sound {M} {s} so e = go (event-outcome s e.kind e.process) (sized_kept s e.kind e.process so.valid.sized)
  where
    go : {d : Done} → Outcome s e.kind e.process d → Sized d.state → admitted d.state ≤ M → Sound M d.state
    go (refuses a k) z few = so
    go (accepts k kp m r) z few =
        record {
          valid = record { ranges = ranges_of _ r; sized = z };
          inv = move_keeps (record { sound = so; known = kp }) m r few;
        }

pub list_sound : {M : ℕ} {s : State} → Sound M s → (es : List Event) → ((i : ℕ) → i ≤ length es → admitted (after s (take i es)) ≤ M)
    → Sound M (after s es)
unfolding after
list_sound so [] few = so
list_sound {M} {s} so (e ∷ es) few =
    list_sound {M = M} {s = (event_done s e).state} (event_sound so e (few 1 (omega arith))) es (λ i l. few (suc i) (omega arith))

admitted_all : (s : State) → admitted s ≤ s.setup.processes
unfolding admitted
admitted_all s =
    let less = sum_le s.setup.processes (λ p. ind (is_admitted s p)) (λ p. 1) (λ p l. ind_le (is_admitted s p)) in
    omega (arith, sum_const s.setup.processes 1)

abbrev pub Steady : State → Type 0
Steady s = Sound s.setup.processes s

pub event_steady : (s : State) → Steady s → (e : Event) → Steady (event_done s e).state
event_steady s so e =
    let same : (event_done s e).state.setup.processes ≡ s.setup.processes
    = ap (λ (c : Setup). c.processes) (setup_unchanged s e.kind e.process) in
    rw same (event_sound so e (omega (arith, admitted_all (event_done s e).state)))

pub list_steady : (s : State) → Steady s → (es : List Event) → Steady (after s es)
unfolding after
list_steady s so [] = so
list_steady s so (e ∷ es) = list_steady (event_done s e).state (event_steady s so e) es

pub list_setup : (s : State) (es : List Event) → (after s es).setup ≡ s.setup
unfolding after
list_setup s [] = refl
list_setup s (e ∷ es) = list_setup (event_done s e).state es ∙ setup_unchanged s e.kind e.process
