-- The claim goes over to another account of the states after a list, where the two agree on the list and on its prefixes: field by
-- field, by substitution. Assumes nothing.
use mathlib.Core.List.{List}
use Prim.Native.Nat.{ℕ, ◌+◌, ◌*◌, ◌≤◌, ◌<◌}
use lib.ListN.{take}
use Rattle.machine.proofs.Rules.{sym, subst, ◌≡◌, ◌≢◌, true}
use Rattle.machine.specs.Admitted.{admitted}
use Rattle.machine.specs.Lists.{Event, after}
use Rattle.machine.specs.Closed.{is_open, rank}
use Rattle.machine.specs.Setup.{names, open_names, height}
use Rattle.machine.specs.Stage.{remainder, getname, working, exhausted}
use Rattle.machine.specs.State.{figure, process_at, fresh}
use Rattle.machine.specs.declared.Process.{Process}
use Rattle.machine.specs.declared.Setup.{Setup}
use Rattle.machine.specs.declared.State.{State}
use Rattle.renaming_claim.specs.Claim.{Claim}
use Rattle.renaming_claim.specs.History.{claim_steps, return_operations, asked, steps_given, HoldsWithin}

module _ (c : Setup) (f f' : List Event → State) (es : List Event) (e : f es ≡ f' es)
    (prefixes : (i : ℕ) → f (take i es) ≡ f' (take i es)) where
  -- what holds of the one state holds of the other
  across : (P : State → Type 0) → P (f es) → P (f' es)
  across P = subst P e

  -- of a process that is idle and has asked
  rested : (p : ℕ) (P : Process → Type 0)
      → ((process_at (f es) p).stage ≡ remainder → asked p (fresh c) es ≡ true → P (process_at (f es) p))
      → (process_at (f' es) p).stage ≡ remainder → asked p (fresh c) es ≡ true → P (process_at (f' es) p)
  rested p P = across (λ s. (process_at s p).stage ≡ remainder → asked p (fresh c) es ≡ true → P (process_at s p))

  -- h + g
  abbrev most : ℕ
  most = height c.leaves + c.segments

  pub agrees : Claim c f es → Claim c f' es
  agrees a =
      record {
        admitted_open = across (λ s. admitted s ≤ open_names c) a.admitted_open;
        held_open = λ p k.
            across (λ s. (process_at s p).stage ≡ working → is_open c (process_at s p).name ≡ true) (a.held_open p k);
        held_below = λ p k.
            across (λ s. (process_at s p).stage ≡ working → (process_at s p).name < names c) (a.held_below p k);
        held_unlike = λ p q k j d.
            across
            (λ s.
            (process_at s p).stage ≡ working → (process_at s q).stage ≡ working → (process_at s p).name ≢ (process_at s q).name)
            (a.held_unlike p q k j d);
        none_exhausted = λ p k. across (λ s. (process_at s p).stage ≢ exhausted) (a.none_exhausted p k);
        held_low = λ m few p k.
            across (λ s. (process_at s p).stage ≡ working → rank c (process_at s p).name < m)
            (a.held_low m (λ i j. subst (λ (s : State). admitted s ≤ m) (sym (prefixes i)) (few i j)) p k);
        steps_counted = λ p k. across (λ s. (process_at s p).steps ≡ claim_steps p (fresh c) es 0) (a.steps_counted p k);
        returns_counted = λ p k.
            across (λ s. (process_at s p).returns ≡ return_operations p (fresh c) es 0) (a.returns_counted p k);
        steps_least = λ p k.
            across (λ s. (process_at s p).stage ≡ working → height c.leaves + 1 ≤ (process_at s p).steps) (a.steps_least p k);
        steps_most = λ p k. across (λ s. (process_at s p).stage ≡ working → (process_at s p).steps ≤ most) (a.steps_most p k);
        round_claimed = λ p k. rested p (λ h. height c.leaves + 1 ≤ h.steps) (a.round_claimed p k);
        round_cleared = λ p k. rested p (λ h. 1 ≤ h.returns) (a.round_cleared p k);
        shows_least = λ p k. rested p (λ h. height c.leaves + 2 ≤ figure h) (a.shows_least p k);
        shows_most = λ p k. rested p (λ h. figure h ≤ 2 * height c.leaves + c.segments + 1) (a.shows_most p k);
        wins = λ p k.
            across
            (λ s.
            (process_at s p).stage ≡ getname → (fs : List Event) → most ≤ steps_given p fs → HoldsWithin most (after s) p fs)
            (a.wins p k);
      }
