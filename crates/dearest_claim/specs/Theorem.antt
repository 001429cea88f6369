-- Document 02, d): what holds of the figure and of the list, for every accepted setup of four numbers: "the ticket on the dearest claim is
-- about setups that close none" (document 02, e).
use Rattle.std.specs.Prelude.{◌≡◌, List, ℕ, ◌≤◌, ◌<◌, length, replicate}
use Rattle.machine.specs.Answer.{accepted}
use Rattle.machine.specs.Lists.{Event, answers}
use Rattle.machine.specs.Setup.{plain, setup_answer}
use Rattle.machine.specs.Stage.{working}
use Rattle.machine.specs.State.{process_at, fresh}
use Rattle.machine.specs.declared.Process.{Process}
use Rattle.machine.specs.declared.Setup.{Setup}
use Rattle.renaming_claim.specs.Claim.{after_list}
use Rattle.dearest_claim.specs.Dearest.{dearest_figure, dear, dearest_events}

-- the dear process, once the list has been run
abbrev pub dearest : Setup → Process
dearest c = process_at (after_list c (dearest_events c)) (dear c)

pub record Dearest (c : Setup) : Type 0 where
  -- No list of events from that fresh setup makes any claim cost more: the claim figure of no process, holding a name or not, is above.
  pub most : (es : List Event) (p : ℕ) → p < c.processes → (process_at (after_list c es) p).steps ≤ dearest_figure c
  -- And running the list produced shows a holder
  pub known : dear c < c.processes
  pub holds : (dearest c).stage ≡ working
  -- with exactly that claim figure.
  pub costs : (dearest c).steps ≡ dearest_figure c
  -- No event of the list is refused.
  pub accepted_all : answers (fresh c) (dearest_events c) ≡ replicate (length (dearest_events c)) accepted
  -- The list made is never longer than 4,096 bytes: it has at most 896 events.
  pub short : length (dearest_events c) ≤ 896

abbrev pub EverySetup : Type 0
EverySetup = (n l g b : ℕ) → setup_answer (plain n l g b) ≡ 0 → Dearest (plain n l g b)
