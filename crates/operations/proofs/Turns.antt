-- Of a state in range, what the operations are told of a process, and a step by its process's stage: the machine's own test for 15 is the
-- test of room, by the laws of room.
use Prim.Native.Nat.{ℕ, ◌≤◌, ◌<◌}
use lib.ListN.{get_or}
use Rattle.machine.proofs.Rules.{◌≡◌, ◌∙◌, ap, true, Bool, arith}
use Rattle.machine.specs.Answer.{accepted, not_moving, broken_state}
use Rattle.machine.specs.Event.{refused, guarded, stages, stay, step}
use Rattle.machine.specs.Gate.{enter, await}
use Rattle.machine.specs.Getname.{getname_step}
use Rattle.machine.specs.Putname.{putname_step}
use Rattle.machine.specs.Range.{in_range}
use Rattle.machine.specs.Room.{enter_room, getname_room, putname_room, where_room}
use Rattle.machine.specs.Stage.{remainder, entry, waiting, getname, working, putname, exhausted}
use Rattle.machine.specs.State.{done, process_at, Sized}
use Rattle.machine.specs.declared.State.{State}
use Rattle.machine.proofs.Laws.Room.Gate.{enter_room_lem, await_room}
use Rattle.machine.proofs.Laws.Room.Getname.{getname_room_lem}
use Rattle.machine.proofs.Laws.Room.Putname.{putname_room_lem}
use Rattle.machine.proofs.Ranges.{Ranges, ranges_of, answer_of}
use Rattle.fresh.proofs.Sizes.{leaves_16, words_64}
use Rattle.fresh.proofs.Counted.{open_64}
use Rattle.operations.specs.Setting.{Setting}

pub processes_64 : (s : State) → in_range s ≡ true → s.setup.processes ≤ 64
processes_64 s e = (ranges_of s e).limits.n64

pub queued_64 : (s : State) → in_range s ≡ true → s.queued ≤ 64
queued_64 s e = (ranges_of s e).queue.size

module _ (s : State) (p : ℕ) (e : in_range s ≡ true) (known : p < s.setup.processes) where
  ranges : Ranges s
  ranges = ranges_of s e

  pub setting : Setting s.setup (process_at s p)
  setting =
      record {
        accepted = answer_of s.setup ranges.limits ranges.closed;
        ranges = ranges.process p known;
        leaves = leaves_16 ranges.limits;
        words = words_64 ranges.limits;
        some_bit = ranges.limits.b1;
        bits = ranges.limits.b8;
        names = ranges.limits.k64;
        open_names = open_64 s.setup ranges.limits;
      }

  -- a step is the row of its process's stage
  abbrev At : ℕ → Type 0
  At n = (process_at s p).stage ≡ n

  row : {n : ℕ} → At n → step s p ≡ get_or stages n (refused 15) s p
  unfolding step
  row i = ap (λ (n : ℕ). get_or stages n (refused 15) s p) i

  guards : (f : State → ℕ → State) (room : Bool) → in_range (f s p) ≡ room → guarded f s p ≡ where_room room (f s p) s
  unfolding guarded
  guards f room r = rw r

  pub stops : At remainder → step s p ≡ done not_moving s
  stops i = row i

  pub enters : At entry → step s p ≡ where_room (enter_room s) (enter s p) s
  enters i = row i ∙ guards enter (enter_room s) (enter_room_lem s p ranges known)

  pub awaits : At waiting → step s p ≡ done accepted (await s p)
  awaits i = row i ∙ guards await true (await_room s p ranges known)

  pub works : At working → step s p ≡ done not_moving s
  works i = row i

  pub stays : At exhausted → step s p ≡ done accepted s
  stays i = row i ∙ guards stay true e

  pub is_above : exhausted < (process_at s p).stage → step s p ≡ done broken_state s
  is_above l = absurd (omega (arith, (ranges.process p known).stage))

  module _ (sized : Sized s) where
    pub claims : At getname → step s p ≡ where_room (getname_room s p) (getname_step s p) s
    claims i = row i ∙ guards getname_step (getname_room s p) (getname_room_lem s p ranges known sized.process)

    pub returns : At putname → step s p ≡ where_room (putname_room s p) (putname_step s p) s
    returns i = row i ∙ guards putname_step (putname_room s p) (putname_room_lem s p ranges known sized)

pub ruleset turns = (processes_64, queued_64, setting, stops, enters, awaits, works, stays, is_above, claims, returns)
