-- The invariant implies what the claim says of a state. Of names: no more are admitted than names are open, a working process's name is
-- open, and so below k, with fewer than M open ones below it, no other process has it, and none is exhausted. Of steps: a working process
-- took one for each level and the one that won at least, and one for each level and each segment at most; a process in getname has taken
-- fewer. Assumes nothing.
use Prim.Native.Nat.{ℕ, ◌+◌, ◌≤◌, ◌<◌}
use Rattle.machine.proofs.Rules.{◌≡◌, ◌∙◌, sym, ◌≢◌, arith}
use Rattle.machine.specs.Admitted.{admitted}
use Rattle.machine.specs.Getname.{segment_of}
use Rattle.machine.specs.Closed.{rank}
use Rattle.machine.specs.Range.{OpenName}
use Rattle.machine.specs.Setup.{open_names, height}
use Rattle.machine.specs.Stage.{getname, working, exhausted}
use Rattle.machine.specs.State.{none}
use Rattle.machine.proofs.Places.{leaf_segment}
use Rattle.renaming_claim.proofs.Bits.{bits_unlike}
use Rattle.renaming_claim.proofs.Facts.Tree.{depth_le}
use Rattle.renaming_claim.proofs.Gate.{admitted_open}
use Rattle.renaming_claim.proofs.Invariant.{words, Stands}
use Rattle.renaming_claim.proofs.Mover.{Setup, Process, State, process_at, Sound, Mover, shape, by_stage, own_range, limits}

pub admitted_few : {M : ℕ} (s : State) → Sound M s → admitted s ≤ open_names s.setup
admitted_few s so = admitted_open s so.inv.gate so.valid.ranges.queue.entries

module _ {M : ℕ} {s : State} {p : ℕ} (m : Mover M s p) where
  abbrev c : Setup
  c = s.setup

  abbrev h : Process
  h = process_at s p

  pub not-exhausted : h.stage ≢ exhausted
  not-exhausted e = by_stage m exhausted e

  module _ (e : h.stage ≡ working) where
    named : h.name ≢ none
    named = (by_stage m working e).named

    stands : Stands c h
    stands = (shape m).stands named

    word_used : segment_of s.setup h < words c
    word_used = leaf_segment (own_range m) stands.leaf

    pub name_open : OpenName c h.name
    name_open = (own_range m).name named

    pub name_low : rank c h.name < M
    name_low = (shape m).low named

    pub names_unlike : (q : ℕ) → q < c.processes → p ≢ q → h.name ≢ (process_at s q).name
    names_unlike q l d same = bits_unlike m word_used stands.within q l d stands.is (sym same ∙ stands.is)

    pub least_steps : height c.leaves + 1 ≤ h.steps
    least_steps = omega (arith, (by_stage m working e).steps)

  pub most_steps_lem : h.steps ≤ height c.leaves + c.segments
  most_steps_lem = (shape m).cost.most

  pub fewer_steps : h.stage ≡ getname → h.steps < height c.leaves + c.segments
  fewer_steps e =
      let deep = depth_le c.leaves (limits m).leaves (own_range m).node in
      omega (arith, (by_stage m getname e).steps, deep, (own_range m).segment)
