-- What the operations are told of a process of a state in range: its setup is accepted, its numbers are in range, and the sizes that
-- follow. Facts of a clause and no type, since process and setup stand in the state that is changed.
use Rattle.std.specs.Prelude.{◌≡◌, ◌*◌, ◌≤◌, ◌<◌}
use Rattle.machine.specs.Range.{ProcessRanges}
use Rattle.machine.specs.Setup.{names, open_names, setup_answer}
use Rattle.machine.specs.declared.Process.{Process}
use Rattle.machine.specs.declared.Setup.{Setup}

pub record Setting (c : Setup) (h : Process) : Type 0 where
  pub accepted : setup_answer c ≡ 0
  pub ranges : ProcessRanges c h
  pub leaves : c.leaves ≤ 16
  pub words : c.leaves * c.segments ≤ 64
  pub some_bit : 0 < c.bits
  pub bits : c.bits ≤ 8
  pub names : names c ≤ 64
  pub open_names : open_names c ≤ 64
