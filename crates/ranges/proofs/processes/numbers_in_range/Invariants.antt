-- What was found fits where every process passed is in range, and their names are bytes.
use Rattle.std.proofs.Common.{◌≡◌, ℕ, ◌<◌, ◌≤◌, get_or}
use Rattle.machine.specs.Below.{all_below}
use Rattle.machine.specs.State.{no_process}
use Rattle.ranges.specs.Tests.{ranked}
use Rattle.ranges.proofs.Ranks.{found}
use Rattle.ranges.proofs.processes.numbers_in_range.Given as goal

abbrev pub invariant-loop-p : goal.invariant-loop-p
invariant-loop-p l =
    record {
      passed : found l.fn.accepted l.stage l.node l.segment l.name l.fits
          ≡ all_below l.p-index (λ i. ranked l.fn.accepted (get_or l.process i no_process));
      bytes : (i : ℕ) → i < l.p-index → (get_or l.process i no_process).name ≤ 255;
    }
