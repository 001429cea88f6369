-- A closed name puts a process out of range; where none is closed the numbers decide.
use Rattle.std.proofs.Common.{ℕ, List, ◌≡◌, ◌∙◌, length, take, get_or, ap, sym, arith, rules}
use Rattle.machine.specs.Below.{all_below}
use Rattle.machine.proofs.Rules.{eqb-false}
use Rattle.machine.specs.Range.{process_test}
use Rattle.machine.specs.Setup.{setup_answer}
use Rattle.machine.specs.State.{no_process}
use Rattle.machine.specs.declared.Process.{Process}
use Rattle.machine.specs.declared.Setup.{Setup}
use Rattle.machine.proofs.Ranges.{limits_of}
use Rattle.ranges.proofs.Ranks.{all_shown, shut_out, numbers_decide}
use Rattle.ranges.proofs.Verdict.{front_tests}
use Rattle.ranges.proofs.processes.processes_in_range.Goals as goal
use Rattle.ranges.proofs.processes.processes_in_range.Goals.{then-setup-eq0, else-setup-eq0}

pub shared_ref_as_front-used : goal.shared_ref_as_front-used
shared_ref_as_front-used c = rw c.from.ensures (limits_of c.setup-setup.result c.setup-setup.ensures.accepted).n64

-- the processes in use stand in front, and their tests are those of the array
module _ (s : Setup) (accepted : setup_answer s ≡ 0) (ps : List Process) (whole : length ps ≡ 64) (n : ℕ) (is : n ≡ s.processes) where
  in_front : all_below (length (take n ps)) (λ p. process_test s (get_or (take n ps) p no_process))
      ≡ all_below s.processes (λ p. process_test s (get_or ps p no_process))
  in_front =
      front_tests (process_test s) no_process n ps (omega (arith, is, whole, (limits_of s accepted).n64))
      ∙ ap (λ (n : ℕ). all_below n (λ p. process_test s (get_or ps p no_process))) is

pub returns-then-names_open : goal.returns-then-names_open
returns-then-names_open c =
    let s = c.setup-setup.result in
    let accepted = c.setup-setup.ensures.accepted in
    let used = take c.from.result c.args.process.now in
    let n = length used in
    rw (sym c.setup-setup.ensures.value)
    (rw (sym c.setup-setup.ensures.value) at c.numbers_in_range.ensures.tests
    ∙ numbers_decide s accepted used n
    (elim c.if-setup-eq0.branch [
      | then-setup-eq0 w ↦ all_shown s accepted used n w.if-setup-eq0.true
      | else-setup-eq0 w ↦ sym w.names_open.ensures ∙ sym w.value-is ∙ c.if-names_open.true
    ])
    c.numbers_in_range.ensures.bytes
    ∙ in_front s accepted c.args.process.now (search rules) c.from.result c.from.ensures)

pub returns-else-names_open : goal.returns-else-names_open
returns-else-names_open c =
    let s = c.setup-setup.result in
    let accepted = c.setup-setup.ensures.accepted in
    let used = take c.from.result c.args.process.now in
    rw (sym c.setup-setup.ensures.value)
    (c.if-names_open.false
    ∙ (elim c.if-setup-eq0.branch [
      | then-setup-eq0 w ↦ absurd (eqb-false _ 0 (sym w.value-is ∙ c.if-names_open.false) w.if-setup-eq0.true)
      | else-setup-eq0 w ↦
          shut_out s accepted used (length used) (sym w.names_open.ensures ∙ sym w.value-is ∙ c.if-names_open.false)
          ∙ in_front s accepted c.args.process.now (search rules) c.from.result c.from.ensures
    ]))
