-- A setup that is refused is out of range; past it the tests decide one after another, and past them the processes.
use Rattle.std.proofs.Common.{◌≡◌, ◌∙◌, ℕ, ◌*◌, Bool, true, false, ◌&&◌, sym, arith}
use Rattle.machine.proofs.Rules.{false≢true, and-true}
use Rattle.machine.specs.Below.{all_below}
use Rattle.machine.specs.Range.{counter_test, word_test, closed_test, in_range}
use Rattle.machine.specs.State.{counter_at}
use Rattle.machine.proofs.Facts.Refusals.{number_pos}
use Rattle.ranges.proofs.Verdict.{refused_out}
use Rattle.ranges.proofs.range.in_range.Goals as goal
use Rattle.ranges.proofs.range.in_range.Goals.{then-entry_in_range, else-entry_in_range, then-counters_in_range, else-counters_in_range}
use Rattle.ranges.proofs.range.in_range.Goals.{then-words_in_range, else-words_in_range}

pub returns-in_default : goal.returns-in_default
returns-in_default c =
    refused_out c.args.s.now (λ e. omega (arith, number_pos c.in_default.field-0, c.in_default.ensures.answer, e))

-- two tests that passed: the first, and behind it the second
passed : {v t r : Bool} → v ≡ true → v ≡ r → r ≡ t → t ≡ true
passed p e f = sym f ∙ sym e ∙ p

failed : {v : Bool} {A : Type 0} → v ≡ true → v ≡ false → A
failed p e = absurd (false≢true (sym e ∙ p))

last : {r entry counters words shut process : Bool} → entry ≡ true → counters ≡ true → words ≡ true → shut ≡ true → r ≡ process
    → r ≡ (entry && (counters && (words && (shut && (process && true)))))
last {r} {entry} {counters} {words} {shut} {process} a b c d e = rw (a, b, c, d) (e ∙ sym (and-true process))

pub returns-then-words_open : goal.returns-then-words_open
unfolding in_range
returns-then-words_open c =
    let s = c.args.s.now in
    let used : ℕ = s.setup.leaves * s.setup.segments in
    let shut : (c.if-counters_in_range.value ≡ true) × (all_below used (closed_test s.setup s.words) ≡ true)
    = elim c.if-words_in_range.branch [
      | then-words_in_range w ↦
          (w.if-words_in_range.true, passed c.if-words_open.true w.value-is (rw c.in-Ok.ensures.value at w.words_open.ensures))
      | else-words_in_range w ↦ failed c.if-words_open.true (w.value-is ∙ w.if-words_in_range.false)
    ] in
    let sized : (c.if-entry_in_range.value ≡ true) × (all_below used (word_test s.setup s.words) ≡ true)
    = elim c.if-counters_in_range.branch [
      | then-counters_in_range w ↦
          (w.if-counters_in_range.true, passed shut.0 w.value-is (rw c.in-Ok.ensures.value at w.words_in_range.ensures))
      | else-counters_in_range w ↦ failed shut.0 (w.value-is ∙ w.if-counters_in_range.false)
    ] in
    let counted : (c.entry_in_range.result ≡ true)
    × (all_below s.setup.leaves (λ v. counter_test s.setup v (counter_at s v)) ≡ true)
    = elim c.if-entry_in_range.branch [
      | then-entry_in_range w ↦
          (w.if-entry_in_range.true, passed sized.0 w.value-is (rw c.in-Ok.ensures.value at w.counters_in_range.ensures))
      | else-entry_in_range w ↦ failed sized.0 (w.value-is ∙ w.if-entry_in_range.false)
    ] in
    last (sym c.entry_in_range.ensures ∙ counted.0) counted.1 sized.1 shut.1 (rw c.in-Ok.ensures.value at c.processes_in_range.ensures)
