-- Each turn of the loop carries out one event and writes its entry; the rest of the list from there is the rest of the run.
-- Assumes nothing.
use Prim.Native.Nat.{ℕ, ◌+◌, ◌*◌, ◌-◌}
use Rattle.machine.proofs.Rules.{◌≡◌, ◌∙◌, ap, arith}
use Rattle.machine.specs.Lists.{entry_bytes, entry_of}
use Rattle.machine.specs.State.{process_at}
use Rattle.machine.specs.declared.Done.{Done}
use Rattle.runner.proofs.Going.{event_at, begin, next, shown}
use Rattle.runner.proofs.run.Goals as goal

pub loop-i-init : goal.loop-i-init
loop-i-init c = begin c.args.events.now c.args.journal.now c.args.s.now c.as_chunks.ensures.front c.requires.range

pub entry-requires : goal.entry-requires
entry-requires c shows = shown _ c.loop-i.invariant.range _ _ _ _ c.event-answer.ensures shows

pub loop-i-preserved : goal.loop-i-preserved
unfolding entry_of
loop-i-preserved c =
    let i : ℕ = c.loop-i.i in
    let e = event_at c.as_chunks.result.0.now i in
    let done = c.event-answer.ensures in
    let is : c.copy_from_slice.new.self ≡ entry_of c.loop-i.s e
    = c.copy_from_slice.ensures.after
    ∙ c.entry.ensures
    ∙ ap (λ (d : Done). entry_bytes d.answer (process_at d.state e.process)) done in
    let four : 4 * i + 4 - 4 * i ≡ 4 = omega arith in
    rw (is, ap (λ (d : Done). d.state) done, four)
    (next c.loop-i.invariant c.loop-i-test.true c.as_chunks.ensures.front_len (omega (arith, c.loop-i.auto.journal, c.requires.room)))
