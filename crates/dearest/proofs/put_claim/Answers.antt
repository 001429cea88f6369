-- With each turn of the loop there is one step more behind the request. Assumes nothing.
use Rattle.lent.proofs.Texts.{same_room, appends_none, appends_append}
use Rattle.machine.proofs.Rules.{◌≡◌, ◌∙◌, arith}
use Rattle.machine.specs.Lists.{list_bytes}
use Rattle.dearest.proofs.Writing.{step_size, step_more}
use Rattle.dearest.proofs.put_claim.Goals as goal

pub loop-init : goal.loop-init
unfolding list_bytes
loop-init c = appends_none (omega (arith, c.put_event.ensures.room, same_room c.put_event.ensures))

pub put_event-requires-in-loop : goal.put_event-requires-in-loop
unfolding list_bytes
put_event-requires-in-loop c =
    let room = same_room c.loop.invariant ∙ same_room c.put_event.ensures in
    omega (arith, room, c.loop.invariant.size, c.put_event.ensures.size, step_size c.args.p c.loop.counter, c.requires)

pub loop-preserved : goal.loop-preserved
loop-preserved c = rw (← step_more c.args.p c.loop.counter) (appends_append c.loop.invariant c.put_event-in-loop.ensures)

pub returns : goal.returns
unfolding list_bytes
returns c =
    let all : c.loop.counter ≡ c.args.steps = omega (arith, c.loop-test.false, c.loop.auto.counter-end) in
    appends_append c.put_event.ensures (rw all at c.loop.invariant)
