-- With each turn of the loop there are the claims of one process more. Assumes nothing.
use mathlib.Core.List.{◌∷◌}
use Prim.Native.Nat.{ℕ}
use lib.ListN.{replicate}
use Rattle.lent.proofs.Texts.{same_room, appends_none, appends_append}
use Rattle.lent.specs.Text.{Appends}
use Rattle.machine.proofs.Ranges.{limits_of}
use Rattle.machine.proofs.Rules.{subst, arith, rules}
use Rattle.machine.specs.Kind.{request, step}
use Rattle.machine.specs.Lists.{event_of, list_bytes}
use Rattle.dearest_claim.specs.Dearest.{claims}
use Rattle.dearest.proofs.Writing.{claims_more, claim_put}
use Rattle.dearest.proofs.put_claims.Goals as goal

pub loop-p-init : goal.loop-p-init
unfolding claims list_bytes
loop-p-init c = appends_none (omega (arith, c.requires.1))

pub nonzero_div-steps : goal.nonzero_div-steps
nonzero_div-steps c = (limits_of _ c.setup-bits.ensures.accepted).b1

pub overflow_add-steps : goal.overflow_add-steps
overflow_add-steps c =
    let put =
    claim_put _ _ _ _ _ c.setup-bits.ensures.value c.setup-bits.ensures.accepted c.height_of-h.ensures c.loop-p-test.true c.requires.0 in
    search (rules, put.few)

pub overflow_add-steps-in-loop-p : goal.overflow_add-steps-in-loop-p
overflow_add-steps-in-loop-p c =
    let put =
    claim_put _ _ _ _ _ c.setup-bits.ensures.value c.setup-bits.ensures.accepted c.height_of-h.ensures c.loop-p-test.true c.requires.0 in
    search (rules, put.few)

pub put_claim-requires : goal.put_claim-requires
put_claim-requires c =
    let put =
    claim_put _ _ _ _ _ c.setup-bits.ensures.value c.setup-bits.ensures.accepted c.height_of-h.ensures c.loop-p-test.true c.requires.0 in
    omega (arith, put.room, c.loop-p.invariant.size, same_room c.loop-p.invariant, c.requires.1)

pub loop-p-preserved : goal.loop-p-preserved
loop-p-preserved c =
    let k = c.loop-p.p in
    let put =
    claim_put _ _ _ _ _ c.setup-bits.ensures.value c.setup-bits.ensures.accepted c.height_of-h.ensures c.loop-p-test.true c.requires.0 in
    let claimed = λ (n : ℕ). Appends c.loop-p.text c.put_claim.new.text (list_bytes (event_of request k ∷ replicate n (event_of step k))) in
    rw (← claims_more c.args.setup k) (appends_append c.loop-p.invariant (subst claimed put.are c.put_claim.ensures))
