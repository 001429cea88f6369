-- With none closed every word passes; otherwise the words side by side have no bit in common with the closed names where none of them has.
use Rattle.std.proofs.Common.{◌≡◌, ◌∙◌, ◌*◌, sym, arith}
use Rattle.machine.proofs.Rules.{eq-eqb}
use Rattle.machine.proofs.Ranges.{limits_of}
use Rattle.fresh.proofs.Sizes.{same_answer, words_64}
use Rattle.ranges.proofs.Shut.{words_shut, none_shut}
use Rattle.ranges.proofs.range.words_open.Goals as goal

pub overflow_mul-setup : goal.overflow_mul-setup
overflow_mul-setup c = record { fits = omega (arith, words_64 (limits_of c.setup-setup.result c.setup-setup.ensures.accepted)) }

pub shared_ref_as_front-used : goal.shared_ref_as_front-used
shared_ref_as_front-used c = omega (arith, c.from.ensures, words_64 (limits_of c.setup-setup.result c.setup-setup.ensures.accepted))

pub packed-requires : goal.packed-requires
packed-requires c = (limits_of c.setup-setup.result c.setup-setup.ensures.accepted).b8

pub returns-then-setup-eq0 : goal.returns-then-setup-eq0
returns-then-setup-eq0 c =
    let s = c.args.accepted in
    eq-eqb _ 0 c.if-setup-eq0.true
    ∙ sym (none_shut s c.args.words.now (rw c.setup-setup.ensures.value at c.if-setup-eq0.true) (s.leaves * s.segments))

pub returns-else-setup-eq0 : goal.returns-else-setup-eq0
returns-else-setup-eq0 c =
    let s = c.args.accepted in
    let words = c.args.words.now in
    let k = limits_of s (same_answer c.setup-setup.ensures.value c.setup-setup.ensures.accepted) in
    let used : c.from.result ≡ s.leaves * s.segments = rw c.setup-setup.ensures.value at c.from.ensures in
    rw (c.packed.ensures, c.setup-setup.ensures.value, used)
    (words_shut s words (s.leaves * s.segments) (omega (arith, words_64 k, c.told-words)) k.k64 c.requires)
