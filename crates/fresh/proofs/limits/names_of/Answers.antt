-- Refused by the third check, past the first two.
use Rattle.std.proofs.Common.{◌≡◌, true, false, arith}
use Rattle.std.proofs.lemmas.Grind.{common_steps}
use Rattle.machine.specs.Setup.{within, number_answer, is_leaves}
use Rattle.machine.specs.declared.Setup.{Setup}
use Rattle.fresh.proofs.limits.names_of.Goals as goal

third : (c : Setup) → within 1 64 c.processes ≡ true → is_leaves c.leaves ≡ true → within 1 8 c.segments ≡ false → 3 ≡ number_answer c
unfolding number_answer
third c n l g = rw (n, l, g)

pub returns-then-not-contains-2-clause-answer : goal.returns-then-not-contains-2-clause-answer
unfolding is_leaves
returns-then-not-contains-2-clause-answer c =
    third c.args.setup (grind (arith, common_steps)) (grind (arith, common_steps)) (grind (arith, common_steps))
