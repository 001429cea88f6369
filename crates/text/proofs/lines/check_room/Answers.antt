-- The fold over the entries takes each line's length from the room that is left.
use Rattle.std.proofs.Common.{◌∙◌, ap, Err, rules, tests}
use Rattle.std.proofs.lemmas.Result.{err_from_is_err_and}
use Rattle.text.proofs.Room.{all_fit}
use Rattle.text.proofs.lines.check_room.Goals as goal

pub returns : goal.returns
returns c =
    let d = c.try_fold.ensures.ran in
    let all =
    all_fit
    _ _ _ _ _ (λ v e b h. let p = err_from_is_err_and _ h.1 in (e.0, b, p.1 ∙ ap Err p.2)) (λ left x v q k. search (rules, tests))
    _ _ _ d.0 d.1 d.2 d.3 d.5 d.6 d.4 in
    search (rules, all)
