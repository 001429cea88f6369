-- The four figures put one after the other are the line, and there is room for each.
use Rattle.std.proofs.Common.{arith}
use Rattle.text.specs.Lines.{line}
use Rattle.text.proofs.Entries.{figure-length, line-length}
use Rattle.lent.proofs.Texts.{same_room, appends_append}
use Rattle.text.proofs.lines.put_line.Goals as goal

pub put_figure-requires : goal.put_figure-requires
put_figure-requires c = grind (arith, figure-length, line-length)

pub put_figure-requires-2 : goal.put_figure-requires-2
put_figure-requires-2 c = grind (arith, figure-length, line-length, same_room c.put_figure.ensures)

pub put_figure-requires-3 : goal.put_figure-requires-3
put_figure-requires-3 c = grind (arith, figure-length, line-length, same_room c.put_figure.ensures, same_room c.put_figure-2.ensures)

pub put_figure-requires-4 : goal.put_figure-requires-4
put_figure-requires-4 c =
    let third = same_room c.put_figure-3.ensures in
    grind (arith, figure-length, line-length, same_room c.put_figure.ensures, same_room c.put_figure-2.ensures, third)

pub returns : goal.returns
unfolding line
returns c =
    appends_append c.put_figure.ensures
    (appends_append c.put_figure-2.ensures (appends_append c.put_figure-3.ensures c.put_figure-4.ensures))
