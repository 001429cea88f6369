-- What is shown are the numbers with the bytes behind them, place by place.
use Rattle.std.proofs.Common.{◌≡◌, ◌+◌, ◌≤◌, ◌++◌, ◌∙◌, length, get_or, take, rules, length-append}
use Rattle.machine.specs.Below.{tabulate}
use Rattle.machine.proofs.Facts.FromFn.{from_fn-tabulate}
use Rattle.cases.proofs.Shown.{take_tabulate}
use Rattle.cases.proofs.line.print_bytes.Goals as goal

pub returns : goal.returns
returns g c =
    let numbers = c.args.numbers.now in
    let bytes = c.args.bytes.now in
    let all : c.from_fn-shown.result ≡ tabulate 512 (λ i. get_or (numbers ++ bytes) i 0)
    = from_fn-tabulate _ (λ i. get_or (numbers ++ bytes) i 0) _ 512 (λ i l x q k. search rules) _ 0 c.from_fn-shown.ensures.items in
    let part : c.in_ok-shown.shown.now ≡ take (length numbers + length bytes) c.from_fn-shown.result = search rules in
    let fits : length numbers + length bytes ≤ 512 = search rules in
    let whole = take_tabulate (numbers ++ bytes) 512 (rw (length-append numbers bytes) fits) in
    let shown : c.in_ok-shown.shown.now ≡ numbers ++ bytes = part ∙ rw (all, ← length-append numbers bytes) whole in
    rw (← shown) c.print_line.ensures
