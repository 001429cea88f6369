-- The word, each number's figure and the line feed are put one after the other.
use Rattle.std.proofs.Common.{[], ◌∷◌, ◌∙◌, get_or, refl, append-nil, arith, rules}
use Rattle.cases.specs.Line.{figures}
use Rattle.cases.proofs.Lines.{put_none, put_more, line-more, line-end}
use Rattle.cases.proofs.line.put_line.Goals as goal

pub loop-n-init : goal.loop-n-init
unfolding figures
loop-n-init c = record {
  same_buffer = search rules;
  so_far = rw append-nil (put_more (put_none c.new-line.ensures.empty c.new-line.ensures.bytes) _ c.put_fitting.ensures);
}

pub loop-n-preserved : goal.loop-n-preserved
loop-n-preserved c =
    let ns = c.args.numbers.now in
    let i = c.loop-n.n-index in
    let spaced = put_more c.loop-n.invariant.so_far (32 ∷ []) c.put_fitting-in-loop-n.ensures in
    let shown = put_more spaced _ c.put_fitting-in-loop-n-2.ensures in
    let number = c.as_bytes.ensures.value ∙ c.format.ensures.text in
    record {
      same_buffer = search rules;
      so_far = rw (line-more c.args.word.now ns i (get_or ns i 0) (omega arith) refl (c.type_inv.numbers i).fits) (rw number at shown);
    }

pub returns-clause-size : goal.returns-clause-size
returns-clause-size c =
    let all = put_more c.loop-n.invariant.so_far (10 ∷ []) c.put_fitting-2.ensures in
    (rw (line-end c.args.word.now c.args.numbers.now c.loop-n.n-index (omega arith)) at all).size_is

pub returns-clause-bytes : goal.returns-clause-bytes
returns-clause-bytes c =
    let all = put_more c.loop-n.invariant.so_far (10 ∷ []) c.put_fitting-2.ensures in
    let put = (rw (line-end c.args.word.now c.args.numbers.now c.loop-n.n-index (omega arith)) at all).bytes_are in
    search (rules, put)
