use Rattle.std.proofs.Common.{sym, arith}
use Rattle.std.proofs.lemmas.Bool.{eqb-false}
use Rattle.text.proofs.Splits.{line_cut}
use Rattle.text.proofs.lines.split_line.Goals as goal

pub returns : goal.returns
returns c =
    let some = eqb-false _ 0 (sym c.if-is_empty.ensures) in
    line_cut c.args.text.now _ _ (omega arith) c.cut_at.ensures.before c.cut_at.ensures.behind
