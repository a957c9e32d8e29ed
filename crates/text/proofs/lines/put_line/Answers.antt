use Rattle.text.proofs.Writes.{line_put_there}
use Rattle.text.proofs.lines.put_line.Goals as goal

pub returns-clause-written : goal.returns-clause-written
returns-clause-written c =
    line_put_there c.args.out.now c.args.line.now _ c.args.at _ c.in_ok-end.ensures.1 c.copy_from_slice.ensures.after c.if-end-out.false
