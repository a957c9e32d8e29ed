use Rattle.std.proofs.Common.{sym, ap, ◌∙◌}
use Rattle.refusal.specs.declared.Refusal.TheVariants.{BadLine}
use Rattle.reader.specs.Setups.{setup_of}
use Rattle.reader.specs.Steps.{refuses, unless_bad}
use Rattle.reader.proofs.Stepping.{closed_first, then_read, too_short}
use Rattle.reader.proofs.reader.Reader.line.Goals as goal

pub returns-then-is_closed-clause-did : goal.returns-then-is_closed-clause-did
returns-then-is_closed-clause-did g c =
    let r = c.args.self.now in
    sym (closed_first (setup_of r.terms g.R.LineRule) c.args.line.now r.state c.args.shelf.now (sym c.if-is_closed.ensures))

pub returns-then-is_short-clause-did : goal.returns-then-is_short-clause-did
returns-then-is_short-clause-did g c =
    let r = c.args.self.now in
    sym (too_short (setup_of r.terms g.R.LineRule) c.args.line.now r.state c.args.shelf.now (sym c.if-is_closed.ensures) (sym c.if-is_short.ensures))

pub returns-in-Some-clause-did : goal.returns-in-Some-clause-did
returns-in-Some-clause-did g c =
    let r = c.args.self.now in
    let q = setup_of r.terms g.R.LineRule in
    let line = c.args.line.now in
    let shelf = c.args.shelf.now in
    let read = then_read q line r.state shelf (sym c.if-is_closed.ensures) (sym c.if-is_short.ensures) in
    let bad = ap (unless_bad q line r.state shelf) c.in-Some.ensures.value in
    ap (refuses q line r.state shelf (BadLine c.in-Some.at)) c.lose.ensures ∙ bad ∙ sym read

pub returns-clause-did : goal.returns-clause-did
returns-clause-did g c =
    let r = c.args.self.now in
    let q = setup_of r.terms g.R.LineRule in
    let line = c.args.line.now in
    let shelf = c.args.shelf.now in
    let read = then_read q line r.state shelf (sym c.if-is_closed.ensures) (sym c.if-is_short.ensures) in
    let good = ap (unless_bad q line r.state shelf) c.in_default.ensures.value in
    c.decide.ensures.did ∙ good ∙ sym read
