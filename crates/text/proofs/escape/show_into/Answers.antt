use Rattle.std.proofs.Common.{◌++◌, get_or, ap, ◌∙◌, arith}
use Rattle.text.specs.Escapes.{escape_of}
use Rattle.text.proofs.Escapes.{escaped_ascii, escaped_more}
use Rattle.text.proofs.escape.show_into.Goals as goal

pub loop-b-preserved : goal.loop-b-preserved
loop-b-preserved c =
    let b = get_or c.args.bytes.now c.loop-b.b-index 0 in (
      c.put_shown-at.ensures.written
          ∙ ap (λ t. t ++ escape_of b) c.loop-b.invariant.0
          ∙ escaped_more c.args.bytes.now c.loop-b.b-index c.loop-b-test.true,
      omega arith,
    )

pub returns-clause-ascii : goal.returns-clause-ascii
returns-clause-ascii c = escaped_ascii c.args.bytes.now (λ i. omega (arith, c.type_inv.bytes i))
