use Rattle.std.proofs.Common.{refl, arith}
use Rattle.text.specs.Dedents.{less}
use Rattle.text.proofs.Margins.{outdented_fits}
use Rattle.text.proofs.Writes.{unlines_first, written_more}
use Rattle.text.proofs.dedent.dedent_into.Goals as goal

pub loop-line-init : goal.loop-line-init
loop-line-init c =
    let fits = outdented_fits c.margin_width-width.result c.args.text.now in
    record {
      front = (let text = c.lines-line-items.ensures in cc);
      behind = refl;
      within = omega arith;
      room = omega arith;
    }

pub loop-line-preserved : goal.loop-line-preserved
loop-line-preserved c =
    let cut = unlines_first (less c.margin_width-width.result) _ _ _ _ c.in-Some.ensures.steps c.outdent.ensures in
    written_more c.loop-line.invariant _ _ cut _ _ c.in_ok-at.ensures.value c.in_ok-at.ensures.written
