use Rattle.std.proofs.Common.{arith, rules}
use Rattle.lines.proofs.Counts.{lines_few}
use Rattle.lines.proofs.table.table.Goals as goal

pub loop-number-init : goal.loop-number-init
loop-number-init c = record {
  fits = grind (arith, lines_few c.args.text.now);
  rows = search rules;
}
