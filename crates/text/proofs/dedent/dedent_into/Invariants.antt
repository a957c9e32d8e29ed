use Rattle.std.proofs.Common.{map}
use Rattle.text.specs.Dedents.{less}
use Rattle.text.specs.Lines.{lines_of, unlines}
use Rattle.text.proofs.Writes.{Written}
use Rattle.text.proofs.dedent.dedent_into.Given as goal

abbrev pub invariant-loop-line : goal.invariant-loop-line
invariant-loop-line l = Written l.fn.out (unlines (map (less l.width) (lines_of l.text))) l.out (unlines (map (less l.width) (lines_of l.line-iterator.rest.now))) l.at
