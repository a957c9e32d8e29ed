use Rattle.std.proofs.Common.{◌≡◌, None, fold}
use Rattle.std.specs.Option.{option_map}
use Rattle.text.specs.Dedents.{narrowed}
use Rattle.text.specs.Lines.{lines_of}
use Rattle.text.proofs.dedent.margin.Given as goal

abbrev pub invariant-loop-line : goal.invariant-loop-line
invariant-loop-line l = fold narrowed (option_map (λ r. r.now) l.margin) (lines_of l.line-iterator.rest.now) ≡ fold narrowed None (lines_of l.text)
