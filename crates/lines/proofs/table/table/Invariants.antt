use Rattle.std.proofs.Common.{◌≡◌, ◌+◌, ◌^◌, ◌<◌, ◌++◌, length, vec_items}
use Rattle.text.specs.Lines.{lines_of}
use Rattle.lines.specs.Rows.{numbered, row_of, table_of}
use Rattle.lines.proofs.table.table.Given as goal

abbrev pub invariant-loop-number : goal.invariant-loop-number
invariant-loop-number l = record {
  fits : l.number-iterator.a.start + length (lines_of l.number-iterator.b.rest.now) < 2 ^ 64;
  rows : vec_items l.table ++ numbered row_of l.number-iterator.a.start (lines_of l.number-iterator.b.rest.now) ≡ table_of l.text;
}
