-- What is printed of a finding.
use Rattle.std.specs.Prelude.{ℕ, List, ◌++◌, Some, codes, string_bytes}
use Rattle.lines.specs.Rows.{opening_cell, text_cell}
use Rattle.lines.specs.declared.cell.Finding.{Finding}
use Rattle.lines.specs.declared.cell.Finding.TheVariants.{Opens, Continues, Stray, Unreadable}

-- in a few words
abbrev pub shown : Finding → List ℕ
shown (Opens name text) = opening_cell (string_bytes name) text
shown Continues = codes "continues"
shown Stray = codes "stray"
shown (Unreadable at) = codes "unreadable" ++ text_cell (Some at)
