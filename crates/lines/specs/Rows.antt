-- What is printed of a line.
use Rattle.std.specs.Prelude.{ℕ, ◌+◌, ◌-◌, max, Bool, true, false, List, [], ◌∷◌, ◌++◌, length, replicate, Some, None, Ok, Err, codes, decimal, Option, Result}
use Rattle.text.specs.Escapes.{escaped}
use Rattle.text.specs.Lines.{fault_of, lines_of}
use Rattle.rules.specs.Meanings.{named, rust_entry, rust_section, starlark_entry, starlark_section}
use Rattle.rules.specs.declared.meaning.Meaning.{Meaning}
use Rattle.rules.specs.declared.meaning.Meaning.TheVariants.{Opens, Continues, Stray}

-- what a rule makes of a line, or the byte at which the line cannot be read
abbrev pub reading_of : Option ℕ → Meaning → Result Meaning ℕ
reading_of None meaning = Ok meaning
reading_of (Some at) meaning = Err at

-- at which byte, if there is one
abbrev pub text_cell : Option ℕ → List ℕ
text_cell None = []
text_cell (Some at) = codes " @" ++ decimal at

-- `opens "name" @6`
abbrev pub opening_cell : List ℕ → Option ℕ → List ℕ
opening_cell name text = codes "opens \"" ++ name ++ 34 ∷ [] ++ text_cell text

-- that, `continues`, `stray` or `unreadable @6`
abbrev pub cell_of : Bool → List ℕ → Result Meaning ℕ → List ℕ
cell_of lowers line (Ok (Opens name text)) = opening_cell (named lowers line (Opens name text)) text
cell_of lowers line (Ok Continues) = codes "continues"
cell_of lowers line (Ok Stray) = codes "stray"
cell_of lowers line (Err at) = codes "unreadable" ++ text_cell (Some at)

-- a cell and the spaces up to the next column, at least one
abbrev pub padded : ℕ → List ℕ → List ℕ
padded width cell = cell ++ replicate (max (width - length cell) 1) 32

abbrev pub column_of : Bool → (List ℕ → Meaning) → List ℕ → List ℕ
column_of lowers meaning line = padded 20 (cell_of lowers line (reading_of (fault_of line) (meaning line)))

-- the line between bars
abbrev pub barred : List ℕ → List ℕ
barred line = 124 ∷ [] ++ escaped line ++ 124 ∷ 10 ∷ []

-- the line's number, what each rule makes of it, and the line
abbrev pub row_of : ℕ → List ℕ → List ℕ
row_of number line =
    padded 6 (decimal number)
    ++ column_of true starlark_section line
    ++ column_of false starlark_entry line
    ++ column_of true rust_section line
    ++ column_of false rust_entry line
    ++ barred line

-- a row for each of some lines, numbered from n on
abbrev pub numbered : (ℕ → List ℕ → List ℕ) → ℕ → List (List ℕ) → List ℕ
numbered row n [] = []
numbered row n (line ∷ lines) = row n line ++ numbered row (n + 1) lines

abbrev pub head_of : List ℕ
head_of = codes "line  starlark-section    starlark-entry      rust-section        rust-entry          text" ++ 10 ∷ []

-- a row for each line, from 1
abbrev pub table_of : List ℕ → List ℕ
table_of text = head_of ++ numbered row_of 1 (lines_of text)
