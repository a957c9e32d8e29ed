-- Taking from some lines the indent that they share.
use Rattle.std.specs.Prelude.{◌≡◌, ℕ, ◌+◌, ◌<◌, ◌≤◌, Bool, true, false, cond, List, [], ◌++◌, map, length, take, drop, Some, None, fold, Option, ◌==◌, nat_eq, slice_index_or}
use Rattle.std.specs.Option.{unwrap_or}
use Rattle.std.specs.List.{common_prefix_len, prefix_len, All}
use Rattle.text.specs.Bytes.{blank}
use Rattle.text.specs.Lines.{lines_of, unlines}

-- nothing but blanks, or nothing
abbrev pub blank_line : List ℕ → Bool
blank_line line = prefix_len blank line == length line

-- how many blanks a line begins with
abbrev pub indent : List ℕ → ℕ
indent line = prefix_len blank line

-- the longest run that a margin and a line both begin with; the first line's margin is its indent
abbrev pub meeting : Option (List ℕ) → List ℕ → List ℕ
meeting None line = take (indent line) line
meeting (Some margin) line = take (common_prefix_len nat_eq margin line) margin

-- lines of blanks have no say in the margin
abbrev pub narrowed : Option (List ℕ) → List ℕ → Option (List ℕ)
narrowed margin line = cond (blank_line line) margin (Some (meeting margin line))

-- the blanks that all lines with anything else begin with
abbrev pub margin_of : List (List ℕ) → List ℕ
margin_of lines = unwrap_or (fold narrowed None lines) []

-- a line of blanks comes out empty, any other loses as many bytes as the margin has
abbrev pub less : ℕ → List ℕ → List ℕ
less width line = cond (blank_line line) [] (drop width line)

abbrev pub dedent_lines : List (List ℕ) → List (List ℕ)
dedent_lines lines = map (less (length (margin_of lines))) lines

abbrev pub dedented : List ℕ → List ℕ
dedented text = unlines (dedent_lines (lines_of text))

-- every line that has more than blanks begins with the run
abbrev pub Shared : List ℕ → List (List ℕ) → Type 0
Shared run lines = All (λ l. blank_line l ≡ false → l ≡ run ++ drop (length run) l) lines

-- What a dedent does to lines, by what is taken off and not by how it is found.
pub record Dedents (before after : List (List ℕ)) : Type 0 where
  pub margin : List ℕ
  pub margin_blank : All (λ b. blank b ≡ true) margin
  pub margin_shared : Shared margin before
  -- no longer run of blanks is shared, wherever there is a line to share it
  pub margin_longest : (run : List ℕ) → All (λ b. blank b ≡ true) run → Shared run before → (k : ℕ) → k < length before → blank_line (slice_index_or before k []) ≡ false → length run ≤ length margin
  -- the same lines in the same order, each less the margin or, of blanks, empty
  pub lines : after ≡ map (less (length margin)) before
  -- a line comes out empty exactly when it is blanks only
  pub empties : (k : ℕ) → k < length before → (length (slice_index_or after k []) == 0) ≡ blank_line (slice_index_or before k [])
  -- one line stands as far to the right of another as it did
  pub relative : (j k : ℕ) → j < length before → k < length before → blank_line (slice_index_or before j []) ≡ false → blank_line (slice_index_or before k []) ≡ false → indent (slice_index_or after j []) + indent (slice_index_or before k []) ≡ indent (slice_index_or after k []) + indent (slice_index_or before j [])
