-- The lines of a text. What a line end is stands in this file alone.
use Rattle.std.specs.Prelude.{◌≡◌, ℕ, ◌+◌, ◌-◌, ◌<◌, ◌≤◌, min, Bool, true, false, cond, ◌⊎◌, List, [], ◌∷◌, ◌++◌, map, length, take, drop, Some, None, Option, nat_lt, slice_index, slice_index_or}
use Rattle.std.specs.Borrow.{Bor}
use Rattle.std.specs.List.{flat_map, prefix_len, All}
use Rattle.text.specs.Bytes.{except, plain}

-- not a line feed
abbrev pub inside : ℕ → Bool
inside b = except 10 b

-- a byte put before the first of some lines; where there is none, it is a line of its own
abbrev pub before : ℕ → List (List ℕ) → List (List ℕ)
before b [] = (b ∷ []) ∷ []
before b (l ∷ ls) = (b ∷ l) ∷ ls

-- the pieces between line feeds; an empty piece behind the last line feed is no line
abbrev pub lines_of : List ℕ → List (List ℕ)
lines_of [] = []
lines_of (b ∷ bs) = cond (inside b) (before b (lines_of bs)) ([] ∷ lines_of bs)

-- a line and its line feed
abbrev pub fed : List ℕ → List ℕ
fed line = line ++ (10 ∷ [])

-- the lines as one text, each with a line feed behind it
abbrev pub unlines : List (List ℕ) → List ℕ
unlines ls = flat_map fed ls

-- the memory with these bytes in place of those from `at` on, and all others as they were
abbrev pub put : ℕ → List ℕ → List ℕ → List ℕ
put at bytes memory = take at memory ++ (bytes ++ drop (at + length bytes) memory)

-- whether the memory has room for a line and its line feed from `at` on
abbrev pub has_room : ℕ → List ℕ → List ℕ → Bool
has_room at line memory = nat_lt (at + length line) (length memory)

-- the text, with a line feed behind its last line if there is none
abbrev pub ended : List ℕ → List ℕ
ended text = cond (inside (slice_index_or text (length text - 1) 10)) (text ++ 10 ∷ []) text

-- no line holds a line feed, and put together again the lines are the text
pub record Splits (text : List ℕ) (lines : List (List ℕ)) : Type 0 where
  pub apart : All (λ l. All (λ b. inside b ≡ true) l) lines
  pub whole : unlines lines ≡ ended text

-- the first line, and what stands behind its line feed: the text of the other lines; nothing where the text is empty
abbrev pub Cuts : List ℕ → Option (List ℕ × List ℕ) → Type 0
Cuts text None = text ≡ []
Cuts text (Some (line, rest)) =
    (lines_of text ≡ line ∷ lines_of rest) × (rest ≡ drop (length line + 1) text) × (length rest < length text)

-- what the parts of a text hold
abbrev pub texts : List (Bor (List ℕ)) → List (List ℕ)
texts parts = map (λ r. r.now) parts

-- where a line cannot be read: behind its longest front of plain bytes, of which at most 1,000 count
abbrev pub fault_of : List ℕ → Option ℕ
fault_of line =
    let good : ℕ = min (prefix_len plain line) 1000 in
    cond (nat_lt good (length line)) (Some good) None

-- a line can be read when it has at most 1,000 bytes, all of them plain; else all is well before the place
-- given, which is the first byte that is not plain, or 1,000
abbrev pub Reads : List ℕ → Option ℕ → Type 0
Reads line None = (length line ≤ 1000) × All (λ b. plain b ≡ true) line
Reads line (Some k) =
    (k < length line) × All (λ b. plain b ≡ true) (take k line) × ((k ≡ 1000) ⊎ ((k < 1000) × (plain (slice_index line k) ≡ false)))
