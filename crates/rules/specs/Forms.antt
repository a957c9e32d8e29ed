-- How a line looks that opens a name, in the words of the rules.
use Rattle.std.specs.Prelude.{◌≡◌, ℕ, ◌+◌, ◌<◌, ◌≤◌, true, false, ◌⊎◌, List, [], ◌∷◌, ◌++◌, length, Some, None, Option, ◌≢◌, slice_index}
use Rattle.std.specs.List.{All}
use Rattle.text.specs.Bytes.{blank, space, star, word}
use Rattle.text.specs.Trims.{Strips}
use Rattle.rules.specs.Meanings.{title_byte}
use Rattle.rules.specs.declared.meaning.Place.{Place}

-- one or more word bytes, spaces or hyphens, the first no space; a colon; then only blanks
pub record StarlarkHeading (line : List ℕ) (name : Place) (text : Option ℕ) : Type 0 where
  pub title : List ℕ
  pub rest : List ℕ
  pub line_is : line ≡ title ++ 58 ∷ rest
  pub title_some : 0 < length title
  pub title_bytes : All (λ b. title_byte b ≡ true) title
  pub title_first : space (slice_index title 0) ≡ false
  pub rest_blank : All (λ b. blank b ≡ true) rest
  pub name_is : name ≡ record { at = 0; len = length title }
  pub text_is : text ≡ None

-- the title of a Rust heading: what is left of the run without the spaces at its ends, or a run of spaces itself
abbrev pub TitleOf : List ℕ → Place → Type 0
TitleOf run name =
    (All (λ b. space b ≡ true) run × (name ≡ record { at = 2; len = length run }))
    ⊎ ((title : List ℕ) × (s : Strips space run title) × (0 < length title) × (name ≡ record { at = 2 + length s.front; len = length title }))

-- `# `; the longest run of one or more word bytes, spaces or hyphens; then only blanks
pub record RustHeading (line : List ℕ) (name : Place) (text : Option ℕ) : Type 0 where
  pub run : List ℕ
  pub rest : List ℕ
  pub line_is : line ≡ 35 ∷ 32 ∷ (run ++ rest)
  pub run_some : 0 < length run
  pub run_bytes : All (λ b. title_byte b ≡ true) run
  pub run_longest : title_byte (slice_index rest 0) ≡ false
  pub rest_blank : All (λ b. blank b ≡ true) rest
  pub name_is : TitleOf run name
  pub text_is : text ≡ None

-- at most two asterisks; a word, which is the name; a colon; blanks; and the text
pub record StarlarkItem (line : List ℕ) (name : Place) (text : Option ℕ) : Type 0 where
  pub stars : List ℕ
  pub called : List ℕ
  pub blanks : List ℕ
  pub rest : List ℕ
  pub line_is : line ≡ stars ++ (called ++ 58 ∷ (blanks ++ rest))
  pub stars_are : All (λ b. star b ≡ true) stars
  pub stars_few : length stars ≤ 2
  pub called_some : 0 < length called
  pub called_bytes : All (λ b. word b ≡ true) called
  pub blanks_are : All (λ b. blank b ≡ true) blanks
  pub rest_first : blank (slice_index rest 0) ≡ false
  pub name_is : name ≡ record { at = length stars; len = length called }
  pub text_is : text ≡ Some (length stars + length called + 1 + length blanks)

-- an optional `* `; a word in backquotes, which is the name; an optional colon; blanks; and the text
pub record RustItem (line : List ℕ) (name : Place) (text : Option ℕ) : Type 0 where
  pub bullet : List ℕ
  pub called : List ℕ
  pub colon : List ℕ
  pub blanks : List ℕ
  pub rest : List ℕ
  pub line_is : line ≡ bullet ++ 96 ∷ (called ++ 96 ∷ (colon ++ (blanks ++ rest)))
  pub bullet_is : (bullet ≡ []) ⊎ (bullet ≡ 42 ∷ 32 ∷ [])
  pub called_some : 0 < length called
  pub called_bytes : All (λ b. word b ≡ true) called
  -- a colon that is there is taken
  pub colon_is : (colon ≡ 58 ∷ []) ⊎ ((colon ≡ []) × (slice_index (blanks ++ rest) 0 ≢ 58))
  pub blanks_are : All (λ b. blank b ≡ true) blanks
  pub rest_first : blank (slice_index rest 0) ≡ false
  pub name_is : name ≡ record { at = length bullet + 1; len = length called }
  pub text_is : text ≡ Some (length bullet + 1 + length called + 1 + length colon + length blanks)
