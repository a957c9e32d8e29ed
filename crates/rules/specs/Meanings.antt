-- What each rule makes of a line.
use Rattle.std.specs.Prelude.{ℕ, ◌+◌, ◌-◌, Bool, true, cond, not, ◌&&◌, ◌||◌, List, [], map, length, take, drop, Some, None, Option, ◌==◌, nat_le, nat_lt, slice_index}
use Rattle.std.specs.List.{prefix_len}
use Rattle.text.specs.Bytes.{blank, lowered, space, star, word}
use Rattle.text.specs.Trims.{stripped}
use Rattle.rules.specs.declared.meaning.Meaning.{Meaning}
use Rattle.rules.specs.declared.meaning.Meaning.TheVariants.{Opens, Continues, Stray}
use Rattle.rules.specs.declared.meaning.Place.{Place}

-- byte i of the line is a b
abbrev pub stands_at : ℕ → ℕ → List ℕ → Bool
stands_at b i line = nat_lt i (length line) && slice_index line i == b

-- only blanks stand from i on
abbrev pub blank_from : ℕ → List ℕ → Bool
blank_from i line = nat_le i (length line) && prefix_len blank (drop i line) == length line - i

-- behind the blanks that stand from i on
abbrev pub text_from : ℕ → List ℕ → ℕ
text_from i line = i + prefix_len blank (drop i line)

-- an empty line, or one that begins with a blank
abbrev pub resuming : List ℕ → Bool
resuming line = length line == 0 || blank (slice_index line 0)

abbrev pub always : List ℕ → Bool
always line = true

-- a line opens, or else continues, or else is a stray
abbrev pub meant : Bool → Place → Option ℕ → Bool → Meaning
meant opens name text goes = cond opens (Opens name text) (cond goes Continues Stray)

-- a name as it is looked up
abbrev pub looked_up : Bool → List ℕ → List ℕ
looked_up lowers name = cond lowers (map lowered name) name

-- the name that a line opens
abbrev pub named : Bool → List ℕ → Meaning → List ℕ
named lowers line (Opens name text) = looked_up lowers (take name.len (drop name.at line))
named lowers line Continues = []
named lowers line Stray = []

-- a byte that a section's title may have
abbrev pub title_byte : ℕ → Bool
title_byte b = word b || (space b || b == 45)

-- ---- Starlark sections: `Args:`

-- a title that begins with no space, a colon, then only blanks
abbrev pub heads_starlark : List ℕ → Bool
heads_starlark line =
    let n : ℕ = prefix_len title_byte line in
    nat_lt 0 n && (not (stands_at 32 0 line) && (stands_at 58 n line && blank_from (n + 1) line))

-- up to where the title bytes end
abbrev pub starlark_title : List ℕ → Place
starlark_title line = record { at = 0; len = prefix_len title_byte line }

abbrev pub starlark_section : List ℕ → Meaning
starlark_section line = meant (heads_starlark line) (starlark_title line) None (resuming line)

-- ---- Rust sections: `# Args`

-- how long the title is that follows `# `
abbrev pub rust_run : List ℕ → ℕ
rust_run line = prefix_len title_byte (drop 2 line)

-- `# `, a title, then only blanks
abbrev pub heads_rust : List ℕ → Bool
heads_rust line =
    stands_at 35 0 line && (stands_at 32 1 line && (nat_lt 0 (rust_run line) && blank_from (2 + rust_run line) line))

-- the title less the spaces at its ends, or all of it if it has nothing else
abbrev pub title_in : List ℕ → Place
title_in run =
    cond
    (length (stripped space run) == 0)
    record { at = 2; len = length run }
    record { at = 2 + prefix_len space run; len = length (stripped space run) }

abbrev pub rust_title : List ℕ → Place
rust_title line = title_in (take (rust_run line) (drop 2 line))

abbrev pub rust_section : List ℕ → Meaning
rust_section line = meant (heads_rust line) (rust_title line) None (always line)

-- ---- Starlark entries: `**name: text`

-- behind the stars
abbrev pub starlark_name : List ℕ → Place
starlark_name line = let s : ℕ = prefix_len star line in record { at = s; len = prefix_len word (drop s line) }

abbrev pub name_end : Place → ℕ
name_end name = name.at + name.len

-- at most two stars, a word, a colon
abbrev pub enters_starlark : List ℕ → Bool
enters_starlark line =
    let name : Place = starlark_name line in
    nat_le name.at 2 && (nat_lt 0 name.len && stands_at 58 (name_end name) line)

abbrev pub starlark_entry : List ℕ → Meaning
starlark_entry line =
    let name : Place = starlark_name line in
    meant (enters_starlark line) name (Some (text_from (name_end name + 1) line)) (resuming line)

-- ---- Rust entries: * `name`: text

-- behind the bullet, if there is one, and a backquote
abbrev pub rust_name : List ℕ → Place
rust_name line =
    let s : ℕ = cond (stands_at 42 0 line && stands_at 32 1 line) 3 1 in
    record { at = s; len = prefix_len word (drop s line) }

-- a word in backquotes
abbrev pub enters_rust : List ℕ → Bool
enters_rust line =
    let name : Place = rust_name line in
    stands_at 96 (name.at - 1) line && (nat_lt 0 name.len && stands_at 96 (name_end name) line)

-- behind the backquote, and behind a colon if one follows
abbrev pub rust_mark : List ℕ → ℕ
rust_mark line =
    let e : ℕ = name_end (rust_name line) + 1 in
    e + cond (stands_at 58 e line) 1 0

abbrev pub rust_entry : List ℕ → Meaning
rust_entry line = meant (enters_rust line) (rust_name line) (Some (text_from (rust_mark line) line)) (resuming line)
