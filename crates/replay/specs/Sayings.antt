-- What a line of a script says.
use Rattle.std.specs.Prelude.{ℕ, cond, List, Some, None, Ok, Err, codes, Option, Result, nat_le}
use Rattle.std.specs.Option.{ok_or}
use Rattle.std.specs.Result.{result_map_both}
use Rattle.std.specs.Str.{bytes_eq}
use Rattle.rules.specs.declared.meaning.Place.{Place}
use Rattle.reader.specs.declared.calls.Call.{Call}
use Rattle.reader.specs.declared.calls.Call.TheVariants.{Line, Close, Ask}
use Rattle.replay.specs.Words.{number_of, rest_of, word_of}
use Rattle.replay.specs.declared.script.RuleName.{RuleName}
use Rattle.replay.specs.declared.script.RuleName.TheVariants.{StarlarkSection, RustSection, StarlarkEntry, RustEntry}
use Rattle.replay.specs.declared.script.Wrong.{Wrong}
use Rattle.replay.specs.declared.script.Wrong.TheVariants.{RuleWanted, NotRule, ShareWanted, ShelfWanted, NameWanted, NotNumber, ShelfOver, RoomOver, NotCall}

-- what was read, seen through f
abbrev pub said : {T U E : Type 0} → (T → U) → Result T E → Result U E
said f = result_map_both f (λ e. e)

-- what was read, read on
abbrev pub and_then : {T U E : Type 0} → Result T E → (T → Result U E) → Result U E
and_then (Ok x) f = f x
and_then (Err e) f = Err e

abbrev pub rule_named : List ℕ → Result RuleName Wrong
rule_named name =
    cond (bytes_eq name (codes "starlark-section")) (Ok StarlarkSection)
    (cond (bytes_eq name (codes "rust-section")) (Ok RustSection)
    (cond (bytes_eq name (codes "starlark-entry")) (Ok StarlarkEntry)
    (cond (bytes_eq name (codes "rust-entry")) (Ok RustEntry)
    (Err NotRule))))

-- what stands behind a word; another word is not what is wanted here
abbrev pub behind : List ℕ → Wrong → List ℕ → Result (List ℕ) Wrong
behind word wanted line = cond (bytes_eq (word_of line) word) (Ok (rest_of line)) (Err wanted)

-- `rule NAME`
abbrev pub rule_of : List ℕ → Result RuleName Wrong
rule_of line = and_then (behind (codes "rule") RuleWanted line) rule_named

-- a word and a number
abbrev pub number_behind : List ℕ → Wrong → List ℕ → Result ℕ Wrong
number_behind word wanted line = and_then (behind word wanted line) (λ text. ok_or (number_of text) NotNumber)

-- the most room that a shelf or a target gets
abbrev pub most_room : ℕ
most_room = 1000000

abbrev pub limited : Wrong → ℕ → Result ℕ Wrong
limited over n = cond (nat_le n most_room) (Ok n) (Err over)

-- `share N`
abbrev pub share_of : List ℕ → Result ℕ Wrong
share_of line = number_behind (codes "share") ShareWanted line

-- `shelf N`
abbrev pub shelf_of : List ℕ → Result ℕ Wrong
shelf_of line = and_then (number_behind (codes "shelf") ShelfWanted line) (limited ShelfOver)

-- `ask NAME`
abbrev pub name_of : List ℕ → Result (List ℕ) Wrong
name_of line = behind (codes "ask") NameWanted line

-- a call, by what its line holds
pub data Said : Type 0 where
  a_line : List ℕ → Said
  a_close : Said
  an_ask : ℕ → Place → Said

abbrev pub said_of : Call → Said
said_of (Line l) = a_line l.now
said_of Close = a_close
said_of (Ask index target) = an_ask index target

-- an index and a room, for a target from `at` on
abbrev pub asked_at : ℕ → Option ℕ → Option ℕ → Result Said Wrong
asked_at at None room = Err NotNumber
asked_at at (Some index) None = Err NotNumber
asked_at at (Some index) (Some room) = said (λ n. an_ask index (record { at = at; len = n })) (limited RoomOver room)

-- `line TEXT`, `close` or `body INDEX ROOM`
abbrev pub call_of : ℕ → List ℕ → Result Said Wrong
call_of at line =
    cond (bytes_eq (word_of line) (codes "line")) (Ok (a_line (rest_of line)))
    (cond (bytes_eq (word_of line) (codes "body")) (asked_at at (number_of (word_of (rest_of line))) (number_of (rest_of (rest_of line))))
    (cond (bytes_eq line (codes "close")) (Ok a_close)
    (Err NotCall)))
