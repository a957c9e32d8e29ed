-- What a whole script says.
use Rattle.std.specs.Prelude.{◌≡◌, ℕ, ◌+◌, ◌^◌, cond, List, [], ◌∷◌, ◌++◌, map, length, drop, Ok, Err, vec_items, codes, Result, nat_lt, slice_index_or}
use Rattle.std.specs.Result.{result_map_both}
use Rattle.std.specs.Str.{bytes_eq}
use Rattle.text.specs.Lines.{texts}
use Rattle.replay.specs.Sayings.{and_then, call_of, name_of, rule_of, said_of, share_of, shelf_of, Said, a_line, a_close, an_ask}
use Rattle.replay.specs.declared.script.Asked.{Asked}
use Rattle.replay.specs.declared.script.Calls.{Calls}
use Rattle.replay.specs.declared.script.Fault.{Fault}
use Rattle.replay.specs.declared.script.RuleName.{RuleName}
use Rattle.replay.specs.declared.script.Script.{Script}
use Rattle.replay.specs.declared.script.ScriptError.{ScriptError}
use Rattle.replay.specs.declared.script.ScriptError.TheVariants.{Memory, Unread}
use Rattle.replay.specs.declared.script.Wrong.{Wrong}
use Rattle.replay.specs.declared.script.Wrong.TheVariants.{RoomsOver, NoStart}

-- lines are numbered from 1
abbrev pub fault_at : ℕ → Wrong → Fault
fault_at i wrong = record { line = i + 1; wrong = wrong }

-- what was read from a line, with the line's number where it is wrong
abbrev pub on_line : {T : Type 0} → ℕ → Result T Wrong → Result T Fault
on_line i = result_map_both (λ x. x) (fault_at i)

-- a line before `start`, which must be there
abbrev pub line_at : ℕ → List (List ℕ) → Result (List ℕ) Fault
line_at i lines = cond (nat_lt i (length lines)) (Ok (slice_index_or lines i [])) (Err (fault_at (length lines) NoStart))

abbrev pub read_at : {T : Type 0} → ℕ → (List ℕ → Result T Wrong) → List (List ℕ) → Result T Fault
read_at i f lines = and_then (line_at i lines) (λ line. on_line i (f line))

-- the names asked for, and the index of the line that says `start`
pub record Names : Type 0 where
  pub names : List (List ℕ)
  pub start : ℕ

-- the names found before line i, and those that the lines from there on ask for, in a script of `end` lines
abbrev pub names_from : ℕ → List (List ℕ) → ℕ → List (List ℕ) → Result Names Fault
names_from end found i [] = Err (fault_at end NoStart)
names_from end found i (line ∷ lines) =
    cond (bytes_eq line (codes "start")) (Ok (record { names = found; start = i }))
    (and_then (on_line i (name_of line)) (λ name. names_from end (found ++ name ∷ []) (i + 1) lines))

-- the room up to the end of a call's target
abbrev pub room_with : ℕ → Said → Result ℕ Wrong
room_with room (a_line line) = Ok room
room_with room a_close = Ok room
room_with room (an_ask index target) =
    cond (nat_lt (target.at + target.len) (2 ^ 64)) (Ok (target.at + target.len)) (Err RoomsOver)

pub record Spoken : Type 0 where
  pub calls : List Said
  pub room : ℕ

-- the calls found before line i, whose targets take some room, and those that the lines from there on are
abbrev pub calls_from : List Said → ℕ → ℕ → List (List ℕ) → Result Spoken Fault
calls_from found room i [] = Ok (record { calls = found; room = room })
calls_from found room i (line ∷ lines) =
    and_then (on_line i (call_of room line))
    (λ call. and_then (on_line i (room_with room call)) (λ next. calls_from (found ++ call ∷ []) next (i + 1) lines))

-- a script, by what its lines hold
pub record Content : Type 0 where
  pub rule : RuleName
  pub share : ℕ
  pub shelf : ℕ
  pub names : List (List ℕ)
  pub calls : List Said
  pub room : ℕ

-- the names and the calls of a script that begins so
abbrev pub content_from : RuleName → ℕ → ℕ → List (List ℕ) → Result Content Fault
content_from rule share shelf lines =
    and_then (names_from (length lines) [] 3 (drop 3 lines))
    (λ asked. and_then (calls_from [] 0 (asked.start + 1) (drop (asked.start + 1) lines))
    (λ spoken. Ok (record { rule = rule; share = share; shelf = shelf; names = asked.names; calls = spoken.calls; room = spoken.room })))

-- what a script says, or its first fault
abbrev pub content_of : List (List ℕ) → Result Content Fault
content_of lines =
    and_then (read_at 0 rule_of lines)
    (λ rule. and_then (read_at 1 share_of lines)
    (λ share. and_then (read_at 2 shelf_of lines)
    (λ shelf. content_from rule share shelf lines)))

-- what is read, where there is memory for it
abbrev pub ReadAs : {T U : Type 0} → (T → U) → Result T ScriptError → Result U Fault → Type 0
ReadAs f (Ok x) s = Ok (f x) ≡ s
ReadAs f (Err Memory) s = Unit {0}
ReadAs f (Err (Unread fault)) s = Err fault ≡ s

abbrev pub names_in : Asked → Names
names_in asked = record { names = texts (vec_items asked.names); start = asked.start }

abbrev pub spoken_in : Calls → Spoken
spoken_in c = record { calls = map said_of (vec_items c.calls); room = c.room }

abbrev pub content_in : Script → Content
content_in s =
    record {
      rule = s.rule;
      share = s.share;
      shelf = s.shelf;
      names = texts (vec_items s.names);
      calls = map said_of (vec_items s.calls);
      room = s.room;
    }
