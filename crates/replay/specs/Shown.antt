-- What is printed of a script and of its calls.
use Rattle.std.specs.Prelude.{ℕ, List, [], ◌∷◌, ◌++◌, take, Ok, Err, codes, decimal, Result}
use Rattle.refusal.specs.Numbers.{shown}
use Rattle.refusal.specs.declared.Refusal.{Refusal}
use Rattle.text.specs.Escapes.{escaped}
use Rattle.reader.specs.Answers.{shown_answer}
use Rattle.reader.specs.Runs.{target_of}
use Rattle.reader.specs.declared.calls.Call.{Call}
use Rattle.reader.specs.declared.calls.Reply.{Reply}
use Rattle.reader.specs.declared.calls.Reply.TheVariants.{Answered, Closed, Body}
use Rattle.replay.specs.Sayings.{most_room}
use Rattle.replay.specs.declared.script.Fault.{Fault}
use Rattle.replay.specs.declared.script.Wrong.{Wrong}
use Rattle.replay.specs.declared.script.Wrong.TheVariants.{RuleWanted, NotRule, ShareWanted, ShelfWanted, NameWanted, NotNumber, ShelfOver, RoomOver, RoomsOver, NotCall, NoStart}

-- `body 6 Groups`: how long the body is, and what its target holds of it
abbrev pub shown_body : ℕ → List ℕ → List ℕ
shown_body len target = codes "body " ++ decimal len ++ codes " " ++ escaped (take len target)

-- what a call is answered, where its target holds these bytes
abbrev pub shown_reply : List ℕ → Result Reply Refusal → List ℕ
shown_reply target (Ok (Answered a)) = shown_answer a
shown_reply target (Ok Closed) = codes "closed"
shown_reply target (Ok (Body len)) = shown_body len target
shown_reply target (Err r) = shown r

-- a line for each reply to a call
abbrev pub shown_replies : List ℕ → List Call → List (Result Reply Refusal) → List ℕ
shown_replies targets [] replies = []
shown_replies targets (c ∷ calls) [] = []
shown_replies targets (c ∷ calls) (r ∷ replies) =
    shown_reply (target_of c targets) r ++ 10 ∷ [] ++ shown_replies targets calls replies

-- `started`, and the replies
abbrev pub shown_run : List ℕ → List Call → List (Result Reply Refusal) → List ℕ
shown_run targets calls replies = codes "started" ++ 10 ∷ [] ++ shown_replies targets calls replies

-- what is wrong with a line
abbrev pub shown_wrong : Wrong → List ℕ
shown_wrong RuleWanted = codes "rule NAME is wanted here"
shown_wrong NotRule = codes "not a rule"
shown_wrong ShareWanted = codes "share N is wanted here"
shown_wrong ShelfWanted = codes "shelf N is wanted here"
shown_wrong NameWanted = codes "ask NAME or start is wanted here"
shown_wrong NotNumber = codes "not a number"
shown_wrong ShelfOver = codes "shelf over " ++ decimal most_room
shown_wrong RoomOver = codes "room over " ++ decimal most_room
shown_wrong RoomsOver = codes "too much room in all"
shown_wrong NotCall = codes "not a call"
shown_wrong NoStart = codes "the script ends before start"

-- `line 3: not a number`
abbrev pub fault_text : Fault → List ℕ
fault_text fault = codes "line " ++ decimal fault.line ++ codes ": " ++ shown_wrong fault.wrong

-- the same as a line
abbrev pub shown_fault : Fault → List ℕ
shown_fault fault = fault_text fault ++ 10 ∷ []
