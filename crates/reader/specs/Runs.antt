-- What is answered to a call after other calls, by the stretch in force and by a name's last stretch.
use Rattle.std.specs.Prelude.{ℕ, ◌+◌, ◌*◌, Bool, false, cond, ◌||◌, List, [], ◌∷◌, ◌++◌, length, take, drop, Some, None, Ok, Err, Option, Result, nat_le}
use Rattle.std.specs.Result.{result_map_both}
use Rattle.refusal.specs.declared.Refusal.{Refusal}
use Rattle.refusal.specs.declared.Refusal.TheVariants.{AlreadyClosed, ShortShelf, BadLine, FullShare, StillReading, NoText, TornText}
use Rattle.text.specs.Lines.{fault_of, fed, put}
use Rattle.rules.specs.declared.meaning.Meaning.{Meaning}
use Rattle.rules.specs.declared.meaning.Meaning.TheVariants.{Opens, Continues, Stray}
use Rattle.reader.specs.Shelves.{starting}
use Rattle.reader.specs.Steps.{Setup, Given, asked_by, handed, losing, short, withheld}
use Rattle.reader.specs.Stretches.{Stretch, asked, heard, in_force, last_stretch, on_course, running, text_of, unharmed}
use Rattle.reader.specs.declared.answer.Answer.{Answer}
use Rattle.reader.specs.declared.answer.Answer.TheVariants.{PassedOver, Opened, OtherOpened, Stored, Outside}
use Rattle.reader.specs.declared.calls.Call.{Call}
use Rattle.reader.specs.declared.calls.Call.TheVariants.{Line, Close, Ask}
use Rattle.reader.specs.declared.calls.Reply.{Reply}
use Rattle.reader.specs.declared.calls.Reply.TheVariants.{Answered, Closed, Body}

-- the answer to a call, and the bytes of its target
pub record Told : Type 0 where
  pub reply : Result Reply Refusal
  pub target : List ℕ

-- what is answered where a call is not refused
abbrev pub replied : {X : Type 0} → (X → Reply) → Result X Refusal → Result Reply Refusal
replied f = result_map_both f (λ e. e)

-- a line was lost
abbrev pub lossy : Result Reply Refusal → Bool
lossy (Ok r) = false
lossy (Err e) = losing e

-- a list of calls, each of which changes some bytes by what came before it
abbrev pub ran : (List Call → Call → List ℕ → List ℕ) → List Call → List Call → List ℕ → List ℕ
ran f h [] bytes = bytes
ran f h (c ∷ cs) bytes = ran f (h ++ (c ∷ [])) cs (f h c bytes)

-- the part of the targets that a call names, and the targets with other bytes there
abbrev pub target_of : Call → List ℕ → List ℕ
target_of (Line l) targets = []
target_of Close targets = []
target_of (Ask i t) targets = take t.len (drop t.at targets)

abbrev pub handed_to : Call → List ℕ → List ℕ → List ℕ
handed_to (Line l) bytes targets = targets
handed_to Close bytes targets = targets
handed_to (Ask i t) bytes targets = put t.at bytes targets

-- a reader of this setup, over a shelf of so many bytes
module _ (q : Setup) (len : ℕ) where
  -- a line that continues, with n bytes of text once it is stored
  abbrev pub kept_for : Option ℕ → ℕ → Result Answer Refusal
  kept_for None n = Ok Outside
  kept_for (Some i) n = cond (nat_le n q.share) (Ok Stored) (Err FullShare)

  abbrev pub kept_in : Option Stretch → List ℕ → Result Answer Refusal
  kept_in None line = Ok Outside
  kept_in (Some s) line = kept_for (asked q s.first) (length (text_of q s ++ fed line))

  abbrev pub opened_as : Option ℕ → Answer
  opened_as None = OtherOpened
  opened_as (Some i) = Opened i

  -- a line that can be read, after calls that close nothing
  abbrev pub heard_as : List Call → Meaning → List ℕ → Result Answer Refusal
  heard_as h (Opens name text) line = Ok (opened_as (asked_by q (Opens name text) line))
  heard_as h Continues line = cond (on_course q h) (kept_in (in_force q h) line) (Ok PassedOver)
  heard_as h Stray line = Ok (cond q.fixed.strays_end Outside (cond (on_course q h) Outside PassedOver))

  abbrev pub unless_fault : Option ℕ → Result Answer Refusal → Result Answer Refusal
  unless_fault None r = r
  unless_fault (Some at) r = Err (BadLine at)

  abbrev pub says_line : List Call → List ℕ → Result Answer Refusal
  says_line h line =
      cond (running h)
      (cond (short q len) (Err ShortShelf) (unless_fault (fault_of line) (heard_as h (q.meaning line) line)))
      (Err AlreadyClosed)

  abbrev pub says_close : List Call → Result (Unit {0}) Refusal
  says_close h = cond (running h) (Ok tt) (Err AlreadyClosed)

  -- what is handed out of a name's last stretch
  abbrev pub of_stretch : List ℕ → Option Stretch → Given
  of_stretch target None = withheld target NoText
  of_stretch target (Some s) = cond (unharmed q s) (handed target (text_of q s)) (withheld target TornText)

  abbrev pub says_body : List Call → ℕ → List ℕ → Given
  says_body h i target =
      cond (running h) (withheld target StillReading)
      (cond (short q len) (withheld target ShortShelf) (of_stretch target (last_stretch q i (heard h))))

  -- the answer to a call after the calls h, and what its target then holds
  abbrev pub says : List Call → Call → List ℕ → Told
  says h (Line l) target = record { reply = replied Answered (says_line h l.now); target = target }
  says h Close target = record { reply = replied (λ _. Closed) (says_close h); target = target }
  says h (Ask i t) target =
      record { reply = replied Body (says_body h i target).answer; target = (says_body h i target).target }

  abbrev pub targets_past : List Call → Call → List ℕ → List ℕ
  targets_past h c targets = handed_to c (says h c (target_of c targets)).target targets

  -- the targets after some calls
  abbrev pub targets_after : List Call → List ℕ → List ℕ
  targets_after calls targets = ran targets_past [] calls targets

  -- where the share of a name starts, and where the text of a stretch ends in it
  abbrev pub share_of : Option ℕ → ℕ
  share_of None = 0
  share_of (Some i) = i * q.share

  abbrev pub text_end : Option Stretch → ℕ
  text_end None = 0
  text_end (Some s) = share_of (asked q s.first) + length (text_of q s)

  -- a line that opens an asked name is written to the front of its share, one that is stored behind the text of the
  -- stretch in force; nothing else writes
  abbrev pub wrote : Option Stretch → List ℕ → Result Answer Refusal → List ℕ → List ℕ
  wrote s line (Ok PassedOver) shelf = shelf
  wrote s line (Ok (Opened i)) shelf = put (i * q.share) (starting (q.meaning line) line) shelf
  wrote s line (Ok OtherOpened) shelf = shelf
  wrote s line (Ok Stored) shelf = put (text_end s) (fed line) shelf
  wrote s line (Ok Outside) shelf = shelf
  wrote s line (Err e) shelf = shelf

  abbrev pub shelf_past : List Call → Call → List ℕ → List ℕ
  shelf_past h (Line l) shelf = wrote (in_force q h) l.now (says_line h l.now) shelf
  shelf_past h Close shelf = shelf
  shelf_past h (Ask i t) shelf = shelf

  -- the shelf after some calls
  abbrev pub shelf_after : List Call → List ℕ → List ℕ
  shelf_after calls shelf = ran shelf_past [] calls shelf

  -- is one of these calls, after the calls h, a line that is lost?
  abbrev pub loses : List Call → List Call → Bool
  loses h [] = false
  loses h (c ∷ cs) = lossy (says h c []).reply || loses (h ++ (c ∷ [])) cs

  -- a line of the stretch was refused 5 or 6
  abbrev pub had_refusal : Stretch → Bool
  had_refusal s = loses (s.first ∷ []) s.rest
