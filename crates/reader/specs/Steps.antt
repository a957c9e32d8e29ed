-- What each operation does to a reader, and to the memory lent to it.
use Rattle.std.specs.Prelude.{◌≡◌, ℕ, ◌+◌, ◌*◌, Bool, true, false, cond, ◌||◌, List, length, take, drop, replicate, Some, None, Ok, Err, Option, Result, ◌==◌, nat_le, nat_lt, slice_index_or, slice_set}
use Rattle.refusal.specs.Numbers.{number}
use Rattle.refusal.specs.declared.Refusal.{Refusal}
use Rattle.refusal.specs.declared.Refusal.TheVariants.{AlreadyClosed, ShortShelf, BadLine, FullShare, StillReading, NoText, TornText, ShortTarget}
use Rattle.text.specs.Dedents.{dedented}
use Rattle.text.specs.Lines.{fault_of, fed, put}
use Rattle.text.specs.Trims.{trimmed}
use Rattle.rules.specs.Meanings.{named}
use Rattle.rules.specs.declared.meaning.Meaning.{Meaning}
use Rattle.rules.specs.declared.meaning.Meaning.TheVariants.{Opens, Continues, Stray}
use Rattle.rules.specs.declared.meaning.Properties.{Properties}
use Rattle.names.specs.Asked.{index_of}
use Rattle.reader.specs.Shelves.{opening_text}
use Rattle.reader.specs.declared.answer.Answer.{Answer}
use Rattle.reader.specs.declared.answer.Answer.TheVariants.{PassedOver, Opened, OtherOpened, Stored, Outside}
use Rattle.reader.specs.declared.state.Course.{Course}
use Rattle.reader.specs.declared.state.Course.TheVariants.{NoName, Open, Lost, Closed}
use Rattle.reader.specs.declared.state.Kept.{Kept}
use Rattle.reader.specs.declared.state.Kept.TheVariants.{Absent, Whole, Torn}
use Rattle.reader.specs.declared.state.State.{State}

-- What a reader is made of: the names asked for, the size of a share, and the rule.
pub record Setup : Type 0 where
  pub names : List (List ℕ)
  pub share : ℕ
  pub fixed : Properties
  pub meaning : List ℕ → Meaning

-- the asked name that a line opens, by its meaning
abbrev pub asked_by : Setup → Meaning → List ℕ → Option ℕ
asked_by q (Opens name text) line = index_of q.names (named q.fixed.names_lowered line (Opens name text))
asked_by q Continues line = None
asked_by q Stray line = None

-- is the shelf too short for the shares of all names?
abbrev pub short : Setup → ℕ → Bool
short q len = nat_lt len (length q.names * q.share)

-- how many bytes of a name's share are its text
abbrev pub used : Kept → ℕ
used Absent = 0
used (Whole n) = n
used Torn = 0

abbrev pub kept_at : State → ℕ → Kept
kept_at s i = slice_index_or s.kept i Absent

abbrev pub is_closed : Course → Bool
is_closed NoName = false
is_closed (Open i) = false
is_closed Lost = false
is_closed Closed = true

-- a new reader's state
abbrev pub fresh : State
fresh = record { kept = replicate 64 Absent; course = NoName }

-- the stretch ends: no name is open, and the reader is on course
abbrev pub finished : State → State
finished s = record { kept = s.kept; course = NoName }

-- the open name, if there is one, is torn
abbrev pub torn_at : Course → List Kept → List Kept
torn_at NoName ks = ks
torn_at (Open i) ks = slice_set ks i Torn
torn_at Lost ks = ks
torn_at Closed ks = ks

-- the open name is torn, none is open, and the reader is lost
abbrev pub strayed : State → State
strayed s = record { kept = torn_at s.course s.kept; course = Lost }

-- the name i is whole and open, with this many bytes
abbrev pub opened_at : ℕ → ℕ → State → State
opened_at i n s = record { kept = slice_set s.kept i (Whole n); course = Open i }

-- what a line does: its answer, the reader's state and the shelf
pub record Step : Type 0 where
  pub answer : Result Answer Refusal
  pub state : State
  pub shelf : List ℕ

module _ (q : Setup) (line : List ℕ) (s : State) (shelf : List ℕ) where
  abbrev pub answers : Answer → Step
  answers a = record { answer = Ok a; state = s; shelf = shelf }

  abbrev pub refuses : Refusal → State → Step
  refuses e after = record { answer = Err e; state = after; shelf = shelf }

  -- an asked name opens, or another
  abbrev pub opens : Option ℕ → List ℕ → Step
  opens None bytes = record { answer = Ok OtherOpened; state = finished s; shelf = shelf }
  opens (Some i) bytes =
      record { answer = Ok (Opened i); state = opened_at i (length bytes) s; shelf = put (i * q.share) bytes shelf }

  -- the line goes on in the share of the open name, behind n bytes, if it has room
  abbrev pub keeps : ℕ → ℕ → Step
  keeps i n =
      cond (nat_lt (n + length line) q.share)
      record {
        answer = Ok Stored;
        state = opened_at i (n + length line + 1) s;
        shelf = put (i * q.share + n) (fed line) shelf;
      }
      (refuses FullShare (strayed s))

  -- a line that continues, by the reader's course
  abbrev pub goes_on : Course → Step
  goes_on NoName = answers Outside
  goes_on (Open i) = keeps i (used (kept_at s i))
  goes_on Lost = answers PassedOver
  goes_on Closed = answers Outside

  -- a stray that ends nothing, by the reader's course
  abbrev pub passes : Course → Step
  passes NoName = answers Outside
  passes (Open i) = answers Outside
  passes Lost = answers PassedOver
  passes Closed = answers Outside

  -- a stray, where strays end a stretch or not
  abbrev pub strays : Bool → Step
  strays ends = cond ends record { answer = Ok Outside; state = finished s; shelf = shelf } (passes s.course)

  -- a line that can be read
  abbrev pub decided : Meaning → Step
  decided (Opens name text) = opens (asked_by q (Opens name text) line) (opening_text text line)
  decided Continues = goes_on s.course
  decided Stray = strays q.fixed.strays_end

  abbrev pub unless_bad : Option ℕ → Step
  unless_bad (Some at) = refuses (BadLine at) (strayed s)
  unless_bad None = decided (q.meaning line)

  -- a line; kept shut, since it holds every case
  unfoldable pub stepped : Step
  stepped =
      cond (is_closed s.course) (refuses AlreadyClosed s)
      (cond (short q (length shelf)) (refuses ShortShelf s) (unless_bad (fault_of line)))

-- is this a refusal by which a line is lost?
abbrev pub losing : Refusal → Bool
losing e = number e == 5 || number e == 6

-- what a refused line leaves as it was: the shelf, and the reader too unless a line is lost
abbrev pub LeavesAlone : State → List ℕ → Step → Type 0
LeavesAlone s shelf p =
    (e : Refusal) → p.answer ≡ Err e → (p.shelf ≡ shelf) × (p.state ≡ cond (losing e) (strayed s) s)

-- a closing: its answer, and the state
abbrev pub closing : State → Result (Unit {0}) Refusal
closing s = cond (is_closed s.course) (Err AlreadyClosed) (Ok tt)

-- what was kept stays
abbrev pub closed_from : State → State
closed_from s = record { kept = s.kept; course = Closed }

-- what a question for a body does: its answer, and the target
pub record Given : Type 0 where
  pub answer : Result ℕ Refusal
  pub target : List ℕ

-- a text as it is handed out
abbrev pub body_of : List ℕ → List ℕ
body_of text = trimmed (dedented text)

module _ (target : List ℕ) where
  abbrev pub withheld : Refusal → Given
  withheld e = record { answer = Err e; target = target }

  -- a text is handed out to the front of the target, if it has room
  abbrev pub handed : List ℕ → Given
  handed text =
      cond (nat_le (length (body_of text)) (length target))
      record { answer = Ok (length (body_of text)); target = put 0 (body_of text) target }
      (withheld ShortTarget)

  -- what is kept of a name, whose share holds these bytes
  abbrev pub handed_of : Kept → List ℕ → Given
  handed_of Absent bytes = withheld NoText
  handed_of (Whole n) bytes = handed (take n bytes)
  handed_of Torn bytes = withheld TornText

-- the text of n bytes that a share holds
abbrev pub held_at : ℕ → ℕ → ℕ → List ℕ → List ℕ
held_at share i n shelf = take n (drop (i * share) shelf)

abbrev pub given : Setup → State → List ℕ → ℕ → List ℕ → Given
given q s shelf i target =
    cond (is_closed s.course)
    (cond (short q (length shelf)) (withheld target ShortShelf)
    (cond (nat_lt i (length q.names))
    (handed_of target (kept_at s i) (drop (i * q.share) shelf))
    (withheld target NoText)))
    (withheld target StillReading)
