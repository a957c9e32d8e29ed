-- What holds of every list of calls.
use Rattle.std.specs.Prelude.{◌≡◌, ℕ, ◌<◌, true, false, cond, not, List, [], ◌∷◌, ◌++◌, length, take, drop, is_some, Some, None, Ok, Option, Result, slice_index_or}
use Rattle.refusal.specs.declared.Refusal.{Refusal}
use Rattle.refusal.specs.declared.Refusal.TheVariants.{NoText, TornText}
use Rattle.rules.specs.declared.meaning.Place.{Place}
use Rattle.reader.specs.Steps.{Setup, Given, handed, short, withheld}
use Rattle.reader.specs.Stretches.{Stretch, boundary, every, heard, last_stretch, running, text_of}
use Rattle.reader.specs.Runs.{had_refusal, lossy, says, shelf_after, target_of, targets_after}
use Rattle.reader.specs.declared.answer.Answer.TheVariants.{PassedOver}
use Rattle.reader.specs.declared.calls.Call.{Call}
use Rattle.reader.specs.declared.calls.Call.TheVariants.{Line, Close, Ask}
use Rattle.reader.specs.declared.calls.Reply.{Reply}
use Rattle.reader.specs.declared.calls.Reply.TheVariants.{Answered}
use Rattle.reader.specs.Runs.{Told, replied}
use Rattle.reader.specs.declared.calls.Reply.TheVariants.{Body}

-- Answers are determined: each is the one that the calls before it and the call itself determine, and so are the
-- bytes of the shelf and of the targets. As many calls are made as there are places for replies.
pub record AnswersDetermined (q : Setup) (calls : List Call) (shelf shelf' targets targets' : List ℕ) (replies replies' : List (Result Reply Refusal)) : Type 0 where
  pub each : (k : ℕ) → k < length calls → k < length replies →
      slice_index_or replies' k (Ok (Answered PassedOver))
      ≡ (says q (length shelf) (take k calls) (slice_index_or calls k Close) (target_of (slice_index_or calls k Close) (targets_after q (length shelf) (take k calls) targets))).reply
  pub no_more : drop (length calls) replies' ≡ drop (length calls) replies
  pub shelf_bytes : shelf' ≡ shelf_after q (length shelf) (take (length replies) calls) shelf
  pub target_bytes : targets' ≡ targets_after q (length shelf) (take (length replies) calls) targets

-- a line, a closing, or a question for a name that these calls open
abbrev pub AsksOwn : Setup → List Call → Call → Type 0
AsksOwn q cs (Line l) = Unit {0}
AsksOwn q cs Close = Unit {0}
AsksOwn q cs (Ask i t) = is_some (last_stretch q i (heard cs)) ≡ true

-- Damage ends at the next boundary. From a boundary on, lines, closings and questions for names opened from there on
-- are answered as by a new reader given only the calls from there, with the same bytes in equal targets; other names
-- answer, once the reader closes, as if it had closed just before the boundary.
pub record DamageEnds (q : Setup) : Type 0 where
  pub resumes : (len : ℕ) (before after : List Call) (b c : Call) (target : List ℕ) →
      running before ≡ true → boundary q b ≡ true → AsksOwn q (b ∷ after) c →
      says q len (before ++ (b ∷ after)) c target ≡ says q len (b ∷ after) c target
  pub stays : (len : ℕ) (before after : List Call) (b : Call) (i : ℕ) (t : Place) (target : List ℕ) →
      running before ≡ true → boundary q b ≡ true → running after ≡ false →
      is_some (last_stretch q i (heard (b ∷ after))) ≡ false →
      says q len (before ++ (b ∷ after)) (Ask i t) target ≡ says q len (before ++ (Close ∷ [])) (Ask i t) target

abbrev pub told : Given → Told
told g = record { reply = replied Body g.answer; target = g.target }

-- what a name answers by its last stretch
abbrev pub whole_or : Setup → ℕ → List ℕ → Option Stretch → Given
whole_or q len target None = withheld target NoText
whole_or q len target (Some s) = cond (had_refusal q len s) (withheld target TornText) (handed target (text_of q s))

-- Bodies are whole: once closed, and but for a short shelf, a name that has no stretch is absent, one whose last
-- stretch had a refusal 5 or 6 is torn, and any other gives the whole text of its last stretch, dedented and trimmed,
-- or says that the target is too short.
abbrev pub BodiesWhole : Setup → Type 0
BodiesWhole q =
    (len : ℕ) (h : List Call) (i : ℕ) (t : Place) (target : List ℕ) → running h ≡ false → short q len ≡ false →
    says q len h (Ask i t) target ≡ told (whole_or q len target (last_stretch q i (heard h)))

-- Lost lines leave the shelf alone: after a refusal 5 or 6, calls up to the next boundary change no byte of it.
abbrev pub LostLeaveShelf : Setup → Type 0
LostLeaveShelf q =
    (len : ℕ) (before rest : List Call) (c : Call) (shelf : List ℕ) → lossy (says q len before c []).reply ≡ true →
    every (λ d. not (boundary q d)) rest ≡ true →
    shelf_after q len (before ++ (c ∷ rest)) shelf ≡ shelf_after q len before shelf
