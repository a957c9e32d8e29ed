-- Boundaries and stretches, as they stand in a list of calls.
use Rattle.std.specs.Prelude.{ℕ, Bool, true, false, cond, not, ◌&&◌, List, [], ◌∷◌, ◌++◌, length, is_some, Some, None, Option, ◌==◌, nat_le}
use Rattle.std.specs.List.{flat_map}
use Rattle.text.specs.Lines.{fault_of}
use Rattle.rules.specs.declared.meaning.Meaning.{Meaning}
use Rattle.rules.specs.declared.meaning.Meaning.TheVariants.{Opens, Continues, Stray}
use Rattle.reader.specs.Shelves.{starting, continuing}
use Rattle.reader.specs.Steps.{Setup, asked_by}
use Rattle.reader.specs.declared.calls.Call.{Call}
use Rattle.reader.specs.declared.calls.Call.TheVariants.{Line, Close, Ask}

-- a line that is a boundary, and the calls behind it
pub record Stretch : Type 0 where
  pub first : Call
  pub rest : List Call

abbrev pub every : (Call → Bool) → List Call → Bool
every p [] = true
every p (c ∷ cs) = p c && every p cs

abbrev pub or_else : {X : Type 0} → Option X → Option X → Option X
or_else None o = o
or_else (Some x) o = Some x

-- anything but a closing
abbrev pub goes_by : Call → Bool
goes_by (Line l) = true
goes_by Close = false
goes_by (Ask i t) = true

-- the reader is not closed by these calls
abbrev pub running : List Call → Bool
running h = every goes_by h

-- the calls before the first closing
abbrev pub heard : List Call → List Call
heard [] = []
heard (c ∷ cs) = cond (goes_by c) (c ∷ heard cs) []

-- a line whose bytes can be read, or no line
abbrev pub readable : Call → Bool
readable (Line l) = not (is_some (fault_of l.now))
readable Close = true
readable (Ask i t) = true

module _ (q : Setup) where
  -- the asked name that a call opens
  abbrev pub asked : Call → Option ℕ
  asked (Line l) = asked_by q (q.meaning l.now) l.now
  asked Close = None
  asked (Ask i t) = None

  -- does a line with this meaning end the stretch before it?
  abbrev pub ending : Meaning → Bool
  ending (Opens name text) = true
  ending Continues = false
  ending Stray = q.fixed.strays_end

  abbrev pub turning : Call → Bool
  turning (Line l) = ending (q.meaning l.now)
  turning Close = false
  turning (Ask i t) = false

  -- a boundary: a line that can be read, and that opens or is a stray where strays end stretches
  abbrev pub boundary : Call → Bool
  boundary c = readable c && turning c

  -- what a call stores where it begins a stretch, and where it stands in one
  abbrev pub starts : Call → List ℕ
  starts (Line l) = starting (q.meaning l.now) l.now
  starts Close = []
  starts (Ask i t) = []

  abbrev pub adds : Call → List ℕ
  adds (Line l) = continuing (q.meaning l.now) l.now
  adds Close = []
  adds (Ask i t) = []

  -- the text of a stretch: what its first line stores, and then its lines that continue, each with an LF
  abbrev pub text_of : Stretch → List ℕ
  text_of s = starts s.first ++ flat_map adds s.rest

  -- an asked name has room for so many bytes
  abbrev pub fits : Option ℕ → ℕ → Bool
  fits None n = true
  fits (Some i) n = nat_le n q.share

  -- nothing of the stretch was lost: each of its lines could be read, and its name had room for them all
  abbrev pub unharmed : Stretch → Bool
  unharmed s = every readable s.rest && fits (asked s.first) (length (text_of s))

  abbrev pub begins : Call → List Call → Option Stretch
  begins c cs = cond (boundary c) (Some record { first = c; rest = cs }) None

  -- the stretch in force: the last boundary, and the calls behind it
  abbrev pub in_force : List Call → Option Stretch
  in_force [] = None
  in_force (c ∷ cs) = or_else (in_force cs) (begins c cs)

  abbrev pub sound_since : List Call → Option Stretch → Bool
  sound_since h None = every readable h
  sound_since h (Some s) = unharmed s

  -- nothing was lost since the last boundary, or since the beginning where there was none
  abbrev pub on_course : List Call → Bool
  on_course h = sound_since h (in_force h)

  -- the calls up to the next boundary
  abbrev pub up_to_turn : List Call → List Call
  up_to_turn [] = []
  up_to_turn (c ∷ cs) = cond (boundary c) [] (c ∷ up_to_turn cs)

  abbrev pub is_name : ℕ → Option ℕ → Bool
  is_name i None = false
  is_name i (Some k) = i == k

  abbrev pub begins_for : ℕ → Call → List Call → Option Stretch
  begins_for i c cs = cond (boundary c && is_name i (asked c)) (Some record { first = c; rest = up_to_turn cs }) None

  -- a name's last stretch: from the last boundary that opens it up to the next boundary
  abbrev pub last_stretch : ℕ → List Call → Option Stretch
  last_stretch i [] = None
  last_stretch i (c ∷ cs) = or_else (last_stretch i cs) (begins_for i c cs)
