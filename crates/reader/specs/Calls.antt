-- One call of a list, by what its operation does.
use Rattle.std.specs.Prelude.{ℕ, List, Result}
use Rattle.refusal.specs.declared.Refusal.{Refusal}
use Rattle.rules.specs.declared.meaning.Place.{Place}
use Rattle.reader.specs.Runs.{handed_to, replied, target_of}
use Rattle.reader.specs.Steps.{Given, Setup, closed_from, closing, given, stepped}
use Rattle.reader.specs.declared.calls.Call.{Call}
use Rattle.reader.specs.declared.calls.Call.TheVariants.{Line, Close, Ask}
use Rattle.reader.specs.declared.calls.Reply.{Reply}
use Rattle.reader.specs.declared.calls.Reply.TheVariants.{Answered, Closed, Body}
use Rattle.reader.specs.declared.state.State.{State}

-- its answer, the reader's state, the shelf and the targets
pub record Turn : Type 0 where
  pub reply : Result Reply Refusal
  pub state : State
  pub shelf : List ℕ
  pub targets : List ℕ

-- a question into a part of the targets
abbrev pub given_in : Setup → State → List ℕ → ℕ → Place → List ℕ → Given
given_in q s shelf i t targets =
    let g : Given = given q s shelf i (target_of (Ask i t) targets) in
    record { answer = g.answer; target = handed_to (Ask i t) g.target targets }

abbrev pub called : Setup → State → List ℕ → List ℕ → Call → Turn
called q s shelf targets (Line l) =
    record {
      reply = replied Answered (stepped q l.now s shelf).answer;
      state = (stepped q l.now s shelf).state;
      shelf = (stepped q l.now s shelf).shelf;
      targets = targets;
    }
called q s shelf targets Close =
    record { reply = replied (λ _. Closed) (closing s); state = closed_from s; shelf = shelf; targets = targets }
called q s shelf targets (Ask i t) =
    record {
      reply = replied Body (given_in q s shelf i t targets).answer;
      state = s;
      shelf = shelf;
      targets = (given_in q s shelf i t targets).target;
    }
