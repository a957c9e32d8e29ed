-- What is printed for a script.
use Rattle.std.specs.Prelude.{◌≡◌, ℕ, true, false, List, [], ◌∷◌, ◌++◌, length, replicate, Some, None, Ok, Err, vec_items, Option, Result}
use Rattle.refusal.specs.Numbers.{shown}
use Rattle.refusal.specs.declared.Refusal.{Refusal}
use Rattle.text.specs.Lines.{texts}
use Rattle.rules.specs.Meanings.{rust_entry, rust_section, starlark_entry, starlark_section}
use Rattle.rules.specs.declared.meaning.Meaning.{Meaning}
use Rattle.rules.specs.declared.meaning.Properties.{Properties}
use Rattle.reader.specs.Laws.{AnswersDetermined}
use Rattle.reader.specs.Starts.{start_refusal}
use Rattle.reader.specs.Steps.{Setup}
use Rattle.reader.specs.declared.calls.Call.{Call}
use Rattle.reader.specs.declared.calls.Reply.TheVariants.{Closed}
use Rattle.reader.specs.declared.calls.Reply.{Reply}
use Rattle.replay.specs.Scripts.{content_in, Content}
use Rattle.replay.specs.Shown.{shown_fault, shown_run}
use Rattle.replay.specs.declared.script.Fault.{Fault}
use Rattle.replay.specs.declared.script.RuleName.TheVariants.{StarlarkSection, RustSection, StarlarkEntry, RustEntry}
use Rattle.replay.specs.declared.script.RuleName.{RuleName}
use Rattle.replay.specs.declared.script.Script.{Script}

-- the replies that the calls determine, on memory that holds these bytes
pub record Shows (q : Setup) (calls : List Call) (shelf targets : List ℕ) (replies : List (Result Reply Refusal)) (out : List ℕ) : Type 0 where
  pub shelf_end : List ℕ
  pub targets_end : List ℕ
  pub replies_end : List (Result Reply Refusal)
  pub determined : AnswersDetermined q calls shelf shelf_end targets targets_end replies replies_end
  pub shows : out ≡ shown_run targets_end calls replies_end

-- a reader that does not start says why, and nothing else
abbrev pub Starting : Option Refusal → Type 0 → List ℕ → Type 0
Starting None Goes out = Goes
Starting (Some refusal) Goes out = out ≡ shown refusal ++ 10 ∷ []

-- a reader of the script's names and share, by a rule
abbrev pub setup_by : Properties → (List ℕ → Meaning) → Script → Setup
setup_by fixed meaning script = record { names = texts (vec_items script.names); share = script.share; fixed = fixed; meaning = meaning }

-- what is printed for a script by a rule
abbrev pub PlaysOn : Properties → (List ℕ → Meaning) → Script → List ℕ → List ℕ → List (Result Reply Refusal) → List ℕ → Type 0
PlaysOn fixed meaning script shelf targets replies out =
    Starting (start_refusal (texts (vec_items script.names)) script.share)
    (Shows (setup_by fixed meaning script) (vec_items script.calls) shelf targets replies out)
    out

-- shelf and targets begin as dots, and there is a place for the reply to each call
abbrev pub Plays : Properties → (List ℕ → Meaning) → Script → List ℕ → Type 0
Plays fixed meaning script out =
    PlaysOn fixed meaning script (replicate script.shelf 46) (replicate script.room 46) (replicate (length (vec_items script.calls)) (Ok Closed)) out

abbrev pub fixed_by : RuleName → Properties
fixed_by StarlarkSection = record { strays_end = true; names_lowered = true }
fixed_by RustSection = record { strays_end = false; names_lowered = true }
fixed_by StarlarkEntry = record { strays_end = false; names_lowered = false }
fixed_by RustEntry = record { strays_end = false; names_lowered = false }

abbrev pub meaning_by : RuleName → List ℕ → Meaning
meaning_by StarlarkSection = starlark_section
meaning_by RustSection = rust_section
meaning_by StarlarkEntry = starlark_entry
meaning_by RustEntry = rust_entry

-- a script that cannot be read says where and why; any other is played, with what it says
abbrev pub Replays : Result Content Fault → List ℕ → Type 0
Replays (Ok content) out =
    (script : Script) × (content_in script ≡ content) × Plays (fixed_by content.rule) (meaning_by content.rule) script out
Replays (Err fault) out = out ≡ shown_fault fault
