-- What holds of every rule.
use Rattle.std.specs.Prelude.{◌≡◌, ℕ, ◌+◌, ◌<◌, ◌≤◌, Bool, cond, List, length, IfSome, Option}
use Rattle.rules.specs.declared.meaning.Meaning.{Meaning}
use Rattle.rules.specs.declared.meaning.Meaning.TheVariants.{Opens, Continues, Stray}
use Rattle.rules.specs.declared.meaning.Place.{Place}

-- places lie inside the line, and a name has a byte; a text may start at the line's end
abbrev pub Inside : List ℕ → Meaning → Type 0
Inside line (Opens name text) =
    (0 < name.len) × (name.at + name.len ≤ length line) × IfSome text (λ t. t ≤ length line)
Inside line Continues = Unit {0}
Inside line Stray = Unit {0}

-- A line opens exactly when it has the form, and then with the name and the text where the form puts them;
-- of the others some continue and the rest are strays.
pub record Exact (form : List ℕ → Place → Option ℕ → Type 0) (resumes : List ℕ → Bool) (meaning : List ℕ → Meaning) : Type 0 where
  pub opens : (line : List ℕ) (name : Place) (text : Option ℕ) → meaning line ≡ Opens name text → form line name text
  pub formed : (line : List ℕ) (name : Place) (text : Option ℕ) → form line name text → meaning line ≡ Opens name text
  pub others : (line : List ℕ) → ((name : Place) (text : Option ℕ) → form line name text → ⊥) → meaning line ≡ cond (resumes line) Continues Stray
