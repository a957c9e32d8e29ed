-- How a rule's test, name and text make its meaning exact.
use Rattle.std.specs.Prelude.{◌≡◌, ℕ, Bool, true, false, cond, List, Option, ◌≢◌}
use Rattle.std.proofs.Common.{inl, inr, subst}
use Rattle.std.proofs.lemmas.Bool.{cases_Bool}
use Rattle.rules.specs.Laws.{Exact, Inside}
use Rattle.rules.specs.Meanings.{meant}
use Rattle.rules.specs.declared.meaning.Meaning.{Meaning}
use Rattle.rules.specs.declared.meaning.Meaning.TheVariants.{Opens, Continues, Stray}
use Rattle.rules.specs.declared.meaning.Place.{Place}

-- what does not open opens nothing
never_opens : (goes : Bool) (name : Place) (text : Option ℕ) → cond goes Continues Stray ≢ Opens name text
never_opens true name text e = cc
never_opens false name text e = cc

-- how a line looks that opens a name at a place, with or without a text
abbrev Form : Type 1
Form = List ℕ → Place → Option ℕ → Type 0

module _ (form : Form) (resumes test : List ℕ → Bool) (name : List ℕ → Place) (text : List ℕ → Option ℕ) where
  -- what the rule makes of a line
  abbrev meaning : List ℕ → Meaning
  meaning line = meant (test line) (name line) (text line) (resumes line)

  -- a line that passes has the form
  abbrev pub Sound : Type 0
  Sound = (line : List ℕ) → test line ≡ true → form line (name line) (text line)

  -- a line of the form passes, and its name and text are where the form puts them
  abbrev pub Complete : Type 0
  Complete = (line : List ℕ) (n : Place) (t : Option ℕ) → form line n t → (test line ≡ true) × (name line ≡ n) × (text line ≡ t)

  -- places of the form lie inside the line
  abbrev pub Fitting : Type 0
  Fitting = (line : List ℕ) (n : Place) (t : Option ℕ) → form line n t → Inside line (Opens n t)

  module _ (sound : Sound) (complete : Complete) where
    -- the meaning opens exactly the lines of the form
    pub exact : Exact form resumes meaning
    exact = record {
      opens = λ line n t e.
          elim (cases_Bool (test line)) [
            | inl passes ↦
                (let m = rw passes at e in
                let a : name line ≡ n = cc in
                let b : text line ≡ t = cc in
                subst (λ k. form line k t) a (subst (form line (name line)) b (sound line passes)))
            | inr fails ↦ absurd (never_opens (resumes line) n t (rw fails at e))
          ];
      formed = λ line n t f. let c = complete line n t f in rw (c.0, c.1, c.2);
      others = λ line none. elim (cases_Bool (test line)) [ inl passes ↦ absurd (none _ _ (sound line passes)) | inr fails ↦ rw fails ];
    }

    -- what it opens lies inside the line
    pub inside : Fitting → (line : List ℕ) → Inside line (meaning line)
    inside fits line =
        elim (cases_Bool (test line)) [
          | inl passes ↦ rw passes (fits line (name line) (text line) (sound line passes))
          | inr fails ↦ rw fails (elim (cases_Bool (resumes line)) [ inl on ↦ rw on tt | inr off ↦ rw off tt ])
        ]
