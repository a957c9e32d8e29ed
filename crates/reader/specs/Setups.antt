-- What a reader is made of, as the code has it.
use Rattle.std.specs.Prelude.{ℕ, List}
use Rattle.std.specs.Borrow.{Bor}
use Rattle.text.specs.Lines.{texts}
use Rattle.rules.specs.Properties.{properties_of}
use Rattle.rules.specs.declared.rule.LineRule.{Ghosts}
use Rattle.reader.specs.Steps.{Setup}
use Rattle.reader.specs.declared.terms.Terms.{Terms}

-- these names, this share and this rule
abbrev pub setup : {X : Type 0} → List (Bor (List ℕ)) → ℕ → Ghosts X → Setup
setup names share rule = record { names = texts names; share = share; fixed = properties_of rule; meaning = rule.meaning }

-- the same of a reader's terms
abbrev pub setup_of : {R X : Type 0} → Terms R → Ghosts X → Setup
setup_of terms rule = setup terms.names.now terms.share rule
