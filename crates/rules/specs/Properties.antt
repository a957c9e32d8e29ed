-- A rule's two constants as one record.
use Rattle.rules.specs.declared.meaning.Properties.{Properties}
use Rattle.rules.specs.declared.rule.LineRule.{Ghosts}

-- what is fixed for every line that the rule is asked about
abbrev pub properties_of : {X : Type 0} → Ghosts X → Properties
properties_of rule = record { strays_end = rule.STRAYS_END; names_lowered = rule.NAMES_LOWERED }
