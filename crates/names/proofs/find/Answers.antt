use Rattle.std.proofs.Common.{◌∙◌, rules}
use Rattle.std.specs.Str.{bytes_eq}
use Rattle.std.proofs.lemmas.Iterator.{YieldsList-from_slice}
use Rattle.std.proofs.lemmas.Iterator.Search.{position_from_yields_List}
use borrow.Author.Tests.{tests}
use Rattle.rules.specs.Meanings.{looked_up}
use Rattle.names.proofs.Naming.{index_of-texts}
use Rattle.names.proofs.find.Goals as goal

pub returns-clause-value : goal.returns-clause-value
returns-clause-value c =
    position_from_yields_List (λ r. bytes_eq r.now (looked_up c.args.lowered c.args.name.now)) _ _ _
    c.position.ensures.ran (YieldsList-from_slice c.args.names.now cc) (λ x b q k. search (rules, tests))
    ∙ index_of-texts c.args.names.now (looked_up c.args.lowered c.args.name.now)
