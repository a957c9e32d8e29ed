use Rattle.std.proofs.Common.{◌∙◌, eqb, rules}
use Rattle.std.proofs.lemmas.Iterator.{YieldsList-from_slice, YieldsList-from_zip}
use Rattle.std.proofs.lemmas.Iterator.Search.{all_from_yields_List}
use borrow.Author.Tests.{tests}
use Rattle.text.specs.Bytes.{lowered}
use Rattle.names.proofs.Lowering.{lowered_same}
use Rattle.names.proofs.is_lowered.Goals as goal

pub returns-then-asked-name : goal.returns-then-asked-name
returns-then-asked-name c =
    all_from_yields_List (λ p. eqb p.0 (lowered p.1)) c.all.new.self _ _ c.all.ensures.ran
    (YieldsList-from_zip (YieldsList-from_slice c.args.asked.now cc) (YieldsList-from_slice c.args.name.now cc))
    (λ x b q k. search (rules, tests))
    ∙ lowered_same c.args.asked.now c.args.name.now c.if-asked-name.true
