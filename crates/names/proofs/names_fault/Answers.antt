use Rattle.std.proofs.Common.{true, false, rules}
use Rattle.std.proofs.lemmas.Iterator.{first_from_Range}
use borrow.Author.Tests.{tests}
use Rattle.text.specs.Lines.{texts}
use Rattle.names.proofs.Naming.{fault_is, faults_are, LentJoins}
use Rattle.names.proofs.names_fault.Goals as goal

pub returns : goal.returns
returns c =
    let value = fault_is c.args.names.now c.find.result
    (first_from_Range _ c.find.new.self _ c.find.result (LentJoins c.args.names.now false) (LentJoins c.args.names.now true)
    c.find.ensures.ran (λ x q k. search (rules, tests)) (λ x q k. search (rules, tests))) in
    record { value = value; faults = faults_are (texts c.args.names.now) value }
