use Rattle.std.proofs.Common.{rules}
use Rattle.std.proofs.lemmas.List.Elements.{All-from_recursion}
use Rattle.rules.specs.Worked.{worked, Holds}
use Rattle.rules.proofs.worked.worked_lines.Goals as goal

pub returns-clause-holds : goal.returns-clause-holds
returns-clause-holds c = All-from_recursion Holds worked (search rules)
