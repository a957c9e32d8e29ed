use Rattle.std.proofs.Common.{rules}
use Rattle.std.proofs.lemmas.List.Elements.{All-from_recursion}
use Rattle.reader.specs.Worked.{worked, Holds}
use Rattle.reader.proofs.worked.worked_runs.Goals as goal

pub returns-clause-holds : goal.returns-clause-holds
returns-clause-holds c = All-from_recursion Holds worked (search rules)
