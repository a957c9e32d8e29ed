use Rattle.reader.proofs.Stepping.{none_used}
use Rattle.reader.proofs.reader.Reader.start.Goals as goal

pub invariant_of-result-2-clause-within : goal.invariant_of-result-2-clause-within
invariant_of-result-2-clause-within g c k = rw c.new.ensures (none_used 64 k c.args.share)
