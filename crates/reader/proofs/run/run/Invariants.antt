use Rattle.std.proofs.Common.{◌≡◌}
use Rattle.reader.specs.Setups.{setup}
use Rattle.reader.proofs.Running.{Made}
use Rattle.reader.proofs.run.run.Given as goal

abbrev pub invariant-loop-i : goal.invariant-loop-i
invariant-loop-i g l =
    Made (setup l.names l.share g.R.LineRule) l.calls l.initial.shelf l.initial.targets l.initial.replies l.i l.reader.state l.shelf l.targets l.replies
    × (l.reader.terms.names.now ≡ l.names)
    × (l.reader.terms.share ≡ l.share)
