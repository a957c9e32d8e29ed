use Rattle.std.proofs.Common.{◌≡◌, ◌++◌, string_bytes}
use Rattle.replay.specs.Shown.{shown_replies, shown_run}
use Rattle.replay.proofs.replay.show_run.Given as goal

abbrev pub invariant-loop-call : goal.invariant-loop-call
invariant-loop-call l = string_bytes l.lines ++ shown_replies l.targets l.call-iterator.a.rest.now l.call-iterator.b.rest.now ≡ shown_run l.targets l.calls l.replies
