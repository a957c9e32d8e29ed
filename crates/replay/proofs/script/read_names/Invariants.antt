use Rattle.std.proofs.Common.{◌≡◌, ◌+◌, [], length, drop, vec_items}
use Rattle.text.specs.Lines.{texts}
use Rattle.replay.specs.Scripts.{names_from}
use Rattle.replay.proofs.script.read_names.Given as goal

abbrev pub invariant-loop-k : goal.invariant-loop-k
invariant-loop-k l =
    names_from (length (texts l.lines)) (texts (vec_items l.names)) (l.from + l.k) (drop (l.from + l.k) (texts l.lines))
    ≡ names_from (length (texts l.lines)) [] l.from (drop l.from (texts l.lines))
