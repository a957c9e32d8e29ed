use Rattle.std.proofs.Common.{◌≡◌, ◌+◌, [], drop, map, vec_items}
use Rattle.text.specs.Lines.{texts}
use Rattle.replay.specs.Sayings.{said_of}
use Rattle.replay.specs.Scripts.{calls_from}
use Rattle.replay.proofs.script.read_calls.Given as goal

abbrev pub invariant-loop-k : goal.invariant-loop-k
invariant-loop-k l =
    calls_from (map said_of (vec_items l.calls)) l.room (l.from + l.k) (drop (l.from + l.k) (texts l.lines))
    ≡ calls_from [] 0 l.from (drop l.from (texts l.lines))
