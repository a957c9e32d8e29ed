use Rattle.std.proofs.Common.{◌≡◌, ◌*◌, ◌≤◌, take}
use Rattle.text.specs.Escapes.{escaped}
use Rattle.text.proofs.escape.show_into.Given as goal

abbrev pub invariant-loop-b : goal.invariant-loop-b
invariant-loop-b l = (take l.at l.out ≡ escaped (take l.b-index l.bytes)) × (l.at ≤ 4 * l.b-index)
