use Rattle.std.proofs.Common.{drop, subst, sym}
use Rattle.std.specs.Str.{IsAscii}
use Rattle.std.proofs.lemmas.Str.{IsAscii-drop, IsAscii-take}
use Rattle.lines.proofs.Ascii.{meant_ascii}
use Rattle.lines.proofs.cell.Finding.of.Goals as goal

pub looked_up-requires : goal.looked_up-requires
looked_up-requires g c =
    let line = c.args.line.now in
    let place = c.in-Ok-Opens.name in
    subst IsAscii (sym c.of.ensures) (IsAscii-take (drop place.at line) place.len (IsAscii-drop line place.at (meant_ascii line _ _ c.in-Ok-Opens.ensures)))
