use Rattle.std.proofs.Common.{◌≡◌, vec_items, subst, sym, rules}
use Rattle.std.specs.Str.{IsUtf8}
use Rattle.std.proofs.lemmas.Str.{IsUtf8-from_ascii}
use Rattle.rules.specs.Meanings.{looked_up}
use Rattle.lines.proofs.Ascii.{looked_up_ascii}
use Rattle.lines.proofs.cell.looked_up.Goals as goal
use Rattle.lines.proofs.cell.looked_up.Goals.{then-lowers, else-lowers}

pub unwrap-requires : goal.unwrap-requires
unwrap-requires c =
    let is : vec_items c.in_ok-bytes.field-0 ≡ looked_up c.args.lowers c.args.name.now =
    elim c.if-lowers.branch [ then-lowers w ↦ search rules | else-lowers w ↦ search rules ] in
    c.from_utf8.ensures.succeeds (subst IsUtf8 (sym is) (IsUtf8-from_ascii _ (looked_up_ascii c.args.lowers c.args.name.now c.requires)))
