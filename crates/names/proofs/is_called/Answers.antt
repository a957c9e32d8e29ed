use Rattle.std.proofs.lemmas.Slice.Eq.{slice_eq-Decides, bytes_eq-Decides}
use Rattle.std.proofs.lemmas.Bool.Decides.{same_from_decides, Decides-eqb}
use Rattle.names.proofs.is_called.Goals as goal

pub returns-else-lowered : goal.returns-else-lowered
returns-else-lowered c =
    rw c.if-lowered.false
    (same_from_decides c.eq.result _
    (slice_eq-Decides Decides-eqb c.args.asked.now c.args.name.now c.eq.result c.eq.ensures)
    (bytes_eq-Decides c.args.asked.now c.args.name.now))
