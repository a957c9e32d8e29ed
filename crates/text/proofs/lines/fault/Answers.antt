use Rattle.std.proofs.Common.{min, ap, ◌∙◌}
use Rattle.text.proofs.Faults.{reads_to, reads_all}
use Rattle.text.proofs.lines.fault.Goals as goal

pub returns-then-good-line-clause-reads : goal.returns-then-good-line-clause-reads
returns-then-good-line-clause-reads c =
    reads_to _ _ (c.min-good.ensures ∙ ap (λ n. min n 1000) c.run_from.ensures.count) c.if-good-line.true

pub returns-else-good-line-clause-reads : goal.returns-else-good-line-clause-reads
returns-else-good-line-clause-reads c =
    reads_all _ _ (c.min-good.ensures ∙ ap (λ n. min n 1000) c.run_from.ensures.count) c.if-good-line.false
