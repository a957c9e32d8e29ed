use Rattle.std.proofs.Common.{ℕ, ◌+◌, ◌-◌, cond, ltb, length, ap, ◌∙◌, arith}
use Rattle.text.specs.Lines.{fed, put}
use Rattle.reader.proofs.Stores.{append_part}
use Rattle.reader.proofs.terms.Terms.append.Goals as goal

pub returns-clause-stored : goal.returns-clause-stored
returns-clause-stored g c =
    let share = c.args.self.now.share in
    let part = c.part-start.result in
    let shelf = c.args.shelf.now in
    let line = c.args.line.now in
    append_part shelf line c.put_line.new.out part.start (part.end - part.start) share c.args.used (omega arith) (omega arith) c.put_line.ensures.written
    ∙ ap (λ (a : ℕ). cond (ltb (c.args.used + length line) share) (put (a + c.args.used) (fed line) shelf) shelf) c.part-start.ensures.start
