use Rattle.std.proofs.Common.{◌≡◌, ◌+◌, ◌-◌, ◌*◌, ◌≤◌, length, ap, ◌∙◌, add-zero, arith}
use Rattle.text.specs.Lines.{put}
use Rattle.reader.specs.Shelves.{opening_text}
use Rattle.reader.proofs.Stores.{opening_fits, within_part}
use Rattle.reader.proofs.terms.Terms.begin.Goals as goal

pub returns-clause-stored : goal.returns-clause-stored
returns-clause-stored g c =
    let part = c.part-start.result in
    let shelf = c.args.shelf.now in
    let line = c.args.line.now in
    let bytes = opening_text c.args.text line in
    let fits : length bytes ≤ length line + 1 = opening_fits c.args.text line c.requires.inside in
    let least = c.args.self.now.least in
    let at : part.start + 0 ≡ c.args.i * c.args.self.now.share = add-zero part.start ∙ c.part-start.ensures.start in
    within_part shelf bytes c.store_opening.new.share part.start c.args.self.now.share (part.end - part.start) 0 (omega arith) (omega arith) (omega arith) c.store_opening.ensures.stored
    ∙ ap (λ n. put n bytes shelf) at
