use Rattle.std.proofs.Common.{ℕ, List, ap, ◌∙◌}
use Rattle.text.specs.Lines.{put}
use Rattle.rules.specs.declared.meaning.Place.{Place}
use Rattle.reader.specs.Setups.{setup_of}
use Rattle.reader.specs.Steps.{Given, given}
use Rattle.reader.proofs.Giving.{part_held, part_put}
use Rattle.reader.proofs.run.ask.Goals as goal

pub returns : goal.returns
returns g c =
    let r = c.args.reader.now in
    let q = setup_of r.terms g.R.LineRule in
    let targets = c.args.targets.now in
    let part : Place = c.clip-part.result in
    let held = part_held targets c.args.target part c.clip-part.ensures in
    let back = part_put targets c.args.target part c.clip-part.ensures c.body.new.target c.body.auto.target in
    let e = c.body.ensures ∙ ap (given q r.state c.args.shelf.now c.args.index) held in
    ap (λ (bytes : List ℕ). record { answer = c.body.result; target = bytes }) back
    ∙ ap (λ (x : Given). record { answer = x.answer; target = put c.args.target.at x.target targets }) e
