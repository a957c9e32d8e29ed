use Rattle.std.proofs.Common.{◌≡◌, ◌<◌, [], length, get_or, take, sym, ap, ◌∙◌, subst, arith}
use Rattle.std.proofs.lemmas.List.{get_or_default, get_or-take, length-take-le}
use Rattle.reader.specs.Calls.{Turn, called}
use Rattle.reader.specs.Setups.{setup, setup_of}
use Rattle.reader.specs.Steps.{Setup}
use Rattle.reader.specs.declared.calls.Call.{Call}
use Rattle.reader.specs.declared.calls.Call.TheVariants.{Line, Close}
use Rattle.reader.specs.declared.state.State.{State}
use Rattle.reader.specs.declared.terms.Terms.{Terms}
use Rattle.reader.proofs.Boundaries.{damage_ends}
use Rattle.reader.proofs.Losses.{bodies_whole, inside_fits, lost_leave_shelf}
use Rattle.reader.proofs.Running.{Made, made_all, made_more, made_none}
use Rattle.reader.proofs.run.run.Goals as goal

pub returns-in_err-reader-clause-damage_ends : goal.returns-in_err-reader-clause-damage_ends
returns-in_err-reader-clause-damage_ends g c = damage_ends (setup c.args.names.now c.args.share g.R.LineRule)

pub returns-in_err-reader-clause-lost_leave_shelf : goal.returns-in_err-reader-clause-lost_leave_shelf
returns-in_err-reader-clause-lost_leave_shelf g c = lost_leave_shelf (setup c.args.names.now c.args.share g.R.LineRule)

pub loop-i-init : goal.loop-i-init
loop-i-init g c =
    let q : Setup = setup c.args.names.now c.args.share g.R.LineRule in
    let shelf = c.args.shelf.now in
    let targets = c.args.targets.now in
    let replies = c.args.replies.now in
    let begun = c.in_ok-reader.ensures.value in
    let none = made_none q c.args.calls.now shelf targets replies in (
      subst (λ (s : State). Made q c.args.calls.now shelf targets replies 0 s shelf targets replies) (sym begun.3) none,
      begun.1,
      begun.2,
    )

pub loop-i-preserved : goal.loop-i-preserved
loop-i-preserved g c =
    let q : Setup = setup c.args.names.now c.args.share g.R.LineRule in
    let r = c.loop-i.reader in
    let calls = c.args.calls.now in
    let i = c.loop-i.i in
    let inv = c.loop-i.invariant in
    let first : Call = Line record { ref_ptr = (0, 0); now = [] } in
    let t : Turn = record { reply = c.reply.result; state = c.reply.new.reader.state; shelf = c.reply.new.shelf; targets = c.reply.new.targets } in
    let started = c.in_ok-reader.ensures.starts in
    let made = length-take-le c.min-made.result calls (omega arith) in
    let more : i < length calls = omega arith in
    let place : i < length c.loop-i.replies = omega (arith, c.loop-i.auto.replies) in
    let here : get_or (take c.min-made.result calls) i first ≡ get_or calls i Close =
    get_or-take c.min-made.result calls i first (omega arith) ∙ get_or_default calls i first Close more in
    let same : setup_of r.terms g.R.LineRule ≡ q =
    ap (λ ns. setup ns r.terms.share g.R.LineRule) inv.1 ∙ ap (λ n. setup c.args.names.now n g.R.LineRule) inv.2 in
    let did : t ≡ called q r.state c.loop-i.shelf c.loop-i.targets (get_or calls i Close) =
    c.reply.ensures.did
    ∙ ap (λ (x : Setup). called x r.state c.loop-i.shelf c.loop-i.targets (get_or (take c.min-made.result calls) i first)) same
    ∙ ap (called q r.state c.loop-i.shelf c.loop-i.targets) here in (
      made_more q calls c.args.shelf.now c.args.targets.now c.args.replies.now started.askable.few started.least (inside_fits q g.met.R.LineRule.inside started.least) i r.state c.loop-i.shelf c.loop-i.targets c.loop-i.replies t more place c.loop-i.auto.shelf did inv.0,
      ap (λ (t : Terms g.row.R.Denot). t.names.now) c.reply.ensures.kept ∙ inv.1,
      ap (λ (t : Terms g.row.R.Denot). t.share) c.reply.ensures.kept ∙ inv.2,
    )

pub returns-clause-determined : goal.returns-clause-determined
returns-clause-determined g c =
    let made = length-take-le c.min-made.result c.args.calls.now (omega arith) in
    made_all (setup c.args.names.now c.args.share g.R.LineRule) c.args.calls.now c.args.shelf.now c.args.targets.now c.args.replies.now c.loop-i.i c.loop-i.reader.state c.loop-i.shelf c.loop-i.targets c.loop-i.replies (omega arith) c.loop-i.auto.replies c.loop-i.invariant.0

pub returns-clause-damage_ends : goal.returns-clause-damage_ends
returns-clause-damage_ends g c = damage_ends (setup c.args.names.now c.args.share g.R.LineRule)

pub returns-clause-bodies_whole : goal.returns-clause-bodies_whole
returns-clause-bodies_whole g c =
    bodies_whole (setup c.args.names.now c.args.share g.R.LineRule) c.in_ok-reader.ensures.starts.least g.met.R.LineRule.inside

pub returns-clause-lost_leave_shelf : goal.returns-clause-lost_leave_shelf
returns-clause-lost_leave_shelf g c = lost_leave_shelf (setup c.args.names.now c.args.share g.R.LineRule)
