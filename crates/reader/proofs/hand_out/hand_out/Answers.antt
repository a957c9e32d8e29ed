use Rattle.reader.proofs.Giving.{body_made, handed_out, too_long}
use Rattle.reader.proofs.hand_out.hand_out.Goals as goal

pub returns-then-end-target : goal.returns-then-end-target
returns-then-end-target c =
    let is = body_made c.args.text.now c.trim-body.result.now _ c.unwrap-len.result c.dedent_into.result c.dedent_into.new.out _ c.dedent_into.ensures.value c.unwrap-len.ensures c.dedent_into.ensures.written c.trim-body.ensures.value in
    too_long c.args.text.now _ is c.args.target.now c.if-end-target.true

pub returns : goal.returns
returns c =
    let is = body_made c.args.text.now c.trim-body.result.now _ c.unwrap-len.result c.dedent_into.result c.dedent_into.new.out _ c.dedent_into.ensures.value c.unwrap-len.ensures c.dedent_into.ensures.written c.trim-body.ensures.value in
    handed_out c.args.text.now _ is c.args.target.now c.if-end-target.false _ c.copy_from_slice.ensures.after
