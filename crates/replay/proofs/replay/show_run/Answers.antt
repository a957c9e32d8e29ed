use Rattle.std.proofs.Common.{◌≡◌, ◌⊎◌, inl, inr, length, vec_items, ap, ◌∙◌}
use Rattle.replay.proofs.Replies.{lines_all}
use Rattle.replay.proofs.replay.show_run.Goals as goal

pub returns : goal.returns
returns c =
    let past : (length c.loop-call.call-iterator.a.rest.now ≡ 0) ⊎ (length c.loop-call.call-iterator.b.rest.now ≡ 0) =
    elim c.in-None.ensures.steps [ inl h ↦ inl h.1.0 | inr h ↦ inr h.1.0 ] in
    ap vec_items c.into_bytes.ensures.value ∙ lines_all c.args.targets.now _ _ past c.loop-call.invariant
