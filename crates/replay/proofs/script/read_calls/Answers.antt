use Rattle.std.proofs.Common.{◌≡◌, ◌+◌, vec_items, rules}
use Rattle.std.proofs.lemmas.Result.{err_from_is_err_and}
use Rattle.replay.specs.Sayings.{said_of}
use Rattle.replay.specs.Scripts.{on_line}
use Rattle.replay.proofs.Scripts.{calls_next, calls_push, heard}
use Rattle.replay.proofs.script.read_calls.Goals as goal

pub returns-in_err-call : goal.returns-in_err-call
returns-in_err-call c =
    let p = err_from_is_err_and c.from_residual.result c.from_residual.ensures.1 in
    let x : c.map_err.result ≡ on_line (c.args.from + c.loop-k.k) c.call_of.result = search rules in
    let said = heard said_of (c.args.from + c.loop-k.k) c.call_of.result _ c.call_of.ensures x in
    let so = calls_next c.args.lines.now c.args.from c.loop-k.k (vec_items c.loop-k.calls) c.loop-k.room c.loop-k-test.true c.loop-k.invariant in
    rw (p.1, p.2) (rw (said, c.in_err-call.was) at so)

pub returns-in_err-room : goal.returns-in_err-room
returns-in_err-room c =
    let p = err_from_is_err_and c.from_residual-in_err-room.result c.from_residual-in_err-room.ensures.1 in
    let x : c.map_err.result ≡ on_line (c.args.from + c.loop-k.k) c.call_of.result = search rules in
    let said = heard said_of (c.args.from + c.loop-k.k) c.call_of.result _ c.call_of.ensures x in
    let y : c.map_err-in-loop-k.result ≡ on_line (c.args.from + c.loop-k.k) c.room_with.result = search rules in
    let so = calls_next c.args.lines.now c.args.from c.loop-k.k (vec_items c.loop-k.calls) c.loop-k.room c.loop-k-test.true c.loop-k.invariant in
    rw (p.1, p.2) (rw (said, c.in_ok-call.was, ← c.room_with.ensures, ← y, c.in_err-room.was) at so)

pub loop-k-preserved : goal.loop-k-preserved
loop-k-preserved c =
    let x : c.map_err.result ≡ on_line (c.args.from + c.loop-k.k) c.call_of.result = search rules in
    let said = heard said_of (c.args.from + c.loop-k.k) c.call_of.result _ c.call_of.ensures x in
    let y : c.map_err-in-loop-k.result ≡ on_line (c.args.from + c.loop-k.k) c.room_with.result = search rules in
    let so = calls_next c.args.lines.now c.args.from c.loop-k.k (vec_items c.loop-k.calls) c.loop-k.room c.loop-k-test.true c.loop-k.invariant in
    calls_push c.args.lines.now c.args.from c.loop-k.k (vec_items c.loop-k.calls) _ c.in_ok-call.call c.in_ok-push.ensures.items
    (rw (said, c.in_ok-call.was, ← c.room_with.ensures, ← y, c.in_ok-room.was) at so)
