use Rattle.std.proofs.Common.{◌≡◌, ◌+◌, true, false, codes, vec_items, rules}
use Rattle.std.specs.Str.{bytes_eq}
use Rattle.std.proofs.lemmas.Result.{err_from_is_err_and}
use Rattle.text.specs.Lines.{texts}
use Rattle.replay.specs.Scripts.{on_line}
use Rattle.replay.proofs.Scripts.{heard, line, names_next, names_push}
use Rattle.replay.proofs.script.read_names.Goals as goal

pub returns-then-eq-clause-read : goal.returns-then-eq-clause-read
returns-then-eq-clause-read c =
    let is : true ≡ bytes_eq (line c.args.lines.now c.args.from c.loop-k.k) (codes "start") = search rules in
    let so = names_next c.args.lines.now c.args.from c.loop-k.k _ (texts (vec_items c.loop-k.names)) c.loop-k-test.true c.loop-k.invariant in
    rw (← is) at so

pub returns-in_err-name-clause-read : goal.returns-in_err-name-clause-read
returns-in_err-name-clause-read c =
    let p = err_from_is_err_and c.from_residual.result c.from_residual.ensures.1 in
    let is : false ≡ bytes_eq (line c.args.lines.now c.args.from c.loop-k.k) (codes "start") = search rules in
    let x : c.map_err.result ≡ on_line (c.args.from + c.loop-k.k) c.name_of.result = search rules in
    let said = heard (λ n. n.now) (c.args.from + c.loop-k.k) c.name_of.result _ c.name_of.ensures x in
    let so = names_next c.args.lines.now c.args.from c.loop-k.k _ (texts (vec_items c.loop-k.names)) c.loop-k-test.true c.loop-k.invariant in
    rw (p.1, p.2) (rw (← is, said, c.in_err-name.was) at so)

pub loop-k-preserved : goal.loop-k-preserved
loop-k-preserved c =
    let is : false ≡ bytes_eq (line c.args.lines.now c.args.from c.loop-k.k) (codes "start") = search rules in
    let x : c.map_err.result ≡ on_line (c.args.from + c.loop-k.k) c.name_of.result = search rules in
    let said = heard (λ n. n.now) (c.args.from + c.loop-k.k) c.name_of.result _ c.name_of.ensures x in
    let so = names_next c.args.lines.now c.args.from c.loop-k.k _ (texts (vec_items c.loop-k.names)) c.loop-k-test.true c.loop-k.invariant in
    names_push c.args.lines.now c.args.from c.loop-k.k _ (vec_items c.loop-k.names) c.in_ok-name.name c.in_ok-push.ensures.items (rw (← is, said, c.in_ok-name.was) at so)
