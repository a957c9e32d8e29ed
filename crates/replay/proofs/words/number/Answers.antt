use Rattle.std.proofs.Common.{◌≡◌, ◌≢◌, get_or, Some, None, ◌∙◌, rules}
use Rattle.std.specs.Result.{result_ok}
use Rattle.replay.proofs.Numbers.{parsed_is, read_is, unread_is}
use Rattle.replay.proofs.words.number.Goals as goal

pub returns-in_err-ok-in-Some : goal.returns-in_err-ok-in-Some
returns-in_err-ok-in-Some c =
    let none : result_ok c.from_utf8.result ≡ None = search rules in
    rw c.from_residual.ensures (unread_is c.args.text.now c.from_utf8.result _ _ c.from_utf8.ensures.cases none)

pub returns-in_ok-ok-in-Some : goal.returns-in_ok-ok-in-Some
returns-in_ok-ok-in-Some c =
    let some : result_ok c.from_utf8.result ≡ Some c.in_ok-ok-in-Some.field-0 = search rules in
    let same = read_is c.args.text.now c.from_utf8.result c.in_ok-ok-in-Some.field-0 _ _ c.from_utf8.ensures.cases some in
    let plain : get_or c.args.text.now 0 0 ≢ 43 = search rules in
    c.ok-in-Some.ensures.value ∙ parsed_is c.args.text.now c.parse.result (rw same at c.parse.ensures.value.0) plain
