use Rattle.std.proofs.Common.{◌≡◌, List, ℕ, vec_items, sym, ◌∙◌, subst}
use Rattle.std.proofs.lemmas.Iterator.Consumers.{map_from_collect, YieldsList-from_first}
use Rattle.std.proofs.lemmas.Result.{IfOk-weaker}
use Rattle.text.specs.Lines.{lines_of, texts, Splits}
use Rattle.text.proofs.Splits.{lines_only, lines_split}
use Rattle.text.proofs.lines.split_lines.Goals as goal

pub returns : goal.returns
returns c =
    let text = c.args.text.now in
    let value = map_from_collect c.collect.result c.collect.ensures.ran (YieldsList-from_first (λ x. x.now) (λ s. lines_of s.rest.now) (lines_of text) (rw c.lines.ensures)) in
    record {
      value = value;
      splits = IfOk-weaker _ _ (λ v. Splits text (texts (vec_items v))) (λ v e. subst (Splits text) (sym e) (lines_split text)) value;
      only = IfOk-weaker _ _ (λ v. (lines : List (List ℕ)) → Splits text lines → lines ≡ texts (vec_items v)) (λ v e lines s. lines_only text lines s ∙ sym e) value;
    }
