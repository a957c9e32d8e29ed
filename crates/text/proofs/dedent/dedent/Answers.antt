use Rattle.std.proofs.Common.{length, drop, vec_items, sym, ap, ◌∙◌, subst}
use Rattle.text.specs.Dedents.{dedented, Dedents}
use Rattle.text.specs.Lines.{lines_of}
use Rattle.text.proofs.Margins.{dedents, dedent_twice}
use Rattle.text.proofs.Writes.{dedented_kept}
use Rattle.text.proofs.dedent.dedent.Goals as goal

pub returns : goal.returns
returns c =
    let text = c.args.text.now in
    let is = dedented_kept text c.deref_mut.result.now c.dedent_into.new.out (drop (length c.dedent_into.new.out) c.in_ok-out.out.items) (vec_items c.truncate.new.self) c.in_ok-out.out.len c.unwrap-len.result c.dedent_into.result c.in_ok-out.ensures.len c.deref_mut.ensures.len c.dedent_into.ensures.value c.unwrap-len.ensures c.dedent_into.ensures.written c.truncate.ensures.items in
    record {
      value = is;
      lines = subst (λ out. Dedents (lines_of text) (lines_of out)) (sym is) (dedents text);
      settles = ap dedented is ∙ dedent_twice text ∙ sym is;
    }
