-- Worked lines, and what the rules make of them.
use Rattle.std.specs.Prelude.{◌≡◌, ℕ, Bool, true, false, List, [], ◌∷◌, ◌++◌, Some, None, codes}
use Rattle.rules.specs.Meanings.{named, rust_entry, rust_section, starlark_entry, starlark_section}
use Rattle.rules.specs.declared.meaning.Meaning.{Meaning}
use Rattle.rules.specs.declared.meaning.Meaning.TheVariants.{Opens, Continues, Stray}

pub record Worked : Type 0 where
  pub rule : List ℕ → Meaning
  pub lowers : Bool
  pub line : List ℕ
  pub meant : Meaning
  pub name : List ℕ

abbrev pub Holds : Worked → Type 0
Holds w = (w.rule w.line ≡ w.meant) × (named w.lowers w.line w.meant ≡ w.name)

abbrev pub worked : List Worked
worked =
    record { rule = starlark_section; lowers = true; line = codes "Args:"; meant = Opens record { at = 0; len = 4 } None; name = codes "args" }
    ∷ record { rule = starlark_section; lowers = true; line = codes "    x:"; meant = Continues; name = [] }
    ∷ record { rule = starlark_section; lowers = true; line = 9 ∷ codes "x:"; meant = Continues; name = [] }
    ∷ record { rule = starlark_section; lowers = true; line = codes "- item:"; meant = Opens record { at = 0; len = 6 } None; name = codes "- item" }
    ∷ record { rule = starlark_section; lowers = true; line = codes "Args :"; meant = Opens record { at = 0; len = 5 } None; name = codes "args " }
    ∷ record { rule = starlark_section; lowers = true; line = codes "Args: all"; meant = Stray; name = [] }
    ∷ record { rule = rust_section; lowers = true; line = codes "# Args "; meant = Opens record { at = 2; len = 4 } None; name = codes "args" }
    ∷ record { rule = rust_section; lowers = true; line = codes "# Args" ++ 9 ∷ []; meant = Opens record { at = 2; len = 4 } None; name = codes "args" }
    ∷ record { rule = rust_section; lowers = true; line = codes "#  "; meant = Opens record { at = 2; len = 1 } None; name = codes " " }
    ∷ record { rule = rust_section; lowers = true; line = codes "#Args"; meant = Continues; name = [] }
    ∷ record { rule = starlark_entry; lowers = false; line = codes "**kw: a"; meant = Opens record { at = 2; len = 2 } (Some 6); name = codes "kw" }
    ∷ record { rule = starlark_entry; lowers = false; line = codes "a:"; meant = Opens record { at = 0; len = 1 } (Some 2); name = codes "a" }
    ∷ record { rule = starlark_entry; lowers = false; line = codes "***x: a"; meant = Stray; name = [] }
    ∷ record { rule = rust_entry; lowers = false; line = codes "* `x`: y"; meant = Opens record { at = 3; len = 1 } (Some 7); name = codes "x" }
    ∷ record { rule = rust_entry; lowers = false; line = codes "`x` : y"; meant = Opens record { at = 1; len = 1 } (Some 4); name = codes "x" }
    ∷ record { rule = rust_entry; lowers = false; line = codes "*  `x`"; meant = Stray; name = [] }
    ∷ []
