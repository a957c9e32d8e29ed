-- The section rules open exactly the lines of their forms.
use Rattle.std.specs.Prelude.{◌≡◌, ℕ, ◌+◌, ◌<◌, ◌≤◌, true, List, [], ◌∷◌, ◌++◌, length, take, drop, None, Option, ◌==◌, slice_index, refl}
use Rattle.std.proofs.Common.{append_assoc, inl, inr, ⊎_elim, sym, ap, ◌∙◌, zero-add, arith, length-append}
use Rattle.std.specs.List.{prefix_len}
use Rattle.std.proofs.lemmas.List.Elements.{All-append, All-same}
use Rattle.std.proofs.lemmas.List.Folds.{length-prefix_len}
use Rattle.std.proofs.lemmas.List.{get_or_append_left, get_or-take, nil_from_length, take_at}
use Rattle.std.proofs.lemmas.Bool.{cases_Bool, eqb-false, eqb-true, lt-ltb, ltb-true, ne_eqb, not_from_false, not-true}
use Rattle.text.specs.Bytes.{space}
use Rattle.text.specs.Trims.{stripped}
use Rattle.text.proofs.Leading.{run_passes}
use Rattle.text.proofs.Strips.{strip_all, strips, strips_only}
use Rattle.rules.specs.Forms.{RustHeading, StarlarkHeading, TitleOf}
use Rattle.rules.specs.Laws.{Exact, Inside}
use Rattle.rules.specs.Meanings.{always, blank_from, heads_rust, heads_starlark, resuming, rust_run, rust_section, rust_title, stands_at, starlark_section, starlark_title, title_byte, title_in}
use Rattle.rules.specs.declared.meaning.Place.{Place}
use Rattle.rules.specs.Exactness.{exact, inside, Complete, Fitting, Sound}
use Rattle.rules.specs.Parts.{blank_cut, blank_there, four_parts, from_four, run_cut, run_found, run_stopped, run_at, stands_cut, stands_read, stands_there}

-- ---- Starlark sections

-- sections have no text
abbrev textless : List ℕ → Option ℕ
textless line = None

-- a line that passes the test for Starlark sections has their form
starlark_sound : Sound StarlarkHeading resuming heads_starlark starlark_title textless
starlark_sound line t =
    let n = prefix_len title_byte line in
    let tests = four_parts _ _ _ _ t in
    let more = ltb-true 0 n tests.0 in
    let title_cut = rw zero-add at (run_cut title_byte 0 line) in
    let title_long = length-prefix_len title_byte line in
    let colon = (stands_cut 58 n line tests.2).1 in
    let no_space = sym (stands_read 32 0 line refl) ∙ not-true (stands_at 32 0 line) tests.1 in
    record {
      title = run_at title_byte 0 line;
      rest = drop (n + 1) line;
      line_is = cc;
      title_some = omega arith;
      title_bytes = run_passes title_byte line;
      title_first = rw (get_or-take n line 0 0 more) no_space;
      rest_blank = (blank_cut (n + 1) line tests.3).1;
      name_is = rw title_long;
      text_is = refl;
    }

-- a line of the form of Starlark sections passes their test, with the name of the form
starlark_complete : Complete StarlarkHeading resuming heads_starlark starlark_title textless
starlark_complete line n t f =
    let k = length f.title in
    let title_long = run_found title_byte 0 line f.title (58 ∷ f.rest) f.title_bytes refl f.line_is in
    let first = ap (λ l. space (slice_index l 0)) f.line_is ∙ ap space (get_or_append_left f.title (58 ∷ f.rest) 0 0 f.title_some) ∙ f.title_first in
    let colon = rw (← f.line_is) at (stands_there 58 k f.title f.rest refl) in
    let front = append_assoc f.title (58 ∷ []) f.rest in
    let blanks = rw (front, ← f.line_is) at (blank_there (k + 1) (f.title ++ 58 ∷ []) f.rest (length-append f.title (58 ∷ [])) f.rest_blank) in (
      rw title_long
          (from_four _ _ _ _ (lt-ltb 0 k f.title_some) (not_from_false _ (stands_read 32 0 line refl ∙ first)) colon blanks),
      rw title_long (sym f.name_is),
      sym f.text_is,
    )

-- the name of a Starlark section lies inside the line
starlark_fits : Fitting StarlarkHeading resuming heads_starlark starlark_title textless
starlark_fits line n t f =
    let long = ap length f.line_is ∙ length-append f.title (58 ∷ f.rest) in
    rw (f.name_is, f.text_is) (f.title_some, omega arith, tt)

-- the rule for Starlark sections opens exactly the lines of their form
pub starlark_section_exact : Exact StarlarkHeading resuming starlark_section
starlark_section_exact = exact _ _ _ _ _ starlark_sound starlark_complete

-- what it opens lies inside the line
pub starlark_section_inside : (line : List ℕ) → Inside line (starlark_section line)
starlark_section_inside = inside _ _ _ _ _ starlark_sound starlark_complete starlark_fits

-- ---- Rust sections

-- the place of a title is what the rule says
title_is : (run : List ℕ) → TitleOf run (title_in run)
title_is run =
    let s = strips space refl run in
    elim (cases_Bool (length (stripped space run) == 0)) [
      | inl none ↦
          (let empty = nil_from_length (stripped space run) (eqb-true (length (stripped space run)) 0 none) in
          let whole : run ≡ s.front ++ s.back = s.whole ∙ ap (λ rest. s.front ++ (rest ++ s.back)) empty in
          let spaces = All-append (λ b. space b ≡ true) s.front s.back s.front_passes s.back_passes in
          inl (All-same (λ b. space b ≡ true) run (s.front ++ s.back) whole spaces, rw none))
      | inr some ↦
          (let more : 0 < length (stripped space run) = omega (arith, eqb-false (length (stripped space run)) 0 some) in
          let front = (strips_only space run (stripped space run) s more).0 in
          inr (stripped space run, s, more, rw (some, front)))
    ]

-- and no other
title_only : (run : List ℕ) (name : Place) → TitleOf run name → title_in run ≡ name
title_only run name t =
    ⊎_elim
    (λ all. rw (strip_all space run all.0) (sym all.1))
    (λ part.
    let one = strips_only space run part.0 part.1 part.2 in
    rw (one.1, one.0, ne_eqb (length part.0) 0 (omega arith)) (sym part.3))
    t

-- a line that passes the test for Rust sections has their form
rust_sound : Sound RustHeading always heads_rust rust_title textless
rust_sound line t =
    let n = rust_run line in
    let tests = four_parts _ _ _ _ t in
    let first = (stands_cut 35 0 line tests.0).1 in
    let second = (stands_cut 32 1 line tests.1).1 in
    let run_is = run_cut title_byte 2 line in
    let run_long = length-prefix_len title_byte (drop 2 line) in
    record {
      run = run_at title_byte 2 line;
      rest = drop (2 + n) line;
      line_is = cc;
      run_some = omega (arith, ltb-true 0 n tests.2);
      run_bytes = run_passes title_byte (drop 2 line);
      run_longest = run_stopped title_byte 2 line refl;
      rest_blank = (blank_cut (2 + n) line tests.3).1;
      name_is = title_is (run_at title_byte 2 line);
      text_is = refl;
    }

-- a line of the form of Rust sections passes their test, with the name of the form
rust_complete : Complete RustHeading always heads_rust rust_title textless
rust_complete line n t f =
    let k = length f.run in
    let behind : drop 2 line ≡ f.run ++ f.rest = ap (drop 2) f.line_is in
    let run_long = run_found title_byte 2 line f.run f.rest f.run_bytes f.run_longest behind in
    let run_is = ap (take (rust_run line)) behind ∙ take_at f.run f.rest (rust_run line) (sym run_long) in
    let hash = ap (stands_at 35 0) f.line_is ∙ stands_there 35 0 [] (32 ∷ (f.run ++ f.rest)) refl in
    let gap = ap (stands_at 32 1) f.line_is ∙ stands_there 32 1 (35 ∷ []) (f.run ++ f.rest) refl in
    let blanks = ap (blank_from (2 + k)) f.line_is ∙ blank_there (2 + k) (35 ∷ 32 ∷ f.run) f.rest (omega arith) f.rest_blank in (
      rw run_long (from_four _ _ _ _ hash gap (lt-ltb 0 k f.run_some) blanks),
      ap title_in run_is ∙ title_only f.run n f.name_is,
      sym f.text_is,
    )

-- a title lies inside its run
title_within : (run : List ℕ) (name : Place) → 0 < length run → TitleOf run name → (0 < name.len) × (name.at + name.len ≤ 2 + length run)
title_within run name some t =
    ⊎_elim
    (λ all. rw all.1 (some, omega arith))
    (λ part.
    let s = part.1 in
    let long = ap length s.whole ∙ length-append s.front (part.0 ++ s.back) in
    let rest = length-append part.0 s.back in
    rw part.3 (part.2, omega arith))
    t

-- the name of a Rust section lies inside the line
rust_fits : Fitting RustHeading always heads_rust rust_title textless
rust_fits line n t f =
    let long = ap length f.line_is in
    let parts = length-append f.run f.rest in
    let name = title_within f.run n f.run_some f.name_is in
    rw f.text_is (name.0, omega arith, tt)

-- the rule for Rust sections opens exactly the lines of their form
pub rust_section_exact : Exact RustHeading always rust_section
rust_section_exact = exact _ _ _ _ _ rust_sound rust_complete

-- what it opens lies inside the line
pub rust_section_inside : (line : List ℕ) → Inside line (rust_section line)
rust_section_inside = inside _ always _ _ _ rust_sound rust_complete rust_fits
