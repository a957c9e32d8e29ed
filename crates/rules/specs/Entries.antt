-- The entry rules open exactly the lines of their forms.
use Rattle.std.specs.Prelude.{◌≡◌, ℕ, ◌+◌, ◌-◌, ◌<◌, true, false, cond, ◌&&◌, ◌⊎◌, List, [], ◌∷◌, ◌++◌, length, drop, Some, Option, ◌==◌, ◌≢◌, slice_index, refl}
use Rattle.std.proofs.Common.{inl, inr, sym, ap, subst, ◌∙◌, add-zero, zero-add, arith, length-append}
use Rattle.std.specs.List.{prefix_len, All}
use Rattle.std.proofs.lemmas.List.{get_or_append_left}
use Rattle.std.proofs.lemmas.List.Folds.{length-prefix_len}
use Rattle.std.proofs.lemmas.Bool.{and_parts, cases_Bool, eq-eqb, eqb-false, le-leb, leb-true, lt-ltb, ltb-true, ne_eqb}
use Rattle.std.proofs.lemmas.Bool.Decides.{nat_tests}
use Rattle.text.specs.Bytes.{blank, star, word}
use Rattle.text.proofs.Leading.{run_passes}
use Rattle.rules.specs.Forms.{RustItem, StarlarkItem}
use Rattle.rules.specs.Laws.{Exact, Inside}
use Rattle.rules.specs.Meanings.{enters_rust, enters_starlark, name_end, resuming, rust_entry, rust_mark, rust_name, stands_at, starlark_entry, starlark_name, text_from}
use Rattle.rules.specs.Exactness.{Complete, Fitting, Sound, exact, inside}
use Rattle.rules.specs.Parts.{drop_behind, from_three, three_parts, run_cut, run_found, run_stopped, run_at, stands_cut, stands_read, stands_there}

module _ (mark i : ℕ) (line : List ℕ) where
  -- a word with a mark behind it can be cut off, and the mark too
  word_cut : stands_at mark (i + prefix_len word (drop i line)) line ≡ true →
      drop i line ≡ run_at word i line ++ mark ∷ drop (i + prefix_len word (drop i line) + 1) line
  word_cut t =
      let end = i + prefix_len word (drop i line) in
      run_cut word i line ∙ ap (λ r. run_at word i line ++ r) (stands_cut mark end line t).1

  -- the rules find a word, the mark behind it, and what is behind the mark
  word_found : (called back : List ℕ) → (0 == mark) ≡ false → word mark ≡ false →
      All (λ b. word b ≡ true) called → drop i line ≡ called ++ mark ∷ back →
      (prefix_len word (drop i line) ≡ length called)
      × (stands_at mark (i + length called) line ≡ true)
      × (drop (i + length called + 1) line ≡ back)
  word_found called back other stop bytes e =
      let end = drop_behind i line called (mark ∷ back) e in (
        run_found word i line called (mark ∷ back) bytes stop e,
        stands_read mark (i + length called) line other ∙ rw end (eq-eqb mark mark refl),
        drop_behind (i + length called) line (mark ∷ []) back end,
      )

-- ---- Starlark entries

-- a byte of a word is no star
word_no_star : (b : ℕ) → word b ≡ true → star b ≡ false
word_no_star b t = grind (arith, nat_tests)

-- what begins with a word does not begin with a star
word_first : (called back : List ℕ) → 0 < length called → All (λ b. word b ≡ true) called →
    star (slice_index (called ++ back) 0) ≡ false
word_first called back some bytes =
    rw get_or_append_left (word_no_star (slice_index called 0) (bytes 0 0 some))

-- where the text of a Starlark entry starts
abbrev starlark_text : List ℕ → Option ℕ
starlark_text line = Some (text_from (name_end (starlark_name line) + 1) line)

-- a line that passes the test for Starlark entries has their form
starlark_sound : Sound StarlarkItem resuming enters_starlark starlark_name starlark_text
starlark_sound line t =
    let s = (starlark_name line).at in
    let k = (starlark_name line).len in
    let m = s + k + 1 in
    let tests = three_parts _ _ _ t in
    let stars_cut = rw zero-add at (run_cut star 0 line) in
    let called_cut = word_cut 58 s line tests.2 in
    let blanks_cut = run_cut blank m line in
    let stars_long = length-prefix_len star line in
    let called_long = length-prefix_len word (drop s line) in
    let blanks_long = length-prefix_len blank (drop m line) in
    record {
      stars = run_at star 0 line;
      called = run_at word s line;
      blanks = run_at blank m line;
      rest = drop (text_from m line) line;
      line_is = cc;
      stars_are = run_passes star line;
      stars_few = omega (arith, leb-true s 2 tests.0);
      called_some = omega (arith, ltb-true 0 k tests.1);
      called_bytes = run_passes word (drop s line);
      blanks_are = run_passes blank (drop m line);
      rest_first = run_stopped blank m line refl;
      name_is = rw (stars_long, called_long);
      text_is = cc;
    }

-- a line of the form of Starlark entries passes their test, with the name and the text of the form
starlark_complete : Complete StarlarkItem resuming enters_starlark starlark_name starlark_text
starlark_complete line n t f =
    let s = length f.stars in
    let k = length f.called in
    let text = f.blanks ++ f.rest in
    let named = f.called ++ 58 ∷ text in
    let first = word_first f.called (58 ∷ text) f.called_some f.called_bytes in
    let stars_long = run_found star 0 line f.stars named f.stars_are first f.line_is in
    let behind = rw zero-add at (drop_behind 0 line f.stars named f.line_is) in
    let w = word_found 58 s line f.called text refl refl f.called_bytes behind in
    let blanks_long = run_found blank (s + k + 1) line f.blanks f.rest f.blanks_are f.rest_first w.2 in (
      rw (stars_long, w.0)
          (from_three _ _ _ (le-leb s 2 f.stars_few) (lt-ltb 0 k f.called_some) w.1),
      rw (stars_long, w.0) (sym f.name_is),
      rw (stars_long, w.0, blanks_long) (sym f.text_is),
    )

-- the name and the text of a Starlark entry lie inside the line
starlark_fitting : Fitting StarlarkItem resuming enters_starlark starlark_name starlark_text
starlark_fitting line n t f =
    let long = simp length-append at (ap length f.line_is) in
    rw (f.name_is, f.text_is) (f.called_some, omega arith, omega arith)

-- the rule for Starlark entries opens exactly the lines of their form
pub starlark_entry_exact : Exact StarlarkItem resuming starlark_entry
starlark_entry_exact = exact _ _ _ _ _ starlark_sound starlark_complete

-- what the rule for Starlark entries opens lies inside the line
pub starlark_entry_inside : (line : List ℕ) → Inside line (starlark_entry line)
starlark_entry_inside = inside _ _ _ _ _ starlark_sound starlark_complete starlark_fitting

-- ---- Rust entries

-- what may stand before the first backquote
abbrev Bullet : List ℕ → Type 0
Bullet bullet = (bullet ≡ []) ⊎ (bullet ≡ 42 ∷ 32 ∷ [])

-- what may stand between the second backquote and what is behind
abbrev Colon : List ℕ → List ℕ → Type 0
Colon colon back = (colon ≡ 58 ∷ []) ⊎ ((colon ≡ []) × (slice_index back 0 ≢ 58))

-- a line with a backquote before its name can be cut behind it, and only a bullet stands before it
bullet_cut : (line : List ℕ) → stands_at 96 ((rust_name line).at - 1) line ≡ true →
    (bullet : List ℕ)
    × Bullet bullet
    × (length bullet + 1 ≡ (rust_name line).at)
    × (line ≡ bullet ++ 96 ∷ drop (rust_name line).at line)
bullet_cut line quoted =
    elim (cases_Bool (stands_at 42 0 line && stands_at 32 1 line)) [
      | inl t ↦
          let both = and_parts _ _ t in
          let first = stands_cut 42 0 line both.0 in
          let second = stands_cut 32 1 line both.1 in
          let third = stands_cut 96 2 line (rw t at quoted) in
          rw t (42 ∷ 32 ∷ [], inr refl, refl, cc)
      | inr f ↦ let first = stands_cut 96 0 line (rw f at quoted) in rw f ([], inl refl, refl, cc)
    ]

-- the rules find the name behind a bullet, if there is one, and a backquote
bullet_found : (line bullet back : List ℕ) → Bullet bullet → line ≡ bullet ++ 96 ∷ back →
    (rust_name line).at ≡ length bullet + 1
bullet_found line bullet back b e =
    rw (stands_read 42 0 line refl, stands_read 32 1 line refl, e) (elim b [ inl is ↦ rw is | inr is ↦ rw is ])

module _ (i : ℕ) (line : List ℕ) where
  -- a colon, if there is one, can be cut off
  colon_cut :
      (colon : List ℕ)
      × Colon colon (drop (i + cond (stands_at 58 i line) 1 0) line)
      × (length colon ≡ cond (stands_at 58 i line) 1 0)
      × (drop i line ≡ colon ++ drop (i + cond (stands_at 58 i line) 1 0) line)
  colon_cut =
      elim (cases_Bool (stands_at 58 i line)) [
        | inl t ↦ rw t (58 ∷ [], inl refl, refl, (stands_cut 58 i line t).1)
        | inr f ↦
            let none = eqb-false (slice_index (drop i line) 0) 58 (sym (stands_read 58 i line refl) ∙ f) in
            rw (f, add-zero) ([], inr (refl, none), refl, refl)
      ]

  -- the rules find a colon exactly where there is one
  colon_found : (colon back : List ℕ) → Colon colon back → drop i line ≡ colon ++ back →
      cond (stands_at 58 i line) 1 0 ≡ length colon
  colon_found colon back c e =
      rw (stands_read 58 i line refl, e)
      (elim c [ inl is ↦ rw is | inr is ↦ rw (is.0, ne_eqb (slice_index back 0) 58 is.1) ])

-- where the text of a Rust entry starts
abbrev rust_text : List ℕ → Option ℕ
rust_text line = Some (text_from (rust_mark line) line)

-- a line that passes the test for Rust entries has their form
rust_sound : Sound RustItem resuming enters_rust rust_name rust_text
rust_sound line t =
    let s = (rust_name line).at in
    let k = (rust_name line).len in
    let m = rust_mark line in
    let tests = three_parts _ _ _ t in
    let b = bullet_cut line tests.0 in
    let c = colon_cut (s + k + 1) line in
    let called_cut = word_cut 96 s line tests.2 in
    let blanks_cut = run_cut blank m line in
    let called_long = length-prefix_len word (drop s line) in
    let blanks_long = length-prefix_len blank (drop m line) in
    record {
      bullet = b.0;
      called = run_at word s line;
      colon = c.0;
      blanks = run_at blank m line;
      rest = drop (text_from m line) line;
      line_is = cc;
      bullet_is = b.1;
      called_some = omega (arith, ltb-true 0 k tests.1);
      called_bytes = run_passes word (drop s line);
      colon_is = subst (Colon c.0) blanks_cut c.1;
      blanks_are = run_passes blank (drop m line);
      rest_first = run_stopped blank m line refl;
      name_is = rw (b.2, called_long);
      text_is = cc;
    }

-- a line of the form of Rust entries passes their test, with the name and the text of the form
rust_complete : Complete RustItem resuming enters_rust rust_name rust_text
rust_complete line n t f =
    let s = length f.bullet + 1 in
    let k = length f.called in
    let e = s + k + 1 in
    let text = f.blanks ++ f.rest in
    let named = f.called ++ 96 ∷ (f.colon ++ text) in
    let at_name = bullet_found line f.bullet named f.bullet_is f.line_is in
    let quote = rw (← f.line_is) at (stands_there 96 (s - 1) f.bullet named (omega arith)) in
    let quoted = rw zero-add at (drop_behind 0 line f.bullet (96 ∷ named) f.line_is) in
    let behind = drop_behind (length f.bullet) line (96 ∷ []) named quoted in
    let w = word_found 96 s line f.called (f.colon ++ text) refl refl f.called_bytes behind in
    let colon_long = colon_found e line f.colon text f.colon_is w.2 in
    let marked = drop_behind e line f.colon text w.2 in
    let m = e + length f.colon in
    let blanks_long = run_found blank m line f.blanks f.rest f.blanks_are f.rest_first marked in (
      rw (at_name, w.0) (from_three _ _ _ quote (lt-ltb 0 k f.called_some) w.1),
      rw (at_name, w.0) (sym f.name_is),
      rw (at_name, w.0, colon_long, blanks_long) (sym f.text_is),
    )

-- the name and the text of a Rust entry lie inside the line
rust_fitting : Fitting RustItem resuming enters_rust rust_name rust_text
rust_fitting line n t f =
    let long = simp length-append at (ap length f.line_is) in
    rw (f.name_is, f.text_is) (f.called_some, omega arith, omega arith)

-- the rule for Rust entries opens exactly the lines of their form
pub rust_entry_exact : Exact RustItem resuming rust_entry
rust_entry_exact = exact _ _ _ _ _ rust_sound rust_complete

-- what the rule for Rust entries opens lies inside the line
pub rust_entry_inside : (line : List ℕ) → Inside line (rust_entry line)
rust_entry_inside = inside _ _ _ _ _ rust_sound rust_complete rust_fitting
