-- What a dedent takes off.
use Rattle.std.proofs.Common.{◌≡◌, ℕ, suc, ◌+◌, ◌-◌, ◌<◌, ◌≤◌, Bool, true, false, eqb, List, [], ◌∷◌, ◌++◌, map, length, get_or, take, drop, replicate, Some, None, fold, Option, unwrap_or, sym, refl, ap, subst, ◌∙◌, inl, inr, append_assoc, one-add, arith}
use Rattle.std.specs.List.{common_prefix_len, prefix_len, All}
use Rattle.std.proofs.lemmas.List.Elements.{All-append, All-cons, All-drop, All-from_get_or, All-head, All-map, All-nil, All-replicate, All-tail, All-take, All-weaker}
use Rattle.std.proofs.lemmas.List.Prefix.{front_fits, front_rest}
use Rattle.std.proofs.lemmas.List.{append-nil, ext_get_or, get_or-map, length-append, length-drop, length-map, length-replicate, take_at, take-append-drop}
use Rattle.std.proofs.lemmas.List.Folds.{prefix_len-append}
use Rattle.std.proofs.lemmas.List.Sums.{prefix_len-le-length}
use Rattle.std.proofs.lemmas.Bool.{both_ways, cases_Bool, cond_both, eq-eqb, eqb-true, eqb-false, ne_eqb}
use Rattle.text.specs.Bytes.{blank}
use Rattle.text.specs.Dedents.{blank_line, indent, less, meeting, narrowed, margin_of, dedent_lines, dedented, Shared, Dedents}
use Rattle.text.specs.Lines.{inside, lines_of, unlines}
use Rattle.text.proofs.Leading.{run_all, run_passes}
use Rattle.text.proofs.Splits.{lines_apart, lines_split, lines_unlines, Apart}

-- the text has the run as a front
abbrev Begins : List ℕ → List ℕ → Type 0
Begins text run = text ≡ run ++ drop (length run) text

-- a line with more than blanks has the run as a front
abbrev Has : List ℕ → List ℕ → Type 0
Has run line = blank_line line ≡ false → Begins line run

-- a run is a front of the text that it makes with a rest
begins_run : (text run rest : List ℕ) → text ≡ run ++ rest → Begins text run
begins_run text run rest e = let r = front_rest text run rest e in cc

-- a text begins with any number of its first bytes
begins_take : (n : ℕ) (text : List ℕ) → Begins text (take n text)
begins_take n text = begins_run text (take n text) (drop n text) (sym (take-append-drop n text))

-- a front of a front is a front
begins_through : (text front run : List ℕ) → Begins text front → Begins front run → Begins text run
begins_through text front run whole b =
    let a = append_assoc run (drop (length run) front) (drop (length front) text) in
    begins_run text run (drop (length run) front ++ drop (length front) text) (cc)

-- no byte stands at the front of an empty text
begins_none : (r : ℕ) (rs : List ℕ) → Begins [] (r ∷ rs) → ⊥
begins_none r rs b = let z : ◌≡◌ {A = ℕ} 0 1 = cc in omega arith

-- a run at the front of a text has the text's first byte, and the rest of the run is at the front of the rest
begins_cons : (t r : ℕ) (ts rs : List ℕ) → Begins (t ∷ ts) (r ∷ rs) → (t ≡ r) × Begins ts rs
begins_cons t r ts rs b = (cc, cc)

-- what holds of each byte of a text holds of each byte of a front
begins_all : (P : ℕ → Type 0) (text run : List ℕ) → Begins text run → All P text → All P run
begins_all P text run b all =
    let front : take (length run) text ≡ run = ap (take (length run)) b ∙ take_at run (drop (length run) text) (length run) refl in
    subst (All P) front (All-take P (length run) text all)

-- a front that passes a test is a front of the longest that does
begins_leading : (p : ℕ → Bool) (text run : List ℕ) → All (λ b. p b ≡ true) run → Begins text run →
    Begins (take (prefix_len p text) text) run
begins_leading p text [] pass b = refl
begins_leading p [] (r ∷ rs) pass b = absurd (begins_none r rs b)
begins_leading p (t ∷ ts) (r ∷ rs) pass b =
    let e = begins_cons t r ts rs b in
    let first = All-head (λ b. p b ≡ true) r rs pass in
    let rest = begins_leading p ts rs (All-tail (λ b. p b ≡ true) r rs pass) e.1 in
    rw (e.0, first, one-add) (ap (λ bs. r ∷ bs) rest)

-- what a text has in common with another is a front of the other too
begins_common : (xs ys : List ℕ) → Begins ys (take (common_prefix_len eqb xs ys) xs)
begins_common [] ys = refl
begins_common (x ∷ xs) [] = refl
begins_common (x ∷ xs) (y ∷ ys) =
    let i = begins_common xs ys in
    elim (cases_Bool (eqb x y)) [ inl t ↦ let e = eqb-true x y t in rw (t, one-add) (cc) | inr f ↦ rw f ]

-- a front of two texts is a front of what they have in common
begins_both : (xs ys run : List ℕ) → Begins xs run → Begins ys run → Begins (take (common_prefix_len eqb xs ys) xs) run
begins_both xs ys [] b c = refl
begins_both [] ys (r ∷ rs) b c = absurd (begins_none r rs b)
begins_both (x ∷ xs) [] (r ∷ rs) b c = absurd (begins_none r rs c)
begins_both (x ∷ xs) (y ∷ ys) (r ∷ rs) b c =
    let f = begins_cons x r xs rs b in let g = begins_cons y r ys rs c in
    let i = begins_both xs ys rs f.1 g.1 in
    rw (eq-eqb x y (f.0 ∙ sym g.0), one-add) (cc)

-- the runs that may still be the margin: any blanks before there is one, and then its fronts
abbrev Within : Option (List ℕ) → List ℕ → Type 0
Within None run = All (λ b. blank b ≡ true) run
Within (Some margin) run = Begins margin run

-- a run that may be the margin, and that the line begins with, is a front of what the two share
meet_keeps : (o : Option (List ℕ)) (line run : List ℕ) → Within o run → Begins line run → Begins (meeting o line) run
meet_keeps None line run w b = begins_leading blank line run w b
meet_keeps (Some margin) line run w b = begins_both margin line run w b

-- each front of what the two share is such a run
meet_cuts : (o : Option (List ℕ)) (line run : List ℕ) →
    Begins (meeting o line) run → Within o run × Begins line run
meet_cuts None line run b =
    let front = take (indent line) line in (
      begins_all (λ b. blank b ≡ true) front run b (run_passes blank line),
      begins_through line front run (begins_take (indent line) line) b,
    )
meet_cuts (Some margin) line run b =
    let front = take (common_prefix_len eqb margin line) margin in (
      begins_through margin front run (begins_take (common_prefix_len eqb margin line) margin) b,
      begins_through line front run (begins_common margin line) b,
    )

-- a run that may be the margin, and that the lines share, may be it behind the lines
folded_keeps : (o : Option (List ℕ)) (lines : List (List ℕ)) (run : List ℕ) →
    Within o run → Shared run lines → Within (fold narrowed o lines) run
folded_keeps o [] run w shared = w
folded_keeps o (l ∷ ls) run w shared =
    let here = All-head (Has run) l ls shared in
    let rest = All-tail (Has run) l ls shared in
    elim (cases_Bool (blank_line l)) [
      | inl t ↦ rw t (folded_keeps o ls run w rest)
      | inr f ↦ rw f (folded_keeps (Some (meeting o l)) ls run (meet_keeps o l run w (here f)) rest)
    ]

-- a run that may be the margin behind the lines is such a run
folded_cuts : (o : Option (List ℕ)) (lines : List (List ℕ)) (run : List ℕ) →
    Within (fold narrowed o lines) run → Within o run × Shared run lines
folded_cuts o [] run w = (w, All-nil (Has run))
folded_cuts o (l ∷ ls) run w =
    elim (cases_Bool (blank_line l)) [
      | inl t ↦
          let rest = folded_cuts o ls run (rw t at w) in
          (rest.0, All-cons (Has run) l ls (λ f. absurd (both_ways (blank_line l) f t)) rest.1)
      | inr f ↦
          let rest = folded_cuts (Some (meeting o l)) ls run (rw f at w) in
          let here = meet_cuts o l run rest.0 in
          (here.0, All-cons (Has run) l ls (λ g. here.1) rest.1)
    ]

-- the margin found is one of the runs that may be it
within_itself : (o : Option (List ℕ)) → Within o (unwrap_or o [])
within_itself None = All-nil (λ b. blank b ≡ true)
within_itself (Some margin) = begins_run margin margin [] (sym (append-nil margin))

-- where a line has more than blanks, no run that may be the margin is longer than the one found
within_longest : (o : Option (List ℕ)) (lines : List (List ℕ)) →
    ((run : List ℕ) → Within o run → Shared run lines) →
    (run : List ℕ) → Within o run → (k : ℕ) → k < length lines → blank_line (get_or lines k []) ≡ false →
    length run ≤ length (unwrap_or o [])
within_longest None lines shares run w k there more =
    let line = get_or lines k [] in
    let n = suc (length line) in
    let spaces : List ℕ = replicate n 32 in
    let b = shares spaces (All-replicate (λ b. blank b ≡ true) n 32 refl) k [] there more in
    let fits = front_fits line spaces (drop (length spaces) line) b in
    absurd (omega (arith, length-replicate {A = ℕ} n 32))
within_longest (Some margin) lines shares run w k there more = front_fits margin run (drop (length run) margin) w

-- blanks put before a line add their number to its indent
indent_behind : (run rest : List ℕ) → All (λ b. blank b ≡ true) run → indent (run ++ rest) ≡ length run + indent rest
indent_behind run rest blanks =
    rw (prefix_len-append, eq-eqb (indent run) (length run) (run_all blank run blanks))

-- a line with more than blanks is not empty
more_some : (line : List ℕ) → blank_line line ≡ false → eqb (length line) 0 ≡ false
more_some line more =
    let fits = prefix_len-le-length blank line in
    ne_eqb (length line) 0 (λ e. eqb-false (indent line) (length line) more (omega arith))

-- lines less a run of blanks that they share, be it the longest or not
record Takes (before after : List (List ℕ)) : Type 0 where
  run : List ℕ
  run_blank : All (λ b. blank b ≡ true) run
  run_shared : Shared run before
  lines : after ≡ map (less (length run)) before

module _ (before after : List (List ℕ)) (taken : Takes before after) where
  -- there are as many as before
  taken_length : length after ≡ length before
  taken_length = ap length taken.lines ∙ length-map before (less (length taken.run))

  -- each is the line at its place, less the run
  taken_at : (k : ℕ) → k < length before → get_or after k [] ≡ less (length taken.run) (get_or before k [])
  taken_at k there =
      ap (λ ls. get_or ls k []) taken.lines ∙ get_or-map (less (length taken.run)) before k [] [] there

  module _ (k : ℕ) (there : k < length before) (more : blank_line (get_or before k []) ≡ false) where
    -- a line with more than blanks was the run and what is left
    taken_off : get_or before k [] ≡ taken.run ++ get_or after k []
    taken_off = taken.run_shared k [] there more ∙ sym (rw (taken_at k there, more))

    -- it stood as much further to the right as the run is long
    taken_indent : indent (get_or before k []) ≡ length taken.run + indent (get_or after k [])
    taken_indent = ap indent taken_off ∙ indent_behind taken.run (get_or after k []) taken.run_blank

    -- it still has more than blanks
    taken_more : blank_line (get_or after k []) ≡ false
    taken_more =
        let i = taken_indent in let n = ap length taken_off ∙ length-append taken.run (get_or after k []) in
        ne_eqb (indent (get_or after k [])) (length (get_or after k []))
        (λ e. eqb-false (indent (get_or before k [])) (length (get_or before k [])) more (cc))

  -- a line comes out empty exactly when it is blanks only
  taken_empties : (k : ℕ) → k < length before → eqb (length (get_or after k [])) 0 ≡ blank_line (get_or before k [])
  taken_empties k there =
      elim (cases_Bool (blank_line (get_or before k []))) [
        | inl t ↦ rw (taken_at k there, t)
        | inr f ↦ more_some (get_or after k []) (taken_more k there f) ∙ sym f
      ]

  -- one line stands as far to the right of another as it did
  taken_relative : (j k : ℕ) → j < length before → k < length before →
      blank_line (get_or before j []) ≡ false → blank_line (get_or before k []) ≡ false →
      indent (get_or after j []) + indent (get_or before k []) ≡ indent (get_or after k []) + indent (get_or before j [])
  taken_relative j k in_j in_k more_j more_k =
      let at_j = taken_indent j in_j more_j in let at_k = taken_indent k in_k more_k in omega arith

-- the lines less their margin are those lines dedented
pub dedents_lines : (lines : List (List ℕ)) → Dedents lines (dedent_lines lines)
dedents_lines lines =
    let left = fold narrowed None lines in
    let own = folded_cuts None lines (margin_of lines) (within_itself left) in
    let shares : (run : List ℕ) → Within left run → Shared run lines = λ run w. (folded_cuts None lines run w).1 in
    let taken : Takes lines (dedent_lines lines) =
    record { run = margin_of lines; run_blank = own.0; run_shared = own.1; lines = refl } in
    record {
      margin = margin_of lines;
      margin_blank = own.0;
      margin_shared = own.1;
      margin_longest = λ run blanks shared.
          within_longest left lines shares run (folded_keeps None lines run blanks shared);
      lines = refl;
      empties = taken_empties lines (dedent_lines lines) taken;
      relative = taken_relative lines (dedent_lines lines) taken;
    }

-- a line without line feeds has none when some bytes are taken off
less_apart : (width : ℕ) (line : List ℕ) →
    Apart line → Apart (less width line)
less_apart width line apart =
    cond_both (blank_line line) [] (drop width line) Apart (λ t. All-nil (λ b. inside b ≡ true))
    (λ f. All-drop (λ b. inside b ≡ true) width line apart)

-- lines that lose bytes come to no more
unlines_fit : (width : ℕ) (lines : List (List ℕ)) → length (unlines (map (less width) lines)) ≤ length (unlines lines)
unlines_fit width [] = omega arith
unlines_fit width (l ∷ ls) =
    let short = cond_both (blank_line l) [] (drop width l) (λ bs. length bs ≤ length l) (λ t. omega arith)
    (λ f. simp length-drop (omega arith)) in
    let rest = unlines_fit width ls in
    simp length-append (omega arith)

-- a text whose lines lose bytes grows by a line feed at most
pub outdented_fits : (width : ℕ) (text : List ℕ) → length (unlines (map (less width) (lines_of text))) ≤ length text + 1
outdented_fits width text =
    let ends = cond_both (inside (get_or text (length text - 1) 10)) (text ++ 10 ∷ []) text (λ bs. length bs ≤ length text + 1)
    (λ t. simp length-append (omega arith)) (λ f. omega arith) in
    omega (arith, unlines_fit width (lines_of text), ap length (lines_split text).whole)

-- the lines of a dedented text are its lines less their margin
lines_dedented : (text : List ℕ) → lines_of (dedented text) ≡ dedent_lines (lines_of text)
lines_dedented text =
    let lines = lines_of text in
    let width = length (margin_of lines) in
    let apart = All-weaker Apart (λ l. Apart (less width l)) (less_apart width) lines (lines_apart text) in
    lines_unlines (dedent_lines lines) (All-map Apart (less width) lines apart)

-- the lines of a dedented text are the lines of the text, dedented
pub dedents : (text : List ℕ) → Dedents (lines_of text) (lines_of (dedented text))
dedents text = rw (lines_dedented text) (dedents_lines (lines_of text))

-- a dedent takes its margin off
abbrev takes : (before after : List (List ℕ)) → Dedents before after → Takes before after
takes before after d =
    record { run = d.margin; run_blank = d.margin_blank; run_shared = d.margin_shared; lines = d.lines }

-- lines dedented, and dedented again
module _ (before after last : List (List ℕ)) (first : Dedents before after) (again : Dedents after last) where
  -- a line with more than blanks began with both margins
  both_margins : (k : ℕ) → k < length before → blank_line (get_or before k []) ≡ false →
      Begins (get_or before k []) (first.margin ++ again.margin)
  both_margins k there more =
      let once = takes before after first in let twice = takes after last again in
      let below : k < length after = omega (arith, taken_length before after once) in
      let one = taken_off before after once k there more in
      let two = taken_off after last twice k below (taken_more before after once k there more) in
      let whole = append_assoc first.margin again.margin (get_or last k []) in
      begins_run (get_or before k []) (first.margin ++ again.margin) (get_or last k []) (cc)

  -- so the second margin is empty if there is such a line
  no_margin : (k : ℕ) → k < length before → blank_line (get_or before k []) ≡ false → length again.margin ≡ 0
  no_margin k there more =
      let m = first.margin in let n = again.margin in
      let shared = All-from_get_or (Has (m ++ n)) before [] both_margins in
      let blanks = All-append (λ b. blank b ≡ true) m n first.margin_blank again.margin_blank in
      omega (arith, first.margin_longest (m ++ n) blanks shared k there more, length-append m n)

  -- the second time takes nothing off
  dedents_twice : last ≡ after
  dedents_twice =
      let once = takes before after first in let twice = takes after last again in
      let same : (k : ℕ) → k < length last → get_or last k [] ≡ get_or after k [] = λ k there.
      let in_after : k < length after = omega (arith, taken_length after last twice) in
      let in_before : k < length before = omega (arith, taken_length before after once) in
      rw (taken_at after last twice k in_after)
      (elim (cases_Bool (blank_line (get_or before k []))) [
        | inl t ↦ rw (taken_at before after once k in_before, t)
        | inr f ↦ rw (no_margin k in_before f, taken_more before after once k in_before f)
      ]) in
      ext_get_or [] last after (taken_length after last twice) same

-- a text that is dedented stays as it is when it is dedented again
pub dedent_twice : (text : List ℕ) → dedented (dedented text) ≡ dedented text
dedent_twice text =
    let once = dedent_lines (lines_of text) in
    let same = dedents_twice (lines_of text) once (dedent_lines once) (dedents_lines (lines_of text)) (dedents_lines once) in
    rw (lines_dedented text) (ap unlines same)
