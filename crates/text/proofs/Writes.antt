-- Lines written behind one another into the front of a buffer.
use Rattle.std.proofs.Common.{◌≡◌, ℕ, ◌+◌, ◌-◌, ◌<◌, ◌≤◌, cond, ltb, List, [], ◌∷◌, ◌++◌, map, length, get_or, take, drop, set, Some, None, Option, sym, ap, ◌∙◌, arith}
use borrow.Rule.Slice.PartMut.{put_mid}
use Rattle.std.proofs.lemmas.List.{append_assoc, drop_at, drop-drop, drop_more, length-append, length-drop, length_push, length-take-le, set_at, take_at, take-take}
use Rattle.std.proofs.lemmas.Bool.{cond-true, cond_below, lt-ltb}
use Rattle.text.specs.Dedents.{dedented, margin_of}
use Rattle.text.specs.Lines.{fed, has_room, lines_of, put, unlines}
use Rattle.text.proofs.Margins.{outdented_fits}

-- a line copied to the place `at`, and a line feed behind it
pub line_put : (out line part : List ℕ) (at : ℕ) → part ≡ line → at + length line < length out →
    set (put_mid at (at + length line - at) out part) (at + length line) 10
    ≡ take at out ++ (line ++ 10 ∷ []) ++ drop (at + length line + 1) out
line_put out line part at same room =
    let end = at + length line in
    let wide : end - at ≡ length line = omega arith in
    let past = drop-drop (length line) at out in
    let first = drop_more out end 10 room in
    let front : length (take at out ++ line) ≡ end =
    omega (arith, length-append (take at out) line, length-take-le at out (omega arith)) in
    let feed = set_at (take at out ++ line) (get_or out end 10) (drop (end + 1) out) 10 end front in
    let a = append_assoc (take at out) line (get_or out end 10 ∷ drop (end + 1) out) in
    let b = append_assoc (take at out ++ line) (10 ∷ []) (drop (end + 1) out) in
    let d = append_assoc (take at out) line (10 ∷ []) in
    cc

-- there was room for it
pub line_put_there : (out line part : List ℕ) (at end : ℕ) → end ≡ at + length line → part ≡ line → end < length out →
    set (put_mid at (end - at) out part) end 10 ≡ cond (has_room at line out) (put at (fed line) out) out
line_put_there out line part at end there same room =
    let fits : at + length line < length out = omega arith in
    let past : at + length line + 1 ≡ at + length (fed line) = omega (arith, length_push line 10) in
    rw there (
    line_put out line part at same fits
    ∙ append_assoc (take at out) (fed line) (drop (at + length line + 1) out)
    ∙ ap (λ n. take at out ++ (fed line ++ drop n out)) past
    ∙ cond_below (at + length line) (length out) (put at (fed line) out) out fits
    )

-- the first of some lines, changed by `f`, and its line feed come before the others
pub unlines_first : (f : List ℕ → List ℕ) (lines after : List (List ℕ)) (line put : List ℕ) → lines ≡ line ∷ after → put ≡ f line →
    unlines (map f lines) ≡ fed put ++ unlines (map f after)
unlines_first f lines after line put cut same = rw (cut, same)

-- `out` was `start`, and has room for `whole`; its front is what has been written of that, `left` is still to come,
-- and the rest is as it was
pub record Written (start whole out left : List ℕ) (at : ℕ) : Type 0 where
  pub front : take at out ++ left ≡ whole
  pub behind : drop at out ≡ drop at start
  pub within : at ≤ length out
  pub room : length whole ≤ length out

module _ {start whole out left : List ℕ} {at : ℕ} (so_far : Written start whole out left at) (line after : List ℕ) (cut : left ≡ fed line ++ after) where
  -- the next line fits
  line_fits : at + length line < length out
  line_fits =
      let all = ap length (sym so_far.front) ∙ length-append (take at out) left in
      let next = ap length cut ∙ length-append (fed line) after in
      let front = length-take-le at out so_far.within in
      let room = so_far.room in
      omega (arith, length_push line 10)

  -- one line more
  pub written_more : (now : List ℕ) (next : ℕ) → Some next ≡ cond (has_room at line out) (Some (at + length line + 1)) None →
      now ≡ cond (has_room at line out) (put at (fed line) out) out → Written start whole now after next
  written_more now next given is =
      let wide : at + length (fed line) ≡ at + length line + 1 = omega (arith, length_push line 10) in
      let there = cond_below (at + length line) (length out) (Some (at + length line + 1)) None line_fits in
      let to : next ≡ at + length (fed line) = cc in
      let here = cond_below (at + length line) (length out) (put at (fed line) out) out line_fits in
      let ends = length-take-le at out so_far.within in
      let join = append_assoc (take at out) (fed line) after in
      let again = append_assoc (take at out) (fed line) (drop next out) in
      let front : length (take at out ++ fed line) ≡ next = omega (arith, length-append (take at out) (fed line)) in
      let took = take_at (take at out ++ fed line) (drop next out) next front in
      let rest = drop_at (take at out ++ fed line) (drop next out) next front in
      let past = drop-drop (length (fed line)) at out in
      let was = drop-drop (length (fed line)) at start in
      let both = length-append (take at out ++ fed line) (drop next out) in
      let long : length now ≡ length (take at out ++ fed line) + length (drop next out) = cc in
      let same : length now ≡ length out = omega (arith, length-drop next out, line_fits) in
      record {
        front = (let w = so_far.front in cc);
        behind = (let w = so_far.behind in cc);
        within = omega (arith, line_fits);
        room = (let r = so_far.room in omega arith);
      }

-- a buffer with a byte more than the text has room for it, dedented; cut to the length given it is that text
pub dedented_kept : (text start out more kept : List ℕ) (wide n : ℕ) (given : Option ℕ) → wide ≡ length text + 1 → length start ≡ wide →
    given ≡ cond (ltb (length text) (length start)) (Some (length (dedented text))) None → given ≡ Some n →
    out ≡ cond (ltb (length text) (length start)) (dedented text ++ drop (length (dedented text)) start) start →
    kept ≡ take n (take wide (out ++ more)) → kept ≡ dedented text
dedented_kept text start out more kept wide n given is long value got written e =
    let whole = dedented text in
    let rest = drop (length whole) start in
    let room = lt-ltb (length text) (length start) (omega arith) in
    let some = cond-true (ltb (length text) (length start)) (Some (length whole)) None room in
    let here = cond-true (ltb (length text) (length start)) (whole ++ rest) start room in
    let same : n ≡ length whole = cc in
    let fits : n ≤ wide = omega (arith, outdented_fits (length (margin_of (lines_of text))) text) in
    let cut = take-take n wide (out ++ more) fits in
    let join = append_assoc whole rest more in
    let front = take_at whole (rest ++ more) n (sym same) in
    cc
