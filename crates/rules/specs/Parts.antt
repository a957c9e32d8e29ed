-- The tests that the rules are made of, and the parts of a line that they speak of.
use Rattle.std.specs.Prelude.{◌≡◌, ℕ, ◌+◌, ◌<◌, ◌≤◌, Bool, true, false, ◌&&◌, List, ◌∷◌, ◌++◌, length, take, drop, ◌==◌, slice_index, refl}
use Rattle.std.proofs.Common.{inl, inr, sym, ap, ◌∙◌, add-zero, arith, length-append, length-drop}
use Rattle.std.specs.List.{prefix_len, All}
use Rattle.std.proofs.lemmas.List.{drop_all, drop_at, drop-drop, drop_more, get_or_at, get_or-drop, take-append-drop}
use Rattle.std.proofs.lemmas.Bool.{and_from, and_parts, cases_lt, eq-eqb, eqb-true, le-leb, le-ltb, leb-true, lt-ltb, ltb-true}
use Rattle.text.specs.Bytes.{blank}
use Rattle.text.proofs.Leading.{all_pass, run_all, run_length, run_stops}
use Rattle.rules.specs.Meanings.{blank_from, stands_at}

-- three tests pass together only if each does
pub three_parts : (x y z : Bool) → (x && (y && z)) ≡ true → (x ≡ true) × (y ≡ true) × (z ≡ true)
three_parts x y z t = let rest = and_parts x (y && z) t in let last = and_parts y z rest.1 in (rest.0, last.0, last.1)

-- and so do four
pub four_parts : (w x y z : Bool) → (w && (x && (y && z))) ≡ true → (w ≡ true) × (x ≡ true) × (y ≡ true) × (z ≡ true)
four_parts w x y z t = let rest = and_parts w (x && (y && z)) t in let last = three_parts x y z rest.1 in (rest.0, last.0, last.1, last.2)

-- three tests that each pass do so together
pub from_three : (x y z : Bool) → x ≡ true → y ≡ true → z ≡ true → (x && (y && z)) ≡ true
from_three x y z a b c = and_from x (y && z) a (and_from y z b c)

-- and so do four
pub from_four : (w x y z : Bool) → w ≡ true → x ≡ true → y ≡ true → z ≡ true → (w && (x && (y && z))) ≡ true
from_four w x y z a b c d = and_from w (x && (y && z)) a (from_three x y z b c d)

-- a byte stands behind what comes before it
pub stands_there : (b i : ℕ) (front back : List ℕ) → length front ≡ i → stands_at b i (front ++ b ∷ back) ≡ true
stands_there b i front back e =
    let long = length-append front (b ∷ back) in
    and_from _ _ (lt-ltb i (length (front ++ b ∷ back)) (omega arith)) (eq-eqb _ _ (get_or_at front b back 0 i e))

-- where a byte stands the line can be cut
pub stands_cut : (b i : ℕ) (line : List ℕ) → stands_at b i line ≡ true → (i < length line) × (drop i line ≡ b ∷ drop (i + 1) line)
stands_cut b i line t =
    let both = and_parts _ _ t in
    let within = ltb-true i (length line) both.0 in
    (within, drop_more line i 0 within ∙ ap (λ x. x ∷ drop (i + 1) line) (eqb-true _ _ both.1))

-- blanks behind what comes before them
pub blank_there : (i : ℕ) (front rest : List ℕ) → length front ≡ i → All (λ b. blank b ≡ true) rest → blank_from i (front ++ rest) ≡ true
blank_there i front rest e blanks =
    let long = length-append front rest in
    let behind = drop_at front rest i e in
    let run = run_all blank rest blanks in
    and_from _ _ (le-leb i (length (front ++ rest)) (omega arith)) (eq-eqb _ _ (ap (prefix_len blank) behind ∙ run ∙ omega arith))

-- where only blanks stand the rest is blanks
pub blank_cut : (i : ℕ) (line : List ℕ) → blank_from i line ≡ true → (i ≤ length line) × All (λ b. blank b ≡ true) (drop i line)
blank_cut i line t =
    let both = and_parts _ _ t in
    (leb-true i (length line) both.0, all_pass blank (drop i line) (eqb-true _ _ both.1 ∙ sym (length-drop i line)))

-- what is left of a line, less a front, is what is left behind that front
pub drop_behind : (i : ℕ) (line front back : List ℕ) → drop i line ≡ front ++ back → drop (i + length front) line ≡ back
drop_behind i line front back e =
    sym (drop-drop (length front) i line) ∙ ap (drop (length front)) e ∙ drop_at front back (length front) refl

-- a byte other than 0 stands at i exactly when what is left from there begins with it
pub stands_read : (b i : ℕ) (line : List ℕ) → (0 == b) ≡ false → stands_at b i line ≡ (slice_index (drop i line) 0 == b)
stands_read b i line other =
    elim (cases_lt i (length line)) [
      | inl within ↦ rw (lt-ltb, get_or-drop, add-zero)
      | inr past ↦ rw (le-ltb, drop_all) (sym other)
    ]

-- the longest run of bytes that pass, from i on
abbrev pub run_at : (ℕ → Bool) → ℕ → List ℕ → List ℕ
run_at p i line = take (prefix_len p (drop i line)) (drop i line)

module _ (p : ℕ → Bool) (i : ℕ) (line : List ℕ) where
  -- the run can be cut off
  pub run_cut : drop i line ≡ run_at p i line ++ drop (i + prefix_len p (drop i line)) line
  run_cut =
      let n = prefix_len p (drop i line) in
      sym (take-append-drop n (drop i line)) ∙ ap (λ r. run_at p i line ++ r) (drop-drop n i line)

  -- the byte behind the run does not pass
  pub run_stopped : p 0 ≡ false → p (slice_index (drop (i + prefix_len p (drop i line)) line) 0) ≡ false
  run_stopped none = rw (get_or-drop, add-zero, ← get_or-drop) (run_stops p none (drop i line))

  -- bytes that pass, before one that does not, are what the rules count
  pub run_found : (run back : List ℕ) → All (λ b. p b ≡ true) run → p (slice_index back 0) ≡ false → drop i line ≡ run ++ back →
      prefix_len p (drop i line) ≡ length run
  run_found run back pass stop e = ap (prefix_len p) e ∙ run_length p run back pass stop
