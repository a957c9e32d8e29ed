-- What stripping leaves and takes.
use Rattle.std.proofs.Common.{◌≡◌, ℕ, ◌-◌, ◌<◌, ◌≤◌, Bool, true, false, List, [], ◌∷◌, ◌++◌, reverse, length, get_or, take, drop, sym, refl, ap, ◌∙◌, ⊎_elim, add-zero, arith, length-append, length-drop}
use Rattle.std.specs.List.{prefix_len, suffix_len, All}
use Rattle.std.proofs.lemmas.List.Sorted.{All-permutation, IsPermutation-reverse}
use Rattle.std.proofs.lemmas.List.{drop_all, drop_at, get_or_append_left, get_or-drop, get_or-reverse, get_or-take, get_or_past, length-reverse, length-take-le, reverse-append, reverse-reverse, take_at, take-append-drop}
use Rattle.std.proofs.lemmas.List.Sums.{suffix_len-le-length}
use Rattle.std.proofs.lemmas.Bool.{cases_lt}
use Rattle.text.specs.Trims.{shortened, stripped, Strips}
use Rattle.text.proofs.Leading.{run_all, run_length, run_passes, run_stops}

-- a text less its last n bytes, and those bytes, by the text turned round
turned : (n : ℕ) (xs : List ℕ) → n ≤ length xs →
    (take (length xs - n) xs ≡ reverse (drop n (reverse xs))) × (drop (length xs - n) xs ≡ reverse (take n (reverse xs)))
turned n xs fits =
    let front = reverse (drop n (reverse xs)) in
    let back = reverse (take n (reverse xs)) in
    let whole : xs ≡ front ++ back =
    sym (reverse-reverse xs) ∙ ap reverse (sym (take-append-drop n (reverse xs))) ∙ reverse-append (take n (reverse xs)) (drop n (reverse xs)) in
    let long : length front ≡ length xs - n = simp (length-reverse, length-drop) in (
      ap (take (length xs - n)) whole ∙ take_at front back (length xs - n) long,
      ap (drop (length xs - n)) whole ∙ drop_at front back (length xs - n) long,
    )

-- turned round, a text ends with its first byte
last_first : (xs : List ℕ) → get_or (reverse xs) (length (reverse xs) - 1) 0 ≡ get_or xs 0 0
last_first [] = refl
last_first (x ∷ xs) =
    let long = length-reverse (x ∷ xs) in
    let there : length (x ∷ xs) - 1 - (length (reverse (x ∷ xs)) - 1) ≡ 0 = omega arith in
    get_or-reverse (x ∷ xs) (length (reverse (x ∷ xs)) - 1) 0 (omega arith) ∙ ap (λ i. get_or (x ∷ xs) i 0) there

module _ (p : ℕ → Bool) where
  -- bytes that pass, in the other order
  all_reverse : (xs : List ℕ) → All (λ b. p b ≡ true) xs → All (λ b. p b ≡ true) (reverse xs)
  all_reverse xs pass = All-permutation (λ b. p b ≡ true) xs (reverse xs) (IsPermutation-reverse xs) pass

  -- the bytes that come off at the end pass
  end_passes : (xs : List ℕ) → All (λ b. p b ≡ true) (drop (length xs - suffix_len p xs) xs)
  end_passes xs =
      rw ((turned (suffix_len p xs) xs (suffix_len-le-length p xs)).1)
      (all_reverse (take (suffix_len p xs) (reverse xs)) (run_passes p (reverse xs)))

  module _ (none : p 0 ≡ false) where
    -- a byte that does not pass, at a place before the run at the end
    kept : (xs : List ℕ) (i : ℕ) → (i < length xs - suffix_len p xs → p (get_or xs i 0) ≡ false) → p (get_or (shortened p xs) i 0) ≡ false
    kept xs i h =
        let m : ℕ = length xs - suffix_len p xs in
        let long = length-take-le m xs (omega arith) in
        ⊎_elim (λ lt. rw (get_or-take m xs i 0 lt) (h lt)) (λ ge. rw (get_or_past (take m xs) i 0 (omega arith)) none) (cases_lt i m)

    -- the last byte that stays does not pass
    end_stops : (xs : List ℕ) → p (get_or (shortened p xs) (length (shortened p xs) - 1) 0) ≡ false
    end_stops xs =
        rw ((turned (suffix_len p xs) xs (suffix_len-le-length p xs)).0, last_first, get_or-drop, add-zero) (run_stops p none (reverse xs))

    -- what is stripped off passes, and what is left begins and ends with a byte that does not
    pub strips : (text : List ℕ) → Strips p text (stripped p text)
    strips text =
        let rest : List ℕ = drop (prefix_len p text) text in
        record {
          front = take (prefix_len p text) text;
          back = drop (length rest - suffix_len p rest) rest;
          whole = sym (take-append-drop (prefix_len p text) text) ∙ ap (λ r. take (prefix_len p text) text ++ r) (sym (take-append-drop (length rest - suffix_len p rest) rest));
          front_passes = run_passes p text;
          back_passes = end_passes rest;
          first_stays = kept rest 0 (λ _. rw (get_or-drop, add-zero) (run_stops p none text));
          last_stays = end_stops rest;
        }

  -- a text that passes is stripped to nothing
  pub strip_all : (text : List ℕ) → All (λ b. p b ≡ true) text → stripped p text ≡ []
  strip_all text pass =
      let none = drop_all (prefix_len p text) text (omega (arith, run_all p text pass)) in
      ap (shortened p) none

  -- there is one way to strip a text that has a byte left
  pub strips_only : (text rest : List ℕ) (s : Strips p text rest) → 0 < length rest → (prefix_len p text ≡ length s.front) × (stripped p text ≡ rest)
  strips_only text rest s some =
      let start = get_or_append_left rest s.back 0 0 some in
      let run = run_length p s.front (rest ++ s.back) s.front_passes (rw start s.first_stays) in
      let lead : prefix_len p text ≡ length s.front = ap (prefix_len p) s.whole ∙ run in
      let turned = reverse-append rest s.back in
      let last = get_or-reverse rest 0 0 some in
      let here : length rest - 1 - 0 ≡ length rest - 1 = omega arith in
      let tail = run_length p (reverse s.back) (reverse rest) (all_reverse s.back s.back_passes) (rw (last, here) s.last_stays) in
      let long = length-reverse s.back in
      let whole = length-append rest s.back in
      let end : suffix_len p (rest ++ s.back) ≡ length s.back = cc in
      let behind : drop (prefix_len p text) text ≡ rest ++ s.back = ap (drop (prefix_len p text)) s.whole ∙ drop_at s.front (rest ++ s.back) (prefix_len p text) (sym lead) in
      let cut = take_at rest s.back (length (rest ++ s.back) - suffix_len p (rest ++ s.back)) (omega arith) in
      (lead, ap (shortened p) behind ∙ cut)
