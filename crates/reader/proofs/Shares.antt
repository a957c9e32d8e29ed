-- Writing into one share of a shelf.
use Rattle.std.proofs.Common.{◌≡◌, ℕ, ◌+◌, ◌-◌, ◌*◌, ◌≤◌, List, ◌++◌, length, take, drop, sym, ap, ◌∙◌, inl, inr, arith}
use Rattle.std.proofs.lemmas.List.{append_assoc, take-append-le, drop-append-le, take-take, drop-take, length-take-le, length-append, drop_at, take_at, drop-drop, length-drop}
use Rattle.std.proofs.lemmas.Bool.{cases_order}
use Rattle.text.specs.Lines.{put}
use Rattle.reader.proofs.Stepping.{part_ends}

-- what lies before the bytes that are written
pub put_front : (at n : ℕ) (bs shelf : List ℕ) → n ≤ at → at ≤ length shelf → take n (put at bs shelf) ≡ take n shelf
put_front at n bs shelf h k =
    let e = length-take-le at shelf k in
    take-append-le n (take at shelf) _ (omega arith) ∙ take-take n at shelf h

-- what lies behind them
pub put_back : (at n : ℕ) (bs shelf : List ℕ) → at + length bs ≤ n → at ≤ length shelf → drop n (put at bs shelf) ≡ drop n shelf
put_back at n bs shelf h k =
    let e = length-take-le at shelf k in
    let m = at + length bs in
    let q : length (take at shelf ++ bs) ≡ m = omega (arith, length-append (take at shelf) bs) in
    let a = append_assoc (take at shelf) bs (drop m shelf) in
    let d = drop_at (take at shelf ++ bs) (drop m shelf) m q in
    let x = drop-drop (n - m) m (put at bs shelf) in
    let y = drop-drop (n - m) m shelf in
    let z : m + (n - m) ≡ n = omega arith in
    ap (λ j. drop j (put at bs shelf)) (sym z) ∙ sym x ∙ ap (λ l. drop (n - m) (drop m l)) (sym a) ∙ ap (drop (n - m)) d ∙ y ∙ ap (λ j. drop j shelf) z

-- the part of the shelf from m on, n bytes long, as a front
between : (m n : ℕ) (xs : List ℕ) → take n (drop m xs) ≡ drop m (take (m + n) xs)
between m n xs = sym (drop-take m n xs)

-- a write into one share leaves the others
pub share_other : (i k share at n : ℕ) (bs shelf : List ℕ) → (i ≡ k → ⊥) → k * share ≤ at → at + length bs ≤ k * share + share → n ≤ share → at ≤ length shelf →
    take n (drop (i * share) (put at bs shelf)) ≡ take n (drop (i * share) shelf)
share_other i k share at n bs shelf ne low high short fits =
    elim (cases_order i k) [
      | inl e ↦ absurd (ne e)
      | inr o ↦
          elim o [
            | inl l ↦
                (let p = part_ends i k share (k * share) l (omega arith) in
                between (i * share) n (put at bs shelf) ∙ ap (drop (i * share)) (put_front at (i * share + n) bs shelf (omega arith) fits) ∙ sym (between (i * share) n shelf))
            | inr l ↦
                (let p = part_ends k i share (i * share) l (omega arith) in
                ap (take n) (put_back at (i * share) bs shelf (omega arith) fits))
          ]
    ]

-- a write behind the u bytes that a share has
pub share_here : (m u : ℕ) (bs shelf : List ℕ) → m + u ≤ length shelf → take (u + length bs) (drop m (put (m + u) bs shelf)) ≡ take u (drop m shelf) ++ bs
share_here m u bs shelf fits =
    let e = length-take-le (m + u) shelf fits in
    let d = drop-append-le m (take (m + u) shelf) (bs ++ drop (m + u + length bs) shelf) (omega arith) in
    let f = drop-take m u shelf in
    let a = append_assoc (take u (drop m shelf)) bs (drop (m + u + length bs) shelf) in
    let l1 = length-take-le u (drop m shelf) (omega (arith, length-drop m shelf)) in
    let l : length (take u (drop m shelf) ++ bs) ≡ u + length bs = omega (arith, length-append (take u (drop m shelf)) bs) in
    let t = take_at (take u (drop m shelf) ++ bs) (drop (m + u + length bs) shelf) (u + length bs) l in
    ap (take (u + length bs)) (d ∙ ap (λ x. x ++ (bs ++ drop (m + u + length bs) shelf)) f ∙ sym a) ∙ t
