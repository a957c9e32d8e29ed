-- What is written into a share.
use Rattle.std.proofs.Common.{◌≡◌, ℕ, ◌+◌, ◌-◌, ◌≤◌, cond, ltb, List, [], ◌∷◌, ◌++◌, length, take, drop, replicate, IfSome, Some, None, Option, ap, ◌∙◌, inl, inr, arith, take-add}
use borrow.Rule.Slice.PartMut.{put_mid}
use Rattle.std.proofs.lemmas.List.{append_assoc, drop-drop, length-append, length_push, length-replicate, length-drop, length-take-le, take_at, take-take, drop-take, take-append-drop}
use Rattle.std.proofs.lemmas.Bool.{cases_Bool, ltb-true}
use Rattle.std.proofs.lemmas.Slice.{drop-append-drop}
use Rattle.text.specs.Lines.{fed, put}
use Rattle.reader.specs.Shelves.{opening_text}

-- the front of a share filled with t spaces, and the rest of the line behind them
pub opened : (s l fs ds : List ℕ) (t m : ℕ) → m ≡ t → fs ≡ replicate t 32 → ds ≡ drop t l → t ≤ length l → length l + 1 ≤ length s →
    (length l + 1 ≡ length (fed (replicate t 32 ++ drop t l)))
    × (put t (fed ds) (fs ++ drop m s) ≡ put 0 (fed (replicate t 32 ++ drop t l)) s)
opened s l fs ds t m at same rest h k =
    let n : length (replicate {A = ℕ} t 32) ≡ t = length-replicate t 32 in
    let nf : length fs ≡ t = ap length same ∙ n in
    let d = length-drop t l in
    let p = length_push (drop t l) 10 in
    let q = length_push (replicate t 32 ++ drop t l) 10 in
    let a = length-append (replicate t 32) (drop t l) in
    let tk = take_at fs (drop t s) t nf in
    let dr = drop-append-drop t s fs (t + length (fed (drop t l))) (omega arith) nf in
    let ln : t + length (fed (drop t l)) ≡ 0 + length (fed (replicate t 32 ++ drop t l)) = omega arith in
    let a1 = append_assoc (replicate t 32) (drop t l) (10 ∷ []) in
    let a2 = append_assoc (replicate t 32) (fed (drop t l)) (drop (t + length (fed (drop t l))) s) in
    (omega arith, cc)

-- what is written into a part of the shelf is written into the shelf, and nothing else changes
pub within_part : (s bs ys : List ℕ) (a k l u : ℕ) → l ≡ k → u + length bs ≤ k → a + k ≤ length s →
    ys ≡ put u bs (take l (drop a s)) → put_mid a l s ys ≡ put (a + u) bs s
within_part s bs ys a k l u same h fits is =
    let q = drop a s in
    let n = u + length bs in
    let m = k - n in
    let e : n + m ≡ k = omega arith in
    let t1 = take-take u k q (omega arith) in
    let t2 = take-add a u s in
    let d1 = drop-take n m q in
    let d2 = drop-drop m n q in
    let d3 = take-append-drop m (drop n q) in
    let d4 = drop-drop n a s in
    let a1 = append_assoc (take u q) (bs ++ drop n (take k q)) (drop k q) in
    let a2 = append_assoc bs (drop n (take k q)) (drop k q) in
    let a3 = append_assoc (take a s) (take u q) (bs ++ drop n q) in
    let g : a + n ≡ a + u + length bs = omega arith in
    cc

-- a part written back as it was changes nothing
part_back : (s : List ℕ) (a l : ℕ) → put_mid a l s (take l (drop a s)) ≡ s
part_back s a l = ap (λ x. take a s ++ x) (take-append-drop l (drop a s)) ∙ take-append-drop a s

-- a line written into a part of the shelf, if the part has room behind its first u bytes, is written into the shelf
pub append_part : (s line ys : List ℕ) (a l share u : ℕ) → l ≡ share → a + share ≤ length s →
    ys ≡ cond (ltb (u + length line) (length (take l (drop a s)))) (put u (fed line) (take l (drop a s))) (take l (drop a s)) →
    put_mid a l s ys ≡ cond (ltb (u + length line) share) (put (a + u) (fed line) s) s
append_part s line ys a l share u same fits is =
    let size : length (take l (drop a s)) ≡ share = length-take-le l (drop a s) (omega (arith, length-drop a s)) ∙ same in
    let test = ap (λ n. cond (ltb (u + length line) n) (put u (fed line) (take l (drop a s))) (take l (drop a s))) size in
    elim (cases_Bool (ltb (u + length line) share)) [
      | inl t ↦
          (let room = ltb-true (u + length line) share t in
          let ends : u + length (fed line) ≤ share = omega (arith, length_push line 10) in
          rw t (within_part s (fed line) ys a share l u same ends fits (is ∙ test ∙ (rw t))))
      | inr f ↦ rw f (ap (put_mid a l s) (is ∙ test ∙ (rw f)) ∙ part_back s a l)
    ]

-- what a line that opens stores is at most as long as the line and an LF
pub opening_fits : (text : Option ℕ) (line : List ℕ) → IfSome text (λ t. t ≤ length line) → length (opening_text text line) ≤ length line + 1
opening_fits None line h = omega arith
opening_fits (Some t) line h =
    let n : length (replicate {A = ℕ} t 32) ≡ t = length-replicate t 32 in
    omega (arith, length_push (replicate t 32 ++ drop t line) 10, length-append (replicate {A = ℕ} t 32) (drop t line), length-drop t line)
