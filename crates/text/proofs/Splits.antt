-- What the lines of a text are.
use Rattle.std.proofs.Common.{◌≡◌, ℕ, ◌+◌, ◌<◌, true, false, eqb, List, [], ◌∷◌, ◌++◌, length, get_or, take, drop, Some, sym, refl, ap, ◌∙◌, inl, inr, append_assoc, add-one, sub-one, one-add, arith, length-drop, length-take}
use Rattle.std.specs.List.{prefix_len, All}
use Rattle.std.proofs.lemmas.List.Elements.{All-cons, All-head, All-nil, All-tail}
use Rattle.std.proofs.lemmas.List.Sums.{prefix_len-le-length}
use Rattle.std.proofs.lemmas.Bool.{cases_Bool, eqb-true, not-false}
use Rattle.text.specs.Lines.{inside, before, lines_of, unlines, ended, Cuts, Splits}

-- the first line is what stands before the first line feed
pub lines_cut : (text : List ℕ) → 0 < length text →
    lines_of text ≡ take (prefix_len inside text) text ∷ lines_of (drop (prefix_len inside text + 1) text)
lines_cut [] some = absurd (omega arith)
lines_cut (b ∷ []) some = elim (cases_Bool (inside b)) [ inl t ↦ rw t | inr f ↦ rw f ]
lines_cut (b ∷ c ∷ cs) some =
    elim (cases_Bool (inside b)) [
      | inl t ↦ rw (t, lines_cut (c ∷ cs) (omega arith)) (simp (one-add, add-one))
      | inr f ↦ rw f
    ]

-- the first line and the rest behind its line feed, which may be wanting at the end of the text
pub line_cut : (text line rest : List ℕ) → 0 < length text →
    line ≡ take (prefix_len inside text) text → rest ≡ drop (prefix_len inside text + 1) text → Cuts text (Some (line, rest))
line_cut text line rest some front back =
    let end = prefix_len inside text in
    let wide : length (take end text) ≡ end = omega (arith, length-take end text, prefix_len-le-length inside text) in
    let short = length-drop (end + 1) text in
    rw (front, back) (lines_cut text some, ap (λ n. drop (n + 1) text) (sym wide), omega arith)

-- a byte that is no line feed
abbrev Inside : ℕ → Type 0
Inside b = inside b ≡ true

-- a line that holds no line feed
abbrev pub Apart : List ℕ → Type 0
Apart line = All Inside line

-- lines stay without line feeds when another byte is put before the first
before_apart : (b : ℕ) (ls : List (List ℕ)) → Inside b → All Apart ls → All Apart (before b ls)
before_apart b [] t apart = All-cons Apart (b ∷ []) [] (All-cons Inside b [] t (All-nil Inside)) apart
before_apart b (l ∷ ls) t apart =
    All-cons Apart (b ∷ l) ls (All-cons Inside b l t (All-head Apart l ls apart)) (All-tail Apart l ls apart)

-- no line holds a line feed
pub lines_apart : (text : List ℕ) → All Apart (lines_of text)
lines_apart [] = All-nil Apart
lines_apart (b ∷ bs) =
    elim (cases_Bool (inside b)) [
      | inl t ↦ rw t (before_apart b (lines_of bs) t (lines_apart bs))
      | inr f ↦ rw f (All-cons Apart [] (lines_of bs) (All-nil Inside) (lines_apart bs))
    ]

-- what no line may hold is a line feed
feed : (b : ℕ) → inside b ≡ false → b ≡ 10
feed b f = eqb-true b 10 (not-false (eqb b 10) f)

-- the first byte of two or more stands first in the lines put together
unlines_cons : (b c : ℕ) (cs : List ℕ) → unlines (lines_of (b ∷ c ∷ cs)) ≡ b ∷ unlines (lines_of (c ∷ cs))
unlines_cons b c cs =
    elim (cases_Bool (inside b)) [ inl t ↦ rw (t, lines_cut (c ∷ cs) (omega arith)) | inr f ↦ rw f (rw (feed b f)) ]

-- the first byte of two or more has no say in whether a line feed is wanting at the end
ended_cons : (b c : ℕ) (cs : List ℕ) → ended (b ∷ c ∷ cs) ≡ b ∷ ended (c ∷ cs)
ended_cons b c cs =
    elim (cases_Bool (inside (get_or (c ∷ cs) (length cs) 10))) [ inl t ↦ simp (sub-one, t) | inr f ↦ simp (sub-one, f) ]

-- put together again, the lines are the text, with a line feed behind the last
lines_whole : (text : List ℕ) → unlines (lines_of text) ≡ ended text
lines_whole [] = refl
lines_whole (b ∷ []) = elim (cases_Bool (inside b)) [ inl t ↦ rw t | inr f ↦ rw f (rw (feed b f)) ]
lines_whole (b ∷ c ∷ cs) = unlines_cons b c cs ∙ ap (λ bs. b ∷ bs) (lines_whole (c ∷ cs)) ∙ sym (ended_cons b c cs)

-- the lines of a text are what it splits into
pub lines_split : (text : List ℕ) → Splits text (lines_of text)
lines_split text = record { apart = lines_apart text; whole = lines_whole text }

-- a text that begins with a line and a line feed has that line and then those of the rest
lines_behind : (line rest : List ℕ) → Apart line → lines_of (line ++ 10 ∷ rest) ≡ line ∷ lines_of rest
lines_behind [] rest apart = refl
lines_behind (b ∷ bs) rest apart = rw (All-head Inside b bs apart, lines_behind bs rest (All-tail Inside b bs apart))

-- lines without line feeds, put together, are the lines of the text that they make
pub lines_unlines : (lines : List (List ℕ)) → All Apart lines → lines_of (unlines lines) ≡ lines
lines_unlines [] apart = refl
lines_unlines (l ∷ ls) apart =
    let first = lines_behind l (unlines ls) (All-head Apart l ls apart) in
    rw append_assoc (rw (first, lines_unlines ls (All-tail Apart l ls apart)))

-- a text splits into its lines only
pub lines_only : (text : List ℕ) (lines : List (List ℕ)) → Splits text lines → lines ≡ lines_of text
lines_only text lines s =
    sym (lines_unlines lines s.apart) ∙ ap lines_of (s.whole ∙ sym (lines_whole text)) ∙ lines_unlines (lines_of text) (lines_apart text)
