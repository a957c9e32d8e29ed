-- A line is lost exactly where the reader leaves its course; what follows from that for the shelf and for the bodies.
use Rattle.std.proofs.Common.{◌≡◌, ℕ, ◌≤◌, min, Bool, true, false, cond, not, ◌&&◌, ◌||◌, ltb, leb, List, [], ◌∷◌, ◌++◌, length, is_some, Some, None, Ok, Err, Option, Result, sym, refl, ap, ◌∙◌, subst, inl, inr, arith, Bor}
use Rattle.std.specs.Option.{option_map}
use Rattle.std.specs.List.{prefix_len}
use Rattle.std.proofs.lemmas.List.{append_assoc, append-nil}
use Rattle.std.proofs.lemmas.Bool.{and_left, and_parts, cases_Bool, false≢true, ltb-false, not-true, true≢false}
use Rattle.refusal.specs.declared.Refusal.{Refusal}
use Rattle.refusal.specs.declared.Refusal.TheVariants.{AlreadyClosed, ShortShelf, StillReading, TornText}
use Rattle.text.specs.Bytes.{plain}
use Rattle.text.specs.Lines.{fault_of, fed}
use Rattle.rules.specs.Laws.{Inside}
use Rattle.rules.specs.declared.meaning.Meaning.{Meaning}
use Rattle.rules.specs.declared.meaning.Meaning.TheVariants.{Opens, Continues, Stray}
use Rattle.reader.specs.Laws.{BodiesWhole, LostLeaveShelf, told, whole_or}
use Rattle.reader.specs.Runs.{had_refusal, heard_as, kept_for, kept_in, loses, lossy, of_stretch, ran, replied, says, says_line, shelf_past, unless_fault, wrote}
use Rattle.reader.specs.Shelves.{starting}
use Rattle.reader.specs.Steps.{Setup, body_of, handed, short, withheld}
use Rattle.reader.specs.Stretches.{Stretch, adds, asked, begins_for, boundary, every, fits, goes_by, heard, in_force, is_name, last_stretch, on_course, or_else, readable, running, starts, text_of, unharmed, up_to_turn}
use Rattle.reader.specs.declared.answer.Answer.{Answer}
use Rattle.reader.specs.declared.calls.Call.{Call}
use Rattle.reader.specs.declared.calls.Call.TheVariants.{Line, Close, Ask}
use Rattle.reader.specs.declared.calls.Reply.TheVariants.{Answered, Body}
use Rattle.reader.proofs.Boundaries.{boundary_goes}
use Rattle.reader.proofs.Histories.{and_false, and_true, asked_in, course_at, course_idle, course_past, every_push, fits_any, look, more, some_none, text_more, text_in}
use Rattle.reader.proofs.Stores.{opening_fits}

-- a line that can be read has at most 1,000 bytes
pub line_bound : (line : List ℕ) → not (is_some (fault_of line)) ≡ true → length line ≤ 1000
line_bound line e =
    let good = min (prefix_len plain line) 1000 in
    elim (cases_Bool (ltb good (length line))) [
      | inl t ↦ absurd (false≢true (ap (λ b. not (is_some (cond b (Some good) None))) (sym t) ∙ e))
      | inr t ↦ omega (arith, ltb-false good (length line) t)
    ]

-- what it stores where it begins a stretch is at most one byte longer
starting_bound : (m : Meaning) (line : List ℕ) → Inside line m → length line ≤ 1000 → length (starting m line) ≤ 1001
starting_bound (Opens name text) line inside few = omega (arith, opening_fits text line inside.2)
starting_bound Continues line inside few = omega arith
starting_bound Stray line inside few = omega arith

-- one list of calls after another
pub ran_append : (f : List Call → Call → List ℕ → List ℕ) (h xs ys : List Call) (bytes : List ℕ) →
    ran f h (xs ++ ys) bytes ≡ ran f (h ++ xs) ys (ran f h xs bytes)
ran_append f h [] ys bytes = ap (λ k. ran f k ys bytes) (sym (append-nil h))
ran_append f h (x ∷ xs) ys bytes =
    ran_append f (h ++ (x ∷ [])) xs ys (f h x bytes) ∙ ap (λ k. ran f k ys (ran f h (x ∷ xs) bytes)) (append_assoc h (x ∷ []) xs)

-- one call more
pub ran_more : (f : List Call → Call → List ℕ → List ℕ) (h : List Call) (c : Call) (bytes : List ℕ) →
    ran f [] (h ++ (c ∷ [])) bytes ≡ f h c (ran f [] h bytes)
ran_more f h c bytes = ran_append f [] h (c ∷ []) bytes

-- neither of two tests holds
and_not : (a b c : Bool) → ((a && not b) && not c) ≡ (a && not (b || c))
and_not true true c = refl
and_not true false c = refl
and_not false b c = refl

-- a test turned round twice
not_not : (b : Bool) → not (not b) ≡ b
not_not true = refl
not_not false = refl

-- one of two by a test, or by the test turned round
cond_not : {X : Type 0} (b : Bool) (x y : X) → cond (not b) y x ≡ cond b x y
cond_not true x y = refl
cond_not false x y = refl

-- the calls before the first closing close nothing
pub heard_runs : (h : List Call) → running (heard h) ≡ true
heard_runs [] = refl
heard_runs (c ∷ h) = elim (cases_Bool (goes_by c)) [ inl t ↦ rw t (rw t (heard_runs h)) | inr t ↦ rw t ]

-- was the line not lost?
abbrev stands : Result Answer Refusal → Bool
stands r = not (lossy (replied Answered r))

-- behind a test that fails it does not matter which result is taken
stands_if : (b x : Bool) (r z : Result Answer Refusal) → x ≡ stands r → (b && x) ≡ (b && stands (cond b r z))
stands_if true x r z e = e
stands_if false x r z e = refl

module _ (q : Setup) where
  -- none of the calls is a boundary
  abbrev pub no_turn : List Call → Bool
  no_turn cs = every (λ d. not (boundary q d)) cs

  -- a call that can be read stores no more than a share holds where it begins a stretch
  pub inside_fits : ((line : List ℕ) → Inside line (q.meaning line)) → 1001 ≤ q.share → (c : Call) → readable c ≡ true →
      length (starts q c) ≤ q.share
  inside_fits inside least (Line l) r = omega (arith, starting_bound (q.meaning l.now) l.now (inside l.now) (line_bound l.now r))
  inside_fits inside least Close r = omega arith
  inside_fits inside least (Ask i t) r = omega arith

  -- a line that continues is not lost exactly where its name has room
  kept_fits : (len : ℕ) (c : Call) (line : List ℕ) (t : Option Stretch) → adds q c ≡ fed line →
      fits q (asked_in q t) (length (text_in q (option_map (more c) t))) ≡ stands (kept_in q len t line)
  kept_fits len c line None e = refl
  kept_fits len c line (Some s) e =
      ap (λ x. fits q (asked q s.first) (length x)) (text_more q c s ∙ ap (λ x. text_of q s ++ x) e)
      ∙ by (asked q s.first) (length (text_of q s ++ fed line))
    where
      by : (o : Option ℕ) (n : ℕ) → fits q o n ≡ stands (kept_for q len o n)
      by None n = refl
      by (Some i) n = elim (cases_Bool (leb n q.share)) [ inl t ↦ rw t | inr t ↦ rw t ]

  module _ (len : ℕ) (h : List Call) where
    -- after a line that is no boundary the reader is on course if it was and the line was not lost, by the line's fault and its meaning
    line_loss : (l : Bor (List ℕ)) (o : Option ℕ) (m : Meaning) → fault_of l.now ≡ o → q.meaning l.now ≡ m → boundary q (Line l) ≡ false →
        on_course q (h ++ (Line l ∷ [])) ≡ (on_course q h && stands (unless_fault q len o (heard_as q len h m l.now)))
    line_loss l (Some at) m bad is e = course_past q h (Line l) e ∙ rw bad
    line_loss l None (Opens name text) clean is e = absurd (true≢false (sym (rw (clean, is)) ∙ e))
    line_loss l None Continues clean is e =
        course_past q h (Line l) e
        ∙ ap (λ o. on_course q h && (not (is_some o) && fits q (asked_in q (in_force q h)) (length (text_in q (option_map (more (Line l)) (in_force q h)))))) clean
        ∙ stands_if (on_course q h) _ _ _ (kept_fits len (Line l) l.now (in_force q h) (rw is))
    line_loss l None Stray clean is e = course_idle q h (Line l) e (rw clean) (rw is) ∙ sym (and_true (on_course q h))

    module _ (run : running h ≡ true) (long : short q len ≡ false) where
      -- while the reader runs and the shelf is not short, only its fault and its meaning tell what is said to a line
      line_says : (l : Bor (List ℕ)) → says_line q len h l.now ≡ unless_fault q len (fault_of l.now) (heard_as q len h (q.meaning l.now) l.now)
      line_says l = rw (run, long)

      -- after a line or a question that is no boundary the reader is on course if it was and no line was lost
      pub course_loss : (c : Call) (target : List ℕ) → boundary q c ≡ false → goes_by c ≡ true →
          on_course q (h ++ (c ∷ [])) ≡ (on_course q h && not (lossy (says q len h c target).reply))
      course_loss (Line l) target e g = line_loss l _ _ refl refl e ∙ ap (λ r. on_course q h && stands r) (sym (line_says l))
      course_loss Close target e g = absurd (false≢true g)
      course_loss (Ask i t) target e g = course_idle q h (Ask i t) e refl refl ∙ rw run (sym (and_true (on_course q h)))

  -- calls that close nothing and are no boundaries lose a line exactly where the reader leaves its course
  pub course_losses : (len : ℕ) (h cs : List Call) → running h ≡ true → short q len ≡ false → no_turn cs ≡ true → running cs ≡ true →
      on_course q (h ++ cs) ≡ (on_course q h && not (loses q len h cs))
  course_losses len h [] run long quiet runs = ap (on_course q) (append-nil h) ∙ sym (and_true (on_course q h))
  course_losses len h (c ∷ cs) run long quiet runs =
      let n = and_parts (not (boundary q c)) (no_turn cs) quiet in
      let g = and_parts (goes_by c) (running cs) runs in
      let lost = lossy (says q len h c []).reply in
      let all = h ++ (c ∷ []) in
      ap (on_course q) (sym (append_assoc h (c ∷ []) cs))
      ∙ course_losses len all cs (every_push goes_by h c ∙ ap (λ b. b && goes_by c) run ∙ g.0) long n.1 g.1
      ∙ ap (λ b. b && not (loses q len all cs)) (course_loss len h run long c [] (not-true (boundary q c) n.0) g.0)
      ∙ and_not (on_course q h) lost (loses q len all cs)

  -- where no call is a boundary, no stretch is in force
  pub none_in_force : (cs : List Call) → no_turn cs ≡ true → in_force q cs ≡ None
  none_in_force [] quiet = refl
  none_in_force (c ∷ cs) quiet =
      let n = and_parts (not (boundary q c)) (no_turn cs) quiet in
      rw (none_in_force cs n.1, not-true (boundary q c) n.0)

  -- a boundary, and calls behind it that are neither boundaries nor closings
  pub record Apart (s : Stretch) : Type 0 where
    pub turns : boundary q s.first ≡ true
    pub quiet : no_turn s.rest ≡ true
    pub runs : running s.rest ≡ true

  -- a line of such a stretch was refused exactly where something of it was lost
  pub had_refusal_lem : ((line : List ℕ) → Inside line (q.meaning line)) → 1001 ≤ q.share → (len : ℕ) → short q len ≡ false →
      (s : Stretch) → Apart s → had_refusal q len s ≡ not (unharmed q s)
  had_refusal_lem inside least len long s apart =
      let b = s.first ∷ [] in
      let fine = and_parts (readable s.first) _ apart.turns in
      let on = course_at q [] s.first apart.turns (fits_any q (asked q s.first) _ (inside_fits inside least s.first fine.0)) in
      let whole : on_course q (b ++ s.rest) ≡ unharmed q s = rw (none_in_force s.rest apart.quiet, apart.turns) in
      let goes : running b ≡ true = rw (boundary_goes q s.first apart.turns) in
      let e = sym whole ∙ course_losses len b s.rest goes long apart.quiet apart.runs ∙ ap (λ x. x && not (had_refusal q len s)) on in
      sym (ap not e ∙ not_not (had_refusal q len s))

  -- the calls up to the next boundary are no boundaries
  up_to_quiet : (xs : List Call) → no_turn (up_to_turn q xs) ≡ true
  up_to_quiet [] = refl
  up_to_quiet (x ∷ xs) = elim (cases_Bool (boundary q x)) [ inl t ↦ rw t | inr t ↦ rw t (rw t (up_to_quiet xs)) ]

  -- and close nothing where none of the calls does
  up_to_runs : (xs : List Call) → running xs ≡ true → running (up_to_turn q xs) ≡ true
  up_to_runs [] run = refl
  up_to_runs (x ∷ xs) run =
      let g = and_parts (goes_by x) (running xs) run in
      elim (cases_Bool (boundary q x)) [ inl t ↦ rw t | inr t ↦ rw t (rw g.0 (up_to_runs xs g.1)) ]

  -- a name's last stretch is a boundary, and calls behind it that are neither boundaries nor closings
  pub last_apart : (i : ℕ) (h : List Call) (s : Stretch) → running h ≡ true → last_stretch q i h ≡ Some s → Apart s
  last_apart i [] s run e = absurd (some_none s (sym e))
  last_apart i (x ∷ xs) s run e =
      let g = and_parts (goes_by x) (running xs) run in
      elim (look (last_stretch q i xs)) [
        | inl n ↦ first (ap (λ o. or_else o (begins_for q i x xs)) (sym n) ∙ e) g.1
        | inr p ↦ last_apart i xs s g.1 (p.1 ∙ ap (λ o. or_else o (begins_for q i x xs)) (sym p.1) ∙ e)
      ]
    where
      first : begins_for q i x xs ≡ Some s → running xs ≡ true → Apart s
      first e run =
          let test = boundary q x && is_name q i (asked q x) in
          let made : Stretch = record { first = x; rest = up_to_turn q xs } in
          elim (cases_Bool test) [
            | inl t ↦
                (let v = ap (λ b. cond b (Some made) None) (sym t) ∙ e in
                let same : made ≡ s = cc in
                subst (λ (z : Stretch). Apart z) same
                record { turns = (and_parts (boundary q x) _ t).0; quiet = up_to_quiet xs; runs = up_to_runs xs run })
            | inr t ↦ absurd (some_none s (sym (ap (λ b. cond b (Some made) None) (sym t) ∙ e)))
          ]

  -- bodies are whole
  pub bodies_whole : 1001 ≤ q.share → ((line : List ℕ) → Inside line (q.meaning line)) → BodiesWhole q
  bodies_whole least inside len h i t target shut long = rw (shut, long) (ap told (by (last_stretch q i (heard h)) refl))
    where
      by : (o : Option Stretch) → last_stretch q i (heard h) ≡ o → of_stretch q len target o ≡ whole_or q len target o
      by None e = refl
      by (Some s) e =
          let refused = had_refusal_lem inside least len long s (last_apart i (heard h) s (heard_runs h) e) in
          let torn = withheld target TornText in
          let whole = handed target (text_of q s) in
          sym (ap (λ b. cond b torn whole) refused ∙ cond_not (unharmed q s) whole torn)

  module _ (len : ℕ) (h : List Call) (l : Bor (List ℕ)) where
    -- what is said to a line, by the closing, the shelf, the line's fault and its meaning
    abbrev said_by : Bool → Bool → Option ℕ → Meaning → Result Answer Refusal
    said_by run few o m = cond run (cond few (Err ShortShelf) (unless_fault q len o (heard_as q len h m l.now))) (Err AlreadyClosed)

    -- a line that is lost is no boundary, the reader runs, and the shelf is not short
    lost_line : (run few : Bool) (o : Option ℕ) (m : Meaning) → fault_of l.now ≡ o → q.meaning l.now ≡ m →
        lossy (replied Answered (said_by run few o m)) ≡ true → (run ≡ true) × (few ≡ false) × (boundary q (Line l) ≡ false)
    lost_line false few o m bad is lost = absurd (false≢true lost)
    lost_line true true o m bad is lost = absurd (false≢true lost)
    lost_line true false (Some at) m bad is lost = (refl, refl, rw bad)
    lost_line true false None (Opens name text) bad is lost = absurd (false≢true lost)
    lost_line true false None Continues bad is lost = (refl, refl, rw (bad, is))
    lost_line true false None Stray bad is lost = absurd (false≢true lost)

    -- where the reader is lost, a line that is no boundary is not written
    not_written : (shelf : List ℕ) (run few : Bool) (o : Option ℕ) (m : Meaning) → fault_of l.now ≡ o → q.meaning l.now ≡ m →
        boundary q (Line l) ≡ false → on_course q h ≡ false → wrote q len (in_force q h) l.now (said_by run few o m) shelf ≡ shelf
    not_written shelf false few o m bad is e lost = refl
    not_written shelf true true o m bad is e lost = refl
    not_written shelf true false (Some at) m bad is e lost = refl
    not_written shelf true false None (Opens name text) bad is e lost = absurd (true≢false (sym (rw (bad, is)) ∙ e))
    not_written shelf true false None Continues bad is e lost = rw lost
    not_written shelf true false None Stray bad is e lost = rw lost (elim (cases_Bool q.fixed.strays_end) [ inl t ↦ rw t | inr t ↦ rw t ])

  -- where the reader is lost, a call that is no boundary leaves the shelf
  shelf_stays : (len : ℕ) (h : List Call) (c : Call) (shelf : List ℕ) → boundary q c ≡ false → on_course q h ≡ false →
      shelf_past q len h c shelf ≡ shelf
  shelf_stays len h (Line l) shelf e lost = not_written len h l shelf (running h) (short q len) _ _ refl refl e lost
  shelf_stays len h Close shelf e lost = refl
  shelf_stays len h (Ask i t) shelf e lost = refl

  -- and so do any number of them
  shelf_rests : (len : ℕ) (h cs : List Call) (shelf : List ℕ) → no_turn cs ≡ true → on_course q h ≡ false →
      ran (shelf_past q len) h cs shelf ≡ shelf
  shelf_rests len h [] shelf quiet lost = refl
  shelf_rests len h (c ∷ cs) shelf quiet lost =
      let n = and_parts (not (boundary q c)) (no_turn cs) quiet in
      let e = not-true (boundary q c) n.0 in
      ap (ran (shelf_past q len) (h ++ (c ∷ [])) cs) (shelf_stays len h c shelf e lost)
      ∙ shelf_rests len (h ++ (c ∷ [])) cs shelf n.1 (course_past q h c e ∙ and_left _ _ lost)

  -- no closing loses a line
  closing_keeps : (len : ℕ) (h : List Call) → lossy (says q len h Close []).reply ≡ false
  closing_keeps len h = elim (cases_Bool (running h)) [ inl t ↦ rw t | inr t ↦ rw t ]

  -- and no question does
  question_keeps : (len : ℕ) (target : List ℕ) (run few : Bool) (o : Option Stretch) →
      lossy (replied Body (cond run (withheld target StillReading) (cond few (withheld target ShortShelf) (of_stretch q len target o))).answer) ≡ false
  question_keeps len target true few o = refl
  question_keeps len target false true o = refl
  question_keeps len target false false None = refl
  question_keeps len target false false (Some s) =
      elim (cases_Bool (unharmed q s)) [
        | inl u ↦ rw u (elim (cases_Bool (leb (length (body_of (text_of q s))) (length target))) [ inl t ↦ rw t | inr t ↦ rw t ])
        | inr u ↦ rw u
      ]

  -- a call that loses a line leaves the shelf, and the reader is lost
  lost_call : (len : ℕ) (h : List Call) (c : Call) (shelf : List ℕ) → lossy (says q len h c []).reply ≡ true →
      (shelf_past q len h c shelf ≡ shelf) × (on_course q (h ++ (c ∷ [])) ≡ false)
  lost_call len h (Line l) shelf lost =
      let p = lost_line len h l (running h) (short q len) _ _ refl refl lost in (
        refused (says_line q len h l.now) lost,
        course_loss len h p.0 p.1 (Line l) [] p.2 refl ∙ ap (λ b. on_course q h && not b) lost ∙ and_false (on_course q h),
      )
    where
      refused : (r : Result Answer Refusal) → lossy (replied Answered r) ≡ true → wrote q len (in_force q h) l.now r shelf ≡ shelf
      refused (Ok a) lost = absurd (false≢true lost)
      refused (Err e) lost = refl
  lost_call len h Close shelf lost = absurd (false≢true (sym (closing_keeps len h) ∙ lost))
  lost_call len h (Ask i t) shelf lost = absurd (false≢true (sym (question_keeps len [] (running h) (short q len) (last_stretch q i (heard h))) ∙ lost))

  -- lost lines leave the shelf alone
  pub lost_leave_shelf : LostLeaveShelf q
  lost_leave_shelf len before rest c shelf lost quiet =
      let old = ran (shelf_past q len) [] before shelf in
      let p = lost_call len before c old lost in
      ran_append (shelf_past q len) [] before (c ∷ rest) shelf
      ∙ ap (ran (shelf_past q len) (before ++ (c ∷ [])) rest) p.0
      ∙ shelf_rests len (before ++ (c ∷ [])) rest old quiet p.1
