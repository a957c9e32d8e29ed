-- One call more: the stretch in force, its text, and the last stretch of each name.
use Rattle.std.proofs.Common.{◌≡◌, ℕ, ◌+◌, ◌<◌, ◌≤◌, Bool, true, false, cond, ◌&&◌, ◌⊎◌, List, [], ◌∷◌, ◌++◌, length, Some, None, Option, sym, refl, ap, ◌∙◌, inl, inr, arith}
use Rattle.std.specs.Option.{option_map}
use Rattle.std.proofs.lemmas.List.{append-nil, flat_map_more, length-append}
use Rattle.std.proofs.lemmas.Bool.{cases_Bool, cases_eq, eq-eqb, le-leb, leb-true, ne_eqb, true≢false}
use Rattle.rules.specs.declared.meaning.Meaning.{Meaning}
use Rattle.rules.specs.declared.meaning.Meaning.TheVariants.{Opens, Continues, Stray}
use Rattle.reader.specs.Steps.{Setup, asked_by}
use Rattle.reader.specs.Stretches.{Stretch, adds, asked, begins, begins_for, boundary, every, fits, goes_by, heard, in_force, is_name, last_stretch, on_course, or_else, readable, running, sound_since, starts, text_of, up_to_turn}
use Rattle.reader.specs.declared.calls.Call.{Call}
use Rattle.reader.specs.declared.calls.Call.TheVariants.{Line, Close, Ask}
use Rattle.reader.proofs.Boundaries.{begins_same, heard_append, in_force_append, last_before}
use Rattle.names.proofs.Naming.{index_bound}

-- a test that holds adds nothing
pub and_true : (b : Bool) → (b && true) ≡ b
and_true true = refl
and_true false = refl

-- with one that fails, both fail
pub and_false : (b : Bool) → (b && false) ≡ false
and_false true = refl
and_false false = refl

-- three tests in either grouping
and_assoc : (a b c : Bool) → ((a && b) && c) ≡ (a && (b && c))
and_assoc true b c = refl
and_assoc false b c = refl

-- a test made twice
and_twice : (a b : Bool) → ((a && b) && b) ≡ (a && b)
and_twice true true = refl
and_twice true false = refl
and_twice false b = refl

-- the second of four tests is left out where the last says it too
regroup : (a b c d : Bool) → (d ≡ true → b ≡ true) → ((a && c) && d) ≡ ((a && b) && (c && d))
regroup false b c d h = refl
regroup true true c d h = refl
regroup true false false d h = refl
regroup true false true true h = sym (h refl)
regroup true false true false h = refl

-- no name is not some name
pub none_some : (i : ℕ) → ◌≡◌ {A = Option ℕ} None (Some i) → ⊥
none_some i e = let z : ◌≡◌ {A = ℕ} 0 1 = cc in omega arith

-- a stretch is not no stretch
pub some_none : (s : Stretch) → ◌≡◌ {A = Option Stretch} (Some s) None → ⊥
some_none s e = let z : ◌≡◌ {A = ℕ} 0 1 = cc in omega arith

-- a name is this one or not
pub some_or : (o : Option ℕ) (i : ℕ) → (o ≡ Some i) ⊎ (o ≡ Some i → ⊥)
some_or None i = inr (none_some i)
some_or (Some k) i = elim (cases_eq k i) [ inl e ↦ inl (ap Some e) | inr n ↦ inr (λ e. n (cc)) ]

-- a stretch is there or not
pub look : (o : Option Stretch) → (o ≡ None) ⊎ ((s : Stretch) × (o ≡ Some s))
look None = inl refl
look (Some s) = inr (s, refl)

-- neither of two is there
or_none : (a b : Option Stretch) → or_else a b ≡ None → (a ≡ None) × (b ≡ None)
or_none None b e = (refl, e)
or_none (Some s) b e = absurd (some_none s e)

-- what is done to each of two is done to the one taken
or_mapped : (g : Stretch → Stretch) (a b : Option Stretch) → or_else (option_map g a) (option_map g b) ≡ option_map g (or_else a b)
or_mapped g None b = refl
or_mapped g (Some x) b = refl

-- what is done to a stretch under a test is done to what the test gives
cond_mapped : (g : Stretch → Stretch) (b : Bool) (x : Stretch) → cond b (Some (g x)) None ≡ option_map g (cond b (Some x) None)
cond_mapped g true x = refl
cond_mapped g false x = refl

-- what holds of every call and of one more
pub every_push : (p : Call → Bool) (xs : List Call) (c : Call) → every p (xs ++ (c ∷ [])) ≡ (every p xs && p c)
every_push p [] c = and_true (p c)
every_push p (x ∷ xs) c = ap (λ b. p x && b) (every_push p xs c) ∙ sym (and_assoc (p x) (every p xs) (p c))

-- calls that close nothing are all heard
pub heard_all : (h : List Call) → running h ≡ true → heard h ≡ h
heard_all h r = ap heard (sym (append-nil h)) ∙ heard_append h [] r ∙ append-nil h

-- what comes after a closing is not heard
pub heard_shut : (h cs : List Call) → running h ≡ false → heard (h ++ cs) ≡ heard h
heard_shut [] cs r = absurd (true≢false r)
heard_shut (c ∷ h) cs r =
    elim (cases_Bool (goes_by c)) [
      | inl t ↦ rw t (ap (λ x. c ∷ x) (heard_shut h cs (ap (λ b. b && running h) (sym t) ∙ r)))
      | inr t ↦ rw t
    ]

-- a stretch with one call more
abbrev pub more : Call → Stretch → Stretch
more c s = record { first = s.first; rest = s.rest ++ (c ∷ []) }

module _ (q : Setup) where
  -- the asked name that a stretch opens
  abbrev pub asked_in : Option Stretch → Option ℕ
  asked_in None = None
  asked_in (Some s) = asked q s.first

  -- and its text
  abbrev pub text_in : Option Stretch → List ℕ
  text_in None = []
  text_in (Some s) = text_of q s

  -- a call that is no boundary goes on in the stretch in force
  pub in_force_past : (h : List Call) (c : Call) → boundary q c ≡ false → in_force q (h ++ (c ∷ [])) ≡ option_map (more c) (in_force q h)
  in_force_past [] c e = rw e
  in_force_past (x ∷ h) c e =
      rw (in_force_past h c e, cond_mapped (more c) (boundary q x) record { first = x; rest = h }) (or_mapped (more c) (in_force q h) (begins q x h))

  -- a boundary begins a stretch
  pub in_force_at : (h : List Call) (c : Call) → boundary q c ≡ true → in_force q (h ++ (c ∷ [])) ≡ Some record { first = c; rest = [] }
  in_force_at h c e = in_force_append q h (c ∷ []) _ (rw e)

  -- the call opens no name
  pub asked_more : (c : Call) (t : Option Stretch) → asked_in (option_map (more c) t) ≡ asked_in t
  asked_more c None = refl
  asked_more c (Some s) = refl

  -- what it adds stands behind the text
  pub text_more : (c : Call) (s : Stretch) → text_of q (more c s) ≡ text_of q s ++ adds q c
  text_more c s = sym (flat_map_more (adds q) (starts q s.first) s.rest c)

  -- and it is so much longer
  size_of : (c : Call) (s : Stretch) (k : ℕ) → length (adds q c) ≡ k → length (text_of q (more c s)) ≡ length (text_of q s) + k
  size_of c s k e = let g = ap length (text_more c s) ∙ length-append (text_of q s) (adds q c) in omega arith

  -- it fits if it fits with what the call adds
  pub fits_more : (c : Call) (t : Option Stretch) (k : ℕ) → length (adds q c) ≡ k →
      fits q (asked_in t) (length (text_in (option_map (more c) t))) ≡ fits q (asked_in t) (length (text_in t) + k)
  fits_more c None k e = refl
  fits_more c (Some s) k e = ap (fits q (asked q s.first)) (size_of c s k e)

  -- a name that has room for more has room for less
  fits_less : (o : Option ℕ) (n m : ℕ) → n ≤ m → fits q o m ≡ true → fits q o n ≡ true
  fits_less None n m h t = refl
  fits_less (Some i) n m h t = le-leb n q.share (omega (arith, leb-true m q.share t))

  -- every name has room for a share
  pub fits_any : (o : Option ℕ) (n : ℕ) → n ≤ q.share → fits q o n ≡ true
  fits_any None n h = refl
  fits_any (Some i) n h = le-leb n q.share h

  -- a stretch of which nothing was lost fits
  pub sound_fits : (h : List Call) (t : Option Stretch) → (sound_since q h t && fits q (asked_in t) (length (text_in t))) ≡ sound_since q h t
  sound_fits h None = and_true _
  sound_fits h (Some s) = and_twice (every readable s.rest) (fits q (asked q s.first) (length (text_of q s)))

  -- a call that is no boundary keeps the reader on course if it can be read and the name has room
  pub course_past : (h : List Call) (c : Call) → boundary q c ≡ false →
      on_course q (h ++ (c ∷ []))
      ≡ (on_course q h && (readable c && fits q (asked_in (in_force q h)) (length (text_in (option_map (more c) (in_force q h))))))
  course_past h c e = rw (in_force_past h c e) (by (in_force q h))
    where
      by : (t : Option Stretch) → sound_since q (h ++ (c ∷ [])) (option_map (more c) t)
          ≡ (sound_since q h t && (readable c && fits q (asked_in t) (length (text_in (option_map (more c) t)))))
      by None = every_push readable h c ∙ ap (λ b. every readable h && b) (sym (and_true (readable c)))
      by (Some s) =
          let le : length (text_of q s) ≤ length (text_of q (more c s)) = omega (arith, size_of c s _ refl) in
          ap (λ b. b && fits q (asked q s.first) (length (text_of q (more c s)))) (every_push readable s.rest c)
          ∙ regroup _ _ _ _ (fits_less (asked q s.first) _ _ le)

  -- a call that can be read and adds nothing leaves the reader on course, or lost
  pub course_idle : (h : List Call) (c : Call) → boundary q c ≡ false → readable c ≡ true → length (adds q c) ≡ 0 →
      on_course q (h ++ (c ∷ [])) ≡ on_course q h
  course_idle h c e r k =
      let n : length (text_in (in_force q h)) + 0 ≡ length (text_in (in_force q h)) = omega arith in
      course_past h c e ∙ ap (λ b. on_course q h && (b && fits q (asked_in (in_force q h)) (length (text_in (option_map (more c) (in_force q h)))))) r
      ∙ ap (λ b. on_course q h && b) (fits_more c (in_force q h) _ k ∙ ap (fits q (asked_in (in_force q h))) n) ∙ sound_fits h (in_force q h)

  -- a boundary brings the reader on course, if the name has room for what it starts with
  pub course_at : (h : List Call) (c : Call) → boundary q c ≡ true → fits q (asked q c) (length (starts q c)) ≡ true → on_course q (h ++ (c ∷ [])) ≡ true
  course_at h c e room =
      ap (sound_since q (h ++ (c ∷ []))) (in_force_at h c e) ∙ ap (λ x. fits q (asked q c) (length x)) (append-nil (starts q c)) ∙ room

  -- the name that a line opens is one of those asked for
  opens_few : (m : Meaning) (line : List ℕ) (i : ℕ) → asked_by q m line ≡ Some i → i < length q.names
  opens_few (Opens name text) line i e = index_bound q.names _ i e
  opens_few Continues line i e = absurd (none_some i e)
  opens_few Stray line i e = absurd (none_some i e)

  -- so is the one that a call opens
  call_few : (c : Call) (i : ℕ) → asked q c ≡ Some i → i < length q.names
  call_few (Line l) i e = opens_few (q.meaning l.now) l.now i e
  call_few Close i e = absurd (none_some i e)
  call_few (Ask k t) i e = absurd (none_some i e)

  -- and the one that a stretch opens
  pub asked_few : (t : Option Stretch) (i : ℕ) → asked_in t ≡ Some i → i < length q.names
  asked_few None i e = absurd (none_some i e)
  asked_few (Some s) i e = call_few s.first i e

  -- the test for a name holds of that name
  is_name_lem : (i : ℕ) (o : Option ℕ) → o ≡ Some i → is_name q i o ≡ true
  is_name_lem i None e = absurd (none_some i e)
  is_name_lem i (Some k) e = eq-eqb i k (cc)

  -- and of no other
  not_name : (i : ℕ) (o : Option ℕ) → (o ≡ Some i → ⊥) → is_name q i o ≡ false
  not_name i None n = refl
  not_name i (Some k) n = ne_eqb i k (λ e. n (ap Some (sym e)))

  -- a call that begins no stretch is no boundary
  begun_no : (x : Call) (xs : List Call) → begins q x xs ≡ None → boundary q x ≡ false
  begun_no x xs e = elim (cases_Bool (boundary q x)) [
    | inl t ↦ absurd (some_none record { first = x; rest = xs } (ap (λ b. cond b (Some record { first = x; rest = xs }) None) (sym t) ∙ e))
    | inr t ↦ t
  ]

  -- a call that begins a stretch is a boundary, and the first of it
  begun : (x : Call) (xs : List Call) (s : Stretch) → begins q x xs ≡ Some s → (boundary q x ≡ true) × (record { first = x; rest = xs } ≡ s)
  begun x xs s e = elim (cases_Bool (boundary q x)) [
    | inl t ↦ (let v = ap (λ b. cond b (Some record { first = x; rest = xs }) None) (sym t) ∙ e in (t, cc))
    | inr t ↦ absurd (some_none s (sym (ap (λ b. cond b (Some record { first = x; rest = xs }) None) (sym t) ∙ e)))
  ]

  -- calls with no boundary are not cut
  uncut : (xs : List Call) → in_force q xs ≡ None → up_to_turn q xs ≡ xs
  uncut [] e = refl
  uncut (x ∷ xs) e =
      let p = or_none (in_force q xs) (begins q x xs) e in
      rw (begun_no x xs p.1) (ap (λ r. x ∷ r) (uncut xs p.0))

  -- and open nothing
  unopened : (i : ℕ) (xs : List Call) → in_force q xs ≡ None → last_stretch q i xs ≡ None
  unopened i [] e = refl
  unopened i (x ∷ xs) e =
      let p = or_none (in_force q xs) (begins q x xs) e in
      rw (unopened i xs p.0, begun_no x xs p.1)

  -- calls with a boundary are cut there, whatever follows
  cut : (xs ys : List Call) (s : Stretch) → in_force q xs ≡ Some s → up_to_turn q (xs ++ ys) ≡ up_to_turn q xs
  cut [] ys s e = absurd (some_none s (sym e))
  cut (x ∷ xs) ys s e =
      elim (look (in_force q xs)) [
        | inl n ↦ rw (begun x xs s (ap (λ o. or_else o (begins q x xs)) (sym n) ∙ e)).0
        | inr p ↦ ap (λ r. cond (boundary q x) [] (x ∷ r)) (cut xs ys p.0 p.1)
      ]

  -- a boundary that opens a name, with no other behind it, begins that name's last stretch
  begins_for_lem : (i : ℕ) (x : Call) (xs : List Call) (s : Stretch) → begins q x xs ≡ Some s → asked q s.first ≡ Some i →
      up_to_turn q xs ≡ xs → begins_for q i x xs ≡ Some s
  begins_for_lem i x xs s e a u =
      let b = begun x xs s e in
      let w = is_name_lem i (asked q x) (ap (λ (z : Stretch). asked q z.first) b.1 ∙ a) in
      rw (b.0, w, u) (ap Some b.1)

  -- the last stretch of the name that the stretch in force opens is that stretch
  pub current_stretch : (i : ℕ) (h : List Call) (s : Stretch) → in_force q h ≡ Some s → asked q s.first ≡ Some i → last_stretch q i h ≡ Some s
  current_stretch i [] s e a = e
  current_stretch i (x ∷ xs) s e a =
      elim (look (in_force q xs)) [
        | inl n ↦
            (let b = ap (λ o. or_else o (begins q x xs)) (sym n) ∙ e in
            ap (λ o. or_else o (begins_for q i x xs)) (unopened i xs n) ∙ begins_for_lem i x xs s b a (uncut xs n))
        | inr p ↦
            (let v : ◌≡◌ {A = Option Stretch} (Some p.0) (Some s) = ap (λ o. or_else o (begins q x xs)) (sym p.1) ∙ e in
            ap (λ o. or_else o (begins_for q i x xs)) (current_stretch i xs s (p.1 ∙ v) a))
      ]

  -- a call that does not open a name begins no stretch of it
  no_begin : (i : ℕ) (x : Call) (xs ys : List Call) → (asked_in (begins q x xs) ≡ Some i → ⊥) → begins_for q i x ys ≡ None
  no_begin i x xs ys n =
      elim (cases_Bool (boundary q x)) [
        | inl t ↦ rw (t, not_name i (asked q x) (λ y. n (ap (λ b. asked_in (cond b (Some record { first = x; rest = xs }) None)) t ∙ y)))
        | inr t ↦ rw t
      ]

  -- a call that is no boundary leaves the last stretches of the names that are not open
  pub other_stretch : (i : ℕ) (h : List Call) (c : Call) → boundary q c ≡ false → (asked_in (in_force q h) ≡ Some i → ⊥) →
      last_stretch q i (h ++ (c ∷ [])) ≡ last_stretch q i h
  other_stretch i [] c e n = rw e
  other_stretch i (x ∷ xs) c e n =
      elim (look (in_force q xs)) [
        | inl m ↦
            (let g = other_stretch i xs c e (λ y. none_some i (ap asked_in (sym m) ∙ y)) in
            let k : (ys : List Call) → begins_for q i x ys ≡ None =
            λ ys. no_begin i x xs ys (λ y. n (ap (λ o. asked_in (or_else o (begins q x xs))) m ∙ y)) in
            ap (λ o. or_else o (begins_for q i x (xs ++ (c ∷ [])))) g ∙ ap (or_else (last_stretch q i xs)) (k (xs ++ (c ∷ [])) ∙ sym (k xs)))
        | inr p ↦
            (let g = other_stretch i xs c e (λ y. n (ap (λ o. asked_in (or_else o (begins q x xs))) p.1 ∙ ap asked_in (sym p.1) ∙ y)) in
            ap (λ o. or_else o (begins_for q i x (xs ++ (c ∷ [])))) g
            ∙ ap (or_else (last_stretch q i xs)) (begins_same q i x (xs ++ (c ∷ [])) xs (cut xs (c ∷ []) p.0 p.1)))
      ]

  -- a call leaves the last stretches of the names that the stretch then in force does not open
  pub others_stay : (i : ℕ) (h : List Call) (c : Call) → (asked_in (in_force q (h ++ (c ∷ []))) ≡ Some i → ⊥) →
      last_stretch q i (h ++ (c ∷ [])) ≡ last_stretch q i h
  others_stay i h c n =
      elim (cases_Bool (boundary q c)) [
        | inl t ↦
            (let same = in_force_at h c t ∙ sym (in_force_at [] c t) in
            last_before q i h [] c t (no_begin i c [] [] (λ y. n (ap asked_in same ∙ y))))
        | inr t ↦ other_stretch i h c t (λ y. n (ap asked_in (in_force_past h c t) ∙ asked_more c (in_force q h) ∙ y))
      ]

  -- no name beyond those asked for has a stretch
  pub stretch_few : (i : ℕ) (h : List Call) → length q.names ≤ i → last_stretch q i h ≡ None
  stretch_few i [] l = refl
  stretch_few i (x ∷ h) l =
      ap (λ o. or_else o (begins_for q i x h)) (stretch_few i h l)
      ∙ no_begin i x h h (λ y. (let b = asked_few (begins q x h) i y in omega arith))
