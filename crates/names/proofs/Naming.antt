-- Where a name stands among others, and which names can be asked for together.
use Rattle.std.proofs.Common.{◌≡◌, ℕ, ◌+◌, ◌<◌, ◌≤◌, Bool, true, false, cond, not, ◌&&◌, ltb, List, [], ◌∷◌, ◌++◌, map, length, get_or, take, Some, None, Decides, Option, sym, refl, ap, ◌∙◌, subst, ⊎_elim, inl, inr, arith, Bor}
use Rattle.std.specs.Option.{MatchOption}
use Rattle.std.specs.List.{list_all, position, position_or_len, prefix_len, All, Contains}
use Rattle.std.specs.Str.{bytes_eq}
use Rattle.std.proofs.lemmas.Slice.Eq.{bytes_eq-Decides}
use Rattle.std.proofs.lemmas.List.{append_assoc, append-nil, get_or_append_left, get_or_at, get_or-map, get_or_push, length-append, length-map, length_push, take_at, take-map}
use Rattle.std.proofs.lemmas.List.Elements.{All-nil, All-push, at_from_Contains, Contains-get_or}
use Rattle.std.proofs.lemmas.List.Quantifiers.{position-Some}
use Rattle.std.proofs.lemmas.List.Sums.{AllPass-from_list_all, fails_before_first, list_all-from_AllPass, passes_at_first}
use Rattle.std.proofs.lemmas.Bool.{and_from, and_parts, both_ways, cases_lt, cond_both, false≢true, le-leb, le-ltb, leb-true, lt-ltb}
use Rattle.std.proofs.lemmas.Bool.Decides.{Decides-and, Decides-ltb, Decides-not, not_from_Decides}
use Rattle.text.specs.Bytes.{within}
use Rattle.text.specs.Lines.{texts}
use Rattle.names.specs.Asked.{among, fault_after, fitting, index_of, joins, names_fault, printable, Askable, Faults}

-- as many pass from the front of a list as of what it is made of
prefix_len-map : {A B : Type 0} (p : B → Bool) (f : A → B) (xs : List A) → prefix_len p (map f xs) ≡ prefix_len (λ x. p (f x)) xs
prefix_len-map p f [] = refl
prefix_len-map p f (x ∷ xs) = ap (λ n. cond (p (f x)) (1 + n) 0) (prefix_len-map p f xs)

-- the first name is where it is among what holds the names
pub index_of-texts : (names : List (Bor (List ℕ))) (name : List ℕ) → position (λ r. bytes_eq r.now name) names ≡ index_of (texts names) name
index_of-texts names name = rw (prefix_len-map, length-map)

-- it lies within the names
pub index_bound : (names : List (List ℕ)) (name : List ℕ) (i : ℕ) → index_of names name ≡ Some i → i < length names
index_bound names name i e = (position-Some (λ n. bytes_eq n name) names i [] e).0

-- a name is among those that have it
pub among_decides : (names : List (List ℕ)) (name : List ℕ) → Decides (among names name) (Contains names name)
among_decides names name =
    let same : List ℕ → Bool = λ n. bytes_eq n name in
    elim (cases_lt (position_or_len same names) (length names)) [
      | inl found ↦ rw lt-ltb (
        λ t. (position_or_len same names, found, (bytes_eq-Decides (get_or names (position_or_len same names) name) name).0 (passes_at_first same names name found)),
        λ has. refl,
      )
      | inr past ↦ rw le-ltb (
        λ t. absurd (false≢true t),
        λ has. absurd (both_ways (same (get_or names has.0 name)) (fails_before_first same names has.0 name (omega arith)) ((bytes_eq-Decides (get_or names has.0 name) name).1 has.2)),
      )
    ]

abbrev Fits : List ℕ → Type 0
Fits n = (1 ≤ length n) × (length n ≤ 64) × All (λ b. within 32 126 b ≡ true) n

-- a name fits if its length and its bytes do
fitting_decides : (n : List ℕ) → Decides (fitting n) (Fits n)
fitting_decides n = (
  λ t.
      let tests = and_parts (within 1 64 (length n)) (list_all printable n) t in
      let sizes = and_parts _ _ tests.0 in
      (leb-true 1 (length n) sizes.0, leb-true (length n) 64 sizes.1, AllPass-from_list_all printable n tests.1),
  λ f. and_from _ _ (and_from _ _ (le-leb 1 (length n) f.0) (le-leb (length n) 64 f.1)) (list_all-from_AllPass printable n f.2),
)

-- some names, and one behind them
module _ (seen : List (List ℕ)) (n : List ℕ) where
  abbrev Joins : Type 0
  Joins = Fits n × ((Contains seen n → ⊥) × (length seen < 64))

  -- the test says whether it joins them
  joins_decides : Decides (joins seen n) Joins
  joins_decides =
      Decides-and (fitting n) (not (among seen n) && ltb (length seen) 64) (fitting_decides n)
      (Decides-and (not (among seen n)) (ltb (length seen) 64) (Decides-not (among seen n) (among_decides seen n)) (Decides-ltb (length seen) 64))

  -- the others stand where they stood
  seen_at : (j : ℕ) → j < length seen → get_or (seen ++ n ∷ []) j [] ≡ get_or seen j []
  seen_at j h = get_or_append_left seen (n ∷ []) [] j h

  -- where it joins them, it can be asked for with them
  joins_askable : Askable seen → Joins → Askable (seen ++ n ∷ [])
  joins_askable before join =
      let long = length_push seen n in
      record {
        few = omega (arith, join.1.1);
        fit = All-push Fits seen n before.fit join.0;
        once = λ j k h l same. ⊎_elim
            (λ old. before.once j k h old (sym (seen_at j (omega arith)) ∙ same ∙ seen_at k old))
            (λ new.
            let early : j < length seen = omega arith in
            let last = get_or_push seen n [] k (omega arith) in
            join.1.0 (subst (Contains seen) (sym (seen_at j early) ∙ same ∙ last) (Contains-get_or seen j [] early)))
            (cases_lt k (length seen));
      }

  -- where it can be asked for with them, it joins them
  askable_joins : Askable (seen ++ n ∷ []) → Joins
  askable_joins all =
      let long = length_push seen n in
      let last = get_or_push seen n [] (length seen) refl in (
        subst Fits last (all.fit (length seen) [] (omega arith)),
        (
          λ has.
              let at = at_from_Contains seen n has in
              all.once at.0 (length seen) at.1 (omega arith) (seen_at at.0 at.1 ∙ at.2 [] ∙ sym last),
          omega (arith, all.few),
        ),
      )

-- the fault is the first name that does not join those before it
faults_after : (seen ns : List (List ℕ)) → Askable seen → Faults (seen ++ ns) (fault_after seen ns)
faults_after seen [] before = rw append-nil before
faults_after seen (n ∷ ns) before =
    let one = append_assoc seen (n ∷ []) ns in
    let with_it = ap (take (length seen + 1)) (sym one) ∙ take_at (seen ++ n ∷ []) ns (length seen + 1) (length_push seen n) in
    cond_both (joins seen n) (fault_after (seen ++ n ∷ []) ns) (Some (length seen)) (Faults (seen ++ n ∷ ns))
    (λ t. subst (λ names. Faults names (fault_after (seen ++ n ∷ []) ns)) one (faults_after (seen ++ n ∷ []) ns (joins_askable seen n before ((joins_decides seen n).0 t))))
    (λ f. (
      rw length-append (omega arith),
      subst Askable (sym (take_at seen (n ∷ ns) (length seen) refl)) before,
      λ all. not_from_Decides (joins seen n) (joins_decides seen n) f (askable_joins seen n (subst Askable with_it all)),
    ))

-- a list of no names can be asked for
none_askable : Askable []
none_askable = record { few = omega arith; fit = All-nil Fits; once = λ j k h l. absurd (omega arith) }

-- what the fault of some names says of them
pub faults_are : (names : List (List ℕ)) {fault : Option ℕ} → fault ≡ names_fault names → Faults names fault
faults_are names is = subst (Faults names) (sym is) (faults_after [] names none_askable)

-- names with no fault can be asked for together
pub accepted : (names : List (List ℕ)) → names_fault names ≡ None → Askable names
accepted names e = faults_are names (sym e)

-- name i joins those before it, or not
abbrev JoinsAt : List (List ℕ) → Bool → ℕ → Type 0
JoinsAt names b i = joins (take i names) (get_or names i []) ≡ b

-- the name behind those seen joins them, or not, as it does among them all
joins_behind : (seen : List (List ℕ)) (n : List ℕ) (ns : List (List ℕ)) (b : Bool) → JoinsAt (seen ++ n ∷ ns) b (length seen) → joins seen n ≡ b
joins_behind seen n ns b at_seen =
    rw (take_at seen (n ∷ ns) (length seen) refl, get_or_at seen n ns [] (length seen) refl) at at_seen

-- the first name that does not join those before it, behind those seen, is the fault
first_is_fault : (seen ns : List (List ℕ)) (i : ℕ) → length seen ≤ i → i < length (seen ++ ns) →
    ((k : ℕ) → length seen ≤ k → k < i → JoinsAt (seen ++ ns) true k) → JoinsAt (seen ++ ns) false i → fault_after seen ns ≡ Some i
first_is_fault seen [] i from past before here = let none = rw append-nil at past in absurd (omega arith)
first_is_fault seen (n ∷ ns) i from past before here =
    let one = append_assoc seen (n ∷ []) ns in
    let long = length_push seen n in
    elim (cases_lt (length seen) i) [
      | inl later ↦
          let joined = joins_behind seen n ns true (before (length seen) (omega arith) later) in
          rw joined (first_is_fault (seen ++ n ∷ []) ns i (omega arith) (rw one past) (λ k f l. rw one (before k (omega arith) l)) (rw one here))
      | inr now ↦
          let at_seen : i ≡ length seen = omega arith in
          let stays = joins_behind seen n ns false (subst (JoinsAt (seen ++ n ∷ ns) false) at_seen here) in
          rw stays (ap Some (sym at_seen))
    ]

-- where each joins those before it, there is none
none_is_fault : (seen ns : List (List ℕ)) → ((k : ℕ) → length seen ≤ k → k < length (seen ++ ns) → JoinsAt (seen ++ ns) true k) → fault_after seen ns ≡ None
none_is_fault seen [] each = refl
none_is_fault seen (n ∷ ns) each =
    let one = append_assoc seen (n ∷ []) ns in
    let long = length_push seen n in
    let joined = joins_behind seen n ns true (each (length seen) (omega arith) (rw length-append (omega arith))) in
    rw joined (none_is_fault (seen ++ n ∷ []) ns (λ k f l. rw one (each k (omega arith) (rw one at l))))

module _ (names : List (Bor (List ℕ))) where
  -- the same of name i as the caller lends it
  abbrev pub LentJoins : Bool → ℕ → Type 0
  LentJoins b i = joins (texts (take i names)) (get_or names i (record { ref_ptr = (0, 0); now = [] })).now ≡ b

  -- it joins as a text does
  as_texts : (b : Bool) (i : ℕ) → i < length names → LentJoins b i → JoinsAt (texts names) b i
  as_texts b i more lent = rw (take-map, get_or-map (λ r. r.now) names i (record { ref_ptr = (0, 0); now = [] }) [] more) lent

  -- what the search found is the fault
  pub fault_is : (r : Option ℕ) → MatchOption r ((k : ℕ) → 0 ≤ k → k < length names → LentJoins true k)
      (λ i. (0 ≤ i) × (i < length names) × LentJoins false i × ((k : ℕ) → 0 ≤ k → k < i → LentJoins true k))
      → r ≡ names_fault (texts names)
  fault_is None each =
      sym (none_is_fault [] (texts names) (λ k f l. let more = rw length-map at l in as_texts true k more (each k f more)))
  fault_is (Some i) first =
      sym
      (first_is_fault [] (texts names) i first.0 (rw length-map first.1)
      (λ k f l. as_texts true k (omega arith) (first.3 k f l)) (as_texts false i first.1 first.2))
