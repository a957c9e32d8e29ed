-- How a reader's state and shelf stand to the stretch in force, and how each way of a line leaves them.
use Rattle.std.proofs.Common.{◌≡◌, ℕ, ◌+◌, ◌*◌, ◌<◌, ◌≤◌, Bool, true, false, cond, ◌&&◌, ltb, List, [], ◌++◌, length, get_or, take, drop, set, Some, None, Ok, Option, Result, sym, refl, ap, ◌∙◌, subst, inl, inr, add-zero, arith}
use Rattle.std.proofs.lemmas.List.{get_or-set_other, get_or-set_same, length-append, length_push, length-set}
use Rattle.std.proofs.lemmas.Bool.{cases_Bool, false≢true, le-leb, lt-leb, ltb-false, ltb-true}
use Rattle.refusal.specs.declared.Refusal.{Refusal}
use Rattle.refusal.specs.declared.Refusal.TheVariants.{FullShare}
use Rattle.text.specs.Lines.{fed, put}
use Rattle.reader.specs.Runs.{kept_for, opened_as, text_end, wrote}
use Rattle.reader.specs.Shelves.{starting}
use Rattle.reader.specs.Steps.{Setup, Step, answers, goes_on, held_at, is_closed, kept_at, opens, passes, refuses, strayed, strays, torn_at, used}
use Rattle.reader.specs.Stretches.{Stretch, fits}
use Rattle.reader.specs.declared.answer.Answer.{Answer}
use Rattle.reader.specs.declared.answer.Answer.TheVariants.{PassedOver, Outside}
use Rattle.reader.specs.declared.state.Course.{Course}
use Rattle.reader.specs.declared.state.Course.TheVariants.{NoName, Open, Lost, Closed}
use Rattle.reader.specs.declared.state.Kept.{Kept}
use Rattle.reader.specs.declared.state.Kept.TheVariants.{Absent, Whole, Torn}
use Rattle.reader.specs.declared.state.State.{State}
use Rattle.reader.proofs.Histories.{none_some}
use Rattle.reader.proofs.Shares.{share_here, share_other}

-- the course of a stretch in which all is well or not, and that opens this asked name
abbrev pub course_of : Bool → Option ℕ → Course
course_of true None = NoName
course_of true (Some i) = Open i
course_of false o = Lost

-- it is not the end
pub goes_open : (ok : Bool) (o : Option ℕ) → is_closed (course_of ok o) ≡ false
goes_open true None = refl
goes_open true (Some i) = refl
goes_open false o = refl

-- a stretch in which all is well or not, that opens this asked name and has this text
pub record Standing (share : ℕ) (ok : Bool) (o : Option ℕ) (text : List ℕ) (s : State) (shelf : List ℕ) : Type 0 where
  pub course : s.course ≡ course_of ok o
  pub kept : (i : ℕ) → o ≡ Some i → kept_at s i ≡ cond ok (Whole (length text)) Torn
  pub room : (i : ℕ) → ok ≡ true → o ≡ Some i → length text ≤ share
  pub bytes : (i : ℕ) → ok ≡ true → o ≡ Some i → held_at share i (length text) shelf ≡ text

-- what a line did: the reader stands to the stretch in force behind it, and what belongs to other names is as it was
pub record After (share : ℕ) (ok : Bool) (o : Option ℕ) (text : List ℕ) (s : State) (shelf : List ℕ) (p : Step) : Type 0 where
  pub standing : Standing share ok o text p.state p.shelf
  pub many : length p.state.kept ≡ length s.kept
  pub others : (i : ℕ) → (o ≡ Some i → ⊥) → kept_at p.state i ≡ kept_at s i
  pub beside : (i n : ℕ) → (o ≡ Some i → ⊥) → n ≤ share → held_at share i n p.shelf ≡ held_at share i n shelf

-- the same said of another stretch that is no different
pub after_same : {share : ℕ} {ok ok' : Bool} {o o' : Option ℕ} {text text' : List ℕ} {s : State} {shelf : List ℕ} {p : Step} →
    ok ≡ ok' → o ≡ o' → ((i : ℕ) → o' ≡ Some i → text ≡ text') →
    After share ok o text s shelf p → After share ok' o' text' s shelf p
after_same {share} {ok} {ok'} {o} {o'} {text} {p = p} e d g a =
    let h = a.standing in
    record {
      standing = record {
        course = h.course ∙ ap (λ b. course_of b o) e ∙ ap (course_of ok') d;
        kept = λ i x. h.kept i (d ∙ x) ∙ ap (λ b. cond b (Whole (length text)) Torn) e ∙ ap (λ z. cond ok' (Whole (length z)) Torn) (g i x);
        room = λ i t x. subst (λ z. length z ≤ share) (g i x) (h.room i (e ∙ t) (d ∙ x));
        bytes = λ i t x. subst (λ z. held_at share i (length z) p.shelf ≡ z) (g i x) (h.bytes i (e ∙ t) (d ∙ x));
      };
      many = a.many;
      others = λ i n. a.others i (λ x. n (sym d ∙ x));
      beside = λ i n un. a.beside i n (λ x. un (sym d ∙ x));
    }

-- what is kept of the name that it was set for
kept_here : (ks : List Kept) (i k : ℕ) (new : Kept) → ◌≡◌ {A = Option ℕ} (Some i) (Some k) → i < length ks → get_or (set ks i new) k Absent ≡ new
kept_here ks i k new e h =
    let x : i ≡ k = cc in
    ap (λ j. get_or (set ks i new) j Absent) (sym x) ∙ get_or-set_same ks i new Absent h

-- and of others
kept_there : (ks : List Kept) (i k : ℕ) (new : Kept) → (◌≡◌ {A = Option ℕ} (Some i) (Some k) → ⊥) → get_or (set ks i new) k Absent ≡ get_or ks k Absent
kept_there ks i k new n = get_or-set_other ks i k new Absent (λ e. n (ap Some (sym e)))

-- of as many names when the open one is torn
torn_many : (c : Course) (ks : List Kept) → length (torn_at c ks) ≡ length ks
torn_many NoName ks = refl
torn_many (Open i) ks = length-set ks i Torn
torn_many Lost ks = refl
torn_many Closed ks = refl

-- the open name is torn
torn_kept : (o : Option ℕ) (ks : List Kept) (i : ℕ) → o ≡ Some i → i < length ks → get_or (torn_at (course_of true o) ks) i Absent ≡ Torn
torn_kept None ks i e h = absurd (none_some i e)
torn_kept (Some k) ks i e h = let x : k ≡ i = cc in kept_here ks k i Torn e (omega arith)

-- and no other
torn_others : (ok : Bool) (o : Option ℕ) (ks : List Kept) (i : ℕ) → (o ≡ Some i → ⊥) → get_or (torn_at (course_of ok o) ks) i Absent ≡ get_or ks i Absent
torn_others true None ks i n = refl
torn_others true (Some k) ks i n = kept_there ks k i Torn n
torn_others false o ks i n = refl

module _ (q : Setup) (len : ℕ) (line : List ℕ) (s : State) (shelf : List ℕ) where
  -- a name has its place in the state, and its share lies on the shelf
  abbrev pub Has : Option ℕ → Type 0
  Has o = (i : ℕ) → o ≡ Some i → (i < length s.kept) × (i * q.share + q.share ≤ length shelf)

  -- a line is lost: whatever the text, it is torn
  pub loses_as : (e : Refusal) (ok : Bool) (o : Option ℕ) (text more : List ℕ) → Standing q.share ok o text s shelf → Has o →
      After q.share false o more s shelf (refuses q line s shelf e (strayed s))
  loses_as e ok o text more h has =
      record {
        standing = record {
          course = refl;
          kept = λ i x. ap (λ c. get_or (torn_at c s.kept) i Absent) h.course ∙ by ok h i x;
          room = λ i t x. absurd (false≢true t);
          bytes = λ i t x. absurd (false≢true t);
        };
        many = torn_many s.course s.kept;
        others = λ i un. ap (λ c. get_or (torn_at c s.kept) i Absent) h.course ∙ torn_others ok o s.kept i un;
        beside = λ i n un l. refl;
      }
    where
      -- the name that is open is torn, and one that was torn stays so
      by : (b : Bool) → Standing q.share b o text s shelf → (i : ℕ) → o ≡ Some i → get_or (torn_at (course_of b o) s.kept) i Absent ≡ Torn
      by true st i x = torn_kept o s.kept i x (has i x).0
      by false st i x = st.kept i x

  -- nothing changes
  pub stays_as : (a : Result Answer Refusal) (ok : Bool) (o : Option ℕ) (text : List ℕ) → Standing q.share ok o text s shelf →
      After q.share ok o text s shelf record { answer = a; state = s; shelf = shelf }
  stays_as a ok o text h =
      record { standing = h; many = refl; others = λ i n. refl; beside = λ i n un l. refl }

  -- bytes written behind those of a name
  put_held : (k u : ℕ) (old bs : List ℕ) → length old ≡ u → u + length bs ≤ q.share → k * q.share + q.share ≤ length shelf →
      held_at q.share k u shelf ≡ old → (i : ℕ) → ◌≡◌ {A = Option ℕ} (Some k) (Some i) →
      held_at q.share i (length (old ++ bs)) (put (k * q.share + u) bs shelf) ≡ old ++ bs
  put_held k u old bs n h part is i x =
      let e : k ≡ i = cc in
      let m : length (old ++ bs) ≡ u + length bs = omega (arith, length-append old bs) in
      ap (λ j. held_at q.share j (length (old ++ bs)) (put (k * q.share + u) bs shelf)) (sym e)
      ∙ ap (λ j. take j (drop (k * q.share) (put (k * q.share + u) bs shelf))) m
      ∙ share_here (k * q.share) u bs shelf (omega arith) ∙ ap (λ z. z ++ bs) is

  -- they leave the others
  put_beside : (k u : ℕ) (bs : List ℕ) → u + length bs ≤ q.share → k * q.share + q.share ≤ length shelf →
      (i n : ℕ) → (◌≡◌ {A = Option ℕ} (Some k) (Some i) → ⊥) → n ≤ q.share →
      held_at q.share i n (put (k * q.share + u) bs shelf) ≡ held_at q.share i n shelf
  put_beside k u bs h part i n un l =
      share_other i k q.share (k * q.share + u) n bs shelf (λ e. un (ap Some (sym e))) (omega arith) (omega arith) l (omega arith)

  -- a name opens, asked for or not
  pub opens_as : (o : Option ℕ) (bytes : List ℕ) → Has o → length bytes ≤ q.share →
      ((opens q line s shelf o bytes).answer ≡ Ok (opened_as q len o)) × After q.share true o bytes s shelf (opens q line s shelf o bytes)
  opens_as None bytes has fit = (
    refl,
    record {
      standing = record {
        course = refl;
        kept = λ i x. absurd (none_some i x);
        room = λ i t x. absurd (none_some i x);
        bytes = λ i t x. absurd (none_some i x);
      };
      many = refl;
      others = λ i n. refl;
      beside = λ i n un l. refl;
    },
  )
  opens_as (Some k) bytes has fit =
      let h = has k refl in
      let at = add-zero (k * q.share) in
      let there : (n : ℕ) → put (n + 0) bytes shelf ≡ put n bytes shelf = λ n. ap (λ z. put z bytes shelf) (add-zero n) in (
        refl,
        record {
          standing = record {
            course = refl;
            kept = λ i x. kept_here s.kept k i _ x h.0;
            room = λ i t x. fit;
            bytes = λ i t x. ap (held_at q.share i (length bytes)) (sym (there (k * q.share)))
                ∙ put_held k 0 [] bytes refl (omega arith) h.1 refl i x;
          };
          many = length-set s.kept k _;
          others = λ i n. kept_there s.kept k i _ n;
          beside = λ i n un l. ap (held_at q.share i n) (sym (there (k * q.share))) ∙ put_beside k 0 bytes (omega arith) h.1 i n un l;
        },
      )

  -- a stray that ends nothing
  passes_as : (ok : Bool) (o : Option ℕ) (text : List ℕ) → Standing q.share ok o text s shelf →
      passes q line s shelf s.course ≡ answers q line s shelf (cond ok Outside PassedOver)
  passes_as ok o text h = ap (passes q line s shelf) h.course ∙ by ok o
    where
      by : (b : Bool) (n : Option ℕ) → passes q line s shelf (course_of b n) ≡ answers q line s shelf (cond b Outside PassedOver)
      by true None = refl
      by true (Some i) = refl
      by false n = refl

  -- a stray, where strays end a stretch or not
  pub strays_as : (ends ok : Bool) (o : Option ℕ) (text : List ℕ) → Standing q.share ok o text s shelf →
      ((strays q line s shelf ends).answer ≡ Ok (cond ends Outside (cond ok Outside PassedOver)))
      × After q.share (cond ends true ok) (cond ends None o) text s shelf (strays q line s shelf ends)
  strays_as true ok o text h = (
    refl,
    record {
      standing = record {
        course = refl;
        kept = λ i x. absurd (none_some i x);
        room = λ i t x. absurd (none_some i x);
        bytes = λ i t x. absurd (none_some i x);
      };
      many = refl;
      others = λ i n. refl;
      beside = λ i n un l. refl;
    },
  )
  strays_as false ok o text h =
      subst (λ (p : Step). (p.answer ≡ Ok (cond ok Outside PassedOver)) × After q.share ok o text s shelf p) (sym (passes_as ok o text h))
      (refl, stays_as (Ok (cond ok Outside PassedOver)) ok o text h)

  -- a line that continues
  pub goes_as : (ok : Bool) (o : Option ℕ) (text : List ℕ) → Standing q.share ok o text s shelf → Has o →
      ((goes_on q line s shelf (course_of ok o)).answer ≡ cond ok (kept_for q len o (length (text ++ fed line))) (Ok PassedOver))
      × After q.share (ok && fits q o (length (text ++ fed line))) o (text ++ fed line) s shelf (goes_on q line s shelf (course_of ok o))
  goes_as false o text h has = (
    refl,
    record {
      standing = record {
        course = h.course;
        kept = h.kept;
        room = λ i t x. absurd (false≢true t);
        bytes = λ i t x. absurd (false≢true t);
      };
      many = refl;
      others = λ i n. refl;
      beside = λ i n un l. refl;
    },
  )
  goes_as true None text h has = (
    refl,
    record {
      standing = record {
        course = h.course;
        kept = λ i x. absurd (none_some i x);
        room = λ i t x. absurd (none_some i x);
        bytes = λ i t x. absurd (none_some i x);
      };
      many = refl;
      others = λ i n. refl;
      beside = λ i n un l. refl;
    },
  )
  goes_as true (Some k) text h has =
      let u : used (kept_at s k) ≡ length text = ap used (h.kept k refl) in
      let part = has k refl in
      let push = length_push line 10 in
      let size = length-append text (fed line) in
      elim (cases_Bool (ltb (used (kept_at s k) + length line) q.share)) [
        | inl t ↦
            (let b = ltb-true (used (kept_at s k) + length line) q.share t in
            let e = le-leb (length (text ++ fed line)) q.share (omega arith) in
            let old = subst (λ (n : ℕ). held_at q.share k n shelf ≡ text) (sym u) (h.bytes k refl refl) in
            rw (t, e) (
              refl,
              record {
                standing = record {
                  course = refl;
                  kept = λ i x. kept_here s.kept k i _ x part.0 ∙ ap Whole (omega arith);
                  room = λ i v x. omega arith;
                  bytes = λ i v x. put_held k (used (kept_at s k)) text (fed line) (sym u) (omega arith) part.1 old i x;
                };
                many = length-set s.kept k _;
                others = λ i n. kept_there s.kept k i _ n;
                beside = λ i n un l. put_beside k (used (kept_at s k)) (fed line) (omega arith) part.1 i n un l;
              },
            ))
        | inr f ↦
            (let b = ltb-false (used (kept_at s k) + length line) q.share f in
            let e = lt-leb (length (text ++ fed line)) q.share (omega arith) in
            rw (f, e) (refl, loses_as FullShare true (Some k) text _ h has))
      ]

  -- where the text of a stretch that opens a name ends
  abbrev pub EndsAt : Option Stretch → Option ℕ → List ℕ → Type 0
  EndsAt t o text = (i : ℕ) → o ≡ Some i → text_end q len t ≡ i * q.share + length text

  -- what each way writes is what its answer says
  pub opens_wrote : (t : Option Stretch) (o : Option ℕ) → (opens q line s shelf o (starting (q.meaning line) line)).shelf
      ≡ wrote q len t line (opens q line s shelf o (starting (q.meaning line) line)).answer shelf
  opens_wrote t None = refl
  opens_wrote t (Some k) = refl

  -- a stray writes nothing
  pub strays_wrote : (t : Option Stretch) (ends : Bool) → (strays q line s shelf ends).shelf ≡ wrote q len t line (strays q line s shelf ends).answer shelf
  strays_wrote t true = refl
  strays_wrote t false = by s.course
    where
      by : (c : Course) → (passes q line s shelf c).shelf ≡ wrote q len t line (passes q line s shelf c).answer shelf
      by NoName = refl
      by (Open i) = refl
      by Lost = refl
      by Closed = refl

  -- a line that continues writes behind the text of its stretch
  pub goes_wrote : (t : Option Stretch) (ok : Bool) (o : Option ℕ) (text : List ℕ) → Standing q.share ok o text s shelf → EndsAt t o text →
      (goes_on q line s shelf (course_of ok o)).shelf ≡ wrote q len t line (goes_on q line s shelf (course_of ok o)).answer shelf
  goes_wrote t false o text h ends = refl
  goes_wrote t true None text h ends = refl
  goes_wrote t true (Some k) text h ends =
      let u : used (kept_at s k) ≡ length text = ap used (h.kept k refl) in
      let at : k * q.share + used (kept_at s k) ≡ text_end q len t = ap (λ n. k * q.share + n) u ∙ sym (ends k refl) in
      elim (cases_Bool (ltb (used (kept_at s k) + length line) q.share)) [
        | inl b ↦ rw b (ap (λ n. put n (fed line) shelf) at)
        | inr f ↦ rw f
      ]
