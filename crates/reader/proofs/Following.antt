-- A reader follows the calls it is given: what it keeps and its shelf hold what their stretches say.
use Rattle.std.proofs.Common.{◌≡◌, ℕ, zero, suc, ◌*◌, ◌<◌, ◌≤◌, Bool, true, false, cond, not, ◌&&◌, ltb, List, [], ◌∷◌, ◌++◌, length, get_or, drop, replicate, Some, None, Ok, Err, Option, sym, refl, ap, ◌∙◌, subst, inl, inr, Bor}
use Rattle.std.proofs.lemmas.List.{append-nil}
use Rattle.std.proofs.lemmas.Bool.{cases_Bool, false≢true, ltb-false, ltb-true, true≢false}
use Rattle.refusal.specs.declared.Refusal.TheVariants.{AlreadyClosed, NoText, ShortShelf, StillReading}
use Rattle.text.specs.Lines.{fault_of}
use Rattle.rules.specs.declared.meaning.Place.{Place}
use Rattle.reader.specs.Calls.{Turn, called}
use Rattle.reader.specs.Runs.{handed_to, of_stretch, replied, says_body, says_line, says, shelf_past, target_of, targets_past, wrote}
use Rattle.reader.specs.Steps.{Given, Setup, Step, fresh, given, handed, handed_of, held_at, is_closed, kept_at, refuses, short, stepped, unless_bad, withheld}
use Rattle.reader.specs.Stretches.{Stretch, goes_by, heard, in_force, last_stretch, on_course, readable, running, sound_since, starts, text_of, unharmed}
use Rattle.reader.specs.declared.calls.Call.{Call}
use Rattle.reader.specs.declared.calls.Call.TheVariants.{Line, Close, Ask}
use Rattle.reader.specs.declared.calls.Reply.TheVariants.{Answered, Body, Closed}
use Rattle.reader.specs.declared.state.Kept.{Kept}
use Rattle.reader.specs.declared.state.Kept.TheVariants.{Absent, Whole, Torn}
use Rattle.reader.specs.declared.state.State.{State}
use Rattle.reader.proofs.Boundaries.{heard_append}
use Rattle.reader.proofs.Histories.{and_false, and_true, asked_in, current_stretch, every_push, heard_all, heard_shut, look, none_some, others_stay, some_or, stretch_few, text_in}
use Rattle.reader.proofs.Moving.{Moves, Stands, idle_moves, line_moves, text, who}
use Rattle.reader.proofs.Standing.{goes_open, stays_as}
use Rattle.reader.proofs.Stepping.{closed_first, then_read, too_short}

-- absent names are absent
none_kept : (n i : ℕ) → get_or (replicate n Absent) i Absent ≡ Absent
none_kept zero i = refl
none_kept (suc n) zero = refl
none_kept (suc n) (suc i) = none_kept n i

module _ (q : Setup) where
  -- what is kept of a name, and its share, hold its last stretch
  abbrev Holds : ℕ → Kept → List ℕ → Option Stretch → Type 0
  Holds i k shelf None = k ≡ Absent
  Holds i k shelf (Some st) =
      (k ≡ cond (unharmed q st) (Whole (length (text_of q st))) Torn)
      × (unharmed q st ≡ true → (length (text_of q st) ≤ q.share) × (held_at q.share i (length (text_of q st)) shelf ≡ text_of q st))

  -- and all of them
  abbrev AllHold : List Call → List Kept → List ℕ → Type 0
  AllHold h ks shelf = (i : ℕ) → i < length q.names → Holds i (get_or ks i Absent) shelf (last_stretch q i h)

  -- what is handed out of what is kept is what is said of the stretch
  body_said : (len : ℕ) (target : List ℕ) (i : ℕ) (k : Kept) (shelf : List ℕ) (o : Option Stretch) → Holds i k shelf o →
      handed_of target k (drop (i * q.share) shelf) ≡ of_stretch q len target o
  body_said len target i k shelf None h = ap (λ x. handed_of target x (drop (i * q.share) shelf)) h
  body_said len target i k shelf (Some st) h =
      ap (λ x. handed_of target x (drop (i * q.share) shelf)) h.0
      ∙ elim (cases_Bool (unharmed q st)) [ inl t ↦ rw t (ap (handed target) (h.1 t).1) | inr t ↦ rw t ]

  -- what is kept of the calls before goes on to hold when a call moves the reader
  all_follow : (h : List Call) (c : Call) (s : State) (shelf : List ℕ) (p : Step) → Moves q h c s shelf p → AllHold h s.kept shelf →
      AllHold (h ++ (c ∷ [])) p.state.kept p.shelf
  all_follow h c s shelf p m old i l =
      let all = h ++ (c ∷ []) in
      let k = kept_at p.state i in
      elim (some_or (who q all) i) [
        | inl w ↦
            elim (look (in_force q all)) [
              | inl n ↦ absurd (none_some i (ap (asked_in q) (sym n) ∙ w))
              | inr st ↦
                  (let e = current_stretch q i all st.0 st.1 (ap (asked_in q) (sym st.1) ∙ w) in
                  let well : on_course q all ≡ unharmed q st.0 = ap (sound_since q all) st.1 in
                  let x : text q all ≡ text_of q st.0 = ap (text_in q) st.1 in
                  subst (Holds i k p.shelf) (sym e) (
                    m.standing.kept i w ∙ ap (λ b. cond b (Whole (length (text q all))) Torn) well ∙ ap (λ z. cond (unharmed q st.0) (Whole (length z)) Torn) x,
                    λ t. (
                      subst (λ z. length z ≤ q.share) x (m.standing.room i (well ∙ t) w),
                      subst (λ z. held_at q.share i (length z) p.shelf ≡ z) x (m.standing.bytes i (well ∙ t) w),
                    ),
                  ))
            ]
        | inr n ↦ subst (Holds i k p.shelf) (sym (others_stay q i h c n)) (kept_on n (last_stretch q i h) (old i l))
      ]
    where
      -- what is kept of a name that is not open, and its share, go on to hold its last stretch
      kept_on : (who q (h ++ (c ∷ [])) ≡ Some i → ⊥) → (o : Option Stretch) → Holds i (kept_at s i) shelf o → Holds i (kept_at p.state i) p.shelf o
      kept_on n None old = m.others i n ∙ old
      kept_on n (Some st) old = (
        m.others i n ∙ old.0,
        λ t. let o = old.1 t in (o.0, m.beside i (length (text_of q st)) n o.0 ∙ o.1),
      )

  -- what holds of a reader and its shelf after the calls h
  pub record Follows (len : ℕ) (h : List Call) (s : State) (shelf : List ℕ) : Type 0 where
    pub many : length s.kept ≡ 64
    pub closed : is_closed s.course ≡ not (running h)
    pub stands : running h ≡ true → short q len ≡ false → Stands q h s shelf
    pub hold : short q len ≡ false → AllHold (heard h) s.kept shelf

  -- a new reader follows no calls
  pub new_follows : (len : ℕ) (shelf : List ℕ) → Follows len [] fresh shelf
  new_follows len shelf =
      record {
        many = refl;
        closed = refl;
        stands = λ r l. record {
          course = refl;
          kept = λ i x. absurd (none_some i x);
          room = λ i t x. absurd (none_some i x);
          bytes = λ i t x. absurd (none_some i x);
        };
        hold = λ l i b. none_kept 64 i;
      }

  -- a call that goes by keeps the list running, or closed
  runs_on : (h : List Call) (c : Call) → goes_by c ≡ true → running (h ++ (c ∷ [])) ≡ running h
  runs_on h c g = every_push goes_by h c ∙ ap (λ b. running h && b) g ∙ and_true (running h)

  -- a call that moves the reader
  moves_on : (len : ℕ) (h : List Call) (c : Call) (s : State) (shelf : List ℕ) (p : Step) → goes_by c ≡ true → running h ≡ true →
      Follows len h s shelf → Moves q h c s shelf p → Follows len (h ++ (c ∷ [])) p.state p.shelf
  moves_on len h c s shelf p g r f m =
      let one : heard (c ∷ []) ≡ c ∷ [] = rw g in
      let e = heard_append h (c ∷ []) r ∙ ap (λ x. h ++ x) one in
      record {
        many = m.many ∙ f.many;
        closed = ap is_closed m.standing.course ∙ goes_open (on_course q (h ++ (c ∷ []))) (who q (h ++ (c ∷ []))) ∙ ap not (sym (runs_on h c g ∙ r));
        stands = λ x y. m.standing;
        hold = λ l.
            subst (λ (k : List Call). AllHold k p.state.kept p.shelf) (sym e)
            (all_follow h c s shelf p m (subst (λ (k : List Call). AllHold k s.kept shelf) (heard_all h r) (f.hold l)));
      }

  -- a call that goes by a closed reader, or over a short shelf, changes nothing
  still : (len : ℕ) (h : List Call) (c : Call) (s : State) (shelf : List ℕ) → goes_by c ≡ true → Follows len h s shelf →
      ((running h ≡ true) × (short q len ≡ false) → ⊥) → Follows len (h ++ (c ∷ [])) s shelf
  still len h c s shelf g f idle =
      record {
        many = f.many;
        closed = f.closed ∙ ap not (sym (runs_on h c g));
        stands = λ x y. absurd (idle (sym (runs_on h c g) ∙ x, y));
        hold = λ l.
            elim (cases_Bool (running h)) [
              | inl r ↦ absurd (idle (r, l))
              | inr r ↦ subst (λ (k : List Call). AllHold k s.kept shelf) (sym (heard_shut h (c ∷ []) r)) (f.hold l)
            ];
      }

  -- what a call does: it answers and writes what is said after the calls before it, and the reader follows
  pub record Does (len : ℕ) (h : List Call) (c : Call) (shelf targets : List ℕ) (t : Turn) : Type 0 where
    pub reply : t.reply ≡ (says q len h c (target_of c targets)).reply
    pub shelf_bytes : t.shelf ≡ shelf_past q len h c shelf
    pub target_bytes : t.targets ≡ targets_past q len h c targets
    pub follows : Follows len (h ++ (c ∷ [])) t.state t.shelf

  -- a closing
  close_does : (len : ℕ) (h : List Call) (s : State) (shelf targets : List ℕ) → Follows len h s shelf → Does len h Close shelf targets (called q s shelf targets Close)
  close_does len h s shelf targets f =
      let ended : running (h ++ (Close ∷ [])) ≡ false = every_push goes_by h Close ∙ and_false (running h) in
      let same : heard (h ++ (Close ∷ [])) ≡ heard h =
      elim (cases_Bool (running h)) [
        | inl r ↦ heard_append h (Close ∷ []) r ∙ append-nil h ∙ sym (heard_all h r)
        | inr r ↦ heard_shut h (Close ∷ []) r
      ] in
      record {
        reply = ap (λ b. replied (λ _. Closed) (cond b (Err AlreadyClosed) (Ok tt))) f.closed
            ∙ elim (cases_Bool (running h)) [ inl r ↦ rw r | inr r ↦ rw r ];
        shelf_bytes = refl;
        target_bytes = refl;
        follows = record {
          many = f.many;
          closed = ap not (sym ended);
          stands = λ x y. absurd (true≢false (sym x ∙ ended));
          hold = λ l.
              subst (λ (k : List Call). AllHold k s.kept shelf) (sym same) (f.hold l);
        };
      }

  -- what is given to a question is what is said
  given_said : (len : ℕ) (h : List Call) (s : State) (shelf target : List ℕ) (i : ℕ) → length shelf ≡ len → Follows len h s shelf →
      given q s shelf i target ≡ says_body q len h i target
  given_said len h s shelf target i long f =
      ap (λ b. cond b (asked_of (length shelf)) (withheld target StillReading)) f.closed
      ∙ ap (λ n. cond (not (running h)) (asked_of n) (withheld target StillReading)) long
      ∙ by (running h) (short q len) refl
    where
      -- what is kept says of the name
      kept : Given
      kept = cond (ltb i (length q.names)) (handed_of target (kept_at s i) (drop (i * q.share) shelf)) (withheld target NoText)

      -- that, over a shelf of so many bytes
      asked_of : ℕ → Given
      asked_of n = cond (short q n) (withheld target ShortShelf) kept

      -- it is what is said of its last stretch
      kept_said : short q len ≡ false → kept ≡ of_stretch q len target (last_stretch q i (heard h))
      kept_said l =
          elim (cases_Bool (ltb i (length q.names))) [
            | inl v ↦ rw v (body_said len target i (kept_at s i) shelf (last_stretch q i (heard h)) (f.hold l i (ltb-true i (length q.names) v)))
            | inr v ↦ rw (v, stretch_few q i (heard h) (ltb-false i (length q.names) v))
          ]

      -- the tests come in the other order, and decide alike
      by : (r b : Bool) → short q len ≡ b →
          cond (not r) (cond b (withheld target ShortShelf) kept) (withheld target StillReading)
          ≡ cond r (withheld target StillReading) (cond b (withheld target ShortShelf) (of_stretch q len target (last_stretch q i (heard h))))
      by true b e = refl
      by false true e = refl
      by false false e = kept_said e

  -- a question
  ask_does : (len : ℕ) (h : List Call) (i : ℕ) (t : Place) (s : State) (shelf targets : List ℕ) → length shelf ≡ len → Follows len h s shelf →
      Does len h (Ask i t) shelf targets (called q s shelf targets (Ask i t))
  ask_does len h i t s shelf targets long f =
      let e = given_said len h s shelf (target_of (Ask i t) targets) i long f in
      record {
        reply = ap (λ (g : Given). replied Body g.answer) e;
        shelf_bytes = refl;
        target_bytes = ap (λ (g : Given). handed_to (Ask i t) g.target targets) e;
        follows =
            elim (cases_Bool (running h)) [
              | inr r ↦ still len h (Ask i t) s shelf refl f (λ both. true≢false (sym both.0 ∙ r))
              | inl r ↦
                  elim (cases_Bool (short q len)) [
                    | inl l ↦ still len h (Ask i t) s shelf refl f (λ both. false≢true (sym both.1 ∙ l))
                    | inr l ↦
                        (let p : Step = record { answer = Err StillReading; state = s; shelf = shelf } in
                        moves_on len h (Ask i t) s shelf p refl r f
                        (idle_moves q h (Ask i t) s shelf p refl refl refl (stays_as q len [] s shelf (Err StillReading) (on_course q h) (who q h) (text q h) (f.stands r l))))
                  ]
            ];
      }

  module _ (few : length q.names ≤ 64) (least : 1001 ≤ q.share) (starts_fit : (c : Call) → readable c ≡ true → length (starts q c) ≤ q.share) (len : ℕ) where
    -- a line
    line_does : (h : List Call) (l : Bor (List ℕ)) (s : State) (shelf targets : List ℕ) → length shelf ≡ len → Follows len h s shelf →
        Does len h (Line l) shelf targets (called q s shelf targets (Line l))
    line_does h l s shelf targets long f =
        elim (cases_Bool (running h)) [
          | inr r ↦ as_it_was (closed_first q l.now s shelf (f.closed ∙ ap not r)) (rw r) (λ both. true≢false (sym both.0 ∙ r))
          | inl r ↦
              elim (cases_Bool (short q len)) [
                | inl b ↦
                    as_it_was (too_short q l.now s shelf (f.closed ∙ ap not r) (ap (short q) long ∙ b)) (rw (r, b)) (λ both. false≢true (sym both.1 ∙ b))
                | inr b ↦
                    (let room = ltb-false len (length q.names * q.share) b in
                    let e = then_read q l.now s shelf (f.closed ∙ ap not r) (ap (short q) long ∙ b) in
                    let m = line_moves q few least starts_fit len h l s shelf f.many (subst (λ n. length q.names * q.share ≤ n) (sym long) room) (f.stands r b) (fault_of l.now) refl in
                    let said : (unless_bad q l.now s shelf (fault_of l.now)).answer ≡ says_line q len h l.now = m.0 ∙ sym (rw (r, b)) in
                    subst (λ (p : Step). Does len h (Line l) shelf targets (turn p)) (sym e)
                    record {
                      reply = ap (replied Answered) said;
                      shelf_bytes = m.1 ∙ ap (λ a. wrote q len (in_force q h) l.now a shelf) said;
                      target_bytes = refl;
                      follows = moves_on len h (Line l) s shelf _ refl r f m.2;
                    })
              ]
        ]
      where
        -- a line's step, as one call of a list
        turn : Step → Turn
        turn p = record { reply = replied Answered p.answer; state = p.state; shelf = p.shelf; targets = targets }

        -- a refusal that changes nothing
        as_it_was : {e : _} → stepped q l.now s shelf ≡ refuses q l.now s shelf e s → says_line q len h l.now ≡ Err e →
            ((running h ≡ true) × (short q len ≡ false) → ⊥) → Does len h (Line l) shelf targets (called q s shelf targets (Line l))
        as_it_was same said idle =
            subst (λ (p : Step). Does len h (Line l) shelf targets (turn p)) (sym same)
            record {
              reply = ap (replied Answered) (sym said);
              shelf_bytes = sym (ap (λ a. wrote q len (in_force q h) l.now a shelf) said);
              target_bytes = refl;
              follows = still len h (Line l) s shelf refl f idle;
            }

    -- every call
    pub call_does : (h : List Call) (c : Call) (s : State) (shelf targets : List ℕ) → length shelf ≡ len → Follows len h s shelf →
        Does len h c shelf targets (called q s shelf targets c)
    call_does h (Line l) s shelf targets long f = line_does h l s shelf targets long f
    call_does h Close s shelf targets long f = close_does len h s shelf targets f
    call_does h (Ask i t) s shelf targets long f = ask_does len h i t s shelf targets long f
