-- How a line moves a reader that stands to the calls before it.
use Rattle.std.proofs.Common.{◌≡◌, ℕ, ◌+◌, ◌*◌, ◌≤◌, true, false, cond, ◌&&◌, List, [], ◌∷◌, ◌++◌, length, Some, None, Ok, Option, Result, sym, refl, ap, ◌∙◌, subst, inl, inr, arith, Bor}
use Rattle.std.specs.Option.{option_map}
use Rattle.std.proofs.lemmas.List.{append-nil}
use Rattle.std.proofs.lemmas.Bool.{cases_Bool}
use Rattle.refusal.specs.declared.Refusal.{Refusal}
use Rattle.refusal.specs.declared.Refusal.TheVariants.{BadLine}
use Rattle.text.specs.Lines.{fault_of, fed}
use Rattle.rules.specs.declared.meaning.Meaning.{Meaning}
use Rattle.rules.specs.declared.meaning.Meaning.TheVariants.{Opens, Continues, Stray}
use Rattle.reader.specs.Runs.{heard_as, kept_for, kept_in, text_end, unless_fault, wrote}
use Rattle.reader.specs.Shelves.{opening_text, starting}
use Rattle.reader.specs.Steps.{Setup, Step, asked_by, decided, goes_on, opens, refuses, strayed, strays, unless_bad}
use Rattle.reader.specs.Stretches.{Stretch, adds, asked, boundary, fits, in_force, on_course, readable, starts}
use Rattle.reader.specs.declared.answer.Answer.{Answer}
use Rattle.reader.specs.declared.answer.Answer.TheVariants.{PassedOver}
use Rattle.reader.specs.declared.calls.Call.{Call}
use Rattle.reader.specs.declared.calls.Call.TheVariants.{Line}
use Rattle.reader.specs.declared.state.State.{State}
use Rattle.reader.proofs.Histories.{and_false, asked_few, asked_more, asked_in, course_at, course_idle, course_past, fits_any, in_force_at, in_force_past, more, none_some, text_in, text_more}
use Rattle.reader.proofs.Standing.{After, Has, Standing, after_same, course_of, goes_as, goes_wrote, loses_as, opens_as, opens_wrote, strays_as, strays_wrote}
use Rattle.reader.proofs.Stepping.{part_ends}

module _ (q : Setup) where
  -- the asked name that the stretch in force opens
  abbrev pub who : List Call → Option ℕ
  who h = asked_in q (in_force q h)

  -- and its text
  abbrev pub text : List Call → List ℕ
  text h = text_in q (in_force q h)

  -- a reader stands to the calls before
  abbrev pub Stands : List Call → State → List ℕ → Type 0
  Stands h s shelf = Standing q.share (on_course q h) (who h) (text h) s shelf

  -- it has moved on by a call
  abbrev pub Moves : List Call → Call → State → List ℕ → Step → Type 0
  Moves h c s shelf p = After q.share (on_course q (h ++ (c ∷ []))) (who (h ++ (c ∷ []))) (text (h ++ (c ∷ []))) s shelf p

  -- a call that is no boundary opens no name
  who_past : (h : List Call) (c : Call) → boundary q c ≡ false → who h ≡ who (h ++ (c ∷ []))
  who_past h c z = sym (ap (asked_in q) (in_force_past q h c z) ∙ asked_more q c (in_force q h))

  -- what it adds stands behind the text of the stretch in force
  text_past : (h : List Call) (c : Call) → boundary q c ≡ false → (i : ℕ) → who h ≡ Some i → text h ++ adds q c ≡ text (h ++ (c ∷ []))
  text_past h c z i x = by (in_force q h) x ∙ ap (text_in q) (sym (in_force_past q h c z))
    where
      by : (t : Option Stretch) → asked_in q t ≡ Some i → text_in q t ++ adds q c ≡ text_in q (option_map (more c) t)
      by None e = absurd (none_some i e)
      by (Some s) e = sym (text_more q c s)

  -- a call that is no boundary, can be read and adds nothing
  pub idle_moves : (h : List Call) (c : Call) (s : State) (shelf : List ℕ) (p : Step) → boundary q c ≡ false → readable c ≡ true → adds q c ≡ [] →
      After q.share (on_course q h) (who h) (text h) s shelf p → Moves h c s shelf p
  idle_moves h c s shelf p z r k a =
      let w = who_past h c z in
      after_same (sym (course_idle q h c z r (ap length k))) w
      (λ i x. sym (append-nil (text h)) ∙ ap (λ b. text h ++ b) (sym k) ∙ text_past h c z i (w ∙ x)) a

  -- where the text of the stretch in force ends
  ends_at : (len : ℕ) (t : Option Stretch) → (i : ℕ) → asked_in q t ≡ Some i → text_end q len t ≡ i * q.share + length (text_in q t)
  ends_at len None i e = absurd (none_some i e)
  ends_at len (Some s) i e = rw e

  -- with what a line adds, the text of the stretch in force has room or not
  fits_with : (h : List Call) (c : Call) → fits q (who h) (length (text_in q (option_map (more c) (in_force q h)))) ≡ fits q (who h) (length (text h ++ adds q c))
  fits_with h c = by (in_force q h)
    where
      by : (t : Option Stretch) → fits q (asked_in q t) (length (text_in q (option_map (more c) t))) ≡ fits q (asked_in q t) (length (text_in q t ++ adds q c))
      by None = refl
      by (Some s) = ap (λ b. fits q (asked q s.first) (length b)) (text_more q c s)

  -- a line that continues is kept in the stretch in force
  kept_in_lem : (len : ℕ) (t : Option Stretch) (line : List ℕ) → kept_for q len (asked_in q t) (length (text_in q t ++ fed line)) ≡ kept_in q len t line
  kept_in_lem len None line = refl
  kept_in_lem len (Some s) line = refl

  module _ (few : length q.names ≤ 64) (least : 1001 ≤ q.share) (starts_fit : (c : Call) → readable c ≡ true → length (starts q c) ≤ q.share) (len : ℕ)
      (h : List Call) (l : Bor (List ℕ)) (s : State) (shelf : List ℕ)
      (many : length s.kept ≡ 64) (long : length q.names * q.share ≤ length shelf) (st : Stands h s shelf) where
    -- the line's bytes
    abbrev line : List ℕ
    line = l.now

    -- the line as a call
    abbrev call : Call
    call = Line l

    -- an asked name has a record and a share
    has : (t : Option Stretch) → Has q len line s shelf (asked_in q t)
    has t i e =
        let b = asked_few q t i e in
        (omega arith, part_ends i (length q.names) q.share (length shelf) b long)

    -- a line that cannot be read
    bad_moves : (at : ℕ) → fault_of line ≡ Some at → Moves h call s shelf (refuses q line s shelf (BadLine at) (strayed s))
    bad_moves at e =
        let z : boundary q call ≡ false = rw e in
        let c = course_past q h call z ∙ rw e (and_false (on_course q h)) in
        after_same (sym c) (who_past h call z) (λ i x. refl) (loses_as q len line s shelf (BadLine at) (on_course q h) (who h) (text h) _ st (has (in_force q h)))

    -- a boundary
    turn_moves : (p : Step) (o : Option ℕ) (bytes : List ℕ) → boundary q call ≡ true → fault_of line ≡ None → o ≡ asked q call →
        ((i : ℕ) → asked q call ≡ Some i → bytes ≡ starts q call) → After q.share true o bytes s shelf p → Moves h call s shelf p
    turn_moves p o bytes z clean same is a =
        let t = in_force_at q h call z in
        let w : asked q call ≡ who (h ++ (call ∷ [])) = ap (asked_in q) (sym t) in
        let room = fits_any q (asked q call) (length (starts q call)) (starts_fit call (rw clean)) in
        after_same (sym (course_at q h call z room)) (same ∙ w)
        (λ i x. is i (w ∙ x) ∙ sym (append-nil (starts q call)) ∙ ap (text_in q) (sym t)) a

    -- what holds of the step that a line makes: its answer is the one that is said, it writes what that answer says, and the reader moves on
    record Heard (m : Meaning) (p : Step) : Type 0 where
      answer : p.answer ≡ heard_as q len h m line
      wrote_it : p.shelf ≡ wrote q len (in_force q h) line p.answer shelf
      moves : Moves h call s shelf p

    -- a line that continues
    continues : fault_of line ≡ None → q.meaning line ≡ Continues → Heard Continues (goes_on q line s shelf (course_of (on_course q h) (who h)))
    continues clean is =
        let z : boundary q call ≡ false = rw (clean, is) in
        let k : adds q call ≡ fed line = rw is in
        let r : readable call ≡ true = rw clean in
        let g = goes_as q len line s shelf (on_course q h) (who h) (text h) st (has (in_force q h)) in
        let c : on_course q (h ++ (call ∷ [])) ≡ (on_course q h && fits q (who h) (length (text h ++ fed line))) =
        course_past q h call z
        ∙ ap (λ b. on_course q h && (b && fits q (who h) (length (text_in q (option_map (more call) (in_force q h)))))) r
        ∙ ap (λ b. on_course q h && b) (fits_with h call ∙ ap (λ b. fits q (who h) (length (text h ++ b))) k) in
        let w = who_past h call z in
        record {
          answer = g.0 ∙ ap (λ a. cond (on_course q h) a (Ok PassedOver)) (kept_in_lem len (in_force q h) line);
          wrote_it = goes_wrote q len line s shelf (in_force q h) (on_course q h) (who h) (text h) st (ends_at len (in_force q h));
          moves = after_same (sym c) w (λ i x. ap (λ b. text h ++ b) (sym k) ∙ text_past h call z i (w ∙ x)) g.1;
        }

    -- a stray
    stray : fault_of line ≡ None → q.meaning line ≡ Stray → Heard Stray (strays q line s shelf q.fixed.strays_end)
    stray clean is =
        let g = strays_as q len line s shelf q.fixed.strays_end (on_course q h) (who h) (text h) st in
        let p = strays q line s shelf q.fixed.strays_end in
        let moves : Moves h call s shelf p =
        elim (cases_Bool q.fixed.strays_end) [
          | inl t ↦
              turn_moves p None (text h) (rw (clean, is, t)) clean (rw is) (λ i x. absurd (none_some i (rw is at x)))
              (after_same (ap (λ b. cond b true (on_course q h)) t) (ap (λ b. cond b None (who h)) t) (λ i x. refl) g.1)
          | inr t ↦
              idle_moves h call s shelf p (rw (clean, is, t)) (rw clean) (rw is)
              (after_same (ap (λ b. cond b true (on_course q h)) t) (ap (λ b. cond b None (who h)) t) (λ i x. refl) g.1)
        ] in
        record { answer = g.0; wrote_it = strays_wrote q len line s shelf (in_force q h) q.fixed.strays_end; moves = moves }

    -- any line that can be read
    heard_line : (m : Meaning) → fault_of line ≡ None → q.meaning line ≡ m → Heard m (decided q line s shelf m)
    heard_line (Opens name text') clean is =
        let o = asked_by q (Opens name text') line in
        let same : o ≡ asked q call = rw is in
        let bytes : opening_text text' line ≡ starts q call = rw is in
        let fit = subst (λ b. length b ≤ q.share) (sym bytes) (starts_fit call (rw clean)) in
        let g = opens_as q len line s shelf o (opening_text text' line) (λ i e. has (Some record { first = call; rest = [] }) i (sym same ∙ e)) fit in
        let e : opening_text text' line ≡ starting (q.meaning line) line = rw is in
        record {
          answer = g.0;
          wrote_it = ap (λ b. (opens q line s shelf o b).shelf) e ∙ opens_wrote q len line s shelf (in_force q h) o
              ∙ ap (λ b. wrote q len (in_force q h) line (opens q line s shelf o b).answer shelf) (sym e);
          moves = turn_moves (opens q line s shelf o (opening_text text' line)) o (opening_text text' line) (rw (clean, is)) clean same (λ i x. bytes) g.1;
        }
    heard_line Continues clean is = subst (Heard Continues) (ap (goes_on q line s shelf) (sym st.course)) (continues clean is)
    heard_line Stray clean is = stray clean is

    -- what is said of a line after calls that close nothing, over a shelf that is not short
    abbrev said_of : Option ℕ → Result Answer Refusal
    said_of bad = unless_fault q len bad (heard_as q len h (q.meaning line) line)

    -- a line: its answer is the one that is said, it writes what that answer says, and the reader moves on
    pub line_moves : (bad : Option ℕ) → fault_of line ≡ bad →
        ((unless_bad q line s shelf bad).answer ≡ said_of bad)
        × ((unless_bad q line s shelf bad).shelf ≡ wrote q len (in_force q h) line (unless_bad q line s shelf bad).answer shelf)
        × Moves h call s shelf (unless_bad q line s shelf bad)
    line_moves None e = let g = heard_line (q.meaning line) e refl in (g.answer, g.wrote_it, g.moves)
    line_moves (Some at) e = (refl, refl, bad_moves at e)
