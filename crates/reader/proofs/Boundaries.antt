-- From a boundary on, nothing hangs on the calls before it.
use Rattle.std.proofs.Common.{◌≡◌, ℕ, Bool, true, false, cond, ◌&&◌, List, [], ◌∷◌, ◌++◌, is_some, Some, None, Option, sym, refl, ap, ◌∙◌}
use Rattle.std.proofs.lemmas.List.{append-nil}
use Rattle.std.proofs.lemmas.Bool.{and_parts, false≢true, true≢false}
use Rattle.refusal.specs.declared.Refusal.TheVariants.{ShortShelf, StillReading}
use Rattle.rules.specs.declared.meaning.Meaning.{Meaning}
use Rattle.rules.specs.declared.meaning.Meaning.TheVariants.{Opens, Continues, Stray}
use Rattle.rules.specs.declared.meaning.Place.{Place}
use Rattle.reader.specs.Laws.{AsksOwn, DamageEnds, told}
use Rattle.reader.specs.Runs.{Told, heard_as, of_stretch, says}
use Rattle.reader.specs.Steps.{Setup, short, withheld}
use Rattle.reader.specs.Stretches.{Stretch, asked, begins, begins_for, boundary, every, goes_by, heard, in_force, is_name, last_stretch, or_else, running, up_to_turn}
use Rattle.reader.specs.declared.calls.Call.{Call}
use Rattle.reader.specs.declared.calls.Call.TheVariants.{Line, Close, Ask}

-- what holds of every call of a front, need be asked only of the calls behind it
pub every_append : (p : Call → Bool) (xs ys : List Call) → every p xs ≡ true → every p (xs ++ ys) ≡ every p ys
every_append p [] ys h = refl
every_append p (x ∷ xs) ys h =
    let e = and_parts (p x) (every p xs) h in
    rw e.0 (every_append p xs ys e.1)

-- calls that close nothing are heard, and so are those behind them up to a closing
pub heard_append : (before cs : List Call) → running before ≡ true → heard (before ++ cs) ≡ before ++ heard cs
heard_append [] cs h = refl
heard_append (c ∷ before) cs h =
    let e = and_parts (goes_by c) (running before) h in
    rw e.0 (ap (λ r. c ∷ r) (heard_append before cs e.1))

-- one of two stretches, the second of which is there
or_some : (o : Option Stretch) (x : Stretch) → (s : Stretch) × (or_else o (Some x) ≡ Some s)
or_some None x = (x, refl)
or_some (Some y) x = (y, refl)

-- a stretch that is there
some_of : (o : Option Stretch) → is_some o ≡ true → (s : Stretch) × (o ≡ Some s)
some_of None e = absurd (false≢true e)
some_of (Some s) e = (s, refl)

-- and one that is not
none_of : (o : Option Stretch) → is_some o ≡ false → o ≡ None
none_of None e = refl
none_of (Some s) e = absurd (true≢false e)

module _ (q : Setup) where
  -- a boundary closes nothing
  pub boundary_goes : (b : Call) → boundary q b ≡ true → goes_by b ≡ true
  boundary_goes (Line l) e = refl
  boundary_goes Close e = absurd (false≢true e)
  boundary_goes (Ask i t) e = refl

  -- behind a boundary a stretch is in force
  pub in_force_first : (b : Call) (after : List Call) → boundary q b ≡ true → (s : Stretch) × (in_force q (b ∷ after) ≡ Some s)
  in_force_first b after h = rw h (or_some (in_force q after) record { first = b; rest = after })

  -- a stretch in force stays the same whatever calls came before
  pub in_force_append : (before cs : List Call) (s : Stretch) → in_force q cs ≡ Some s → in_force q (before ++ cs) ≡ Some s
  in_force_append [] cs s e = e
  in_force_append (c ∷ before) cs s e = ap (λ o. or_else o (begins q c (before ++ cs))) (in_force_append before cs s e)

  -- and so does a name's last stretch
  pub last_append : (i : ℕ) (before cs : List Call) (s : Stretch) → last_stretch q i cs ≡ Some s → last_stretch q i (before ++ cs) ≡ Some s
  last_append i [] cs s e = e
  last_append i (c ∷ before) cs s e = ap (λ o. or_else o (begins_for q i c (before ++ cs))) (last_append i before cs s e)

  -- the calls up to the next boundary end before it
  pub up_to_bound : (xs cs : List Call) (b : Call) → boundary q b ≡ true → up_to_turn q (xs ++ (b ∷ cs)) ≡ up_to_turn q xs
  up_to_bound [] cs b e = rw e
  up_to_bound (x ∷ xs) cs b e = ap (λ r. cond (boundary q x) [] (x ∷ r)) (up_to_bound xs cs b e)

  -- a stretch of a name begins the same where the calls up to the next boundary are the same
  pub begins_same : (i : ℕ) (x : Call) (xs ys : List Call) → up_to_turn q xs ≡ up_to_turn q ys → begins_for q i x xs ≡ begins_for q i x ys
  begins_same i x xs ys e = ap (λ r. cond (boundary q x && is_name q i (asked q x)) (Some record { first = x; rest = r }) None) e

  -- a name that is not opened from a boundary on has the last stretch that it had before it
  pub last_before : (i : ℕ) (xs cs : List Call) (b : Call) → boundary q b ≡ true → last_stretch q i (b ∷ cs) ≡ None →
      last_stretch q i (xs ++ (b ∷ cs)) ≡ last_stretch q i xs
  last_before i [] cs b e n = n
  last_before i (x ∷ xs) cs b e n =
      ap (λ o. or_else o (begins_for q i x (xs ++ (b ∷ cs)))) (last_before i xs cs b e n)
      ∙ ap (or_else (last_stretch q i xs)) (begins_same i x (xs ++ (b ∷ cs)) xs (up_to_bound xs cs b e))

  -- what is answered to a line that can be read hangs on the stretch in force alone
  heard_same : (len : ℕ) (h k : List Call) (s : Stretch) → in_force q h ≡ Some s → in_force q k ≡ Some s →
      (m : Meaning) (line : List ℕ) → heard_as q len h m line ≡ heard_as q len k m line
  heard_same len h k s e d (Opens name text) line = refl
  heard_same len h k s e d Continues line = rw (e, d)
  heard_same len h k s e d Stray line = rw (e, d)

  -- the answer to a question: the reader runs or not, and the name has this last stretch
  abbrev body_by : ℕ → List ℕ → Bool → Option Stretch → Told
  body_by len target r o = told (cond r (withheld target StillReading) (cond (short q len) (withheld target ShortShelf) (of_stretch q len target o)))

  module _ (len : ℕ) (before after : List Call) (b : Call) (target : List ℕ) (run : running before ≡ true) (bound : boundary q b ≡ true) where
    abbrev all : List Call
    all = before ++ (b ∷ after)

    -- the reader runs behind the calls if it does behind those from the boundary on
    runs_same : running all ≡ running (b ∷ after)
    runs_same = every_append goes_by before (b ∷ after) run

    -- from a boundary on, calls are answered as by a new reader
    resumes : (c : Call) → AsksOwn q (b ∷ after) c → says q len all c target ≡ says q len (b ∷ after) c target
    resumes (Line l) own =
        let t = in_force_first b after bound in
        let u = in_force_append before (b ∷ after) t.0 t.1 in
        rw (runs_same, heard_same len all (b ∷ after) t.0 u t.1 (q.meaning l.now) l.now)
    resumes Close own = rw runs_same
    resumes (Ask i t) own =
        let p = some_of (last_stretch q i (heard (b ∷ after))) own in
        let same = ap (last_stretch q i) (heard_append before (b ∷ after) run) ∙ last_append i before (heard (b ∷ after)) p.0 p.1 ∙ sym p.1 in
        ap (λ r. body_by len target r (last_stretch q i (heard all))) runs_same ∙ ap (body_by len target (running (b ∷ after))) same

    -- a name that is not opened from the boundary on answers as if the reader had closed there
    stays : (i : ℕ) (t : Place) → running after ≡ false → is_some (last_stretch q i (heard (b ∷ after))) ≡ false →
        says q len all (Ask i t) target ≡ says q len (before ++ (Close ∷ [])) (Ask i t) target
    stays i t shut none =
        let goes = boundary_goes b bound in
        let hb : heard (b ∷ after) ≡ b ∷ heard after = rw goes in
        let n = ap (last_stretch q i) (sym hb) ∙ none_of (last_stretch q i (heard (b ∷ after))) none in
        let same = ap (last_stretch q i) (heard_append before (b ∷ after) run ∙ ap (λ r. before ++ r) hb) ∙ last_before i before (heard after) b bound n in
        let closed = ap (last_stretch q i) (heard_append before (Close ∷ []) run ∙ append-nil before) in
        ap (λ r. body_by len target r (last_stretch q i (heard all))) (runs_same ∙ ap (λ r. r && running after) goes ∙ shut)
        ∙ ap (body_by len target false) (same ∙ sym closed)
        ∙ ap (λ r. body_by len target r (last_stretch q i (heard (before ++ (Close ∷ []))))) (sym (every_append goes_by before (Close ∷ []) run))

  -- damage ends at the next boundary
  pub damage_ends : DamageEnds q
  damage_ends = record {
    resumes = λ len before after b c target run bound own. resumes len before after b target run bound c own;
    stays = λ len before after b i t target run bound shut none. stays len before after b target run bound i t shut none;
  }
