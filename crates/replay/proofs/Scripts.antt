-- Reading a script line by line.
use Rattle.std.proofs.Common.{◌≡◌, ℕ, ◌+◌, ◌<◌, ◌≤◌, cond, List, [], ◌∷◌, ◌++◌, map, length, get_or, drop, Ok, Err, codes, Result, sym, refl, ap, ◌∙◌, Bor, add_assoc, arith}
use Rattle.std.specs.List.{between}
use Rattle.std.specs.Str.{bytes_eq}
use Rattle.std.proofs.lemmas.List.{at_drop_all, at_drop_more, get_or-map, length-map, map_push}
use Rattle.std.proofs.lemmas.List.Edits.{length-between, get_or-between}
use Rattle.text.specs.Lines.{texts}
use Rattle.reader.specs.declared.calls.Call.{Call}
use Rattle.replay.specs.Sayings.{and_then, call_of, name_of, said, said_of}
use Rattle.replay.specs.Scripts.{calls_from, names_from, on_line, room_with, Names, Spoken}
use Rattle.replay.specs.declared.script.Fault.{Fault}
use Rattle.replay.specs.declared.script.Wrong.{Wrong}

-- what is made of what was read does not change the fault
on_said : {T U : Type 0} (f : T → U) (i : ℕ) (r : Result T Wrong) → on_line i (said f r) ≡ said f (on_line i r)
on_said f i (Ok x) = refl
on_said f i (Err wrong) = refl

-- what a line says, by what was read from it
pub heard : {T U : Type 0} (f : T → U) (i : ℕ) (r : Result T Wrong) (s : Result U Wrong) {x : Result T Fault} → said f r ≡ s → x ≡ on_line i r → on_line i s ≡ said f x
heard f i r s e is = ap (on_line i) (sym e) ∙ on_said f i r ∙ ap (said f) (sym is)

-- the lines from one on, of which k are read
module _ (lines : List (Bor (List ℕ))) (from k : ℕ) where
  -- the line that is read now
  abbrev pub line : List ℕ
  line = (get_or (between from (length lines) lines) k record { ref_ptr = (0, 0); now = [] }).now

  -- the lines behind it
  abbrev pub behind : List (List ℕ)
  behind = drop (from + k + 1) (texts lines)

  -- it stands before those behind it
  line_next : k < length (between from (length lines) lines) → drop (from + k) (texts lines) ≡ line ∷ behind
  line_next more =
      let near : from + k < length lines = omega (arith, more, length-between lines from (length lines)) in
      let no_line : Bor (List ℕ) = record { ref_ptr = (0, 0); now = [] } in
      at_drop_more (λ ls. ls) (texts lines) (from + k) [] (rw length-map near)
      ∙ ap (λ l. l ∷ behind)
      (get_or-map (λ r. r.now) lines (from + k) no_line [] near
      ∙ ap (λ r. r.now) (sym (get_or-between lines from (length lines) k no_line near)))

  -- behind the last line there is none
  line_none : length (between from (length lines) lines) ≤ k → from ≤ length lines → drop (from + k) (texts lines) ≡ []
  line_none past within = at_drop_all (λ ls. ls) (texts lines) (from + k) (rw length-map (omega (arith, past, length-between lines from (length lines))))

  -- the names that are asked for, by those found and the line
  pub names_next : (end : ℕ) (found : List (List ℕ)) {whole : Result Names Fault} → k < length (between from (length lines) lines) → names_from end found (from + k) (drop (from + k) (texts lines)) ≡ whole →
      cond (bytes_eq line (codes "start")) (Ok (record { names = found; start = from + k })) (and_then (on_line (from + k) (name_of line)) (λ name. names_from end (found ++ name ∷ []) (from + k + 1) behind)) ≡ whole
  names_next end found more so = ap (names_from end found (from + k)) (sym (line_next more)) ∙ so

  -- one name more is found
  pub names_push : (end : ℕ) (found : List (Bor (List ℕ))) (name : Bor (List ℕ)) {next : List (Bor (List ℕ))} {whole : Result Names Fault} → next ≡ found ++ name ∷ [] →
      names_from end (texts found ++ name.now ∷ []) (from + k + 1) behind ≡ whole → names_from end (texts next) (from + (k + 1)) (drop (from + (k + 1)) (texts lines)) ≡ whole
  names_push end found name is so = rw (is, map_push (λ r. r.now) found name, ← add_assoc from k 1) so

  -- the calls, by those found and the line
  pub calls_next : (found : List Call) (room : ℕ) {whole : Result Spoken Fault} → k < length (between from (length lines) lines) → calls_from (map said_of found) room (from + k) (drop (from + k) (texts lines)) ≡ whole →
      and_then (on_line (from + k) (call_of room line)) (λ call. and_then (on_line (from + k) (room_with room call)) (λ next. calls_from (map said_of found ++ call ∷ []) next (from + k + 1) behind)) ≡ whole
  calls_next found room more so = ap (calls_from (map said_of found) room (from + k)) (sym (line_next more)) ∙ so

  -- one call more is found
  pub calls_push : (found : List Call) (room : ℕ) (call : Call) {next : List Call} {whole : Result Spoken Fault} → next ≡ found ++ call ∷ [] →
      calls_from (map said_of found ++ said_of call ∷ []) room (from + k + 1) behind ≡ whole → calls_from (map said_of next) room (from + (k + 1)) (drop (from + (k + 1)) (texts lines)) ≡ whole
  calls_push found room call is so = rw (is, map_push said_of found call, ← add_assoc from k 1) so
