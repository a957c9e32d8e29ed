-- What a question for a body is given.
use Rattle.std.proofs.Common.{◌≡◌, ℕ, ◌+◌, ◌-◌, ◌<◌, ◌≤◌, min, Bool, true, false, cond, List, ◌++◌, length, take, drop, Some, None, Ok, Option, sym, ap, ◌∙◌, zero-add, arith}
use borrow.Rule.Slice.PartMut.{put_mid}
use Rattle.std.proofs.lemmas.List.{drop-drop, length-drop, length-take-le, take_at}
use Rattle.std.proofs.lemmas.Bool.{le-leb, lt-leb}
use Rattle.refusal.specs.declared.Refusal.TheVariants.{ShortTarget}
use Rattle.text.specs.Dedents.{dedented}
use Rattle.text.specs.Lines.{put}
use Rattle.text.specs.Trims.{trimmed}
use Rattle.text.proofs.Ends.{drop_min, take_min}
use Rattle.rules.specs.declared.meaning.Place.{Place}
use Rattle.rules.specs.Places.{clipped}
use Rattle.reader.specs.Steps.{body_of, handed, withheld}

-- a text that was written where there was room stands at the front, and its length was given
written_at : (room : Bool) (len : ℕ) (r : Option ℕ) (dedent out before : List ℕ) → r ≡ cond room (Some (length dedent)) None → r ≡ Some len →
    out ≡ cond room (dedent ++ drop (length dedent) before) before → take len out ≡ dedent
written_at true len r dedent out before e is w =
    let same : len ≡ length dedent = cc in
    ap (take len) w ∙ take_at dedent (drop (length dedent) before) len (sym same)
written_at false len r dedent out before e is w = let z : ◌≡◌ {A = ℕ} 0 1 = cc in absurd (omega arith)

module _ (text body : List ℕ) where
  -- trimmed, it is the body of the text
  pub body_made : (room : Bool) (len : ℕ) (r : Option ℕ) (out before : List ℕ) → r ≡ cond room (Some (length (dedented text))) None → r ≡ Some len →
      out ≡ cond room (dedented text ++ drop (length (dedented text)) before) before → body ≡ trimmed (take len out) → body ≡ body_of text
  body_made room len r out before e is w trim = trim ∙ ap trimmed (written_at room len r (dedented text) out before e is w)

  module _ (is : body ≡ body_of text) (target : List ℕ) where
    -- it does not fit in the target
    pub too_long : length target < length body → withheld target ShortTarget ≡ handed target text
    too_long h = rw (lt-leb (length (body_of text)) (length target) (omega (arith, ap length is)))

    -- it fits
    pub handed_out : length body ≤ length target → (front : List ℕ) → front ≡ body →
        record { answer = Ok (length body); target = front ++ drop (length body) target } ≡ handed target text
    handed_out h front same =
        let z = zero-add (length (body_of text)) in
        rw (le-leb (length (body_of text)) (length target) (omega (arith, ap length is)), same, is, z)

-- a part of the targets, as far as there are any
module _ (targets : List ℕ) (place part : Place) (is : part ≡ clipped place (length targets)) where
  -- where it starts
  starts : part.at ≡ min place.at (length targets)
  starts = ap (λ (p : Place). p.at) is

  -- how long it is
  wide : part.len ≡ min place.len (length targets - min place.at (length targets))
  wide = ap (λ (p : Place). p.len) is

  -- a start behind the end counts as the end
  same_rest : drop part.at targets ≡ drop place.at targets
  same_rest = drop_min targets place.at part.at starts

  -- what it holds
  pub part_held : take (part.at + part.len - part.at) (drop part.at targets) ≡ take place.len (drop place.at targets)
  part_held =
      let n = length-drop part.at targets in
      let w : part.at + part.len - part.at ≡ min place.len (length (drop part.at targets)) = omega (arith, starts, wide) in
      take_min (drop part.at targets) place.len (part.at + part.len - part.at) w ∙ ap (take place.len) same_rest

  -- other bytes in its place
  pub part_put : (bytes : List ℕ) → length bytes ≡ length (take (part.at + part.len - part.at) (drop part.at targets)) →
      put_mid part.at (part.at + part.len - part.at) targets bytes ≡ put place.at bytes targets
  part_put bytes same =
      let n = length-drop part.at targets in
      let size : length bytes ≡ part.at + part.len - part.at =
      same ∙ length-take-le (part.at + part.len - part.at) (drop part.at targets) (omega (arith, starts, wide)) in
      let rest : drop (part.at + part.len - part.at) (drop part.at targets) ≡ drop (place.at + length bytes) targets =
      ap (λ k. drop k (drop part.at targets)) (sym size) ∙ ap (drop (length bytes)) same_rest ∙ drop-drop (length bytes) place.at targets in
      ap (λ b. b ++ (bytes ++ drop (part.at + part.len - part.at) (drop part.at targets))) (take_min targets place.at part.at starts)
      ∙ ap (λ b. take place.at targets ++ (bytes ++ b)) rest
