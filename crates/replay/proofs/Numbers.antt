-- Reading a number by the library's `parse`.
use Rattle.std.proofs.Common.{◌≡◌, ◌≢◌, ℕ, ◌^◌, ◌<◌, true, List, length, get_or, ltb, Some, None, Ok, Err, Result, Bor, inl, inr, arith}
use Rattle.std.specs.Result.{result_ok, MatchResult, OkIff}
use Rattle.std.specs.Str.{all_ascii_digits, IsUtf8}
use Rattle.std.specs.Str.Parse.{digits_value, ParsesUnsigned}
use Rattle.std.proofs.Math.Bool.{and-false}
use Rattle.std.proofs.lemmas.Bool.{cases_Bool}
use Rattle.std.proofs.lemmas.Bool.Decides.{nat_tests}
use Rattle.std.proofs.lemmas.Fmt.{IsAscii-from_digits}
use Rattle.std.proofs.lemmas.Str.{IsUtf8-from_ascii}
use Rattle.std.proofs.lemmas.Str.Parse.{numerals_by_value, parse_plain, tells_all_ascii_digits, IsNumeralModel}
use Rattle.replay.specs.Words.{number_of}

-- digits and their value are the library's
own : IsNumeralModel (λ ds. all_ascii_digits ds ≡ true) (digits_value 10)
own = numerals_by_value _ tells_all_ascii_digits

-- a number that is read where a text of digits fits is the text's
ok_is : {E : Type 0} (text : List ℕ) (r : Result ℕ E) → OkIff r ((all_ascii_digits text ≡ true) × (0 < length text) × (digits_value 10 text < 2 ^ 64)) (digits_value 10 text) → result_ok r ≡ number_of text
ok_is text (Ok n) h = grind (arith, nat_tests)
ok_is text (Err e) h = grind (arith, nat_tests)

-- what `parse` reads of a text with no sign
pub parsed_is : {E : Type 0} (text : List ℕ) (r : Result ℕ E) → ParsesUnsigned 64 10 text r → get_or text 0 0 ≢ 43 → result_ok r ≡ number_of text
parsed_is text r parses plain = ok_is text r (parse_plain own 64 text r parses plain)

-- digits are ASCII, so that a text that is not UTF-8 is no number
not_text_is : (text : List ℕ) → ¬ (IsUtf8 text) → None ≡ number_of text
not_text_is text not_utf8 =
    elim (cases_Bool (all_ascii_digits text)) [
      | inl t ↦ absurd (not_utf8 (IsUtf8-from_ascii text (IsAscii-from_digits text (own.to text t))))
      | inr f ↦ rw (f, and-false (ltb 0 (length text)))
    ]

-- what `from_utf8` does not read is no number
pub unread_is : {X E : Type 0} (text : List ℕ) (r : Result X E) (P : X → Type 0) (Q : E → Type 0) → MatchResult r P (λ e. ¬ (IsUtf8 text) × Q e) → result_ok r ≡ None → None ≡ number_of text
unread_is text (Ok x) P Q cases e = cc
unread_is text (Err e) P Q cases is = not_text_is text cases.0

-- and what it reads are the bytes
pub read_is : {E : Type 0} (text : List ℕ) (r : Result (Bor (List ℕ)) E) (s : Bor (List ℕ)) (P : Type 0) (Q : E → Type 0) → MatchResult r (λ t. (t.now ≡ text) × P) Q → result_ok r ≡ Some s → s.now ≡ text
read_is text (Ok t) s P Q cases is = let same : t ≡ s = cc in rw same at cases.0
read_is text (Err e) s P Q cases is = cc
