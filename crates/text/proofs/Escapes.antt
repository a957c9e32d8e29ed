-- What bytes print as, one by one.
use Rattle.std.proofs.Common.{◌≡◌, ℕ, ◌+◌, ◌<◌, ◌/◌, ◌%◌, List, [], ◌∷◌, ◌++◌, suc, length, get_or, take, sym, ap, ◌∙◌, arith}
use Rattle.std.specs.Str.{IsAscii}
use Rattle.std.specs.List.{All}
use Rattle.std.proofs.lemmas.Grind.{common_steps}
use Rattle.std.proofs.lemmas.Str.{IsAscii-append}
use Rattle.std.proofs.lemmas.Str.Ascii.{IsAscii-nil, IsAscii-from_all}
use Rattle.std.proofs.lemmas.List.{flat_map_more, take_more}
use Rattle.text.specs.Escapes.{escaped, escape_of, hex_digit}

-- one byte more, escaped
pub escaped_more : (text : List ℕ) (i : ℕ) → i < length text → escaped (take i text) ++ escape_of (get_or text i 0) ≡ escaped (take (i + 1) text)
escaped_more text i more = flat_map_more escape_of [] (take i text) (get_or text i 0) ∙ ap escaped (sym (take_more text i 0 more))

-- a hexadecimal digit is ASCII
digit_ascii : (n : ℕ) → n < 16 → hex_digit n < 128
digit_ascii n small = grind (arith, common_steps)

-- what a byte prints as is ASCII
escape_ascii : (b : ℕ) → b < 256 → All (λ c. c < 128) (escape_of b)
escape_ascii b small =
    let high = digit_ascii (b / 16) (omega arith) in
    let low = digit_ascii (b % 16) (omega arith) in
    grind (arith, common_steps)

-- what bytes print as is ASCII
pub escaped_ascii : (text : List ℕ) → ((i : ℕ) → get_or text i 0 < 256) → IsAscii (escaped text)
escaped_ascii [] small = IsAscii-nil
escaped_ascii (b ∷ text) small =
    IsAscii-append (escape_of b) (escaped text) (IsAscii-from_all (escape_of b) (escape_ascii b (small 0))) (escaped_ascii text (λ i. small (suc i)))
