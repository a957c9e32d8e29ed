-- The words and the numbers of a script's line.
use Rattle.std.specs.Prelude.{ℕ, ◌+◌, ◌^◌, Bool, cond, ◌&&◌, List, length, take, drop, Some, None, Option, nat_lt}
use Rattle.std.specs.Str.Parse.{digits_value}
use Rattle.std.specs.List.{prefix_len}
use Rattle.std.specs.Str.{all_ascii_digits}
use Rattle.text.specs.Bytes.{except}

-- what stands before the first space
abbrev pub word_of : List ℕ → List ℕ
word_of line = take (prefix_len (except 32) line) line

-- what stands behind the first space
abbrev pub rest_of : List ℕ → List ℕ
rest_of line = drop (prefix_len (except 32) line + 1) line

-- one digit or more, of a number that 64 bits hold
abbrev pub numeral : List ℕ → Bool
numeral text = nat_lt 0 (length text) && (all_ascii_digits text && nat_lt (digits_value 10 text) (2 ^ 64))

abbrev pub number_of : List ℕ → Option ℕ
number_of text = cond (numeral text) (Some (digits_value 10 text)) None
