-- Bytes shown as printable ASCII.
use Rattle.std.specs.Prelude.{ℕ, ◌+◌, ◌/◌, ◌%◌, cond, List, [], ◌∷◌, ◌==◌, nat_lt}
use Rattle.std.specs.List.{flat_map}
use Rattle.text.specs.Bytes.{within}

-- a digit, or a letter from `a`
abbrev pub hex_digit : ℕ → ℕ
hex_digit n = cond (nat_lt n 10) (48 + n) (87 + n)

-- a backslash is doubled, a line feed is `\n`, a tab `\t`, any other byte outside 32 to 126 `\x` and two digits
abbrev pub escape_of : ℕ → List ℕ
escape_of b =
    cond (b == 92) (92 ∷ 92 ∷ [])
    (cond (b == 10) (92 ∷ 110 ∷ [])
    (cond (b == 9) (92 ∷ 116 ∷ [])
    (cond (within 32 126 b) (b ∷ [])
    (92 ∷ 120 ∷ hex_digit (b / 16) ∷ hex_digit (b % 16) ∷ []))))

abbrev pub escaped : List ℕ → List ℕ
escaped text = flat_map escape_of text
