-- The kinds of byte that the rules speak of.
use Rattle.std.specs.Prelude.{ℕ, ◌+◌, Bool, cond, not, ◌&&◌, ◌||◌, ◌==◌, nat_le}

abbrev pub within : ℕ → ℕ → ℕ → Bool
within low high b = nat_le low b && nat_le b high

-- one byte and no other
abbrev pub only : ℕ → ℕ → Bool
only byte b = b == byte

-- any byte but one
abbrev pub except : ℕ → ℕ → Bool
except byte b = not (b == byte)

abbrev pub space : ℕ → Bool
space b = only 32 b

abbrev pub star : ℕ → Bool
star b = only 42 b

-- a tab or a space
abbrev pub blank : ℕ → Bool
blank b = b == 9 || b == 32

-- a blank or a line feed
abbrev pub white : ℕ → Bool
white b = blank b || b == 10

-- an ASCII letter, a digit or an underscore
abbrev pub word : ℕ → Bool
word b = within 97 122 b || (within 65 90 b || (within 48 57 b || b == 95))

-- a byte that a line may hold: a tab, or printable ASCII
abbrev pub plain : ℕ → Bool
plain b = b == 9 || within 32 126 b

-- an ASCII capital becomes its small letter, any other byte stays
abbrev pub lowered : ℕ → ℕ
lowered b = cond (within 65 90 b) (b + 32) b
