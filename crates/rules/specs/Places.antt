-- Parts of bytes.
use Rattle.std.specs.Prelude.{ℕ, ◌-◌, min}
use Rattle.rules.specs.declared.meaning.Place.{Place}

-- as much of a place as there is in so many bytes
abbrev pub clipped : Place → ℕ → Place
clipped place len = record { at = min place.at len; len = min place.len (len - min place.at len) }
