-- What lines store.
use Rattle.std.specs.Prelude.{ℕ, List, [], ◌++◌, drop, replicate, Some, None, Option}
use Rattle.text.specs.Lines.{fed}
use Rattle.rules.specs.declared.meaning.Meaning.{Meaning}
use Rattle.rules.specs.declared.meaning.Meaning.TheVariants.{Opens, Continues, Stray}

-- what a line that opens a name stores: nothing, or its text and an LF, one space standing for each byte before it
abbrev pub opening_text : Option ℕ → List ℕ → List ℕ
opening_text None line = []
opening_text (Some t) line = fed (replicate t 32 ++ drop t line)

-- what a line with a meaning stores where it begins a stretch, and where it goes on in one
abbrev pub starting : Meaning → List ℕ → List ℕ
starting (Opens name text) line = opening_text text line
starting Continues line = []
starting Stray line = []

abbrev pub continuing : Meaning → List ℕ → List ℕ
continuing (Opens name text) line = []
continuing Continues line = fed line
continuing Stray line = []
