-- A line that can be read is ASCII, and so is a name that it opens.
use Rattle.std.proofs.Common.{◌≡◌, ℕ, ◌<◌, min, Bool, true, false, List, length, get_or, Some, None, Ok, Option, refl, arith, ⊎_elim}
use Rattle.std.specs.List.{prefix_len}
use Rattle.std.specs.Str.{IsAscii}
use Rattle.std.proofs.lemmas.Bool.{cases_lt, cond_below}
use Rattle.std.proofs.lemmas.Bool.Decides.{nat_tests}
use Rattle.std.proofs.lemmas.List.Sums.{prefix_len_passes}
use Rattle.std.proofs.lemmas.Str.Ascii.{IsAscii-from_reads, IsAscii-map}
use Rattle.text.specs.Bytes.{lowered, plain}
use Rattle.text.specs.Lines.{fault_of}
use Rattle.rules.specs.Meanings.{looked_up}
use Rattle.rules.specs.declared.meaning.Meaning.{Meaning}
use Rattle.lines.specs.Rows.{reading_of}

-- a byte that a line may hold is ASCII
plain_ascii : (b : ℕ) → plain b ≡ true → b < 128
plain_ascii b passes = grind (arith, nat_tests)

-- and so is the small letter of one that is
lowered_ascii : (b : ℕ) → b < 128 → lowered b < 128
lowered_ascii b small = grind (arith, nat_tests)

-- where the plain bytes end before the line does, there is a fault
fault_there : (line : List ℕ) → min (prefix_len plain line) 1000 < length line → fault_of line ≡ None → ⊥
fault_there line more none = let there : Some (min (prefix_len plain line) 1000) ≡ fault_of line = cond_below _ _ _ _ more in cc

-- a line without a fault
faultless_ascii : (line : List ℕ) → fault_of line ≡ None → IsAscii line
faultless_ascii line none =
    IsAscii-from_reads line (length line) (omega arith) (λ k more. plain_ascii (get_or line k 0)
    (⊎_elim
    (λ ends. absurd (fault_there line ends none))
    (λ all. prefix_len_passes plain line k 0 (omega arith))
    (cases_lt (min (prefix_len plain line) 1000) (length line))))

-- a fault is told in place of a meaning
meant_faultless : (fault : Option ℕ) (told meaning : Meaning) → Ok told ≡ reading_of fault meaning → fault ≡ None
meant_faultless None told meaning is = refl
meant_faultless (Some at) told meaning is = cc

-- a line that is given a meaning
pub meant_ascii : (line : List ℕ) (told meaning : Meaning) → Ok told ≡ reading_of (fault_of line) meaning → IsAscii line
meant_ascii line told meaning is = faultless_ascii line (meant_faultless (fault_of line) told meaning is)

-- a name stays ASCII when it is lowered
pub looked_up_ascii : (lowers : Bool) (name : List ℕ) → IsAscii name → IsAscii (looked_up lowers name)
looked_up_ascii true name ascii = IsAscii-map lowered name lowered_ascii ascii
looked_up_ascii false name ascii = ascii
