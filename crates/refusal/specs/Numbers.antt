-- The number and the place of each refusal, and how it is written.
use Rattle.std.specs.Prelude.{ℕ, List, ◌++◌, codes, decimal}
use Rattle.refusal.specs.declared.Refusal.{Refusal}
use Rattle.refusal.specs.declared.Refusal.TheVariants.{BadNames, BadShare, AlreadyClosed, ShortShelf, BadLine, FullShare, StillReading, NoText, TornText, ShortTarget}

abbrev pub number : Refusal → ℕ
number (BadNames i) = 1
number BadShare = 2
number AlreadyClosed = 3
number ShortShelf = 4
number (BadLine i) = 5
number FullShare = 6
number StillReading = 7
number NoText = 8
number TornText = 9
number ShortTarget = 10

-- where the fault is; 0 where there is nothing to point at
abbrev pub place : Refusal → ℕ
place (BadNames i) = i
place BadShare = 0
place AlreadyClosed = 0
place ShortShelf = 0
place (BadLine i) = i
place FullShare = 0
place StillReading = 0
place NoText = 0
place TornText = 0
place ShortTarget = 0

-- `refused N at P`
abbrev pub shown : Refusal → List ℕ
shown r = codes "refused " ++ decimal (number r) ++ codes " at " ++ decimal (place r)
