-- The number of each answer, and what is printed of it.
use Rattle.std.specs.Prelude.{ℕ, List, [], ◌++◌, codes, decimal}
use Rattle.reader.specs.declared.answer.Answer.{Answer}
use Rattle.reader.specs.declared.answer.Answer.TheVariants.{PassedOver, Opened, OtherOpened, Stored, Outside}

abbrev pub answer_number : Answer → ℕ
answer_number PassedOver = 0
answer_number (Opened i) = 1
answer_number OtherOpened = 2
answer_number Stored = 3
answer_number Outside = 4

-- the index of the name that opens
abbrev pub shown_index : Answer → List ℕ
shown_index PassedOver = []
shown_index (Opened i) = codes " " ++ decimal i
shown_index OtherOpened = []
shown_index Stored = []
shown_index Outside = []

-- an answer's number, and the index
abbrev pub shown_answer : Answer → List ℕ
shown_answer a = decimal (answer_number a) ++ shown_index a
