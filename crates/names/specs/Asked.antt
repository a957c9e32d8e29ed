-- The names that are asked for.
use Rattle.std.specs.Prelude.{◌≡◌, ℕ, ◌+◌, ◌<◌, ◌≤◌, Bool, true, cond, not, ◌&&◌, List, [], ◌∷◌, ◌++◌, length, take, is_some, Some, None, Option, ◌≢◌, nat_lt, slice_index_or}
use Rattle.std.specs.List.{list_all, position, All}
use Rattle.std.specs.Str.{bytes_eq}
use Rattle.text.specs.Bytes.{within}

-- a byte that a name may have: printable ASCII
abbrev pub printable : ℕ → Bool
printable b = within 32 126 b

-- 1 to 64 bytes, each from 32 to 126
abbrev pub fitting : List ℕ → Bool
fitting name = within 1 64 (length name) && list_all printable name

-- the first place of a name among some
abbrev pub index_of : List (List ℕ) → List ℕ → Option ℕ
index_of names name = position (λ n. bytes_eq n name) names

-- a name is one of some
abbrev pub among : List (List ℕ) → List ℕ → Bool
among names name = is_some (index_of names name)

-- a name can be asked for beside those seen before it: it fits, is none of them, and is not the 65th
abbrev pub joins : List (List ℕ) → List ℕ → Bool
joins seen n = fitting n && (not (among seen n) && nat_lt (length seen) 64)

-- behind the names seen so far, the first of those to come that cannot be asked for beside those before it
abbrev pub fault_after : List (List ℕ) → List (List ℕ) → Option ℕ
fault_after seen [] = None
fault_after seen (n ∷ ns) = cond (joins seen n) (fault_after (seen ++ n ∷ []) ns) (Some (length seen))

abbrev pub names_fault : List (List ℕ) → Option ℕ
names_fault names = fault_after [] names

-- names that can be asked for together: at most 64, each of 1 to 64 bytes from 32 to 126, none twice
pub record Askable (names : List (List ℕ)) : Type 0 where
  pub few : length names ≤ 64
  pub fit : All (λ n. (1 ≤ length n) × (length n ≤ 64) × All (λ b. within 32 126 b ≡ true) n) names
  pub once : (j k : ℕ) → j < k → k < length names → slice_index_or names j [] ≢ slice_index_or names k []

-- with no fault all can be asked for together; else those before the fault can, and with it they cannot
abbrev pub Faults : List (List ℕ) → Option ℕ → Type 0
Faults names None = Askable names
Faults names (Some k) = (k < length names) × Askable (take k names) × (Askable (take (k + 1) names) → ⊥)
