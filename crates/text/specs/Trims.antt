-- Taking bytes of one kind off the ends of a text.
use Rattle.std.specs.Prelude.{◌≡◌, ℕ, ◌-◌, Bool, true, false, List, ◌++◌, length, take, drop, slice_index}
use Rattle.std.specs.List.{prefix_len, suffix_len, All}
use Rattle.text.specs.Bytes.{white}

-- less the bytes at its end that pass
abbrev pub shortened : (ℕ → Bool) → List ℕ → List ℕ
shortened p text = take (length text - suffix_len p text) text

-- less the bytes at both ends that pass
abbrev pub stripped : (ℕ → Bool) → List ℕ → List ℕ
stripped p text = shortened p (drop (prefix_len p text) text)

abbrev pub trimmed : List ℕ → List ℕ
trimmed text = stripped white text

-- what comes off at both ends passes, and what is left begins and ends with a byte that does not pass, or is empty
-- (`slice_index` past the end is 0, which none of our kinds of byte has)
pub record Strips (p : ℕ → Bool) (text rest : List ℕ) : Type 0 where
  pub front : List ℕ
  pub back : List ℕ
  pub whole : text ≡ front ++ (rest ++ back)
  pub front_passes : All (λ b. p b ≡ true) front
  pub back_passes : All (λ b. p b ≡ true) back
  pub first_stays : p (slice_index rest 0) ≡ false
  pub last_stays : p (slice_index rest (length rest - 1)) ≡ false
