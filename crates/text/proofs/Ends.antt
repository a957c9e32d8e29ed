-- A place past the end of a text counts as its end.
use Rattle.std.proofs.Common.{◌≡◌, ℕ, min, List, length, take, drop, ap, ◌∙◌}
use Rattle.std.proofs.lemmas.List.{take_min as take_at_end, drop_min as drop_at_end}

-- what stands before it
pub take_min : (text : List ℕ) (to end : ℕ) → end ≡ min to (length text) → take end text ≡ take to text
take_min text to end e = ap (λ n. take n text) e ∙ take_at_end to text

-- what stands behind it
pub drop_min : (text : List ℕ) (to from : ℕ) → from ≡ min to (length text) → drop from text ≡ drop to text
drop_min text to from e = ap (λ n. drop n text) e ∙ drop_at_end to text
