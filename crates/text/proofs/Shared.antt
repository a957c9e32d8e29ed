-- How far two texts agree, by the pairs of their bytes.
use Rattle.std.proofs.Common.{◌≡◌, ℕ, ◌+◌, cond, eqb, List, [], ◌∷◌, refl, ap}
use Rattle.std.specs.List.{common_prefix_len, prefix_len, zip}

-- the pairs that are equal at the front
pub common_zip : (xs ys : List ℕ) → common_prefix_len eqb xs ys ≡ prefix_len (λ (p : ℕ × ℕ). eqb p.0 p.1) (zip xs ys)
common_zip [] ys = refl
common_zip (x ∷ xs) [] = refl
common_zip (x ∷ xs) (y ∷ ys) = ap (λ n. cond (eqb x y) (1 + n) 0) (common_zip xs ys)
