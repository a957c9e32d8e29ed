-- Names that are compared byte by byte, the one lowered.
use Rattle.std.proofs.Common.{◌≡◌, ℕ, ◌&&◌, eqb, List, [], ◌∷◌, map, length, ap, refl, arith}
use Rattle.std.specs.List.{list_all, zip}
use Rattle.std.specs.Str.{bytes_eq}
use Rattle.text.specs.Bytes.{lowered}

-- two names as long as each other are told apart by their bytes
pub lowered_same : (asked name : List ℕ) → length asked ≡ length name →
    list_all (λ p. eqb p.0 (lowered p.1)) (zip asked name) ≡ bytes_eq asked (map lowered name)
lowered_same [] [] long = refl
lowered_same [] (b ∷ bs) long = absurd (omega arith)
lowered_same (a ∷ rest) [] long = absurd (omega arith)
lowered_same (a ∷ rest) (b ∷ bs) long = ap (λ same. eqb a (lowered b) && same) (lowered_same rest bs (omega arith))
