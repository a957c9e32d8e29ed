-- Where a line cannot be read.
use Rattle.std.proofs.Common.{◌≡◌, ℕ, ◌<◌, ◌≤◌, min, true, false, List, length, get_or, Some, None, refl, subst, inl, inr, ⊎_elim, arith}
use Rattle.std.specs.List.{prefix_len, All}
use Rattle.std.proofs.lemmas.List.Elements.{All-take}
use Rattle.std.proofs.lemmas.List.{take-take}
use Rattle.std.proofs.lemmas.List.Sums.{prefix_len-le-length}
use Rattle.std.proofs.lemmas.Bool.{cases_lt}
use Rattle.text.specs.Bytes.{plain}
use Rattle.text.specs.Lines.{Reads}
use Rattle.text.proofs.Leading.{all_pass, run_passes, run_stops}

module _ (line : List ℕ) (good : ℕ) (run : good ≡ min (prefix_len plain line) 1000) where
  -- the place is the first byte that is not plain, or 1,000
  pub reads_to : good < length line → Reads line (Some good)
  reads_to more = (
    more,
    subst (All (λ b. plain b ≡ true)) (take-take good (prefix_len plain line) line (omega arith)) (All-take (λ b. plain b ≡ true) good _ (run_passes plain line)),
    ⊎_elim
        (λ few. let here : prefix_len plain line ≡ good = omega arith in inr (omega arith, subst (λ k. plain (get_or line k 0) ≡ false) here (run_stops plain refl line)))
        (λ many. inl (omega arith))
        (cases_lt (prefix_len plain line) 1000),
  )

  -- a line with no such place has at most 1,000 bytes, all plain
  pub reads_all : length line ≤ good → Reads line None
  reads_all all = let few = prefix_len-le-length plain line in (omega arith, all_pass plain line (omega arith))
