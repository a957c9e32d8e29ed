-- The longest front of a text that passes a test.
use Rattle.std.proofs.Common.{◌≡◌, ℕ, ◌<◌, Bool, true, false, List, [], ◌∷◌, ◌++◌, length, get_or, take, subst, inl, inr, add-zero, one-add, arith}
use Rattle.std.specs.List.{prefix_len, All}
use Rattle.std.proofs.lemmas.List.{get_or_append_left, get_or-append-add, get_or-take, length-append, take_all}
use Rattle.std.proofs.lemmas.List.Folds.{length-prefix_len}
use Rattle.std.proofs.lemmas.List.Sums.{prefix_len_is, prefix_len_passes}
use Rattle.std.proofs.lemmas.Bool.{cases_Bool}

module _ (p : ℕ → Bool) where
  -- every byte of the run passes
  pub run_passes : (xs : List ℕ) → All (λ b. p b ≡ true) (take (prefix_len p xs) xs)
  run_passes xs k d inside =
      let short : k < prefix_len p xs = omega (arith, length-prefix_len p xs) in
      rw (get_or-take (prefix_len p xs) xs k d short) (prefix_len_passes p xs k d short)

  -- the byte behind the run does not pass
  pub run_stops : p 0 ≡ false → (xs : List ℕ) → p (get_or xs (prefix_len p xs) 0) ≡ false
  run_stops none [] = none
  run_stops none (x ∷ xs) =
      elim (cases_Bool (p x)) [ inl t ↦ rw (t, one-add) (run_stops none xs) | inr f ↦ rw f f ]

  -- a front that passes, and a byte behind it that does not, is the run
  pub run_length : (xs ys : List ℕ) → All (λ b. p b ≡ true) xs → p (get_or ys 0 0) ≡ false → prefix_len p (xs ++ ys) ≡ length xs
  run_length xs ys pass stop =
      let behind = rw add-zero at (get_or-append-add xs ys 0 0) in
      prefix_len_is p (xs ++ ys) (length xs) 0 (omega (arith, length-append xs ys))
      (λ k inside. rw (get_or_append_left xs ys 0 k inside) (pass k 0 inside))
      (λ more. rw behind stop)

  -- all of a text that passes is its run
  pub run_all : (xs : List ℕ) → All (λ b. p b ≡ true) xs → prefix_len p xs ≡ length xs
  run_all xs pass =
      prefix_len_is p xs (length xs) 0 (omega arith) (λ k inside. pass k 0 inside) (λ more. absurd (omega arith))

  -- a text whose run is all of it passes
  pub all_pass : (xs : List ℕ) → prefix_len p xs ≡ length xs → All (λ b. p b ≡ true) xs
  all_pass xs e = subst (All (λ b. p b ≡ true)) (take_all (prefix_len p xs) xs (omega arith)) (run_passes xs)
