-- How many lines a text has.
use Rattle.std.proofs.Common.{ℕ, ◌+◌, ◌≤◌, Bool, true, false, cond, List, [], ◌∷◌, length, arith}
use Rattle.text.specs.Lines.{before, inside, lines_of}

-- a byte before the first line makes at most one line more
length_before : (b : ℕ) (lines : List (List ℕ)) → length (before b lines) ≤ length lines + 1
length_before b [] = omega arith
length_before b (l ∷ lines) = omega arith

-- either way, a byte more makes at most one line more
length_step : (ends : Bool) (b : ℕ) (lines : List (List ℕ)) → length (cond ends (before b lines) ([] ∷ lines)) ≤ length lines + 1
length_step true b lines = length_before b lines
length_step false b lines = omega arith

-- no more than bytes
pub lines_few : (text : List ℕ) → length (lines_of text) ≤ length text
lines_few [] = omega arith
lines_few (b ∷ bs) = omega (arith, length_step (inside b) b (lines_of bs), lines_few bs)
