-- When a reader starts.
use Rattle.std.specs.Prelude.{ℕ, ◌*◌, ◌≤◌, Bool, cond, ◌&&◌, List, length, Some, None, Option, ◌==◌, nat_le}
use Rattle.refusal.specs.declared.Refusal.{Refusal}
use Rattle.refusal.specs.declared.Refusal.TheVariants.{BadNames, BadShare}
use Rattle.text.specs.Bytes.{within}
use Rattle.names.specs.Asked.{names_fault, Askable}

-- 1,001 to 16,384 bytes for each name, and at most 65,536 for all
abbrev pub share_fits : ℕ → ℕ → Bool
share_fits count share = within 1001 16384 share && nat_le (count * share) 65536

abbrev pub refusal_of : Option ℕ → Bool → Option Refusal
refusal_of (Some i) fits = Some (BadNames i)
refusal_of None fits = cond fits None (Some BadShare)

-- why a reader of these names with this share does not start, if it does not
abbrev pub start_refusal : List (List ℕ) → ℕ → Option Refusal
start_refusal names share =
    cond (length names == 0) (Some (BadNames 0)) (refusal_of (names_fault names) (share_fits (length names) share))

-- what holds where a reader starts
pub record Starts (names : List (List ℕ)) (share : ℕ) : Type 0 where
  pub some : 1 ≤ length names
  pub askable : Askable names
  pub least : 1001 ≤ share
  pub most : share ≤ 16384
  pub all : length names * share ≤ 65536
