-- Lines for replies.
use Rattle.std.proofs.Common.{◌≡◌, ◌⊎◌, ℕ, List, [], ◌∷◌, ◌++◌, length, Result, refl, sym, ap, ◌∙◌, append-nil, arith}
use Rattle.refusal.specs.declared.Refusal.{Refusal}
use Rattle.reader.specs.declared.calls.Call.{Call}
use Rattle.reader.specs.declared.calls.Reply.{Reply}
use Rattle.replay.specs.Shown.{shown_replies}

-- without a call or a reply there is no line
none_shown : (targets : List ℕ) (calls : List Call) (replies : List (Result Reply Refusal)) → (length calls ≡ 0) ⊎ (length replies ≡ 0) → shown_replies targets calls replies ≡ []
none_shown targets [] replies past = refl
none_shown targets (c ∷ calls) [] past = refl
none_shown targets (c ∷ calls) (r ∷ replies) past = absurd (omega (arith, past))

-- where the calls or the replies are at an end, all lines are written
pub lines_all : (targets : List ℕ) (calls : List Call) (replies : List (Result Reply Refusal)) {done whole : List ℕ} → (length calls ≡ 0) ⊎ (length replies ≡ 0) →
    done ++ shown_replies targets calls replies ≡ whole → done ≡ whole
lines_all targets calls replies {done} past so = sym (append-nil done) ∙ ap (λ l. done ++ l) (sym (none_shown targets calls replies past)) ∙ so
