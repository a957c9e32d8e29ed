-- A list of calls that has been made up to one of them.
use Rattle.std.proofs.Common.{◌≡◌, ℕ, ◌+◌, ◌<◌, ◌≤◌, min, true, ◌≢◌, List, [], ◌∷◌, ◌++◌, length, Ok, Result, get_or, take, drop, set, sym, refl, ap, ◌∙◌, subst, ⊎_elim, arith, below_more}
use Rattle.std.proofs.lemmas.List.{drop_all, drop-drop, drop-set-lt, get_or-set_other, get_or-set_same, take_all, take_more}
use Rattle.std.proofs.lemmas.Bool.{cases_lt}
use Rattle.refusal.specs.declared.Refusal.{Refusal}
use Rattle.reader.specs.Calls.{Turn, called}
use Rattle.reader.specs.Laws.{AnswersDetermined}
use Rattle.reader.specs.Runs.{ran, says, shelf_after, shelf_past, target_of, targets_after, targets_past}
use Rattle.reader.specs.Steps.{Setup, fresh}
use Rattle.reader.specs.Stretches.{readable, starts}
use Rattle.reader.specs.declared.answer.Answer.TheVariants.{PassedOver}
use Rattle.reader.specs.declared.calls.Call.{Call}
use Rattle.reader.specs.declared.calls.Call.TheVariants.{Close}
use Rattle.reader.specs.declared.calls.Reply.{Reply}
use Rattle.reader.specs.declared.calls.Reply.TheVariants.{Answered}
use Rattle.reader.specs.declared.state.State.{State}
use Rattle.reader.proofs.Following.{Does, Follows, call_does, new_follows}
use Rattle.reader.proofs.Losses.{ran_more}

-- as many elements as there are, or more of them
take_least : {A : Type 0} (n : ℕ) (xs : List A) → take (min (length xs) n) xs ≡ take n xs
take_least n xs =
    ⊎_elim (λ lt. ap (λ k. take k xs) (omega arith)) (λ ge. take_all (min (length xs) n) xs (omega arith) ∙ sym (take_all n xs ge)) (cases_lt n (length xs))

-- what an absent reply would be
abbrev no_reply : Result Reply Refusal
no_reply = Ok (Answered PassedOver)

module _ (q : Setup) (calls : List Call) (shelf₀ targets₀ : List ℕ) (replies₀ : List (Result Reply Refusal)) where
  -- the first i calls have been made and answered
  pub record Made (i : ℕ) (s : State) (shelf targets : List ℕ) (replies : List (Result Reply Refusal)) : Type 0 where
    pub each : (k : ℕ) → k < i →
        get_or replies k no_reply
        ≡ (says q (length shelf₀) (take k calls) (get_or calls k Close) (target_of (get_or calls k Close) (targets_after q (length shelf₀) (take k calls) targets₀))).reply
    pub rest : drop i replies ≡ drop i replies₀
    pub shelf_bytes : shelf ≡ shelf_after q (length shelf₀) (take i calls) shelf₀
    pub target_bytes : targets ≡ targets_after q (length shelf₀) (take i calls) targets₀
    pub follows : Follows q (length shelf₀) (take i calls) s shelf

  -- none has been made
  pub made_none : Made 0 fresh shelf₀ targets₀ replies₀
  made_none = record { each = λ k h. absurd (omega arith); rest = refl; shelf_bytes = refl; target_bytes = refl; follows = new_follows q (length shelf₀) shelf₀ }

  -- one more is made
  pub made_more : length q.names ≤ 64 → 1001 ≤ q.share → ((c : Call) → readable c ≡ true → length (starts q c) ≤ q.share) →
      (i : ℕ) (s : State) (shelf targets : List ℕ) (replies : List (Result Reply Refusal)) (t : Turn) → i < length calls → i < length replies → length shelf ≡ length shelf₀ →
      t ≡ called q s shelf targets (get_or calls i Close) → Made i s shelf targets replies →
      Made (i + 1) t.state t.shelf t.targets (set replies i t.reply)
  made_more few least fit i s shelf targets replies t more place long is made =
      let c : Call = get_or calls i Close in
      let len = length shelf₀ in
      let before = take i calls in
      let does = subst (Does q len before c shelf targets) (sym is) (call_does q few least fit len before c s shelf targets long made.follows) in
      let next : take (i + 1) calls ≡ before ++ (c ∷ []) = take_more calls i Close more in
      record {
        each = below_more _ _
            (λ k h. let other : k ≢ i = omega arith in get_or-set_other replies i k t.reply no_reply other ∙ made.each k h)
            (get_or-set_same replies i t.reply no_reply place ∙ does.reply ∙ ap (λ ts. (says q len before c (target_of c ts)).reply) made.target_bytes);
        rest = drop-set-lt (i + 1) replies i t.reply (omega arith) ∙ sym (drop-drop 1 i replies) ∙ ap (drop 1) made.rest ∙ drop-drop 1 i replies₀;
        shelf_bytes = does.shelf_bytes ∙ ap (shelf_past q len before c) made.shelf_bytes ∙ sym (ap (λ h. ran (shelf_past q len) [] h shelf₀) next ∙ ran_more (shelf_past q len) before c shelf₀);
        target_bytes = does.target_bytes ∙ ap (targets_past q len before c) made.target_bytes
            ∙ sym (ap (λ h. ran (targets_past q len) [] h targets₀) next ∙ ran_more (targets_past q len) before c targets₀);
        follows = subst (λ (h : List Call). Follows q len h t.state t.shelf) (sym next) does.follows;
      }

  -- all that have a place for a reply have been made
  pub made_all : (i : ℕ) (s : State) (shelf targets : List ℕ) (replies : List (Result Reply Refusal)) → i ≡ min (length calls) (length replies₀) → length replies ≡ length replies₀ →
      Made i s shelf targets replies → AnswersDetermined q calls shelf₀ shelf targets₀ targets replies₀ replies
  made_all i s shelf targets replies all many made =
      let whole : take i calls ≡ take (length replies₀) calls = ap (λ k. take k calls) all ∙ take_least (length replies₀) calls in
      record {
        each = λ k h l. made.each k (omega arith);
        no_more =
            ⊎_elim
            (λ lt. drop_all (length calls) replies (omega arith) ∙ sym (drop_all (length calls) replies₀ (omega arith)))
            (λ ge. (let e : i ≡ length calls = omega arith in subst (λ n. drop n replies ≡ drop n replies₀) e made.rest))
            (cases_lt (length replies₀) (length calls));
        shelf_bytes = made.shelf_bytes ∙ ap (λ h. shelf_after q (length shelf₀) h shelf₀) whole;
        target_bytes = made.target_bytes ∙ ap (λ h. targets_after q (length shelf₀) h targets₀) whole;
      }
