-- What a line does, case by case.
use Rattle.std.proofs.Common.{◌≡◌, ℕ, zero, suc, ◌+◌, ◌*◌, ◌<◌, ◌≤◌, Bool, true, false, cond, ltb, List, [], ◌∷◌, length, get_or, set, replicate, Some, None, Ok, Option, sym, refl, ap, ◌∙◌, subst, inl, inr, zero-le, mul-le-mul_right, suc-mul, arith}
use Rattle.std.proofs.lemmas.Bool.{cases_Bool}
use Rattle.refusal.specs.declared.Refusal.{Refusal}
use Rattle.refusal.specs.declared.Refusal.TheVariants.{AlreadyClosed, ShortShelf, BadLine, FullShare}
use Rattle.text.specs.Lines.{fault_of}
use Rattle.rules.specs.declared.meaning.Meaning.{Meaning}
use Rattle.rules.specs.declared.meaning.Meaning.TheVariants.{Opens, Continues, Stray}
use Rattle.reader.specs.Shelves.{opening_text}
use Rattle.reader.specs.Steps.{Setup, Step, asked_by, decided, goes_on, is_closed, kept_at, losing, opens, passes, refuses, short, stepped, strayed, strays, unless_bad, used, LeavesAlone}
use Rattle.reader.specs.declared.answer.Answer.{Answer}
use Rattle.reader.specs.declared.state.Course.{Course}
use Rattle.reader.specs.declared.state.Course.TheVariants.{NoName, Open, Lost, Closed}
use Rattle.reader.specs.declared.state.Kept.{Kept}
use Rattle.reader.specs.declared.state.Kept.TheVariants.{Absent}
use Rattle.reader.specs.declared.state.State.{State}

-- the share of a name ends within the shelf
pub part_ends : (i n share len : ℕ) → i < n → n * share ≤ len → i * share + share ≤ len
part_ends i n share len l h = omega (arith, mul-le-mul_right {m = suc i} {n = n} share l, suc-mul i share)

-- what keeps within a share leaves all within it
pub used_set : (ks : List Kept) (i share : ℕ) (new : Kept) → used new ≤ share →
    ((k : ℕ) → used (get_or ks k Absent) ≤ share) → (k : ℕ) → used (get_or (set ks i new) k Absent) ≤ share
used_set [] i share new h all k = all k
used_set (x ∷ ks) zero share new h all zero = h
used_set (x ∷ ks) zero share new h all (suc k) = all (suc k)
used_set (x ∷ ks) (suc i) share new h all zero = all zero
used_set (x ∷ ks) (suc i) share new h all (suc k) = used_set ks i share new h (λ j. all (suc j)) k

-- absent names use nothing
pub none_used : (n k share : ℕ) → used (get_or (replicate n Absent) k Absent) ≤ share
none_used zero k share = zero-le
none_used (suc n) zero share = zero-le
none_used (suc n) (suc k) share = none_used n k share

module _ (q : Setup) (line : List ℕ) (s : State) (shelf : List ℕ) where
  -- a closed reader refuses the line
  pub closed_first : is_closed s.course ≡ true → stepped q line s shelf ≡ refuses q line s shelf AlreadyClosed s
  unfolding stepped
  closed_first e = rw e

  -- then a short shelf
  pub too_short : is_closed s.course ≡ false → short q (length shelf) ≡ true → stepped q line s shelf ≡ refuses q line s shelf ShortShelf s
  unfolding stepped
  too_short e l = rw (e, l)

  -- then bytes that cannot be read, and any other line is decided
  pub then_read : is_closed s.course ≡ false → short q (length shelf) ≡ false → stepped q line s shelf ≡ unless_bad q line s shelf (fault_of line)
  unfolding stepped
  then_read e l = rw (e, l)

  -- an answer is no refusal
  answered : (a : Answer) (after : State) (bytes : List ℕ) → LeavesAlone s shelf record { answer = Ok a; state = after; shelf = bytes }
  answered a after bytes e is = let z : ◌≡◌ {A = ℕ} 0 1 = cc in absurd (omega arith)

  -- a refusal that leaves the reader, or strays if it loses a line
  refused : (a : Refusal) (after : State) → after ≡ cond (losing a) (strayed s) s → LeavesAlone s shelf (refuses q line s shelf a after)
  refused a after so e is = let same : a ≡ e = cc in (refl, so ∙ ap (λ x. cond (losing x) (strayed s) s) same)

  -- a line that opens is not refused
  opens_leaves : (o : Option ℕ) (bytes : List ℕ) → LeavesAlone s shelf (opens q line s shelf o bytes)
  opens_leaves None bytes = answered _ _ _
  opens_leaves (Some i) bytes = answered _ _ _

  -- one that continues is refused only where there is no room
  goes_leaves : (c : Course) → LeavesAlone s shelf (goes_on q line s shelf c)
  goes_leaves NoName = answered _ _ _
  goes_leaves (Open i) =
      elim (cases_Bool (ltb (used (kept_at s i) + length line) q.share)) [
        | inl t ↦ rw t (answered _ _ _)
        | inr f ↦ rw f (refused FullShare (strayed s) refl)
      ]
  goes_leaves Lost = answered _ _ _
  goes_leaves Closed = answered _ _ _

  -- a stray that ends nothing is not refused
  passes_leaves : (c : Course) → LeavesAlone s shelf (passes q line s shelf c)
  passes_leaves NoName = answered _ _ _
  passes_leaves (Open i) = answered _ _ _
  passes_leaves Lost = answered _ _ _
  passes_leaves Closed = answered _ _ _

  -- nor is any other
  strays_leaves : (ends : Bool) → LeavesAlone s shelf (strays q line s shelf ends)
  strays_leaves true = answered _ _ _
  strays_leaves false = passes_leaves s.course

  -- any line that can be read
  decided_leaves : (m : Meaning) → LeavesAlone s shelf (decided q line s shelf m)
  decided_leaves (Opens name text) = opens_leaves (asked_by q (Opens name text) line) (opening_text text line)
  decided_leaves Continues = goes_leaves s.course
  decided_leaves Stray = strays_leaves q.fixed.strays_end

  -- and any that cannot
  bad_leaves : (bad : Option ℕ) → LeavesAlone s shelf (unless_bad q line s shelf bad)
  bad_leaves None = decided_leaves (q.meaning line)
  bad_leaves (Some at) = refused (BadLine at) (strayed s) refl

  -- a refused line leaves the shelf, and the reader too unless the line is lost
  pub leaves : (p : Step) → p ≡ stepped q line s shelf → LeavesAlone s shelf p
  leaves p is =
      subst (LeavesAlone s shelf) (sym is)
      (elim (cases_Bool (is_closed s.course)) [
        | inl t ↦ subst (LeavesAlone s shelf) (sym (closed_first t)) (refused AlreadyClosed s refl)
        | inr f ↦
            elim (cases_Bool (short q (length shelf))) [
              | inl t ↦ subst (LeavesAlone s shelf) (sym (too_short f t)) (refused ShortShelf s refl)
              | inr l ↦ subst (LeavesAlone s shelf) (sym (then_read f l)) (bad_leaves (fault_of line))
            ]
      ])
