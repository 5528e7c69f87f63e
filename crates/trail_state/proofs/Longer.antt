-- What stays as it is on a longer trail.
use Rattle.std.proofs.Common.{◌≡◌, ℕ, ◌<◌, true, eqb, List, ◌++◌, length, ◌∙◌, arith}
use Rattle.std.proofs.lemmas.Bool.{or_left}
use Rattle.std.proofs.lemmas.List.{take-append-le, get_or_append_left}
use Rattle.std.proofs.lemmas.List.Folds.{list_any-append}
use Rattle.trail_state.specs.declared.trail.Step.{Step}
use Rattle.trail_state.specs.Trail.{step, no_step, true_on}
use Rattle.trail_state.specs.Clauses.{IsReason}

-- a step
pub step_longer : (t more : List Step) (i : ℕ) → i < length t → step (t ++ more) i ≡ step t i
step_longer t more i in' = get_or_append_left t more no_step i in'

-- what is true
pub true_longer : (t more : List Step) (l : ℕ) → true_on t l ≡ true → true_on (t ++ more) l ≡ true
true_longer t more l h = list_any-append (λ x. eqb x.lit l) t more ∙ or_left (true_on t l) (true_on more l) h

-- a reason
pub reason_longer : (c : List ℕ) (t more : List Step) (i : ℕ) → i < length t → IsReason c t i → IsReason c (t ++ more) i
reason_longer c t more i in' h = record {
  holds = rw (step_longer t more i in') h.holds;
  others = λ l m n. rw (take-append-le i t more (omega arith)) (h.others l m (rw (step_longer t more i in') at n));
}
