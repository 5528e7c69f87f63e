-- What a normal form and its clause say of assignments.
use Rattle.std.proofs.Common.{◌≡◌, ◌∙◌, ◌⊎◌, ℕ, Bool, true, false, not, List, inl, inr, refl, sym, ap, subst, get_or, All}
use Rattle.sat_terms.specs.Literal.{neg}
use Rattle.sat_terms.specs.Truth.{Assignment, lit_true, clause_true}
use Rattle.sat_terms.proofs.Truths.{lit_true-neg, clause_true-from, clause_true-some}
use Rattle.normal_form.specs.Forms.{IsTautology, SameLits}
use Rattle.sat_terms.proofs.Members.{has_item}
use Rattle.normal_form.proofs.Members.{Contains-from_has}

-- clauses of the same literals are true under the same assignments
pub true_same : (f : Assignment) (c d : List ℕ) → SameLits c d → clause_true f c ≡ true → clause_true f d ≡ true
true_same f c d same h = let r = clause_true-some f c h in clause_true-from f d r.0 (sym (same r.0) ∙ r.1) r.2

pub true_back : (f : Assignment) (c d : List ℕ) → SameLits c d → clause_true f d ≡ true → clause_true f c ≡ true
true_back f c d same h = true_same f d c (λ l. sym (same l)) h

-- every assignment makes a tautology true
pub tautology_true : (f : Assignment) (c : List ℕ) → IsTautology c → clause_true f c ≡ true
tautology_true f c t =
    elim (true_or (lit_true f t.0)) [
      | inl h ↦ clause_true-from f c t.0 t.1 h
      | inr h ↦ clause_true-from f c (neg t.0) t.2 (lit_true-neg f t.0 ∙ ap not h)
    ] where
      true_or : (b : Bool) → (b ≡ true) ⊎ (b ≡ false)
      true_or true = inl refl
      true_or false = inr refl

-- what holds of each literal of a clause holds of each of its normal form
pub all_same : (P : ℕ → Type 0) (c d : List ℕ) → SameLits c d → All P d → All P c
all_same P c d same h k e lt =
    let there = Contains-from_has d (get_or c k e) (sym (same (get_or c k e)) ∙ has_item c k e lt) in
    subst P there.2 (h there.0 (get_or c k e) there.1)
