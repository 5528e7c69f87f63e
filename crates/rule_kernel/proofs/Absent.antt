-- A literal that stands in no firm clause.
use Rattle.std.proofs.Common.{◌≡◌, ℕ, suc, false, List, [], ◌∷◌, length, Option, Some, None, inl, inr, refl, sym, ◌∙◌, arith}
use Rattle.std.proofs.lemmas.Bool.{cases_Bool, false≢true}
use Rattle.sat_terms.specs.Literal.{has, pos_lit, neg_lit}
use Rattle.clause_store.specs.Stored.{Stored, keeps_firm}
use Rattle.clause_store.specs.Listing.{HasEachOnce, holds_at}
use Rattle.firm_terms.specs.Firm.{firm}
use Rattle.firm_terms.specs.Resolving.{holding, candidate, BlocksNone}
use Rattle.firm_terms.proofs.Counting.{listed_has}

-- no firm clause holds it, where its list is empty
pub none_at : (s : List (Option Stored)) (l : ℕ) (ids : List ℕ) → HasEachOnce (holds_at s l) ids → length ids ≡ 0 → (id : ℕ) → holds_at s l id ≡ false
none_at s l [] each nil id = sym (listed_has (holds_at s l) [] id each)
none_at s l (x ∷ ids) each nil id = absurd (omega arith)

holding_none : (l : ℕ) (s : List (Option Stored)) → ((id : ℕ) → holds_at s l id ≡ false) → holding l (firm s) ≡ []
holding_none l [] h = refl
holding_none l (None ∷ s) h = holding_none l s (λ id. h (suc id))
holding_none l (Some c ∷ s) h =
    elim (cases_Bool (keeps_firm c.keep)) [
      | inl a ↦ (let out : has c.lits l ≡ false = rw a at (h 0) in rw (a, out) (holding_none l s (λ id. h (suc id))))
      | inr a ↦ rw a (holding_none l s (λ id. h (suc id)))
    ]

-- a variable neither of whose literals stands in one is no candidate
pub candidate_absent : (s : List (Option Stored)) (v : ℕ) → ((id : ℕ) → holds_at s (pos_lit v) id ≡ false) → ((id : ℕ) → holds_at s (neg_lit v) id ≡ false) → candidate (firm s) v ≡ false
unfolding Rattle.firm_terms.specs.Resolving.candidate_of
candidate_absent s v p n = rw (holding_none (pos_lit v) s p, holding_none (neg_lit v) s n) refl

-- and no clause is blocked on the literal
pub blocks_none_absent : (s : List (Option Stored)) (l : ℕ) → ((id : ℕ) → holds_at s l id ≡ false) → BlocksNone s l
blocks_none_absent s l none id b = false≢true (sym (none id) ∙ rw (b.holds.firm, b.holds.has) refl)
