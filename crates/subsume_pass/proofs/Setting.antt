-- Laws of empty clauses, and of the ids that wait.
use Rattle.std.proofs.Common.{◌≡◌, ℕ, ◌<◌, true, false, eqb, List, length, Option, inl, inr, sym, ◌∙◌, arith}
use Rattle.std.proofs.lemmas.Bool.{false≢true, cases_lt, eq-eqb}
use Rattle.clause_store.specs.Stored.{Stored, slot, slot_lits, is_firm}
use Rattle.firm_terms.specs.Firm.{firm, has_empty}
use Rattle.firm_terms.proofs.Standing.{some_from}

pub some_lits : (s : List (Option Stored)) (id : ℕ) → has_empty (firm s) ≡ false → is_firm (slot s id) ≡ true → 0 < length (slot_lits (slot s id))
some_lits s id none' f =
    elim (cases_lt 0 (length (slot_lits (slot s id)))) [
      | inl lt ↦ lt
      | inr le ↦ absurd (false≢true (sym none' ∙ some_from (λ c. eqb (length c) 0) s id f (eq-eqb (length (slot_lits (slot s id))) 0 (omega arith))))
    ]
