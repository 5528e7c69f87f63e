-- The reason of a literal above the root that a clause implied, as the code reads it.
use Rattle.std.proofs.Common.{◌≡◌, ℕ, true, List, sym, ap, ◌∙◌, subst, Option}
use Rattle.std.specs.Prelude.{IsSome}
use Rattle.std.proofs.lemmas.Bool.{false≢true}
use Rattle.sat_terms.specs.Truth.{Implies}
use Rattle.clause_store.specs.Stored.{Stored, slot, slot_lits}
use Rattle.trail_state.specs.declared.trail.Step.{Step}
use Rattle.trail_state.specs.declared.reason.Reason.{Reason}
use Rattle.trail_state.specs.declared.reason.Reason.TheVariants.{Decision, Clause, Theory}
use Rattle.trail_state.specs.Trail.{step}
use Rattle.trail_state.specs.Clauses.{IsReason}
use Rattle.rooted_trails.specs.Known.{everything, Known, AllStandIn}
use Rattle.rooted_trails.specs.Rooted.{by_clause, HasReasons, IsImpliedByClause, reason_lits}
use Rattle.rooted_trails.proofs.Knowing.{stands_of}
use Rattle.rooted_trails.proofs.Rooting.{RootedBy, reason_says}
use Rattle.rooted_trails.proofs.Reasons.{live_implied}

module _ (s : List (Option Stored)) (t : List Step) (i : ℕ) (r : Reason) (reasons : HasReasons s t) (here : IsImpliedByClause t i) (read : r ≡ (step t i).reason) where
  given : RootedBy s t i r
  given = subst (RootedBy s t i) (sym read) (reason_says s t i (step t i).reason (reasons i here.within here.above here.clause))

  clause_read : by_clause r ≡ true
  clause_read = ap by_clause read ∙ here.clause

  pub no_decision : r ≡ Decision → ⊥
  no_decision is = false≢true (ap by_clause (sym is) ∙ clause_read)

  pub no_theory : r ≡ Theory → ⊥
  no_theory is = false≢true (ap by_clause (sym is) ∙ clause_read)

  module _ (id : ℕ) (is : r ≡ Clause id) where
    by : RootedBy s t i (Clause id)
    by = subst (RootedBy s t i) is given

    pub reason_live : IsSome (slot s id)
    reason_live = by.0

    module _ (c : List ℕ) (got : c ≡ slot_lits (slot s id)) where
      pub reason_value : c ≡ reason_lits s (step t i).reason
      reason_value = got ∙ ap (reason_lits s) (sym is ∙ read)

      pub reason_is : IsReason c t i
      reason_is = rw got by.1

      pub reason_known : Implies (Known s everything) c
      reason_known = rw got (live_implied s id by.0)

      pub reason_from : AllStandIn s c
      reason_from = rw got (λ l h. stands_of s id l by.0 h)
