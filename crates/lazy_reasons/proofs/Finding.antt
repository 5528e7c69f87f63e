-- The reason that is found.
use Rattle.std.proofs.Common.{◌≡◌, ℕ, Bool, List, sym, ◌∙◌, subst, Option}
use Rattle.sat_terms.specs.Truth.{Assignment}
use Rattle.clause_store.specs.Stored.{Stored}
use Rattle.trail_state.specs.declared.trail.Step.{Step}
use Rattle.trail_state.specs.declared.reason.Reason.TheVariants.{Theory, Clause}
use Rattle.trail_state.specs.Trail.{step, IsTrail}
use Rattle.rooted_trails.specs.Rooted.{RootedUnder, IsImpliedAt}
use Rattle.rooted_trails.proofs.Rooting.{RootedBy}
use Rattle.rooted_trails.proofs.Reasons.{under_above, live_implied}
use Rattle.user_propagator.specs.Meaning.{Meaning, StandsAt, IsReasonGiven}
use Rattle.theory_bridge.specs.Shown.{Shown}
use Rattle.lazy_reasons.specs.declared.source.Source.TheVariants.{Stored as InStore, Given}
use Rattle.lazy_reasons.specs.Facing.{IsReady}
use Rattle.lazy_reasons.specs.Sources.{IsSource}
use Rattle.lazy_reasons.proofs.Mirrors.{given_reason}

clause_theory : (id : ℕ) → Clause id ≡ Theory → ⊥
clause_theory id e = cc

pub stored_source : (s : List (Option Stored)) (admits : Assignment → Bool) (t : List Step) (i id : ℕ) → RootedUnder s admits t → IsImpliedAt t i → (step t i).reason ≡ Clause id → IsSource s admits t i (InStore id)
stored_source s admits t i id rooted at is =
    let r : RootedBy s t i (Clause id) = subst (RootedBy s t i) is (under_above s admits t i rooted at.within at.above (λ e. clause_theory id (sym is ∙ e))) in
    record { live = r.0; implied = live_implied s id r.0; reason = r.1 }

pub given_source : (s : List (Option Stored)) (t : List Step) (top i lit : ℕ) (c : List ℕ) (old : Shown) (new : Meaning) → IsReady s t old → IsTrail t top → IsImpliedAt t i → (step t i).reason ≡ Theory → lit ≡ (step t i).lit
    → ((k : ℕ) → StandsAt old.means old.board.seen k lit → IsReasonGiven new old.board.seen k lit c) → IsSource s new.admits t i (Given c)
given_source s t top i lit c old new r shape at is same given =
    let e = r.explained i at.within at.above is in
    let g : IsReasonGiven new old.board.seen e.0 (step t i).lit c =
    subst (λ l. IsReasonGiven new old.board.seen e.0 l c) same (given e.0 (subst (λ l. StandsAt old.means old.board.seen e.0 l) (sym same) e.1)) in
    record {
      live = tt;
      implied = λ f known. g.implied f known.admitted;
      reason = given_reason new old.board.seen t top i e.0 c r.mirrors shape at.within at.above e.1.inside e.1.place g;
    }
