-- A trail that is rooted in the clauses, beside a box that rules nothing out: no question is due, and what is known is what the
-- clauses say.
use Rattle.std.proofs.Common.{◌≡◌, ℕ, ◌<◌, false, List, [], length, inl, inr, ◌∙◌, ap, subst, arith, Option}
use Rattle.std.proofs.lemmas.Bool.{false≢true, or_cases}
use Rattle.sat_terms.specs.Truth.{Assignment, Implies}
use Rattle.sat_terms.specs.Answer.{IsCore}
use Rattle.clause_store.specs.Stored.{Stored}
use Rattle.trail_state.specs.declared.trail.Step.{Step}
use Rattle.trail_state.specs.declared.reason.Reason.TheVariants.{Theory}
use Rattle.trail_state.specs.Trail.{step}
use Rattle.rooted_trails.specs.Known.{everything, Known, AllStandIn, stands_in}
use Rattle.rooted_trails.specs.Rooted.{Rooted}
use Rattle.rooted_trails.proofs.Rooting.{RootedBy}
use Rattle.rooted_trails.proofs.Reasons.{rooted_above, rooted_under}
use Rattle.user_propagator.specs.declared.seen.Seen.{Seen}
use Rattle.user_propagator.specs.Meaning.{InStep}
use Rattle.theory_bridge.specs.Shown.{Shown}
use Rattle.theory_bridge.specs.Going.{Asked}
use Rattle.theory_bridge.specs.declared.stop.AskStop.TheVariants.{Callbacks}
use Rattle.theory_bridge.specs.Following.{Mirrors}
use Rattle.lazy_reasons.specs.Facing.{IsReady, IsAskDue}
use Rattle.lazy_reasons.specs.Sources.{AreMet}
use Rattle.lazy_reasons.specs.Idle.{IsIdle}

-- no literal of the trail above the root is the theory's
pub no_theory : (s : List (Option Stored)) (t : List Step) (i : ℕ) → Rooted s t → i < length t → 0 < (step t i).level → (step t i).reason ≡ Theory → ⊥
no_theory s t i rooted in' above is = subst (RootedBy s t i) is (rooted_above s t i rooted in' above)

pub never_due : (s : List (Option Stored)) (t : List Step) (n : ℕ) → Rooted s t → IsAskDue (Callbacks n) t → ⊥
never_due s t n rooted due = no_theory s t due.0 rooted due.1 due.2 due.3

-- the empty seen trail mirrors every trail
mirrors_nothing : (seen : List Seen) (t : List Step) → seen ≡ [] → Mirrors seen t
mirrors_nothing seen t none = rw none (record {
  lits = λ k in'. absurd (omega arith);
  levels = λ k in'. absurd (omega arith);
  order = λ j k lt in'. absurd (omega arith);
})

pub idle_ready : (s : List (Option Stored)) (t : List Step) (b : Shown) → IsIdle b → Rooted s t → IsReady s t b
idle_ready s t b idle rooted = record {
  in_step = idle.in_step;
  rooted = rooted_under s b.means.admits t rooted;
  mirrors = mirrors_nothing b.board.seen t idle.seen;
  explained = λ i in' above is. absurd (no_theory s t i rooted in' above is);
}

-- questions leave it so
pub idle_later : (most : ℕ) (old new : Shown) → IsIdle old → Asked most old new → InStep new.means new.board → IsIdle new
idle_later most old new idle asked step' = record {
  in_step = step';
  admits = λ f. ap (λ a. a f) (asked.later.admits_steady idle.steady) ∙ idle.admits f;
  steady = asked.later.steady ∙ idle.steady;
  observed = asked.later.observed ∙ idle.observed;
  seen = asked.later.seen ∙ idle.seen;
  level = asked.later.level ∙ idle.level;
}

-- so does a new count of the callbacks
pub idle_started : (old new : Shown) (budget : ℕ) → IsIdle old → new ≡ record old { budget = budget; count = 0; spent = false } → IsIdle new
idle_started old new budget idle is = rw is (record {
  in_step = idle.in_step;
  admits = idle.admits;
  steady = idle.steady;
  observed = idle.observed;
  seen = idle.seen;
  level = idle.level;
})

-- what follows from all that is known follows from the clauses, and so do cores
idle_known : (s : List (Option Stored)) (b : Shown) (f : Assignment) → IsIdle b → Known s everything f → Known s b.means.admits f
idle_known s b f idle k = record { clauses = k.clauses; admitted = idle.admits f }

pub idle_implied : (s : List (Option Stored)) (b : Shown) (c : List ℕ) → IsIdle b → Implies (Known s b.means.admits) c → Implies (Known s everything) c
idle_implied s b c idle implied f k = implied f (idle_known s b f idle k)

pub idle_core : (s : List (Option Stored)) (b : Shown) (assumptions core : List ℕ) → IsIdle b → IsCore (Known s b.means.admits) assumptions core → IsCore (Known s everything) assumptions core
idle_core s b assumptions core idle h = record {
  some = h.some;
  once = h.once;
  none = λ f k. h.none f (idle_known s b f idle k);
}

-- what was met stands in the clauses
pub idle_met : (s : List (Option Stored)) (b : Shown) (c : List ℕ) → IsIdle b → AreMet s b.board.seen c → AllStandIn s c
idle_met s b c idle met l h =
    let m = rw idle.seen at met l h in
    elim (or_cases (stands_in s l) _ m) [
      | inl a ↦ a
      | inr none ↦ absurd (false≢true none)
    ]
