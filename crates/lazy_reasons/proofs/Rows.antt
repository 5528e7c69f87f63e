-- Rows of questions for reasons compose.
use Rattle.std.proofs.Common.{ℕ, ◌+◌, ◌≤◌, List, refl, ◌∙◌, arith, Option}
use Rattle.clause_store.specs.Stored.{Stored}
use Rattle.trail_state.specs.declared.trail.Step.{Step}
use Rattle.theory_bridge.specs.Shown.{Shown}
use Rattle.theory_bridge.specs.Going.{Asked}
use Rattle.theory_bridge.proofs.Going.{asked_none, asked_on, asked_fewer}
use Rattle.lazy_reasons.specs.Facing.{IsReady}
use Rattle.lazy_reasons.specs.Row.{Row}

-- nothing was asked
pub asked_nothing : (n : ℕ) (b : Shown) → Asked n b b
asked_nothing n b = asked_fewer 0 n b b (omega arith) (asked_none b)

pub row_none : (s : List (Option Stored)) (t : List Step) (b : Shown) → IsReady s t b → Row 0 s t b b
row_none s t b r = record { asked = asked_none b; spent = refl; ready = r }

pub row_on : (s : List (Option Stored)) (t : List Step) (m n : ℕ) (old mid new : Shown) → Row m s t old mid → Row n s t mid new → Row (m + n) s t old new
row_on s t m n old mid new h k = record { asked = asked_on m n old mid new h.asked k.asked; spent = k.spent ∙ h.spent; ready = k.ready }

pub row_fewer : (s : List (Option Stored)) (t : List Step) (m n : ℕ) (old new : Shown) → m ≤ n → Row m s t old new → Row n s t old new
row_fewer s t m n old new le h = record { asked = asked_fewer m n old new le h.asked; spent = h.spent; ready = h.ready }
