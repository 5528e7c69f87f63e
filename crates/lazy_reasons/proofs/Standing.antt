-- Where the literals of a reason stand.
use Rattle.std.proofs.Common.{◌≡◌, ℕ, zero, suc, ◌<◌, true, eqb, List, [], ◌∷◌, length, sym, subst, arith, Option}
use Rattle.std.specs.List.{list_any}
use Rattle.std.specs.Prelude.{IsSome}
use Rattle.rooted_trails.specs.Known.{stands_in}
use Rattle.rooted_trails.specs.Rooted.{IsImpliedAt}
use Rattle.rooted_trails.proofs.Knowing.{stands_of}
use Rattle.std.proofs.lemmas.Bool.{or_left, or_right, eq-eqb}
use Rattle.sat_terms.specs.Literal.{neg}
use Rattle.clause_store.specs.Stored.{Stored, slot, slot_lits}
use Rattle.trail_state.specs.declared.trail.Step.{Step}
use Rattle.trail_state.specs.declared.reason.Reason.TheVariants.{Theory}
use Rattle.trail_state.specs.Trail.{step}
use Rattle.user_propagator.specs.declared.seen.Seen.{Seen}
use Rattle.user_propagator.specs.Board.{entry}
use Rattle.user_propagator.specs.Meaning.{StandsAt, IsReasonGiven}
use Rattle.theory_bridge.specs.Shown.{Shown}
use Rattle.theory_bridge.specs.Going.{Asked}
use Rattle.lazy_reasons.specs.Facing.{IsReady}
use Rattle.lazy_reasons.specs.Sources.{AreMetBut}
use Rattle.lazy_reasons.proofs.Mirrors.{false_seen}

seen_at : (seen : List Seen) (k l : ℕ) → k < length seen → (entry seen k).lit ≡ l → list_any (λ e. eqb e.lit l) seen ≡ true
seen_at [] k l in' is = absurd (omega arith)
seen_at (x ∷ seen) zero l in' is = or_left (eqb x.lit l) (list_any (λ e. eqb e.lit l) seen) (eq-eqb x.lit l is)
seen_at (x ∷ seen) (suc k) l in' is = or_right (eqb x.lit l) (list_any (λ e. eqb e.lit l) seen) (seen_at seen k l (omega arith) is)

-- a clause of the store
pub stored_in : (s : List (Option Stored)) (seen : List Seen) (but id : ℕ) → IsSome (slot s id) → AreMetBut s seen but (slot_lits (slot s id))
stored_in s seen but id live l h n = or_left (stands_in s l) (list_any (λ e. eqb e.lit (neg l)) seen) (stands_of s id l live h)

-- one that the theory gave
pub given_in : (s : List (Option Stored)) (t : List Step) (i lit : ℕ) (c : List ℕ) (old new : Shown) → IsReady s t old → Asked 1 old new → IsImpliedAt t i → (step t i).reason ≡ Theory → lit ≡ (step t i).lit
    → ((k : ℕ) → StandsAt old.means old.board.seen k lit → IsReasonGiven new.means old.board.seen k lit c) → AreMetBut s new.board.seen (step t i).lit c
given_in s t i lit c old new r asked at is same given l h n =
    let e = r.explained i at.within at.above is in
    let g : IsReasonGiven new.means old.board.seen e.0 (step t i).lit c =
    subst (λ l. IsReasonGiven new.means old.board.seen e.0 l c) same (given e.0 (subst (λ l. StandsAt old.means old.board.seen e.0 l) (sym same) e.1)) in
    let f = false_seen e.0 old.board.seen l (g.others l h n) in
    let here : list_any (λ x. eqb x.lit (neg l)) new.board.seen ≡ true = subst (λ seen. list_any (λ x. eqb x.lit (neg l)) seen ≡ true) (sym asked.later.seen) (seen_at old.board.seen f.0 (neg l) f.2 f.3) in
    or_right (stands_in s l) (list_any (λ x. eqb x.lit (neg l)) new.board.seen) here
