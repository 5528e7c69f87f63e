-- A shorter clause comes, and the longer one that it lies within goes.
use Rattle.std.proofs.Common.{◌≡◌, ◌≢◌, ℕ, true, List, Option, Some, None, refl, sym, ap, ◌∙◌, subst}
use Rattle.std.proofs.lemmas.Bool.{false≢true}
use Rattle.sat_terms.specs.Literal.{has, var_of}
use Rattle.sat_terms.specs.Truth.{clause_true, Implies}
use Rattle.sat_terms.proofs.Truths.{clause_true-from, clause_true-some}
use Rattle.clause_store.specs.Stored.{Stored, slot, slot_lits, is_firm, SlotTrue, OthersTrue, Fills, Frees}
use Rattle.firm_terms.specs.Firm.{firm, stands}
use Rattle.firm_terms.proofs.Standing.{stands_from, mentions_lit, lit_of}
use Rattle.rule_kernel.specs.State.{State}
use Rattle.rule_kernel.specs.Rules.{firm_clause, AddsImplied, DropsImplied}
use Rattle.pass_terms.specs.Ruled.{IsKnown, Ruled, always}
use Rattle.pass_terms.specs.Ruled.Uses.{implied, dropped}
use Rattle.pass_terms.specs.Ruled.Ruled.{none, more}

-- the clause that came
pub firm_none : (x : Option Stored) → is_firm x ≡ true → x ≡ None → ⊥
firm_none x h e = false≢true (sym (ap is_firm e) ∙ h)

pub id_apart : (s m : List (Option Stored)) (id next : ℕ) (new : List ℕ) → is_firm (slot s id) ≡ true → Fills s m next (firm_clause new) → id ≢ next
id_apart s m id next new firm' fills z = firm_none (slot s id) firm' (ap (slot s) z ∙ fills.free)

pub firm_still : (s m : List (Option Stored)) (id next : ℕ) (new : List ℕ) → is_firm (slot s id) ≡ true → Fills s m next (firm_clause new) → is_firm (slot m id) ≡ true
firm_still s m id next new firm' fills = subst (λ (z : Option Stored). is_firm z ≡ true) (sym (fills.others id (id_apart s m id next new firm' fills))) firm'

pub slot_next : (s m u : List (Option Stored)) (id next : ℕ) (new : List ℕ) → is_firm (slot s id) ≡ true → Fills s m next (firm_clause new) → Frees m u id → slot u next ≡ Some (firm_clause new)
slot_next s m u id next new firm' fills frees = frees.others next (λ z. id_apart s m id next new firm' fills (sym z)) ∙ fills.filled

pub slot_kept : (s m u : List (Option Stored)) (id next k : ℕ) (new : List ℕ) → Fills s m next (firm_clause new) → Frees m u id → k ≢ id → is_firm (slot s k) ≡ true → slot u k ≡ slot s k
slot_kept s m u id next k new fills frees ne f = frees.others k ne ∙ fills.others k (λ z. firm_none (slot s k) f (ap (slot s) z ∙ fills.free))

-- the longer clause may go
pub drops_longer : (s m : List (Option Stored)) (id next : ℕ) (new : List ℕ) → is_firm (slot s id) ≡ true → ((l : ℕ) → has new l ≡ true → has (slot_lits (slot s id)) l ≡ true) → Fills s m next (firm_clause new) → Implies (OthersTrue m id) (slot_lits (slot m id))
drops_longer s m id next new firm' sub fills f h =
    let apart = id_apart s m id next new firm' fills in
    let there : clause_true f new ≡ true = (subst (λ (z : Option Stored). SlotTrue f z) fills.filled (h next (λ e. apart (sym e)))) refl in
    let r = clause_true-some f new there in
    subst (λ (z : List ℕ). clause_true f z ≡ true) (ap slot_lits (sym (fills.others id apart))) (clause_true-from f (slot_lits (slot s id)) r.0 (sub r.0 r.1) r.2)

pub known_new : (s : State) (id : ℕ) (new : List ℕ) → is_firm (slot s.store id) ≡ true → ((l : ℕ) → has new l ≡ true → has (slot_lits (slot s.store id)) l ≡ true) → IsKnown s new
known_new s id new firm' sub v h =
    let l = lit_of new v h in
    subst (λ (z : ℕ). stands (firm s.store) z ≡ true) l.2 (stands_from s.store (var_of l.0) id firm' (mentions_lit (slot_lits (slot s.store id)) l.0 (sub l.0 l.1)))

pub ruled_next : (s m u : State) (id next : ℕ) (new : List ℕ) → IsKnown s new → AddsImplied s m new next → DropsImplied m u id → Ruled always s u
ruled_next s m u id next new known a d = more m u (more s m none (implied new next known a)) (dropped id d)

pub ruled_same : (s t : State) → t ≡ s → Ruled always s t
ruled_same s t e = rw e none
