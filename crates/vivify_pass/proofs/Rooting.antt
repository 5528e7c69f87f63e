-- Laws of the root: what the firm clauses make true by themselves.
use Rattle.std.proofs.Common.{◌≡◌, ◌≢◌, ℕ, suc, zero, ◌<◌, ◌≤◌, true, not, eqb, ◌&&◌, List, [], ◌++◌, length, take, drop, Option, inl, inr, sym, ap, ◌∙◌, subst, arith}
use Rattle.std.proofs.lemmas.Bool.{cases_lt, and_from, ne_eqb}
use Rattle.std.proofs.lemmas.List.{get_or_append_left, get_or-take, length-take-le, length-append, take-append-le, take-append-drop, append-nil}
use Rattle.sat_terms.specs.Literal.{has, neg}
use Rattle.clause_store.specs.Stored.{Stored, slot, slot_lits}
use Rattle.trail_state.specs.declared.trail.Step.{Step}
use Rattle.trail_state.specs.Trail.{Trace, step, no_step, true_on, IsBack}
use Rattle.trail_state.specs.Clauses.{IsReason}
use Rattle.trail_state.proofs.Places.{place_of_true}
use Rattle.watch_lists.specs.Propagation.{Grown, AllQuiet}
use Rattle.firm_terms.specs.Vivifying.{Forced}
use Rattle.firm_terms.specs.Vivifying.Forced.{unit}
use Rattle.vivify_pass.specs.Trailing.{AreOthers, AreForced, IsOver, AreRooted, NoneRests, KeepsRoot}

-- a reason reads a step and those before it
reason_same : (c : List ℕ) (t u : List Step) (i : ℕ) → step u i ≡ step t i → take i u ≡ take i t → IsReason c t i → IsReason c u i
reason_same c t u i e f h = record {
  holds = subst (λ (z : Step). has c z.lit ≡ true) (sym e) h.holds;
  others = λ l a ne. subst (λ (z : List Step). true_on z (neg l) ≡ true) (sym f) (h.others l a (λ x. ne (x ∙ ap (λ (z : Step). z.lit) (sym e))));
}

-- and is the same on a longer trail
module _ (t u tail : List Step) (i : ℕ) (e : u ≡ t ++ tail) (lt : i < length t) where
  same_step : step u i ≡ step t i
  same_step = ap (λ (z : List Step). step z i) e ∙ get_or_append_left t tail no_step i lt

  same_front : take i u ≡ take i t
  same_front = ap (take i) e ∙ take-append-le i t tail (omega arith)

  pub reason_longer : (c : List ℕ) → IsReason c t i → IsReason c u i
  reason_longer c h = reason_same c t u i same_step same_front h

  pub reason_shorter : (c : List ℕ) → IsReason c u i → IsReason c t i
  reason_shorter c h = reason_same c u t i (sym same_step) (sym same_front) h

longer_end : (t u tail : List Step) (i : ℕ) → u ≡ t ++ tail → i < length t → i < length u
longer_end t u tail i e lt = let n = ap length e in let m = length-append t tail in omega arith

-- propagation makes the root longer
pub rooted_grown : (s : List (Option Stored)) (ids : List ℕ) (t u : Trace) → AreRooted ids s t.steps → Grown ids s t u → AreRooted ids s u.steps
rooted_grown s ids t u h g i lt =
    elim (cases_lt i (length t.steps)) [
      | inl less ↦ (let r = h i less in record { by = r.by; attached = r.attached; implied = reason_longer t.steps u.steps g.tail i g.steps less (slot_lits (slot s r.by)) r.implied })
      | inr ge ↦ (let r = g.implied i ge lt in record { by = r.by; attached = r.attached; implied = r.implied })
    ]

-- going back leaves the root, or a front of it
pub over_none : (t : List Step) → IsOver t t
over_none t = record { tail = []; steps = sym (append-nil t); above = λ i le lt. absurd (omega arith) }

pub back_front : (root : List Step) (t u : Trace) → IsOver root t.steps → IsBack t u 0 → (tail : List Step) × (root ≡ u.steps ++ tail)
back_front root t u h b =
    let le : b.kept ≤ length root = elim (cases_lt (length root) b.kept) [
      | inl more ↦ absurd (let w = b.within in let low = b.low (length root) more in let a = h.above (length root) (omega arith) (omega arith) in omega arith)
      | inr ge ↦ ge
    ] in
    let e : u.steps ≡ take b.kept root = b.steps ∙ ap (take b.kept) h.steps ∙ take-append-le b.kept root h.tail le in
    (drop b.kept root, sym (take-append-drop b.kept root) ∙ ap (λ (z : List Step). z ++ drop b.kept root) (sym e))

pub rooted_back : (s : List (Option Stored)) (ids : List ℕ) (root u tail : List Step) → root ≡ u ++ tail → AreRooted ids s root → AreRooted ids s u
rooted_back s ids root u tail e h i lt =
    let r = h i (longer_end u root tail i e lt) in
    record { by = r.by; attached = r.attached; implied = reason_shorter u root tail i e lt (slot_lits (slot s r.by)) r.implied }

pub none_back : (c : List ℕ) (root u tail : List Step) → root ≡ u ++ tail → NoneRests c root → NoneRests c u
none_back c root u tail e h i lt r = h i (longer_end u root tail i e lt) (reason_longer u root tail i e lt c r)

pub none_keeps : (c new : List ℕ) (t : List Step) → NoneRests c t → KeepsRoot c new t
none_keeps c new t h i lt r = absurd (h i lt r)

-- more ids do too
pub rooted_more : (s : List (Option Stored)) (ids more : List ℕ) (t : List Step) → ((k : ℕ) → has ids k ≡ true → has more k ≡ true) → AreRooted ids s t → AreRooted more s t
rooted_more s ids more t sub h i lt = let r = h i lt in record { by = r.by; attached = sub r.by r.attached; implied = r.implied }

-- where no step rests on a clause, the others make all of the root true
pub rooted_forced : (s : List (Option Stored)) (id : ℕ) (c ids others : List ℕ) (t : List Step) → AreOthers s id others → ((k : ℕ) → has others k ≡ (has ids k && not (eqb k id))) → c ≡ slot_lits (slot s id) → AreRooted ids s t → NoneRests c t → AreForced s id [] t
rooted_forced s id c ids others t o is e h none i lt = below (suc i) i (omega arith) lt where
  below : (n i : ℕ) → i < n → i < length t → Forced s id [] (step t i).lit
  below zero i a b = absurd (omega arith)
  below (suc n) i a b =
      let r = h i b in
      let apart : r.by ≢ id = λ same. none i b (subst (λ (z : List ℕ). IsReason z t i) (ap (λ (k : ℕ). slot_lits (slot s k)) same ∙ sym e) r.implied) in
      let at = o.sound r.by (is r.by ∙ and_from (has ids r.by) (not (eqb r.by id)) r.attached (ap not (ne_eqb r.by id apart))) in
      unit (step t i).lit r.by at.0 at.1 r.implied.holds
      (λ m y ne.
      let p = place_of_true (take i t) (neg m) (r.implied.others m y ne) in
      let lt' : p.0 < i = (let q = p.1 in let l = length-take-le i t (omega arith) in omega arith) in
      let f : (step t p.0).lit ≡ neg m = ap (λ (z : Step). z.lit) (sym (get_or-take i t p.0 no_step lt')) ∙ p.2 in
      subst (λ (z : ℕ). Forced s id [] z) f (below n p.0 (omega arith) (omega arith)))

-- what is quiet stays so for fewer clauses
pub quiet_fewer : (s : List (Option Stored)) (ids fewer : List ℕ) (t : List Step) → ((k : ℕ) → has fewer k ≡ true → has ids k ≡ true) → AllQuiet ids s t → AllQuiet fewer s t
quiet_fewer s ids fewer t sub h k a = h k (sub k a)
