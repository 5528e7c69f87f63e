-- What the elimination of a variable keeps, rule by rule.
use Rattle.std.proofs.Common.{◌≡◌, ℕ, ◌+◌, ◌<◌, true, false, not, List, [], ◌∷◌, ◌++◌, length, get_or, take, inl, inr, refl, sym, ap, ◌∙◌, subst, arith, Option, cond, Result, Ok, Err, OnOk}
use Rattle.std.proofs.lemmas.Bool.{false≢true, false_from_ne_true, or_left, eq-eqb}
use Rattle.std.proofs.lemmas.List.{take_more, get_or_default}
use Rattle.sat_terms.specs.Literal.{has, neg, var_of}
use Rattle.sat_terms.specs.Normal.{IsNormal}
use Rattle.sat_terms.specs.Truth.{Implies}
use Rattle.sat_terms.proofs.Literals.{same_var, var_of-neg}
use Rattle.clause_store.specs.Stored.{Stored, slot, slot_lits, is_firm, FirmTrue}
use Rattle.clause_store.specs.FirmCount.{firm_passes, firm_count}
use Rattle.clause_store.proofs.FirmCounts.{removing_counts}
use Rattle.firm_terms.specs.Firm.{mentions, firm, stands, Holds, NoneCame}
use Rattle.firm_terms.proofs.Standing.{stands_of, stands_from, mentions_lit, lit_of}
use Rattle.firm_terms.proofs.Resolving.{resolvent_of}
use Rattle.rule_kernel.specs.State.{State}
use Rattle.rule_kernel.specs.Rules.{AddsImplied, Parks}
use Rattle.pass_terms.specs.Ruled.{IsKnown, Ruled}
use Rattle.pass_terms.specs.Ruled.Uses.{implied, parked}
use Rattle.pass_terms.specs.Ruled.Ruled.{none, more}
use Rattle.pass_terms.proofs.Ruling.{ruled_trans, ruled_weaken}
use Rattle.var_elim.specs.Testing.{lits_at, clause_at, Resolvents}
use Rattle.var_elim.specs.Eliminating.{Settled, Extends, always, all_but, MayCome, MarksStay}
use Rattle.var_elim.proofs.Settling.{resolvents_implied, extends_none, extends_more, extends_implied, settled_freed, settled_none, freed_none, none_trans, holds_none}

-- the resolvents may come
pub may_come : (s : State) (x : ℕ) (rs : List (List ℕ)) → Resolvents s.store x rs → MayCome s rs
may_come s x rs h = record {
  normal = λ j in'. (h.sound j in').4.normal;
  implied = λ j in'. resolvents_implied s.store x rs h j in';
  known = λ j in' v m.
      let a = h.sound j in' in
      let l = lit_of (clause_at rs j) v m in
      subst (λ (z : ℕ). stands (firm s.store) z ≡ true) l.2
      (elim (resolvent_of x (lits_at s.store a.0) (lits_at s.store a.1) l.0 (sym (a.4.same l.0) ∙ l.1)) [
        | inl i ↦ stands_from s.store (var_of l.0) a.0 a.2.firm (mentions_lit (lits_at s.store a.0) l.0 i.0)
        | inr i ↦ stands_from s.store (var_of l.0) a.1 a.3.firm (mentions_lit (lits_at s.store a.1) l.0 i.0)
      ]);
}

-- marks stay where clauses come and go
pub marks_came : (s t : State) (c : List ℕ) (id : ℕ) → AddsImplied s t c id → MarksStay s t
marks_came s t c id h v m = h.marks.vars v ∙ or_left (has s.marked.vars v) (mentions c v) m

pub marks_went : (s t : State) (id : ℕ) (w : List ℕ) → Parks s t id w → MarksStay s t
marks_went s t id w h v m = h.marks.vars v ∙ or_left (has s.marked.vars v) (mentions (slot_lits (slot s.store id)) v) m

-- resolvents come, one after another
pub record Adding (s t : State) (front : List (List ℕ)) : Type 0 where
  pub ruled : Ruled always s t
  pub extends : Extends s.store t.store front
  pub marks : MarksStay s t

pub adding_none : (s : State) → Adding s s []
adding_none s = record { ruled = none; extends = extends_none s.store; marks = λ v m. m }

known_still : (s t : State) (front : List (List ℕ)) (c : List ℕ) → Extends s.store t.store front → IsKnown s c → IsKnown t c
known_still s t front c h k v m =
    let r = stands_of s.store v (k v m) in
    let e = h.kept r.0 r.1 in
    stands_from t.store v r.0 (ap is_firm e ∙ r.1) (ap (λ (z : Option Stored). mentions (slot_lits z) v) e ∙ r.2)

module _ (s t : State) (rs : List (List ℕ)) (i : ℕ) (c : List ℕ) (may : MayCome s rs) (in' : i < length rs) (e : c ≡ get_or rs i c) (h : Adding s t (take i rs)) where
  at : c ≡ clause_at rs i
  at = e ∙ get_or_default rs i c [] in'

  pub next_implied : Implies (FirmTrue t.store) c
  next_implied = extends_implied s.store t.store (take i rs) c h.extends (rw at (may.implied i in'))

  pub next_normal : IsNormal c
  next_normal = rw at (may.normal i in')

  pub adding_more : (u : State) (id : ℕ) → AddsImplied t u c id → Adding s u (take (i + 1) rs)
  adding_more u id r = record {
    ruled = more t u h.ruled (implied c id (known_still s t (take i rs) c h.extends (rw at (may.known i in'))) r);
    extends =
        (let front : take (i + 1) rs ≡ take i rs ++ c ∷ [] = take_more rs i c in' ∙ ap (λ (z : List ℕ). take i rs ++ z ∷ []) (sym e) in
        rw front (extends_more s.store t.store u.store (take i rs) c id h.extends r.store));
    marks = λ v m. marks_came t u c id r v (h.marks v m);
  }

-- clauses with a literal are parked, one after another
pub record Parking (s t : State) (x : ℕ) : Type 0 where
  pub ruled : Ruled (all_but (var_of x)) s t
  pub settled : Settled t.store x
  pub none : NoneCame s.store t.store
  pub marks : MarksStay s t

pub parking_none : (s : State) (x : ℕ) → Settled s.store x → Parking s s x
parking_none s x q = record { ruled = none; settled = q; none = λ k f. refl; marks = λ v m. m }

only_one : (v : ℕ) → all_but v v ≡ false
only_one v = ap not (eq-eqb v v refl)

module _ (s t u : State) (x id : ℕ) (p : Parking s t x) (h : Holds t.store id x) (r : Parks t u id (x ∷ [])) where
  pub parking_more : Parking s u x
  parking_more = record {
    ruled = more t u p.ruled (parked id x (only_one (var_of x)) r);
    settled = settled_freed t.store u.store x id h r.store p.settled;
    none = none_trans s.store t.store u.store p.none (freed_none t.store u.store id r.store);
    marks = λ v m. marks_went t u id (x ∷ []) r v (p.marks v m);
  }

  pub parking_fewer : firm_count (λ c. true) u.store < firm_count (λ c. true) t.store
  parking_fewer =
      let e = removing_counts (λ c. true) t.store u.store id r.store in
      let f : ◌≡◌ {A = ℕ} (cond (firm_passes (λ c. true) (slot t.store id)) 1 0) 1 = rw h.firm refl in
      omega arith

-- a variable neither of whose literals is held stands in no clause
pub stands_gone : (s : List (Option Stored)) (x : ℕ) → ((k : ℕ) → Holds s k x → ⊥) → ((k : ℕ) → Holds s k (neg x) → ⊥) → stands (firm s) (var_of x) ≡ false
stands_gone s x p n =
    false_from_ne_true (stands (firm s) (var_of x)) (λ h.
    let r = stands_of s (var_of x) h in
    let l = lit_of (slot_lits (slot s r.0)) (var_of x) r.2 in
    elim (same_var l.0 x l.2) [
      | inl e ↦ p r.0 (record { firm = r.1; has = subst (λ (z : ℕ). has (slot_lits (slot s r.0)) z ≡ true) e l.1 })
      | inr e ↦ n r.0 (record { firm = r.1; has = subst (λ (z : ℕ). has (slot_lits (slot s r.0)) z ≡ true) e l.1 })
    ])

-- the whole of an elimination: resolvents come, the clauses with x go, and then those with its negation
all_free : (x v : ℕ) → always v ≡ false → all_but x v ≡ false
all_free x v h = absurd (false≢true (sym h))

module _ (s t u w : State) (x y : ℕ) (rs : List (List ℕ)) (e : y ≡ neg x) where
  pub ruled_added : Ruled always s t → Ruled (all_but (var_of x)) s t
  ruled_added a = ruled_weaken always (all_but (var_of x)) s t (all_free (var_of x)) a

  pub ruled_first : Ruled always s t → Ruled (all_but (var_of x)) t u → Ruled (all_but (var_of x)) s u
  ruled_first a b = ruled_trans (all_but (var_of x)) s t u (ruled_added a) b

  same : var_of y ≡ var_of x
  same = ap var_of e ∙ var_of-neg x

  pub ruled_second : Ruled always s t → Ruled (all_but (var_of x)) t u → Ruled (all_but (var_of y)) u w → Ruled (all_but (var_of x)) s w
  ruled_second a b c = ruled_trans (all_but (var_of x)) s u w (ruled_first a b) (subst (λ (z : ℕ). Ruled (all_but z) u w) same c)

  pub settled_second : ((k : ℕ) → Holds u.store k x → ⊥) → Settled u.store y
  settled_second h = rw e (settled_none u.store x h)

  pub both_gone : ((k : ℕ) → Holds u.store k x → ⊥) → NoneCame u.store w.store → ((k : ℕ) → Holds w.store k y → ⊥) → stands (firm w.store) (var_of x) ≡ false
  both_gone p few n = stands_gone w.store x (λ k h. p k (holds_none u.store w.store k x few h)) (rw e at n)

pub on_ok_map : {A E : Type 0} (r : Result A E) (P Q : Type 0) → (P → Q) → OnOk r P → OnOk r Q
on_ok_map (Ok a) P Q f h = f h
on_ok_map (Err e) P Q f h = h
