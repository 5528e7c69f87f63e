-- Why the clauses of an eliminated variable may be parked.
use Rattle.std.proofs.Common.{◌≡◌, ◌≢◌, ℕ, suc, zero, ◌<◌, true, false, List, [], ◌∷◌, ◌++◌, length, inl, inr, refl, sym, ap, ◌∙◌, subst, arith, Option, Some, None}
use Rattle.std.proofs.lemmas.Bool.{cases_eq, false≢true}
use Rattle.std.proofs.lemmas.List.{length-append}
use Rattle.sat_terms.specs.Literal.{has, neg}
use Rattle.sat_terms.specs.Truth.{Assignment, clause_true, Implies}
use Rattle.sat_terms.proofs.Literals.{neg-neg}
use Rattle.sat_terms.proofs.Truths.{clause_true-from, clause_true-some}
use Rattle.redundancy.specs.Redundancy.{Witnesses}
use Rattle.normal_form.specs.Forms.{SameLits}
use Rattle.clause_store.specs.Stored.{Stored, slot, slot_lits, is_firm, FirmTrue, OthersTrue, Fills, Frees}
use Rattle.firm_terms.specs.Firm.{Holds, NoneCame}
use Rattle.firm_terms.specs.Resolving.{resolvent}
use Rattle.firm_terms.proofs.Resolving.{spares_implied, spares_tautology, witnessed, resolvent_implied}
use Rattle.rule_kernel.specs.Rules.{firm_clause}
use Rattle.var_elim.specs.Testing.{lits_at, clause_at, Resolvents}
use Rattle.var_elim.specs.Eliminating.{RestTrue, Settled, Extends}

-- an id that names nothing has no firm clause
pub not_none : (x : Option Stored) → is_firm x ≡ true → x ≡ None → ⊥
not_none x h e = false≢true (sym (ap is_firm e) ∙ h)

-- what an id holds, where it names the same
pub holds_same : (s t : List (Option Stored)) (k l : ℕ) → slot t k ≡ slot s k → Holds t k l → Holds s k l
holds_same s t k l e h = record {
  firm = ap is_firm (sym e) ∙ h.firm;
  has = ap (λ (z : Option Stored). has (slot_lits z) l) (sym e) ∙ h.has;
}

pub holds_none : (s t : List (Option Stored)) (k l : ℕ) → NoneCame s t → Holds t k l → Holds s k l
holds_none s t k l none h = holds_same s t k l (none k h.firm) h

-- the clauses of a list with one more at its end
at_front : (rs : List (List ℕ)) (r : List ℕ) (j : ℕ) → j < length rs → clause_at (rs ++ r ∷ []) j ≡ clause_at rs j
at_front [] r j lt = absurd (omega arith)
at_front (c ∷ rs) r zero lt = refl
at_front (c ∷ rs) r (suc j) lt = at_front rs r j (omega arith)

at_end : (rs : List (List ℕ)) (r : List ℕ) (j : ℕ) → j ≡ length rs → clause_at (rs ++ r ∷ []) j ≡ r
at_end [] r zero e = refl
at_end [] r (suc j) e = absurd (omega arith)
at_end (c ∷ rs) r zero e = absurd (omega arith)
at_end (c ∷ rs) r (suc j) e = at_end rs r j (omega arith)

-- clauses come, one after another
pub extends_none : (s : List (Option Stored)) → Extends s s []
extends_none s = record {
  kept = λ k f. refl;
  came = λ k f. inl refl;
  there = λ j lt. absurd (omega arith);
}

pub extends_more : (s t u : List (Option Stored)) (front : List (List ℕ)) (r : List ℕ) (id : ℕ) → Extends s t front → Fills t u id (firm_clause r) → Extends s u (front ++ r ∷ [])
extends_more s t u front r id h fills =
    let long = length-append front (r ∷ []) in
    record {
      kept = λ k f.
          let e = h.kept k f in
          fills.others k (λ q. not_none (slot s k) f (sym e ∙ ap (slot t) q ∙ fills.free)) ∙ e;
      came = λ k f.
          elim (cases_eq k id) [
            | inl q ↦ inr (length front, (omega arith), ap (slot u) q ∙ fills.filled ∙ ap (λ (z : List ℕ). Some (firm_clause z)) (sym (at_end front r (length front) refl)))
            | inr n ↦
                (let o = fills.others k n in
                elim (h.came k (ap is_firm (sym o) ∙ f)) [
                  | inl a ↦ inl (o ∙ a)
                  | inr j ↦ inr (j.0, (let lt = j.1 in omega arith), o ∙ j.2 ∙ ap (λ (z : List ℕ). Some (firm_clause z)) (sym (at_front front r j.0 j.1)))
                ])
          ];
      there = λ j lt.
          elim (cases_eq j (length front)) [
            | inl q ↦ (id, fills.filled ∙ ap (λ (z : List ℕ). Some (firm_clause z)) (sym (at_end front r j q)))
            | inr n ↦
                (let below : j < length front = omega arith in
                let k = h.there j below in
                let ne : k.0 ≢ id = λ q. not_none (slot t k.0) (ap is_firm k.1) (ap (slot t) q ∙ fills.free) in
                (k.0, fills.others k.0 ne ∙ k.1 ∙ ap (λ (z : List ℕ). Some (firm_clause z)) (sym (at_front front r j below))))
          ];
    }

-- what the firm clauses imply they imply still
pub extends_true : (s t : List (Option Stored)) (rs : List (List ℕ)) (f : Assignment) → Extends s t rs → FirmTrue t f → FirmTrue s f
extends_true s t rs f h y k firm' = let e = h.kept k firm' in (rw e at (y k)) firm'

pub extends_implied : (s t : List (Option Stored)) (rs : List (List ℕ)) (c : List ℕ) → Extends s t rs → Implies (FirmTrue s) c → Implies (FirmTrue t) c
extends_implied s t rs c h i f y = i f (extends_true s t rs f h y)

-- the same literals are as true
same_true : (f : Assignment) (c d : List ℕ) → SameLits c d → clause_true f c ≡ true → clause_true f d ≡ true
same_true f c d same h = let r = clause_true-some f c h in clause_true-from f d r.0 (sym (same r.0) ∙ r.1) r.2

module _ (s : List (Option Stored)) (x : ℕ) (rs : List (List ℕ)) (R : Resolvents s x rs) where
  -- the resolvents are implied
  pub resolvents_implied : (j : ℕ) → j < length rs → Implies (FirmTrue s) (clause_at rs j)
  resolvents_implied j in' f y =
      let a = R.sound j in' in
      same_true f (resolvent x (lits_at s a.0) (lits_at s a.1)) (clause_at rs j) (λ l. sym (a.4.same l))
      (resolvent_implied (FirmTrue s) x (lits_at s a.0) (lits_at s a.1) (λ g z. z a.0 a.2.firm) (λ g z. z a.1 a.3.firm) f y)

  -- who holds x or its negation once they came did so before
  held : (t : List (Option Stored)) (l k : ℕ) → ((j : ℕ) → j < length rs → has (clause_at rs j) l ≡ false) → Extends s t rs → Holds t k l → (slot t k ≡ slot s k)
  held t l k free ext h =
      elim (ext.came k h.firm) [
        | inl e ↦ e
        | inr j ↦ absurd (false≢true (sym (free j.0 j.1) ∙ ap (λ (z : Option Stored). has (slot_lits z) l) (sym j.2) ∙ h.has))
      ]

  -- then all is settled
  pub settled_added : (t : List (Option Stored)) → Extends s t rs → Settled t x
  settled_added t ext k m hk hm f y n =
      let a = held t x k (λ j i. (R.free j i).0) ext hk in
      let b = held t (neg x) m (λ j i. (R.free j i).1) ext hm in
      let ck : lits_at t k ≡ lits_at s k = ap slot_lits a in
      let cm : lits_at t m ≡ lits_at s m = ap slot_lits b in
      rw cm
      (elim (R.covered k m (holds_same s t k x a hk) (holds_same s t m (neg x) b hm)) [
        | inl c ↦ spares_tautology (RestTrue t x) x (lits_at s k) (lits_at s m) c f y (rw ck at n)
        | inr j ↦
            (let k' = ext.there j.0 j.1 in
            let is : lits_at t k'.0 ≡ clause_at rs j.0 = ap slot_lits k'.1 in
            spares_implied (RestTrue t x) x (lits_at s k) (lits_at s m)
            (λ g z. same_true g (clause_at rs j.0) (resolvent x (lits_at s k) (lits_at s m)) j.2.same
            (rw is at (z k'.0 (ap is_firm k'.1) (rw is (R.free j.0 j.1).0) (rw is (R.free j.0 j.1).1))))
            f y (rw ck at n))
      ])

-- the other firm clauses make the rest true
rest_from : (s : List (Option Stored)) (id x : ℕ) (f : Assignment) → Holds s id x → OthersTrue s id f → RestTrue s x f
rest_from s id x f h y k firm' off off' =
    y k (λ e. false≢true (sym off ∙ subst (λ (z : ℕ). has (lits_at s z) x ≡ true) (sym e) h.has)) firm'

-- a clause with x may be parked, with x as witness
pub settled_witness : (s : List (Option Stored)) (x id : ℕ) → Holds s id x → Settled s x → Witnesses (OthersTrue s id) (x ∷ []) (slot_lits (slot s id))
settled_witness s x id h q =
    witnessed s id x (slot_lits (slot s id)) h.has (λ k ne hk f y n. q id k h hk f (rest_from s id x f h y) n)

-- and all stays settled
pub freed_none : (s t : List (Option Stored)) (id : ℕ) → Frees s t id → NoneCame s t
freed_none s t id frees k h = frees.others k (λ e. not_none (slot t k) h (ap (slot t) e ∙ frees.freed))

rest_freed : (s t : List (Option Stored)) (id x : ℕ) (f : Assignment) → Holds s id x → Frees s t id → RestTrue t x f → RestTrue s x f
rest_freed s t id x f h frees y k firm' off off' =
    let ne : k ≢ id = λ e. false≢true (sym off ∙ subst (λ (z : ℕ). has (lits_at s z) x ≡ true) (sym e) h.has) in
    let o = frees.others k ne in
    let is : lits_at t k ≡ lits_at s k = ap slot_lits o in
    rw is at (y k (ap is_firm o ∙ firm') (rw is off) (rw is off'))

pub settled_freed : (s t : List (Option Stored)) (x id : ℕ) → Holds s id x → Frees s t id → Settled s x → Settled t x
settled_freed s t x id h frees q k m hk hm f y n =
    let none = freed_none s t id frees in
    let ek : lits_at t k ≡ lits_at s k = ap slot_lits (none k hk.firm) in
    let em : lits_at t m ≡ lits_at s m = ap slot_lits (none m hm.firm) in
    rw em (q k m (holds_none s t k x none hk) (holds_none s t m (neg x) none hm) f (rest_freed s t id x f h frees y) (rw ek at n))

-- where no firm clause holds the negation all is settled
pub settled_none : (s : List (Option Stored)) (x : ℕ) → ((k : ℕ) → Holds s k x → ⊥) → Settled s (neg x)
settled_none s x h k m hk hm f y n = absurd (h m (rw (neg-neg x) at hm))

pub none_trans : (s t u : List (Option Stored)) → NoneCame s t → NoneCame t u → NoneCame s u
none_trans s t u a b k h = let e = b k h in e ∙ a k (ap is_firm (sym e) ∙ h)
