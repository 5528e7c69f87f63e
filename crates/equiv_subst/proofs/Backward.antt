-- What was implied before some rules is implied after them, where no witness was on one of its variables.
use Rattle.std.proofs.Common.{◌≡◌, ℕ, ◌%◌, Bool, true, false, not, eqb, List, [], ◌∷◌, inl, inr, refl, sym, ap, ◌∙◌, arith}
use Rattle.std.proofs.lemmas.Bool.{cases_eq, false≢true, or_cases, false_from_ne_true, eqb-true}
use Rattle.sat_terms.specs.Literal.{has, var_of, pos_lit, neg_lit}
use Rattle.sat_terms.specs.Truth.{Assignment, lit_true, clause_true, Implies}
use Rattle.sat_terms.proofs.Literals.{var_of-pos_lit, var_of-neg_lit}
use Rattle.sat_terms.proofs.Truths.{clause_true-from, clause_true-some, lit_true-even, lit_true-odd}
use Rattle.redundancy.specs.Setting.{set_true}
use Rattle.redundancy.proofs.Setting.{set_true-in}
use Rattle.clause_store.specs.Stored.{slot, slot_lits, FirmTrue}
use Rattle.clause_store.proofs.Slots.{FirmTrue-from, FirmTrue-before, OthersTrue-freed}
use Rattle.rule_kernel.specs.State.{State}
use Rattle.pass_terms.specs.Ruled.{Uses, Ruled}
use Rattle.pass_terms.specs.Ruled.Uses.{implied, dropped, parked, unmarked}
use Rattle.pass_terms.specs.Ruled.Ruled.{none, more}

-- Backwards: an assignment of the new firm clauses becomes one of the old ones, and only variables that are not frozen change.
abbrev pub Back : (frozen : ℕ → Bool) → State → Assignment → Type 0
Back frozen s f = (g : Assignment) × FirmTrue s.store g × ((v : ℕ) → frozen v ≡ true → g v ≡ f v)

set_other : (f : Assignment) (x v : ℕ) → (v ≡ var_of x → ⊥) → set_true f (x ∷ []) v ≡ f v
unfolding set_true
set_other f x v n =
    let p : has (x ∷ []) (pos_lit v) ≡ false = no (pos_lit v) (var_of-pos_lit v) in
    let q : has (x ∷ []) (neg_lit v) ≡ false = no (neg_lit v) (var_of-neg_lit v) in
    rw (p, q) refl where
      no : (l : ℕ) → var_of l ≡ v → has (x ∷ []) l ≡ false
      no l e = false_from_ne_true (has (x ∷ []) l) (λ h.
          elim (or_cases (eqb x l) false h) [
            | inl i ↦ n (sym e ∙ ap var_of (sym (eqb-true x l i)))
            | inr i ↦ false≢true i
          ])

uses_back : (frozen : ℕ → Bool) (s t : State) → Uses frozen s t → (f : Assignment) → FirmTrue t.store f → Back frozen s f
uses_back frozen s t (implied lits id known r) f h = (f, (FirmTrue-before f r.store h).0, λ v _. refl)
uses_back frozen s t (dropped id r) f h =
    let others = OthersTrue-freed f r.store h in
    (f, FirmTrue-from s.store id f others (λ _. r.implied f others), λ v _. refl)
uses_back frozen s t (parked id x free r) f h = go (clause_true f (slot_lits (slot s.store id))) refl where
  go : (b : Bool) → clause_true f (slot_lits (slot s.store id)) ≡ b → Back frozen s f
  go true y = (f, FirmTrue-from s.store id f (OthersTrue-freed f r.store h) (λ _. y), λ v _. refl)
  go false n =
      let w = r.witnessed in
      let g = set_true f (x ∷ []) in
      let l = w.shared.0 in
      let here : clause_true g (slot_lits (slot s.store id)) ≡ true = clause_true-from g (slot_lits (slot s.store id)) l w.shared.2 (set_true-in f (x ∷ []) l w.shared.1 (w.apart l w.shared.1)) in
      (g, FirmTrue-from s.store id g (w.moves f (OthersTrue-freed f r.store h) n) (λ _. here), λ v y. set_other f x v (λ e. false≢true (sym free ∙ ap frozen (sym e) ∙ y)))
uses_back frozen s t (unmarked r) f h = (f, rw r.store at h, λ v _. refl)

pub ruled_back : (frozen : ℕ → Bool) (s t : State) → Ruled frozen s t → (f : Assignment) → FirmTrue t.store f → Back frozen s f
ruled_back frozen s _ none f h = (f, h, λ v _. refl)
ruled_back frozen s _ (more t u a r) f h =
    let b = uses_back frozen t u r f h in
    let c = ruled_back frozen s t a b.0 b.1 in
    (c.0, c.1, λ v y. c.2 v y ∙ b.2 v y)

-- two assignments that agree on a clause's variables make it true alike
lit_same : (f g : Assignment) (l : ℕ) → g (var_of l) ≡ f (var_of l) → lit_true g l ≡ lit_true f l
unfolding var_of
lit_same f g l e =
    elim (cases_eq (l % 2) 0) [
      | inl h ↦ lit_true-even g l h ∙ e ∙ sym (lit_true-even f l h)
      | inr n ↦ (let h : l % 2 ≡ 1 = omega arith in lit_true-odd g l h ∙ ap not e ∙ sym (lit_true-odd f l h))
    ]

pub true_alike : (f g : Assignment) (c : List ℕ) → ((l : ℕ) → has c l ≡ true → g (var_of l) ≡ f (var_of l)) → clause_true g c ≡ true → clause_true f c ≡ true
true_alike f g c same h =
    let r = clause_true-some g c h in
    clause_true-from f c r.0 r.1 (sym (lit_same f g r.0 (same r.0 r.1)) ∙ r.2)

-- A clause that was implied, and whose variables are frozen, is still implied.
pub still_implied : (frozen : ℕ → Bool) (s t : State) (c : List ℕ) → Ruled frozen s t → ((l : ℕ) → has c l ≡ true → frozen (var_of l) ≡ true) → Implies (FirmTrue s.store) c → Implies (FirmTrue t.store) c
still_implied frozen s t c r fixed h f m =
    let b = ruled_back frozen s t r f m in
    true_alike f b.0 c (λ l i. b.2 (var_of l) (fixed l i)) (h b.0 b.1)
