-- Laws of lists of rules.
use Rattle.std.proofs.Common.{◌≡◌, ℕ, ◌+◌, Bool, true, false, eqb, ◌||◌, List, [], ◌∷◌, ◌++◌, Option, Some, None, ◌⊎◌, inl, inr, refl, sym, ap, ◌∙◌, subst, arith, min}
use Rattle.std.proofs.lemmas.Bool.{cases_eq, false≢true, or_cases, or_left, or_right, false_from_ne_true, eqb-true}
use Rattle.std.proofs.lemmas.List.{append-nil, append_assoc}
use Rattle.sat_terms.specs.Limits.{max_number}
use Rattle.sat_terms.specs.Literal.{var_of}
use Rattle.sat_terms.specs.Truth.{Assignment}
use Rattle.redundancy.specs.Redundancy.{Entry}
use Rattle.redundancy.proofs.Chains.{StackTrue-append, StackTrue-left, StackTrue-right}
use Rattle.clause_store.specs.Stored.{Stored, slot, slot_lits, is_firm, is_redundant, Fills, Frees}
use Rattle.clause_store.proofs.Slots.{FirmTrue-from, OthersTrue-from, FirmTrue-filled, FirmTrue-before, FirmTrue-freed, OthersTrue-freed}
use Rattle.rule_kernel.specs.State.{State}
use Rattle.rule_kernel.specs.Rules.{firm_clause, Applies, Park}
use Rattle.firm_terms.specs.Firm.{mentions, firm, stands}
use Rattle.pass_terms.specs.Ruled.{always, Uses, Ruled, goes, removals_of, Models, stacked, stands_in, IsSingle, AreSingle, SameRedundant, PassesSimplify}
use Rattle.pass_terms.specs.Ruled.Uses.{implied, dropped, parked, unmarked}
use Rattle.pass_terms.specs.Ruled.Ruled.{none, more}
use Rattle.firm_terms.proofs.Standing.{stands_from, stands_filled, stands_freed}

-- an entry of one literal
abbrev entry_of : ℕ → List ℕ → List Entry
entry_of x c = record { witness = x ∷ []; clause = c } ∷ []

-- lists of rules, one after the other
pub ruled_trans : (frozen : ℕ → Bool) (s t u : State) → Ruled frozen s t → Ruled frozen t u → Ruled frozen s u
ruled_trans frozen s t _ a none = a
ruled_trans frozen s t _ a (more v u b r) = more v u (ruled_trans frozen s t v a b) r

pub ruled_one : (frozen : ℕ → Bool) (s t : State) → Uses frozen s t → Ruled frozen s t
ruled_one frozen s t r = more s t none r

-- where less is frozen, more may be done
uses_weaken : (p q : ℕ → Bool) (s t : State) → ((v : ℕ) → p v ≡ false → q v ≡ false) → Uses p s t → Uses q s t
uses_weaken p q s t w (implied lits id known r) = implied lits id known r
uses_weaken p q s t w (dropped id r) = dropped id r
uses_weaken p q s t w (parked id x free r) = parked id x (w (var_of x) free) r
uses_weaken p q s t w (unmarked r) = unmarked r

pub ruled_weaken : (p q : ℕ → Bool) (s t : State) → ((v : ℕ) → p v ≡ false → q v ≡ false) → Ruled p s t → Ruled q s t
ruled_weaken p q s _ w none = none
ruled_weaken p q s _ w (more t u a r) = more t u (ruled_weaken p q s t w a) (uses_weaken p q t u w r)

-- where no variable is free nothing was parked
pub for_any : (frozen : ℕ → Bool) (s t : State) → Ruled always s t → Ruled frozen s t
for_any frozen s t h = ruled_weaken always frozen s t (λ v e. absurd (false≢true (sym e))) h

-- rules keep the assignments that make firm and stacked clauses true
uses_to : (frozen : ℕ → Bool) (s t : State) → Uses frozen s t → (f : Assignment) → Models s f → Models t f
uses_to frozen s t (implied lits id known r) f m = (FirmTrue-filled f r.store m.0 (λ _. r.implied f m.0), rw r.rest.stack m.1)
uses_to frozen s t (dropped id r) f m = (FirmTrue-freed f r.store (OthersTrue-from s.store id f m.0), rw r.stack m.1)
uses_to frozen s t (parked id x free r) f m = (
  FirmTrue-freed f r.store (OthersTrue-from s.store id f m.0),
  rw r.stack (StackTrue-append f s.stack (entry_of x (slot_lits (slot s.store id))) m.1 (m.0 id r.firm, tt)),
)
uses_to frozen s t (unmarked r) f m = rw (r.store, r.rest.stack) m

uses_from : (frozen : ℕ → Bool) (s t : State) → Uses frozen s t → (f : Assignment) → Models t f → Models s f
uses_from frozen s t (implied lits id known r) f m = ((FirmTrue-before f r.store m.0).0, rw r.rest.stack at m.1)
uses_from frozen s t (dropped id r) f m =
    let others = OthersTrue-freed f r.store m.0 in
    (FirmTrue-from s.store id f others (λ _. r.implied f others), rw r.stack at m.1)
uses_from frozen s t (parked id x free r) f m =
    let k = rw r.stack at m.1 in
    let e = entry_of x (slot_lits (slot s.store id)) in
    (FirmTrue-from s.store id f (OthersTrue-freed f r.store m.0) (λ _. (StackTrue-right f s.stack e k).0), StackTrue-left f s.stack e k)
uses_from frozen s t (unmarked r) f m = rw (r.store, r.rest.stack) at m

pub ruled_to : (frozen : ℕ → Bool) (s t : State) → Ruled frozen s t → (f : Assignment) → Models s f → Models t f
ruled_to frozen s _ none f m = m
ruled_to frozen s _ (more t u a r) f m = uses_to frozen t u r f (ruled_to frozen s t a f m)

pub ruled_from : (frozen : ℕ → Bool) (s t : State) → Ruled frozen s t → (f : Assignment) → Models t f → Models s f
ruled_from frozen s _ none f m = m
ruled_from frozen s _ (more t u a r) f m = ruled_from frozen s t a f (uses_from frozen t u r f m)

-- rules bring no variable into the firm clauses
uses_stands : (frozen : ℕ → Bool) (s t : State) (v : ℕ) → Uses frozen s t → stands (firm t.store) v ≡ true → stands (firm s.store) v ≡ true
uses_stands frozen s t v (implied lits id known r) h =
    elim (stands_filled s.store t.store id v (firm_clause lits) r.store h) [ inl a ↦ a | inr b ↦ known v b ]
uses_stands frozen s t v (dropped id r) h = stands_freed s.store t.store id v r.store h
uses_stands frozen s t v (parked id x free r) h = stands_freed s.store t.store id v r.store h
uses_stands frozen s t v (unmarked r) h = rw r.store at h

pub ruled_stands : (frozen : ℕ → Bool) (s t : State) (v : ℕ) → Ruled frozen s t → stands (firm t.store) v ≡ true → stands (firm s.store) v ≡ true
ruled_stands frozen s _ v none h = h
ruled_stands frozen s _ v (more t u a r) h = ruled_stands frozen s t v a (uses_stands frozen t u v r h)

pub ruled_gone : (frozen : ℕ → Bool) (s t : State) (v : ℕ) → Ruled frozen s t → stands (firm s.store) v ≡ false → stands (firm t.store) v ≡ false
ruled_gone frozen s t v r h = false_from_ne_true (stands (firm t.store) v) (λ y. false≢true (sym h ∙ ruled_stands frozen s t v r y))

-- nor into firm and stacked clauses
stacked-append : (s t : List Entry) → stacked (s ++ t) ≡ stacked s ++ stacked t
stacked-append [] t = refl
stacked-append (e ∷ s) t = ap (λ (z : List (List ℕ)). e.clause ∷ z) (stacked-append s t)

any-append_of : (v : ℕ) (xs ys : List (List ℕ)) → stands (xs ++ ys) v ≡ true → (stands xs v ≡ true) ⊎ (stands ys v ≡ true)
any-append_of v [] ys h = inr h
any-append_of v (x ∷ xs) ys h =
    elim (or_cases (mentions x v) (stands (xs ++ ys) v) h) [
      | inl a ↦ inl (or_left (mentions x v) (stands xs v) a)
      | inr b ↦ elim (any-append_of v xs ys b) [ inl i ↦ inl (or_right (mentions x v) (stands xs v) i) | inr i ↦ inr i ]
    ]

or_map : (a b c d : Bool) → (a ≡ true → c ≡ true) → (b ≡ true → (d ≡ true) ⊎ (c ≡ true)) → (a || b) ≡ true → (c || d) ≡ true
or_map a b c d f g h =
    elim (or_cases a b h) [
      | inl i ↦ or_left c d (f i)
      | inr i ↦ elim (g i) [ inl j ↦ or_right c d j | inr j ↦ or_left c d j ]
    ]

uses_in : (frozen : ℕ → Bool) (s t : State) (v : ℕ) → Uses frozen s t → stands_in t v ≡ true → stands_in s v ≡ true
uses_in frozen s t v (implied lits id known r) h =
    or_map (stands (firm t.store) v) (stands (stacked t.stack) v) (stands (firm s.store) v) (stands (stacked s.stack) v)
    (λ x. uses_stands frozen s t v (implied lits id known r) x) (λ x. inl (rw r.rest.stack at x)) h
uses_in frozen s t v (dropped id r) h =
    or_map (stands (firm t.store) v) (stands (stacked t.stack) v) (stands (firm s.store) v) (stands (stacked s.stack) v)
    (λ x. stands_freed s.store t.store id v r.store x) (λ x. inl (rw r.stack at x)) h
uses_in frozen s t v (parked id x free r) h =
    or_map (stands (firm t.store) v) (stands (stacked t.stack) v) (stands (firm s.store) v) (stands (stacked s.stack) v)
    (λ y. stands_freed s.store t.store id v r.store y)
    (λ y.
    let e = entry_of x (slot_lits (slot s.store id)) in
    let z = rw (r.stack, stacked-append s.stack e) at y in
    elim (any-append_of v (stacked s.stack) (stacked e) z) [
      | inl a ↦ inl a
      | inr b ↦
          elim (or_cases (mentions (slot_lits (slot s.store id)) v) false b) [
            | inl m ↦ inr (stands_from s.store v id r.firm m)
            | inr n ↦ absurd (false≢true n)
          ]
    ])
    h
uses_in frozen s t v (unmarked r) h = rw (r.store, r.rest.stack) at h

pub ruled_in : (frozen : ℕ → Bool) (s t : State) (v : ℕ) → Ruled frozen s t → stands_in t v ≡ true → stands_in s v ≡ true
ruled_in frozen s _ v none h = h
ruled_in frozen s _ v (more t u a r) h = ruled_in frozen s t v a (uses_in frozen t u v r h)

-- the redundant clauses stay
firm_not_redundant : (x : Option Stored) → is_firm x ≡ true → is_redundant x ≡ true → ⊥
firm_not_redundant None h k = false≢true h
firm_not_redundant (Some c) h k = false≢true (rw h at k)

redundant_filled : (s t : List (Option Stored)) (id : ℕ) (lits : List ℕ) → Fills s t id (firm_clause lits) → SameRedundant s t
redundant_filled s t id lits fills = record {
  kept = λ k h.
      elim (cases_eq k id) [
        | inl e ↦ (let free : slot s k ≡ None = ap (slot s) e ∙ fills.free in absurd (false≢true (rw free at h)))
        | inr n ↦ fills.others k n
      ];
  no_more = λ k h.
      elim (cases_eq k id) [
        | inl e ↦ (let there : slot t k ≡ Some (firm_clause lits) = ap (slot t) e ∙ fills.filled in absurd (false≢true (rw there at h)))
        | inr n ↦ fills.others k n
      ];
}

redundant_freed : (s t : List (Option Stored)) (id : ℕ) → is_firm (slot s id) ≡ true → Frees s t id → SameRedundant s t
redundant_freed s t id firm frees = record {
  kept = λ k h.
      elim (cases_eq k id) [
        | inl e ↦ absurd (firm_not_redundant (slot s id) firm (rw e at h))
        | inr n ↦ frees.others k n
      ];
  no_more = λ k h.
      elim (cases_eq k id) [
        | inl e ↦ (let there : slot t k ≡ None = ap (slot t) e ∙ frees.freed in absurd (false≢true (rw there at h)))
        | inr n ↦ frees.others k n
      ];
}

uses_redundant : (frozen : ℕ → Bool) (s t : State) → Uses frozen s t → SameRedundant s.store t.store
uses_redundant frozen s t (implied lits id known r) = redundant_filled s.store t.store id lits r.store
uses_redundant frozen s t (dropped id r) = redundant_freed s.store t.store id r.firm r.store
uses_redundant frozen s t (parked id x free r) = redundant_freed s.store t.store id r.firm r.store
uses_redundant frozen s t (unmarked r) = rw r.store (record { kept = λ k h. refl; no_more = λ k h. refl })

redundant_trans : (s t u : List (Option Stored)) → SameRedundant s t → SameRedundant t u → SameRedundant s u
redundant_trans s t u a b = record {
  kept = λ k h. (let x = a.kept k h in b.kept k (subst (λ (z : Option Stored). is_redundant z ≡ true) (sym x) h) ∙ x);
  no_more = λ k h. (let x = b.no_more k h in x ∙ a.no_more k (subst (λ (z : Option Stored). is_redundant z ≡ true) x h));
}

pub ruled_redundant : (frozen : ℕ → Bool) (s t : State) → Ruled frozen s t → SameRedundant s.store t.store
ruled_redundant frozen s _ none = record { kept = λ k h. refl; no_more = λ k h. refl }
ruled_redundant frozen s _ (more t u a r) = redundant_trans s.store t.store u.store (ruled_redundant frozen s t a) (uses_redundant frozen t u r)

-- the stack grows at its end
single-append : (frozen : ℕ → Bool) (a b : List Entry) → AreSingle frozen a → AreSingle frozen b → AreSingle frozen (a ++ b)
single-append frozen [] b x y = y
single-append frozen (e ∷ a) b x y = (x.0, single-append frozen a b x.1 y)

abbrev Grown : (frozen : ℕ → Bool) → State → State → Type 0
Grown frozen s t = (later : List Entry) × (t.stack ≡ s.stack ++ later) × AreSingle frozen later

-- a witness of one literal shares that literal with the clause
single_of : (frozen : ℕ → Bool) (s t : State) (id x : ℕ) → frozen (var_of x) ≡ false → Applies (Park id (x ∷ [])) s t → IsSingle frozen (record { witness = x ∷ []; clause = slot_lits (slot s.store id) })
single_of frozen s t id x free r =
    let l = r.witnessed.shared in
    record {
      lit = x;
      alone = refl;
      within = elim (or_cases (eqb x l.0) false l.1) [ inl e ↦ rw (eqb-true x l.0 e) l.2 | inr f ↦ absurd (false≢true f) ];
      free = free;
    }

pub ruled_stack : (frozen : ℕ → Bool) (s t : State) → Ruled frozen s t → Grown frozen s t
ruled_stack frozen s _ none = ([], sym (append-nil s.stack), tt)
ruled_stack frozen s _ (more t u a r) = go r (ruled_stack frozen s t a) where
  go : Uses frozen t u → Grown frozen s t → Grown frozen s u
  go (implied lits id known r) i = (i.0, r.rest.stack ∙ i.1, i.2)
  go (dropped id r) i = (i.0, r.stack ∙ i.1, i.2)
  go (parked id x free r) i =
      let e = entry_of x (slot_lits (slot t.store id)) in
      (i.0 ++ e, r.stack ∙ ap (λ (z : List Entry). z ++ e) i.1 ∙ append_assoc s.stack i.0 e, single-append frozen i.0 e i.2 (single_of frozen t u id x free r, tt))
  go (unmarked r) i = (i.0, r.rest.stack ∙ i.1, i.2)

-- the counts
uses_removals : (frozen : ℕ → Bool) (s t : State) (n : ℕ) → (r : Uses frozen s t) → min s.removals max_number ≡ min n max_number → min t.removals max_number ≡ min (n + goes r) max_number
uses_removals frozen s t n (implied lits id known r) h = let e = r.rest.removals in omega arith
uses_removals frozen s t n (dropped id r) h = let e = r.removals in omega arith
uses_removals frozen s t n (parked id x free r) h = let e = r.removals in omega arith
uses_removals frozen s t n (unmarked r) h = let e = r.rest.removals in omega arith

ruled_removals : (frozen : ℕ → Bool) (s t : State) → (r : Ruled frozen s t) → min t.removals max_number ≡ min (s.removals + removals_of r) max_number
ruled_removals frozen s _ none = let e : s.removals + 0 ≡ s.removals = omega arith in rw e refl
ruled_removals frozen s _ (more t u a r) =
    let e : s.removals + (removals_of a + goes r) ≡ s.removals + removals_of a + goes r = omega arith in
    rw e (uses_removals frozen t u (s.removals + removals_of a) r (ruled_removals frozen s t a))

ruled_restores : (frozen : ℕ → Bool) (s t : State) → Ruled frozen s t → t.restores ≡ s.restores
ruled_restores frozen s _ none = refl
ruled_restores frozen s _ (more t u a r) = go r ∙ ruled_restores frozen s t a where
  go : Uses frozen t u → u.restores ≡ t.restores
  go (implied lits id known r) = r.rest.restores
  go (dropped id r) = r.restores
  go (parked id x free r) = r.restores
  go (unmarked r) = r.rest.restores

pub ruled_all : PassesSimplify
ruled_all frozen s t r = record {
  to = ruled_to frozen s t r;
  from = ruled_from frozen s t r;
  stands = λ v. ruled_in frozen s t v r;
  redundant = ruled_redundant frozen s t r;
  stack = ruled_stack frozen s t r;
  removals = ruled_removals frozen s t r;
  restores = ruled_restores frozen s t r;
}
