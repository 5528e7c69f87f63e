-- What becomes of candidates, of blocked clauses, and of comparisons, where a clause comes or goes.
use Rattle.std.proofs.Common.{◌≡◌, ◌≢◌, ℕ, suc, true, false, List, [], ◌∷◌, ◌++◌, Option, Some, None, ◌⊎◌, inl, inr, refl, sym, ap, ◌∙◌, subst}
use Rattle.std.proofs.lemmas.Bool.{cases_Bool, cases_eq, false≢true, false_from_ne_true}
use Rattle.sat_terms.specs.Literal.{has, neg, var_of, pos_lit, neg_lit}
use Rattle.clause_store.specs.Stored.{Stored, keeps_firm, slot, slot_lits, is_firm, Fills, Frees}
use Rattle.firm_terms.specs.Firm.{mentions, with_slot, firm, Holds, NoneCame}
use Rattle.firm_terms.specs.Resolving.{holding, resolvent, is_tautology, candidate, BlocksNone}
use Rattle.sat_terms.proofs.Literals.{var_of-pos_lit, var_of-neg_lit}
use Rattle.firm_terms.proofs.Standing.{mentions_lit}

-- the clause of a slot, if it is firm and holds a literal
part : ℕ → Option Stored → List (List ℕ)
part l x = holding l (with_slot x [])

part_cons : (l : ℕ) (x : Option Stored) (s : List (Option Stored)) → holding l (firm (x ∷ s)) ≡ part l x ++ holding l (firm s)
unfolding part
part_cons l None s = refl
part_cons l (Some c) s =
    elim (cases_Bool (keeps_firm c.keep)) [
      | inl a ↦ rw a (elim (cases_Bool (has c.lits l)) [ inl b ↦ rw b refl | inr b ↦ rw b refl ])
      | inr a ↦ rw a refl
    ]

-- the clauses that hold a literal are the same where each slot's are
holding_same : (l : ℕ) (s t : List (Option Stored)) → ((k : ℕ) → part l (slot t k) ≡ part l (slot s k)) → holding l (firm t) ≡ holding l (firm s)
unfolding part
holding_same l [] [] h = refl
holding_same l [] (y ∷ t) h = part_cons l y t ∙ rw (h 0, holding_same l [] t (λ k. h (suc k))) refl
holding_same l (x ∷ s) [] h = sym (part_cons l x s ∙ rw (← h 0, ← holding_same l s [] (λ k. h (suc k))) refl)
holding_same l (x ∷ s) (y ∷ t) h = part_cons l y t ∙ rw (h 0, holding_same l s t (λ k. h (suc k))) (sym (part_cons l x s))

-- a clause that is not firm, or does not hold the literal
part_none : (l : ℕ) (x : Option Stored) → (is_firm x ≡ true → has (slot_lits x) l ≡ false) → part l x ≡ []
unfolding part
part_none l None h = refl
part_none l (Some c) h =
    elim (cases_Bool (keeps_firm c.keep)) [
      | inl a ↦ rw (a, h a) refl
      | inr a ↦ rw a refl
    ]

-- a clause that does not hold a literal comes, or goes
pub holding_filled : (l : ℕ) (s t : List (Option Stored)) (id : ℕ) (c : Stored) → Fills s t id c → (is_firm (Some c) ≡ true → has c.lits l ≡ false) → holding l (firm t) ≡ holding l (firm s)
unfolding part
holding_filled l s t id c fills out =
    holding_same l s t (λ k.
    elim (cases_eq k id) [
      | inl e ↦
          (let there : slot t k ≡ Some c = ap (slot t) e ∙ fills.filled in
          let before : slot s k ≡ None = ap (slot s) e ∙ fills.free in
          rw (there, before) (part_none l (Some c) out))
      | inr n ↦ ap (part l) (fills.others k n)
    ])

pub holding_freed : (l : ℕ) (s t : List (Option Stored)) (id : ℕ) → Frees s t id → (is_firm (slot s id) ≡ true → has (slot_lits (slot s id)) l ≡ false) → holding l (firm t) ≡ holding l (firm s)
unfolding part
holding_freed l s t id frees out =
    holding_same l s t (λ k.
    elim (cases_eq k id) [
      | inl e ↦
          (let there : slot t k ≡ None = ap (slot t) e ∙ frees.freed in
          rw (there, e) (sym (part_none l (slot s id) out)))
      | inr n ↦ ap (part l) (frees.others k n)
    ])

-- a clause that does not mention a variable holds neither of its literals
pub no_literal : (c : List ℕ) (l : ℕ) → mentions c (var_of l) ≡ false → has c l ≡ false
no_literal c l h = false_from_ne_true (has c l) (λ y. false≢true (sym h ∙ mentions_lit c l y))

-- whether a variable is a candidate, where the clauses that hold its literals are the same
pub candidate_same : (s t : List (Option Stored)) (v : ℕ) → ((l : ℕ) → var_of l ≡ v → holding l (firm t) ≡ holding l (firm s)) → candidate (firm t) v ≡ candidate (firm s) v
candidate_same s t v same = rw (same (pos_lit v) (var_of-pos_lit v), same (neg_lit v) (var_of-neg_lit v)) refl

pub candidate_filled : (s t : List (Option Stored)) (id : ℕ) (c : Stored) (v : ℕ) → Fills s t id c → mentions c.lits v ≡ false → candidate (firm t) v ≡ candidate (firm s) v
candidate_filled s t id c v fills out =
    candidate_same s t v (λ l is. holding_filled l s t id c fills (λ _. no_literal c.lits l (subst (λ z. mentions c.lits z ≡ false) (sym is) out)))

pub candidate_freed : (s t : List (Option Stored)) (id v : ℕ) → Frees s t id → mentions (slot_lits (slot s id)) v ≡ false → candidate (firm t) v ≡ candidate (firm s) v
candidate_freed s t id v frees out =
    candidate_same s t v (λ l is. holding_freed l s t id frees (λ _. no_literal (slot_lits (slot s id)) l (subst (λ z. mentions (slot_lits (slot s id)) z ≡ false) (sym is) out)))

-- a firm clause, and one that holds a literal, where the slot is the same
holds_as : (s t : List (Option Stored)) (k l : ℕ) → slot t k ≡ slot s k → Holds t k l → Holds s k l
holds_as s t k l same h = record { firm = rw same at h.firm; has = rw same at h.has }

-- no clause is blocked on a literal: where one comes that does not hold it, and where one goes that does not hold its negation
pub blocks_none_filled : (s t : List (Option Stored)) (id : ℕ) (c : Stored) (l : ℕ) → Fills s t id c → has c.lits l ≡ false → BlocksNone s l → BlocksNone t l
blocks_none_filled s t id c l fills out none k b =
    elim (cases_eq k id) [
      | inl e ↦
          (let there : slot t k ≡ Some c = ap (slot t) e ∙ fills.filled in
          absurd (false≢true (sym out ∙ subst (λ (z : Option Stored). has (slot_lits z) l ≡ true) there b.holds.has)))
      | inr n ↦
          (let same = fills.others k n in
          none k (record {
            holds = holds_as s t k l same b.holds;
            tautologies = λ other h.
                let apart : other ≢ id = λ e. false≢true (subst (λ (z : Option Stored). is_firm z ≡ true) (ap (slot s) e ∙ fills.free) h.firm) in
                subst (λ (z : Option Stored). is_tautology (resolvent l (slot_lits z) (slot_lits (slot s other))) ≡ true) same
                (subst (λ (z : Option Stored). is_tautology (resolvent l (slot_lits (slot t k)) (slot_lits z)) ≡ true) (fills.others other apart)
                (b.tautologies other (holds_as t s other (neg l) (sym (fills.others other apart)) h)));
          }))
    ]

pub blocks_none_freed : (s t : List (Option Stored)) (id l : ℕ) → Frees s t id → has (slot_lits (slot s id)) (neg l) ≡ false → BlocksNone s l → BlocksNone t l
blocks_none_freed s t id l frees out none k b =
    let apart : k ≢ id = λ e. false≢true (subst (λ (z : Option Stored). is_firm z ≡ true) (ap (slot t) e ∙ frees.freed) b.holds.firm) in
    let same = frees.others k apart in
    none k (record {
      holds = holds_as s t k l same b.holds;
      tautologies = λ other h.
          let far : other ≢ id = λ e. false≢true (sym out ∙ subst (λ z. has (slot_lits (slot s z)) (neg l) ≡ true) e h.has) in
          subst (λ (z : Option Stored). is_tautology (resolvent l (slot_lits z) (slot_lits (slot s other))) ≡ true) same
          (subst (λ (z : Option Stored). is_tautology (resolvent l (slot_lits (slot t k)) (slot_lits z)) ≡ true) (frees.others other far)
          (b.tautologies other (holds_as t s other (neg l) (sym (frees.others other far)) h)));
    })

-- each slot is the same, or names no firm clause, before and after
abbrev pub SameFirms : List (Option Stored) → List (Option Stored) → Type 0
SameFirms s t = (k : ℕ) → (slot t k ≡ slot s k) ⊎ ((is_firm (slot t k) ≡ false) × (is_firm (slot s k) ≡ false))

-- so it is where what comes or goes is not firm
pub same_firms_filled : (s t : List (Option Stored)) (id : ℕ) (c : Stored) → Fills s t id c → is_firm (Some c) ≡ false → SameFirms s t
same_firms_filled s t id c fills out k =
    elim (cases_eq k id) [
      | inl e ↦
          (let there : slot t k ≡ Some c = ap (slot t) e ∙ fills.filled in
          let before : slot s k ≡ None = ap (slot s) e ∙ fills.free in
          inr (rw there out, rw before refl))
      | inr n ↦ inl (fills.others k n)
    ]

pub same_firms_freed : (s t : List (Option Stored)) (id : ℕ) → Frees s t id → is_firm (slot s id) ≡ false → SameFirms s t
same_firms_freed s t id frees out k =
    elim (cases_eq k id) [
      | inl e ↦
          (let there : slot t k ≡ None = ap (slot t) e ∙ frees.freed in
          inr (rw there refl, rw e out))
      | inr n ↦ inl (frees.others k n)
    ]

module _ (s t : List (Option Stored)) (same : SameFirms s t) where
  pub none_came : NoneCame s t
  none_came k firm' = elim (same k) [ inl e ↦ e | inr out ↦ absurd (false≢true (sym out.0 ∙ firm')) ]

  pub none_went : (k : ℕ) → is_firm (slot s k) ≡ true → slot t k ≡ slot s k
  none_went k firm' = elim (same k) [ inl e ↦ e | inr out ↦ absurd (false≢true (sym out.1 ∙ firm')) ]

  pub candidate_kept : (v : ℕ) → candidate (firm t) v ≡ candidate (firm s) v
  candidate_kept v =
      candidate_same s t v (λ l is.
      holding_same l s t (λ k.
      elim (same k) [
        | inl e ↦ ap (part l) e
        | inr out ↦ part_none l (slot t k) (λ y. absurd (false≢true (sym out.0 ∙ y))) ∙ sym (part_none l (slot s k) (λ y. absurd (false≢true (sym out.1 ∙ y))))
      ]))

  pub blocks_none_kept : (l : ℕ) → BlocksNone s l → BlocksNone t l
  blocks_none_kept l none k b =
      let here = none_came k b.holds.firm in
      none k (record {
        holds = holds_as s t k l here b.holds;
        tautologies = λ other h.
            let there = none_went other h.firm in
            subst (λ (z : Option Stored). is_tautology (resolvent l (slot_lits z) (slot_lits (slot s other))) ≡ true) here
            (subst (λ (z : Option Stored). is_tautology (resolvent l (slot_lits (slot t k)) (slot_lits z)) ≡ true) there
            (b.tautologies other (holds_as t s other (neg l) (sym there) h)));
      })

-- where a clause goes, none came
pub none_came_freed : (s t : List (Option Stored)) (id : ℕ) → Frees s t id → NoneCame s t
none_came_freed s t id frees k firm' =
    elim (cases_eq k id) [
      | inl e ↦ absurd (false≢true (subst (λ (z : Option Stored). is_firm z ≡ true) (ap (slot t) e ∙ frees.freed) firm'))
      | inr n ↦ frees.others k n
    ]
