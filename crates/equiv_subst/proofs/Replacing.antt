-- Laws of clauses in which a literal is replaced.
use Rattle.std.proofs.Common.{◌≡◌, ◌≢◌, ℕ, ◌+◌, ◌<◌, ◌≤◌, Bool, true, false, cond, not, eqb, List, [], ◌∷◌, get_or, Option, Some, None, Result, Ok, Err, IfOk, OnOk, OnErr, inl, inr, ◌⊎◌, refl, sym, ap, ◌∙◌, subst, arith, is_lt, nat_cmp, count_by}
use Rattle.std.proofs.lemmas.Bool.Decides.{nat_tests}
use Rattle.std.proofs.lemmas.Bool.{false≢true, cases_Bool, cases_eq, cases_lt, false_from_ne_true, or_cases, or_left, or_right, and_parts, and_from, eqb-true, eq-eqb, ne_eqb}
use Rattle.sat_terms.specs.Literal.{has, neg, var_of}
use Rattle.sat_terms.specs.Normal.{IsNormal}
use Rattle.sat_terms.specs.Truth.{Assignment, lit_true, clause_true, Implies}
use Rattle.sat_terms.proofs.Literals.{neg-neg, neg-other, var_of-neg, same_var}
use Rattle.sat_terms.proofs.Truths.{clause_true-from, clause_true-some, lit_true-neg}
use Rattle.normal_form.specs.Forms.{IsFormOf, IsTautology}
use Rattle.normal_form.proofs.FormTruths.{true_same, true_back, tautology_true}
use Rattle.redundancy.specs.Setting.{set_true}
use Rattle.redundancy.proofs.Setting.{set_true-out, clause_true-kept}
use Rattle.redundancy.specs.Redundancy.{Witnesses}
use Rattle.clause_store.specs.Stored.{Stored, slot, slot_lits, is_firm, SlotTrue, FirmTrue, OthersTrue, Fills, Frees}
use Rattle.sat_model.specs.declared.memory.Memory.{Memory}
use Rattle.rule_kernel.specs.State.{State}
use Rattle.rule_kernel.specs.Rules.{firm_clause, AddsImplied, DropsImplied, Parks}
use Rattle.firm_terms.specs.Firm.{firm, stands, mentions, Holds}
use Rattle.pass_terms.specs.Ruled.{IsKnown, Ruled}
use Rattle.pass_terms.specs.Ruled.Uses.{implied, dropped, parked}
use Rattle.pass_terms.specs.Ruled.Ruled.{none, more}
use Rattle.firm_terms.proofs.Standing.{stands_of, stands_from, mentions_lit, lit_of}
use Rattle.pass_terms.proofs.Ruling.{ruled_trans, ruled_weaken}
use Rattle.witness_stack.proofs.Rows.{apart_one}
use Rattle.firm_terms.proofs.Counting.{one_if, count_filled, count_freed, count_two, count_three, count_le}
use Rattle.firm_terms.specs.Implying.{IsPairOf, Says, Implication, Leads}
use Rattle.firm_terms.specs.Implying.Leads.{here, more as further}
use Rattle.equiv_subst.specs.Replacing.{always, all_but, rename, renamed, AreTied, about, KeepsFirm, Renames, Renamed, Ties, Cleared, Stopped, TiedBy, IsReady, RanOut, Parked, Replaced}
use Rattle.equiv_subst.specs.Walk.{Halted}
use Rattle.equiv_subst.proofs.Leading.{has_place}
use Rattle.equiv_subst.proofs.Graphs.{pair_cases}

-- the literals of a binary clause
pub two_lits : (c : List ℕ) (a b l : ℕ) → IsPairOf c a b → has c l ≡ true → (l ≡ neg a) ⊎ (l ≡ b)
two_lits [] a b l h i = absurd (false≢true i)
two_lits (x ∷ []) a b l h i = absurd (let t = h.two in omega arith)
two_lits (x ∷ y ∷ z ∷ c) a b l h i = absurd (let t = h.two in omega arith)
two_lits (x ∷ y ∷ []) a b l h i =
    let w : (l ≡ x) ⊎ (l ≡ y) = elim (or_cases (eqb x l) (has (y ∷ []) l) i) [ inl e ↦ inl (sym (eqb-true x l e)) | inr e ↦ inr (elim (or_cases (eqb y l) false e) [ inl f ↦ sym (eqb-true y l f) | inr f ↦ absurd (false≢true f) ]) ] in
    elim (pair_cases (x ∷ y ∷ []) a b h) [
      | inl p ↦ (let u : neg a ≡ x = ap neg p.0 ∙ neg-neg x in let v : b ≡ y = p.1 in elim w [ inl e ↦ inl (e ∙ sym u) | inr e ↦ inr (e ∙ sym v) ])
      | inr p ↦ (let u : neg a ≡ y = ap neg p.0 ∙ neg-neg y in let v : b ≡ x = p.1 in elim w [ inl e ↦ inr (e ∙ sym v) | inr e ↦ inl (e ∙ sym u) ])
    ]

pub says_swap : (s : List (Option Stored)) (id a b : ℕ) → Says s id a b → Says s id (neg b) (neg a)
says_swap s id a b h = record {
  firm = h.firm;
  by = record {
    two = h.by.two;
    from = subst (λ (z : ℕ). has (slot_lits (slot s id)) z ≡ true) (sym (neg-neg b)) h.by.to;
    to = h.by.from;
    apart = λ e. h.by.apart (sym (neg-neg b) ∙ sym e);
  };
}

-- what a binary clause says, where it is true
pub pair_true : (f : Assignment) (c : List ℕ) (a b : ℕ) → IsPairOf c a b → clause_true f c ≡ true → lit_true f a ≡ true → lit_true f b ≡ true
pair_true f c a b h t x =
    let r = clause_true-some f c t in
    elim (two_lits c a b r.0 h r.1) [
      | inl e ↦ absurd (false≢true (sym (ap not x) ∙ sym (lit_true-neg f a) ∙ ap (lit_true f) (sym e) ∙ r.2))
      | inr e ↦ ap (lit_true f) (sym e) ∙ r.2
    ]

-- a clause of two literals
pub two_true : (f : Assignment) (a b : ℕ) → (lit_true f a ≡ true → lit_true f b ≡ true) → clause_true f (neg a ∷ b ∷ []) ≡ true
two_true f a b h =
    elim (cases_Bool (lit_true f a)) [
      | inl t ↦ or_right (lit_true f (neg a)) (clause_true f (b ∷ [])) (or_left (lit_true f b) false (h t))
      | inr n ↦ or_left (lit_true f (neg a)) (clause_true f (b ∷ [])) (lit_true-neg f a ∙ ap not n)
    ]

pub two_says : (f : Assignment) (a b : ℕ) → clause_true f (neg a ∷ b ∷ []) ≡ true → lit_true f a ≡ true → lit_true f b ≡ true
two_says f a b h t =
    elim (or_cases (lit_true f (neg a)) (clause_true f (b ∷ [])) h) [
      | inl n ↦ absurd (false≢true (sym (ap not t) ∙ sym (lit_true-neg f a) ∙ n))
      | inr y ↦ elim (or_cases (lit_true f b) false y) [ inl z ↦ z | inr z ↦ absurd (false≢true z) ]
    ]

-- what leads to another literal implies it
pub leads_true : (s : List (Option Stored)) (a b : ℕ) (f : Assignment) → FirmTrue s f → Leads (Implication s) a b → lit_true f a ≡ true → lit_true f b ≡ true
leads_true s a _ f h here t = t
leads_true s a _ f h (further d b x e) t = pair_true f (slot_lits (slot s e.0)) d b e.1.by (h e.0 e.1.firm) (leads_true s a d f h x t)

pub leads_implies : (s : List (Option Stored)) (a b : ℕ) → Leads (Implication s) a b → Implies (FirmTrue s) (neg a ∷ b ∷ [])
leads_implies s a b x f h = two_true f a b (leads_true s a b f h x)

-- membership after renaming
pub has_renamed : (p q : ℕ) (c : List ℕ) (l : ℕ) → has (renamed p q c) l ≡ true → ((l ≡ q) × (has c p ≡ true)) ⊎ ((has c l ≡ true) × (l ≢ p))
has_renamed p q [] l h = absurd (false≢true h)
has_renamed p q (x ∷ c) l h =
    elim (or_cases (eqb (rename p q x) l) (has (renamed p q c) l) h) [
      | inl e ↦
          (let is : rename p q x ≡ l = eqb-true (rename p q x) l e in
          elim (cases_eq x p) [
            | inl y ↦ inl (sym (sym (ap (λ b. cond b q x) (eq-eqb x p y)) ∙ is), or_left (eqb x p) (has c p) (eq-eqb x p y))
            | inr n ↦ (let same : x ≡ l = sym (ap (λ b. cond b q x) (ne_eqb x p n)) ∙ is in inr (or_left (eqb x l) (has c l) (eq-eqb x l same), λ z. n (same ∙ z)))
          ])
      | inr t ↦
          elim (has_renamed p q c l t) [
            | inl i ↦ inl (i.0, or_right (eqb x p) (has c p) i.1)
            | inr i ↦ inr (or_right (eqb x l) (has c l) i.0, i.1)
          ]
    ]

pub renamed_has : (p q : ℕ) (c : List ℕ) (l : ℕ) → has c l ≡ true → has (renamed p q c) (rename p q l) ≡ true
renamed_has p q [] l h = absurd (false≢true h)
renamed_has p q (x ∷ c) l h =
    elim (or_cases (eqb x l) (has c l) h) [
      | inl e ↦ or_left (eqb (rename p q x) (rename p q l)) (has (renamed p q c) (rename p q l)) (eq-eqb (rename p q x) (rename p q l) (ap (rename p q) (eqb-true x l e)))
      | inr t ↦ or_right (eqb (rename p q x) (rename p q l)) (has (renamed p q c) (rename p q l)) (renamed_has p q c l t)
    ]

-- truth after renaming
pub renamed_true : (f : Assignment) (p q : ℕ) (c : List ℕ) → (lit_true f p ≡ true → lit_true f q ≡ true) → clause_true f c ≡ true → clause_true f (renamed p q c) ≡ true
renamed_true f p q c h t =
    let r = clause_true-some f c t in
    let i = renamed_has p q c r.0 r.1 in
    clause_true-from f (renamed p q c) (rename p q r.0) i
    (elim (cases_eq r.0 p) [
      | inl e ↦ rw (eq-eqb r.0 p e) (h (ap (lit_true f) (sym e) ∙ r.2))
      | inr n ↦ rw (ne_eqb r.0 p n) r.2
    ])

pub true_renamed : (f : Assignment) (p q : ℕ) (c : List ℕ) → (lit_true f q ≡ true → lit_true f p ≡ true) → clause_true f (renamed p q c) ≡ true → clause_true f c ≡ true
true_renamed f p q c h t =
    let r = clause_true-some f (renamed p q c) t in
    elim (has_renamed p q c r.0 r.1) [
      | inl i ↦ clause_true-from f c p i.1 (h (ap (lit_true f) (sym i.0) ∙ r.2))
      | inr i ↦ clause_true-from f c r.0 i.0 r.2
    ]

-- a normal clause holds no literal beside its negation
pub normal_apart : (c : List ℕ) (l : ℕ) → IsNormal c → has c l ≡ true → has c (neg l) ≡ true → ⊥
normal_apart c l n a b =
    let i = has_place c l a in
    let j = has_place c (neg l) b in
    let e : var_of (get_or c i.0 0) ≡ var_of (get_or c j.0 0) = ap var_of i.2 ∙ sym (var_of-neg l) ∙ ap var_of (sym j.2) in
    elim (cases_eq i.0 j.0) [
      | inl s ↦ neg-other l (sym j.2 ∙ ap (λ (z : ℕ). get_or c z 0) (sym s) ∙ i.2)
      | inr ne ↦
          elim (cases_lt i.0 j.0) [
            | inl lt ↦ n.apart i.0 j.0 0 lt j.1 e
            | inr ge ↦ n.apart j.0 i.0 0 (omega arith) i.1 (sym e)
          ]
    ]

-- a clause that holds p does not mention its variable once p is renamed
pub renamed_free : (p q : ℕ) (c : List ℕ) (l : ℕ) → IsNormal c → has c p ≡ true → var_of p ≢ var_of q → var_of l ≡ var_of p → has (renamed p q c) l ≡ true → ⊥
renamed_free p q c l n hp apart e h =
    elim (has_renamed p q c l h) [
      | inl i ↦ apart (sym e ∙ ap var_of i.0)
      | inr i ↦
          elim (same_var l p e) [
            | inl s ↦ i.1 s
            | inr s ↦ normal_apart c p n hp (subst (λ (z : ℕ). has c z ≡ true) s i.0)
          ]
    ]

-- what others say, where one clause is left out
pub others_say : (s : List (Option Stored)) (id k a b : ℕ) (f : Assignment) → OthersTrue s id f → k ≢ id → Says s k a b → lit_true f a ≡ true → lit_true f b ≡ true
others_say s id k a b f h ne says t = pair_true f (slot_lits (slot s k)) a b says.by (h k ne says.firm) t

-- the clause with p may go: it is a tautology once p is renamed, or the renamed one is there
pub drops_tautology : (s : List (Option Stored)) (id p q forth back : ℕ) (c : List ℕ) → AreTied s p q forth back → c ≡ slot_lits (slot s id) → back ≢ id → IsTautology (renamed p q c) → Implies (OthersTrue s id) (slot_lits (slot s id))
drops_tautology s id p q forth back c tied is ne taut f h =
    subst (λ (z : List ℕ). clause_true f z ≡ true) is (true_renamed f p q c (others_say s id back q p f h ne tied.back) (tautology_true f (renamed p q c) taut))

pub implies_renamed : (s : List (Option Stored)) (id p q forth back : ℕ) (c form : List ℕ) → AreTied s p q forth back → c ≡ slot_lits (slot s id) → is_firm (slot s id) ≡ true → IsFormOf form (renamed p q c) → Implies (FirmTrue s) form
implies_renamed s id p q forth back c form tied is firm' of f h =
    true_back f form (renamed p q c) of.same
    (renamed_true f p q c (λ t. pair_true f (slot_lits (slot s forth)) p q tied.forth.by (h forth tied.forth.firm) t) (subst (λ (z : List ℕ). clause_true f z ≡ true) (sym is) (h id firm')))

firm_some : (x : Option Stored) → is_firm x ≡ true → x ≡ None → ⊥
firm_some x h e = false≢true (sym (ap is_firm e) ∙ h)

pub says_kept : (s t : List (Option Stored)) (k a b : ℕ) → slot t k ≡ slot s k → Says s k a b → Says t k a b
says_kept s t k a b e h = record { firm = rw e h.firm; by = subst (λ (z : Option Stored). IsPairOf (slot_lits z) a b) (sym e) h.by }

pub drops_renamed : (s t : List (Option Stored)) (id new p q forth back : ℕ) (c form : List ℕ) → AreTied s p q forth back → c ≡ slot_lits (slot s id) → is_firm (slot s id) ≡ true → back ≢ id → IsFormOf form (renamed p q c) → Fills s t new (firm_clause form)
    → Implies (OthersTrue t id) (slot_lits (slot t id))
drops_renamed s t id new p q forth back c form tied is firm' ne of fills f h =
    let apart : id ≢ new = λ e. firm_some (slot s id) firm' (ap (slot s) e ∙ fills.free) in
    let same : slot t id ≡ slot s id = fills.others id apart in
    let bk : slot t back ≡ slot s back = fills.others back (λ e. firm_some (slot s back) tied.back.firm (ap (slot s) e ∙ fills.free)) in
    let there : clause_true f form ≡ true = (subst (λ (z : Option Stored). SlotTrue f z) fills.filled (h new (λ e. apart (sym e)))) refl in
    let r : clause_true f c ≡ true = true_renamed f p q c (others_say t id back q p f h ne (says_kept s t back q p bk tied.back)) (true_same f form (renamed p q c) of.same there) in
    subst (λ (z : List ℕ). clause_true f z ≡ true) (is ∙ ap slot_lits (sym same)) r

-- the variables of the renamed clause are known
pub knows_renamed : (s : State) (id p q forth back : ℕ) (c form : List ℕ) → AreTied s.store p q forth back → c ≡ slot_lits (slot s.store id) → is_firm (slot s.store id) ≡ true → IsFormOf form (renamed p q c) → IsKnown s form
knows_renamed s id p q forth back c form tied is firm' of v h =
    let l = lit_of form v h in
    elim (has_renamed p q c l.0 (sym (of.same l.0) ∙ l.1)) [
      | inl i ↦ (let e : var_of q ≡ v = ap var_of (sym i.0) ∙ l.2 in
          subst (λ (z : ℕ). stands (firm s.store) z ≡ true) e (stands_from s.store (var_of q) forth tied.forth.firm (mentions_lit (slot_lits (slot s.store forth)) q tied.forth.by.to)))
      | inr i ↦ subst (λ (z : ℕ). stands (firm s.store) z ≡ true) l.2 (stands_from s.store (var_of l.0) id firm' (mentions_lit (slot_lits (slot s.store id)) l.0 (subst (λ (z : List ℕ). has z l.0 ≡ true) is i.0)))
    ]

-- what becomes of the clauses about a variable
about_holds : (s : List (Option Stored)) (id l : ℕ) → Holds s id l → about (var_of l) (slot s id) ≡ true
about_holds s id l h = and_from (is_firm (slot s id)) (mentions (slot_lits (slot s id)) (var_of l)) h.firm (mentions_lit (slot_lits (slot s id)) l h.has)

not_about : (c : List ℕ) (v : ℕ) → ((l : ℕ) → var_of l ≡ v → has c l ≡ true → ⊥) → about v (Some (firm_clause c)) ≡ false
not_about c v h = false_from_ne_true (mentions c v) (λ m. let l = lit_of c v m in h l.0 l.2 l.1)

pub renames_gone : (s t : List (Option Stored)) (id p : ℕ) → Holds s id p → Frees s t id → Renames s t id (var_of p)
renames_gone s t id p h frees =
    let a = count_freed (about (var_of p)) s t id refl frees in
    let b = count_freed is_firm s t id refl frees in
    let one : one_if (about (var_of p) (slot s id)) ≡ 1 = ap one_if (about_holds s id p h) in
    record {
      kept = λ k ne f. frees.others k ne;
      holds = λ l k e x.
          elim (cases_eq k id) [
            | inl y ↦ absurd (firm_some (slot t k) x.firm (ap (slot t) y ∙ frees.freed))
            | inr ne ↦ (let z = frees.others k ne in record { firm = rw z at x.firm; has = rw z at x.has })
          ];
      less = omega arith;
      few = omega arith;
    }

pub renames_more : (s m t : List (Option Stored)) (id new p q : ℕ) (c form : List ℕ) → Holds s id p → IsNormal c → c ≡ slot_lits (slot s id) → var_of p ≢ var_of q → IsFormOf form (renamed p q c) → Fills s m new (firm_clause form) → Frees m t id → Renames s t id (var_of p)
renames_more s m t id new p q c form h normal is apart of fills frees =
    let ne : id ≢ new = λ e. firm_some (slot s id) h.firm (ap (slot s) e ∙ fills.free) in
    let same : slot m id ≡ slot s id = fills.others id ne in
    let off : (l : ℕ) → var_of l ≡ var_of p → has form l ≡ true → ⊥ = λ l e x. renamed_free p q c l normal (subst (λ (z : List ℕ). has z p ≡ true) (sym is) h.has) apart e (sym (of.same l) ∙ x) in
    let a1 = count_filled (about (var_of p)) s m new (firm_clause form) refl fills in
    let a2 = count_freed (about (var_of p)) m t id refl frees in
    let z1 : one_if (about (var_of p) (Some (firm_clause form))) ≡ 0 = ap one_if (not_about form (var_of p) off) in
    let z2 : one_if (about (var_of p) (slot m id)) ≡ 1 = ap one_if (ap (about (var_of p)) same ∙ about_holds s id p h) in
    let b1 = count_filled is_firm s m new (firm_clause form) refl fills in
    let b2 = count_freed is_firm m t id refl frees in
    let z3 : one_if (is_firm (slot m id)) ≡ 1 = ap one_if (ap is_firm same ∙ h.firm) in
    let z4 : one_if (is_firm (Some (firm_clause form))) ≡ 1 = refl in
    record {
      kept = λ k n f.
          frees.others k n ∙ fills.others k (λ e. firm_some (slot s k) f (ap (slot s) e ∙ fills.free));
      holds = λ l k e x.
          elim (cases_eq k id) [
            | inl y ↦ absurd (firm_some (slot t k) x.firm (ap (slot t) y ∙ frees.freed))
            | inr n ↦
                (let u = frees.others k n in
                elim (cases_eq k new) [
                  | inl y ↦ (let v : slot t k ≡ Some (firm_clause form) = u ∙ ap (slot m) y ∙ fills.filled in absurd (off l e (rw v at x.has)))
                  | inr n' ↦ (let v : slot t k ≡ slot s k = u ∙ fills.others k n' in record { firm = rw v at x.firm; has = rw v at x.has })
                ])
          ];
      less = omega arith;
      few = omega arith;
    }

-- rules that were used
pub ruled_swap : (s m t : State) (form : List ℕ) (new id : ℕ) → IsKnown s form → AddsImplied s m form new → DropsImplied m t id → Ruled always s t
ruled_swap s m t form new id known adds drops = more m t (more s m none (implied form new known adds)) (dropped id drops)

pub ruled_dropped : (s t : State) (id : ℕ) → DropsImplied s t id → Ruled always s t
ruled_dropped s t id drops = more s t none (dropped id drops)

pub ruled_same : (frozen : ℕ → Bool) (s t : State) → t ≡ s → Ruled frozen s t
ruled_same frozen s t e = rw e none

pub ruled_added : (s t : State) (lits : List ℕ) (r : Result ℕ Memory) → IsKnown s lits → IfOk r (λ id. AddsImplied s t lits id) → OnErr r (t ≡ s) → Ruled always s t
ruled_added s t lits (Ok id) known adds same = more s t none (implied lits id known adds)
ruled_added s t lits (Err e) known adds same = rw same none

-- the clause of two literals
pub pair_of_two : (a b : ℕ) → var_of a ≢ var_of b → IsPairOf (neg a ∷ b ∷ []) a b
pair_of_two a b ne = record {
  two = refl;
  from = or_left (eqb (neg a) (neg a)) (has (b ∷ []) (neg a)) (eq-eqb (neg a) (neg a) refl);
  to = or_right (eqb (neg a) b) (has (b ∷ []) b) (or_left (eqb b b) false (eq-eqb b b refl));
  apart = λ e. ne (sym (var_of-neg a) ∙ ap var_of (sym e));
}

pub pair_turned : (a b : ℕ) → var_of a ≢ var_of b → IsPairOf (b ∷ neg a ∷ []) a b
pair_turned a b ne = record {
  two = refl;
  from = or_right (eqb b (neg a)) (has (neg a ∷ []) (neg a)) (or_left (eqb (neg a) (neg a)) false (eq-eqb (neg a) (neg a) refl));
  to = or_left (eqb b b) (has (neg a ∷ []) b) (eq-eqb b b refl);
  apart = λ e. ne (sym (var_of-neg a) ∙ ap var_of (sym e));
}

pub implies_turned : (F : Assignment → Type 0) (a b : ℕ) → Implies F (neg a ∷ b ∷ []) → Implies F (b ∷ neg a ∷ [])
implies_turned F a b h f x =
    elim (or_cases (lit_true f (neg a)) (clause_true f (b ∷ [])) (h f x)) [
      | inl n ↦ or_right (lit_true f b) (clause_true f (neg a ∷ [])) (or_left (lit_true f (neg a)) false n)
      | inr y ↦ elim (or_cases (lit_true f b) false y) [ inl z ↦ or_left (lit_true f b) (clause_true f (neg a ∷ [])) z | inr z ↦ absurd (false≢true z) ]
    ]

pub pair_known : (s : State) (c : List ℕ) (a b : ℕ) → IsPairOf c a b → stands (firm s.store) (var_of a) ≡ true → stands (firm s.store) (var_of b) ≡ true → IsKnown s c
pair_known s c a b h x y v m =
    let l = lit_of c v m in
    elim (two_lits c a b l.0 h l.1) [
      | inl e ↦ (let u : var_of a ≡ v = sym (var_of-neg a) ∙ ap var_of (sym e) ∙ l.2 in subst (λ (z : ℕ). stands (firm s.store) z ≡ true) u x)
      | inr e ↦ (let u : var_of b ≡ v = ap var_of (sym e) ∙ l.2 in subst (λ (z : ℕ). stands (firm s.store) z ≡ true) u y)
    ]

pub ties_added : (s t : State) (c : List ℕ) (a b id : ℕ) → IsPairOf c a b → AddsImplied s t c id → Ties s.store t.store a b id
ties_added s t c a b id h adds =
    let n = count_filled is_firm s.store t.store id (firm_clause c) refl adds.store in
    let one : one_if (is_firm (Some (firm_clause c))) ≡ 1 = refl in
    record {
      says = record { firm = ap is_firm adds.store.filled; by = subst (λ (z : Option Stored). IsPairOf (slot_lits z) a b) (sym adds.store.filled) h };
      kept = λ k f. adds.store.others k (λ e. firm_some (slot s.store k) f (ap (slot s.store) e ∙ adds.store.free));
      few = omega arith;
    }

pub ties_found : (s : List (Option Stored)) (a b id : ℕ) → Says s id a b → Ties s s a b id
ties_found s a b id h = record { says = h; kept = λ k f. refl; few = omega arith }

pub if_ok_map : {A E : Type 0} (r : Result A E) (P Q : A → Type 0) → IfOk r P → ((x : A) → P x → Q x) → IfOk r Q
if_ok_map (Ok a) P Q h k = k a h
if_ok_map (Err e) P Q h k = tt

-- firm clauses that stay
pub keeps_true : (s t : List (Option Stored)) (f : Assignment) → KeepsFirm s t → FirmTrue t f → FirmTrue s f
keeps_true s t f keep h id firm' = subst (λ (z : Option Stored). clause_true f (slot_lits z) ≡ true) (keep id firm') (h id (subst (λ (z : Option Stored). is_firm z ≡ true) (sym (keep id firm')) firm'))

pub keeps_stands : (s t : List (Option Stored)) (v : ℕ) → KeepsFirm s t → stands (firm s) v ≡ true → stands (firm t) v ≡ true
keeps_stands s t v keep h =
    let r = stands_of s v h in
    let e = sym (keep r.0 r.1) in
    stands_from t v r.0 (subst (λ (z : Option Stored). is_firm z ≡ true) e r.1) (subst (λ (z : Option Stored). mentions (slot_lits z) v ≡ true) e r.2)

-- the two ties are two clauses
pub ties_apart : (s : List (Option Stored)) (p q forth back : ℕ) → var_of p ≢ var_of q → Says s forth p q → Says s back q p → forth ≢ back
ties_apart s p q forth back ne f b e =
    let has_p : has (slot_lits (slot s forth)) p ≡ true = subst (λ (z : ℕ). has (slot_lits (slot s z)) p ≡ true) (sym e) b.by.to in
    elim (two_lits (slot_lits (slot s forth)) p q p f.by has_p) [
      | inl x ↦ neg-other p (sym x)
      | inr x ↦ ne (ap var_of x)
    ]

pub says_about : (s : List (Option Stored)) (id a b : ℕ) → Says s id a b → (about (var_of a) (slot s id) ≡ true) × (about (var_of b) (slot s id) ≡ true)
says_about s id a b h = (
  and_from (is_firm (slot s id)) (mentions (slot_lits (slot s id)) (var_of a)) h.firm (subst (λ (z : ℕ). mentions (slot_lits (slot s id)) z ≡ true) (var_of-neg a) (mentions_lit (slot_lits (slot s id)) (neg a) h.by.from)),
  and_from (is_firm (slot s id)) (mentions (slot_lits (slot s id)) (var_of b)) h.firm (mentions_lit (slot_lits (slot s id)) b h.by.to),
)

-- one clause after another is renamed
pub renamed_none : (s : List (Option Stored)) (p q forth back a : ℕ) → AreTied s p q forth back → Renamed s s p q forth back a a
renamed_none s p q forth back a h = record { tied = h; holds = λ l id e x. x; spent = refl; few = omega arith }

pub renamed_more : (s m t : List (Option Stored)) (id p q forth back a b : ℕ) → var_of p ≢ var_of q → Renamed s m p q forth back a b → Holds m id p → back ≢ id → Renames m t id (var_of p) → Renamed s t p q forth back a (b + 1)
renamed_more s m t id p q forth back a b ne h holds other r =
    let off : forth ≢ id = λ e.
    (elim (two_lits (slot_lits (slot m forth)) p q p h.tied.forth.by (subst (λ (z : ℕ). has (slot_lits (slot m z)) p ≡ true) (sym e) holds.has)) [
      | inl x ↦ neg-other p (sym x)
      | inr x ↦ ne (ap var_of x)
    ]) in
    let less = r.less in
    let few = r.few in
    let few' = h.few in
    let spent = h.spent in
    record {
      tied = record { forth = says_kept m t forth p q (r.kept forth off h.tied.forth.firm) h.tied.forth; back = says_kept m t back q p (r.kept back other h.tied.back.firm) h.tied.back };
      holds = λ l k e x. h.holds l k e (r.holds l k e x);
      spent = omega arith;
      few = omega arith;
    }

pub stopped : (s t : List (Option Stored)) (id p q forth back a b limit : ℕ) → var_of p ≢ var_of q → Renamed s t p q forth back a b → Holds t id p → back ≢ id → b ≡ limit → Stopped s t p q forth back a b limit
stopped s t id p q forth back a b limit ne h holds other full =
    let off : forth ≢ id = λ e.
    (elim (two_lits (slot_lits (slot t forth)) p q p h.tied.forth.by (subst (λ (z : ℕ). has (slot_lits (slot t z)) p ≡ true) (sym e) holds.has)) [
      | inl x ↦ neg-other p (sym x)
      | inr x ↦ ne (ap var_of x)
    ]) in
    record {
      renamed = h;
      left = count_three (about (var_of p)) t forth back id refl (ties_apart t p q forth back ne h.tied.forth h.tied.back) off other
          (says_about t forth p q h.tied.forth).0 (says_about t back q p h.tied.back).1 (about_holds t id p holds);
      full = full;
    }

pub record Renaming (s t : State) (p q forth back a b limit : ℕ) : Type 0 where
  pub ruled : Ruled always s t
  pub renamed : Renamed s.store t.store p q forth back a b
  pub rest : b ≤ limit

pub renaming_none : (s : State) (p q forth back a limit : ℕ) → AreTied s.store p q forth back → a ≤ limit → Renaming s s p q forth back a a limit
renaming_none s p q forth back a limit h le = record { ruled = none; renamed = renamed_none s.store p q forth back a h; rest = le }

pub ruled_then : (frozen : ℕ → Bool) (s t u : State) → Ruled frozen s t → Ruled frozen t u → Ruled frozen s u
ruled_then = ruled_trans

pub renaming_more : (s m t : State) (id p q forth back a b limit : ℕ) → var_of p ≢ var_of q → Renaming s m p q forth back a b limit → Holds m.store id p → back ≢ id → Ruled always m t → Renames m.store t.store id (var_of p) → b + 1 ≤ limit
    → Renaming s t p q forth back a (b + 1) limit
renaming_more s m t id p q forth back a b limit ne h holds other ruled r le = record {
  ruled = ruled_trans always s m t h.ruled ruled;
  renamed = renamed_more s.store m.store t.store id p q forth back a b ne h.renamed holds other r;
  rest = le;
}

pub apart_neg : (a b : ℕ) → var_of a ≢ var_of b → var_of (neg a) ≢ var_of b
apart_neg a b ne e = ne (sym (var_of-neg a) ∙ e)

pub neg_apart : (a b : ℕ) → var_of a ≢ var_of b → var_of b ≢ var_of (neg a)
neg_apart a b ne e = ne (sym (var_of-neg a) ∙ sym e)

-- Once the other clauses were renamed, each of the two ties may be parked.
pub park_back : (s : List (Option Stored)) (x y forth back : ℕ) → var_of x ≢ var_of y → AreTied s x y forth back → ((id : ℕ) → Holds s id x → id ≡ back) → ((id : ℕ) → Holds s id (neg x) → id ≡ forth)
    → Witnesses (OthersTrue s back) (x ∷ []) (slot_lits (slot s back))
park_back s x y forth back ne tied clear clear' = record {
  apart = apart_one x;
  shared = (x, or_left (eqb x x) false (eq-eqb x x refl), tied.back.by.to);
  moves = λ f h out k other firm'.
      elim (cases_Bool (has (slot_lits (slot s k)) (neg x))) [
        | inl in' ↦
            (let e : k ≡ forth = clear' k (record { firm = firm'; has = in' }) in
            let fy : lit_true f y ≡ true = true_from_out f (slot_lits (slot s back)) y x tied.back.by out in
            let gy : lit_true (set_true f (x ∷ [])) y ≡ true = set_true-out f (x ∷ []) y (not_one x y (λ z. ne (ap var_of z))) (not_one x (neg y) (λ z. ne (ap var_of z ∙ var_of-neg y))) ∙ fy in
            clause_true-from (set_true f (x ∷ [])) (slot_lits (slot s k)) y (subst (λ (z : ℕ). has (slot_lits (slot s z)) y ≡ true) (sym e) tied.forth.by.to) gy)
        | inr out' ↦
            clause_true-kept f (x ∷ []) (slot_lits (slot s k)) (λ l i. not_one x (neg l) (λ z. false≢true (sym out' ∙ subst (λ (u : ℕ). has (slot_lits (slot s k)) u ≡ true) (sym (ap neg z ∙ neg-neg l)) i))) (h k other firm')
      ];
} where
  not_one : (x l : ℕ) → (x ≡ l → ⊥) → has (x ∷ []) l ≡ false
  not_one x l n = rw (ne_eqb x l n) refl

  true_from_out : (f : Assignment) (c : List ℕ) (a b : ℕ) → IsPairOf c a b → clause_true f c ≡ false → lit_true f a ≡ true
  true_from_out f c a b h out =
      elim (cases_Bool (lit_true f a)) [
        | inl t ↦ t
        | inr n ↦ absurd (false≢true (sym out ∙ clause_true-from f c (neg a) h.from (lit_true-neg f a ∙ ap not n)))
      ]

pub park_forth : (s : List (Option Stored)) (x forth : ℕ) → Holds s forth (neg x) → ((id : ℕ) → Holds s id x → ⊥) → Witnesses (OthersTrue s forth) (neg x ∷ []) (slot_lits (slot s forth))
park_forth s x forth holds clear = record {
  apart = apart_one (neg x);
  shared = (neg x, or_left (eqb (neg x) (neg x)) false (eq-eqb (neg x) (neg x) refl), holds.has);
  moves = λ f h out k other firm'.
      clause_true-kept f (neg x ∷ []) (slot_lits (slot s k))
      (λ l i. elim (cases_eq (neg x) (neg l)) [
        | inl e ↦ (let u : x ≡ l = sym (neg-neg x) ∙ ap neg e ∙ neg-neg l in absurd (clear k (record { firm = firm'; has = subst (λ (z : ℕ). has (slot_lits (slot s k)) z ≡ true) (sym u) i })))
        | inr n ↦ rw (ne_eqb (neg x) (neg l) n) refl
      ])
      (h k other firm');
}

-- the order of literals, as the code tests it
pub less_of : (a b : ℕ) → is_lt (nat_cmp a b) ≡ true → a < b
less_of a b h = grind (arith, nat_tests)

pub not_less : (n a b : ℕ) → n ≡ neg a → var_of a ≢ var_of b → is_lt (nat_cmp n b) ≡ false → b < neg a
not_less n a b e ne h =
    let ge : b ≤ n = at_least n b h in
    let d : b ≢ n = λ z. ne (sym (var_of-neg a) ∙ ap var_of (sym e ∙ sym z)) in
    let d' : b ≢ neg a = λ z. d (z ∙ sym e) in
    omega arith where
      at_least : (a b : ℕ) → is_lt (nat_cmp a b) ≡ false → b ≤ a
      at_least a b h = grind (arith, nat_tests)

-- the two ties, one after the other
pub implies_kept : (s t : List (Option Stored)) (c : List ℕ) → KeepsFirm s t → Implies (FirmTrue s) c → Implies (FirmTrue t) c
implies_kept s t c keep h f m = h f (keeps_true s t f keep m)

pub tied_by : (s t u : List (Option Stored)) (x y forth back : ℕ) → Ties s t x y forth → Ties t u y x back → TiedBy s u x y forth back
tied_by s t u x y forth back h k =
    let few = h.few in
    let few' = k.few in
    record {
      tied = record { forth = says_kept t u forth x y (k.kept forth h.says.firm) h.says; back = k.says };
      few = omega arith;
    }

-- the other side
pub tied_other : (s : List (Option Stored)) (x y forth back : ℕ) → AreTied s x y forth back → AreTied s (neg x) (neg y) back forth
tied_other s x y forth back h = record { forth = says_swap s back y x h.back; back = says_swap s forth x y h.forth }

says_again : (s : List (Option Stored)) (id a b : ℕ) → Says s id (neg a) (neg b) → Says s id b a
says_again s id a b h = subst (λ (z : ℕ). Says s id z a) (neg-neg b) (subst (λ (z : ℕ). Says s id (neg (neg b)) z) (neg-neg a) (says_swap s id (neg a) (neg b) h))

pub tied_again : (s : List (Option Stored)) (x y forth back : ℕ) → AreTied s (neg x) (neg y) back forth → AreTied s x y forth back
tied_again s x y forth back h = record { forth = says_again s forth y x h.back; back = says_again s back x y h.forth }

pub ready : (s u t : List (Option Stored)) (x y n m forth back a b c limit : ℕ) → n ≡ neg x → m ≡ neg y → var_of x ≢ var_of y → Cleared s u x y forth back a b limit → Cleared u t n m back forth b c limit → IsReady s t x y forth back a c limit
ready s u t x y n m forth back a b c limit en em ne h k =
    let k' : Cleared u t (neg x) (neg y) back forth b c limit = subst (λ (z : ℕ). Cleared u t (neg x) z back forth b c limit) em (subst (λ (z : ℕ). Cleared u t z m back forth b c limit) en k) in
    let tied = tied_again t x y forth back k'.renamed.tied in
    let two = count_two (about (var_of x)) t forth back refl (ties_apart t x y forth back ne tied.forth tied.back) (says_about t forth x y tied.forth).0 (says_about t back y x tied.back).1 in
    let v = var_of-neg x in
    let s1 = h.renamed.spent in
    let s2 : c + count_by (about (var_of x)) t ≡ b + count_by (about (var_of x)) u = subst (λ (z : ℕ). c + count_by (about z) t ≡ b + count_by (about z) u) v k'.renamed.spent in
    let f1 = h.renamed.few in
    let f2 = k'.renamed.few in
    record {
      tied = tied;
      clear = λ id x'. h.clear id (k'.renamed.holds x id (sym v) x');
      clear_too = λ id x'. k'.clear id x';
      spent = omega arith;
      few = omega arith;
      rest = k'.rest;
    }

pub ran_out : (s t : List (Option Stored)) (x y forth back a b limit : ℕ) → Stopped s t x y forth back a b limit → RanOut s (var_of x) a b limit
ran_out s t x y forth back a b limit h = record { spent = let e = h.renamed.spent in let l = h.left in omega arith; full = h.full }

pub ran_out_later : (s u t : List (Option Stored)) (x y n m forth back a b c limit : ℕ) → n ≡ neg x → Cleared s u x y forth back a b limit → Stopped u t n m back forth b c limit → RanOut s (var_of x) a c limit
ran_out_later s u t x y n m forth back a b c limit en h k =
    let v : var_of n ≡ var_of x = ap var_of en ∙ var_of-neg x in
    let s1 = h.renamed.spent in
    let s2 : c + count_by (about (var_of x)) t ≡ b + count_by (about (var_of x)) u = subst (λ (z : ℕ). c + count_by (about z) t ≡ b + count_by (about z) u) v k.renamed.spent in
    let l : 3 ≤ count_by (about (var_of x)) t = subst (λ (z : ℕ). 3 ≤ count_by (about z) t) v k.left in
    record { spent = omega arith; full = k.full }

-- parking the two ties
free_var : (x : ℕ) → all_but (var_of x) (var_of x) ≡ false
free_var x = rw (eq-eqb (var_of x) (var_of x) refl) refl

free_neg : (x : ℕ) → all_but (var_of x) (var_of (neg x)) ≡ false
free_neg x = rw (eq-eqb (var_of (neg x)) (var_of x) (var_of-neg x)) refl

pub ruled_first : (s t : State) (x : ℕ) (id : ℕ) → Parks s t id (x ∷ []) → Ruled (all_but (var_of x)) s t
ruled_first s t x id p = more s t none (parked id x (free_var x) p)

pub ruled_park : (s t : State) (x n id : ℕ) (r : Result (Unit {0}) Memory) → n ≡ neg x → OnOk r (Parks s t id (n ∷ [])) → OnErr r (t ≡ s) → Ruled (all_but (var_of x)) s t
ruled_park s t x n id (Ok u) e p same = more s t none (parked id n (ap (all_but (var_of x)) (ap var_of e) ∙ free_neg x) p)
ruled_park s t x n id (Err r) e p same = rw same none

pub left_forth : (s t : List (Option Stored)) (x y forth back : ℕ) → var_of x ≢ var_of y → AreTied s x y forth back → Frees s t back → Says t forth x y
left_forth s t x y forth back ne tied frees =
    says_kept s t forth x y (frees.others forth (ties_apart s x y forth back ne tied.forth tied.back)) tied.forth

pub cleared_first : (s t : List (Option Stored)) (x back : ℕ) → ((id : ℕ) → Holds s id x → id ≡ back) → Frees s t back → (id : ℕ) → Holds t id x → ⊥
cleared_first s t x back clear frees id h =
    elim (cases_eq id back) [
      | inl e ↦ firm_some (slot t id) h.firm (ap (slot t) e ∙ frees.freed)
      | inr n ↦ (let z = frees.others id n in n (clear id (record { firm = rw z at h.firm; has = rw z at h.has })))
    ]

pub parked_both : (s t u : List (Option Stored)) (x y forth back : ℕ) → var_of x ≢ var_of y → AreTied s x y forth back → ((id : ℕ) → Holds s id x → id ≡ back) → ((id : ℕ) → Holds s id (neg x) → id ≡ forth) → Frees s t back → Frees t u forth → Parked s u (var_of x)
parked_both s t u x y forth back ne tied clear clear' f g =
    let says = left_forth s t x y forth back ne tied f in
    let a = count_freed is_firm s t back refl f in
    let b = count_freed is_firm t u forth refl g in
    let one : one_if (is_firm (slot s back)) ≡ 1 = ap one_if tied.back.firm in
    let one' : one_if (is_firm (slot t forth)) ≡ 1 = ap one_if says.firm in
    record {
      gone = false_from_ne_true (stands (firm u) (var_of x)) (λ st.
          let r = stands_of u (var_of x) st in
          let l = lit_of (slot_lits (slot u r.0)) (var_of x) r.2 in
          let no_forth : r.0 ≢ forth = λ e. firm_some (slot u r.0) r.1 (ap (slot u) e ∙ g.freed) in
          let z = g.others r.0 no_forth in
          let no_back : r.0 ≢ back = λ e. firm_some (slot u r.0) r.1 (z ∙ ap (slot t) e ∙ f.freed) in
          let y' : slot u r.0 ≡ slot s r.0 = z ∙ f.others r.0 no_back in
          let firm' : is_firm (slot s r.0) ≡ true = subst (λ (z : Option Stored). is_firm z ≡ true) y' r.1 in
          let has' : has (slot_lits (slot s r.0)) l.0 ≡ true = subst (λ (z : Option Stored). has (slot_lits z) l.0 ≡ true) y' l.1 in
          elim (same_var l.0 x l.2) [
            | inl e ↦ no_back (clear r.0 (record { firm = firm'; has = subst (λ (k : ℕ). has (slot_lits (slot s r.0)) k ≡ true) e has' }))
            | inr e ↦ no_forth (clear' r.0 (record { firm = firm'; has = subst (λ (k : ℕ). has (slot_lits (slot s r.0)) k ≡ true) e has' }))
          ]);
      few = omega arith;
    }

-- all of it
pub replaced : (s t u w : List (Option Stored)) (x y forth back a b limit : ℕ) → TiedBy s t x y forth back → IsReady t u x y forth back a b limit → Parked u w (var_of x) → Replaced s w (var_of x) a b limit
replaced s t u w x y forth back a b limit h k p =
    let le = count_le (about (var_of x)) is_firm t (λ z e. (and_parts (is_firm z) (mentions (slot_lits z) (var_of x)) e).0) in
    let f0 = h.few in
    let f1 = k.few in
    let f2 = p.few in
    let sp = k.spent in
    record { gone = p.gone; few = omega arith; spent = omega arith; rest = k.rest }

pub halted_in : (s t : List (Option Stored)) (x y forth back a b limit : ℕ) → TiedBy s t x y forth back → RanOut t (var_of x) a b limit → Halted a b (count_by is_firm s) limit
halted_in s t x y forth back a b limit h k =
    let le = count_le (about (var_of x)) is_firm t (λ z e. (and_parts (is_firm z) (mentions (slot_lits z) (var_of x)) e).0) in
    let f0 = h.few in
    let sp = k.spent in
    record { full = k.full; some = omega arith }

pub weaken : (s t : State) (v : ℕ) → Ruled always s t → Ruled (all_but v) s t
weaken s t v h = ruled_weaken always (all_but v) s t (λ u e. absurd (false≢true (sym e))) h
