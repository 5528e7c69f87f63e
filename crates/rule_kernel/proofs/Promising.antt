-- What passes may rely on, where a clause comes or goes.
use Rattle.std.proofs.Common.{◌≡◌, ◌≢◌, ℕ, ◌<◌, Bool, true, false, not, ◌||◌, ◌&&◌, eqb, List, [], ◌∷◌, length, Option, ◌⊎◌, inl, inr, refl, sym, ap, ◌∙◌, subst}
use Rattle.std.proofs.lemmas.Bool.{cases_Bool, cases_eq, false≢true, or_cases, or_parts, or_left, or_right, and_parts, and_from, eq-eqb, eqb-true, ne_eqb}
use Rattle.sat_terms.specs.Literal.{has, neg}
use Rattle.sat_terms.proofs.Literals.{neg-neg}
use Rattle.clause_store.specs.Stored.{Stored, slot, slot_lits, is_firm, Fills, Frees}
use Rattle.clause_store.specs.Listing.{HasEachOnce, firm_at}
use Rattle.firm_terms.specs.Firm.{firm, mentions}
use Rattle.firm_terms.specs.Resolving.{candidate, BlocksNone}
use Rattle.firm_terms.specs.Subsuming.{IsFree, IsDone}
use Rattle.firm_terms.specs.Implying.{NoEquivalents}
use Rattle.firm_terms.proofs.Changing.{candidate_filled, candidate_freed, blocks_none_filled, blocks_none_freed, SameFirms, none_came, none_went, none_came_freed, candidate_kept, blocks_none_kept}
use Rattle.firm_terms.specs.Vivifying.{AllCalm}
use Rattle.firm_terms.proofs.Counting.{listed_has}
use Rattle.firm_terms.proofs.Staying.{all_calm_stays, untied_stays}
use Rattle.rule_kernel.specs.Changes.{Marked, MarksCame, MarksWent, denies}
use Rattle.rule_kernel.specs.Frozen.{is_frozen}
use Rattle.rule_kernel.specs.Waiting.{Waiting, Waits, Leaves}
use Rattle.rule_kernel.specs.Settled.{Settled, unsettled}
use Rattle.rule_kernel.specs.State.{AllFirm, Promises}
use Rattle.rule_kernel.specs.Rules.{firm_clause}

-- nothing is promised of no clause but what is true
pub promises_none : (m : Marked) (w : Waiting) (x : Settled) → w.due ≡ [] → w.fresh ≡ [] → x.untied ≡ false → x.calm ≡ false → Promises [] m w x
unfolding Rattle.firm_terms.specs.Resolving.candidate_of
promises_none m w x due fresh untied calm = record {
  vars = λ v h. refl;
  lits = λ l h id b. false≢true b.holds.firm;
  due = λ id h. absurd (false≢true (rw due at h));
  fresh = λ id h. absurd (false≢true (rw fresh at h));
  within = λ id h. absurd (false≢true (rw fresh at h));
  tried = λ i j a b. absurd (false≢true a);
  untied = λ h. absurd (false≢true (sym untied ∙ h));
  calm = λ h. absurd (false≢true (sym calm ∙ h));
}

or_none : (a b c : Bool) → c ≡ (a || b) → c ≡ false → (a ≡ false) × (b ≡ false)
or_none a b c e h = or_parts a b (sym e ∙ h)

-- what lies within still does where both get one more, or lose one
also : (a b c : Bool) → (a ≡ true → b ≡ true) → (a || c) ≡ true → (b || c) ≡ true
also a b c h e = elim (or_cases a c e) [ inl x ↦ or_left b c (h x) | inr y ↦ or_right b c y ]

without : (a b c : Bool) → (a ≡ true → b ≡ true) → (a && c) ≡ true → (b && c) ≡ true
without a b c h e = let p = and_parts a c e in and_from b c (h p.0) p.1

neg_denies : (c : List ℕ) (l : ℕ) → has c (neg l) ≡ true → denies c l ≡ true
neg_denies [] l h = h
neg_denies (x ∷ c) l h =
    elim (or_cases (eqb x (neg l)) (has c (neg l)) h) [
      | inl e ↦ or_left (eqb (neg x) l) (denies c l) (eq-eqb (neg x) l (ap neg (eqb-true x (neg l) e) ∙ neg-neg l))
      | inr i ↦ or_right (eqb (neg x) l) (denies c l) (neg_denies c l i)
    ]

module _ {s : List (Option Stored)} {m : Marked} {w : Waiting} {x : Settled} (p : Promises s m w x) where
  module _ {t : List (Option Stored)} {m' : Marked} {w' : Waiting} where
    -- a clause comes
    module _ {id : ℕ} (c : List ℕ) (fills : Fills s t id (firm_clause c)) (marks : MarksCame m m' c) (waits : Waits w w' id) where
      still_firm : (old new : List ℕ) → AllFirm s old → ((k : ℕ) → has new k ≡ (has old k || eqb id k)) → AllFirm t new
      still_firm old new all is k h =
          elim (cases_eq k id) [
            | inl e ↦ subst (λ (z : Option Stored). is_firm z ≡ true) (sym (ap (slot t) e ∙ fills.filled)) refl
            | inr n ↦
                elim (or_cases (has old k) (eqb id k) (sym (is k) ∙ h)) [
                  | inl a ↦ subst (λ (z : Option Stored). is_firm z ≡ true) (sym (fills.others k n)) (all k a)
                  | inr b ↦ absurd (n (sym (eqb-true id k b)))
                ]
          ]

      pub promises_came : Promises t m' w' (unsettled x)
      promises_came = record {
        vars = λ v h.
            let o = or_none (has m.vars v) (mentions c v) (has m'.vars v) (marks.vars v) h in
            candidate_filled s t id (firm_clause c) v fills o.1 ∙ p.vars v o.0;
        lits = λ l h.
            let o = or_none (has m.lits l) (has c l) (has m'.lits l) (marks.lits l) h in
            blocks_none_filled s t id (firm_clause c) l fills o.1 (p.lits l o.0);
        due = still_firm w.due w'.due p.due waits.due;
        fresh = still_firm w.fresh w'.fresh p.fresh waits.fresh;
        within = λ k h. waits.due k ∙ also (has w.fresh k) (has w.due k) (eqb id k) (p.within k) (sym (waits.fresh k) ∙ h);
        tried = λ i j a b ne some d f.
            let od = or_none (has w.due i) (eqb id i) (has w'.due i) (waits.due i) d in
            let of = or_none (has w.fresh j) (eqb id j) (has w'.fresh j) (waits.fresh j) f in
            let ni : i ≢ id = λ e. false≢true (sym od.1 ∙ eq-eqb id i (sym e)) in
            let nj : j ≢ id = λ e. false≢true (sym of.1 ∙ eq-eqb id j (sym e)) in
            let si = fills.others i ni in
            let sj = fills.others j nj in
            rw (si, sj) (p.tried i j (rw si at a) (rw sj at b) ne (rw si at some) od.0 of.0);
        untied = λ h. absurd (false≢true h);
        calm = λ h. absurd (false≢true h);
      }

    -- a clause goes
    module _ {id : ℕ} (frees : Frees s t id) (marks : MarksWent m m' (slot_lits (slot s id))) (leaves : Leaves w w' id) where
      left_firm : (old new : List ℕ) → AllFirm s old → ((k : ℕ) → has new k ≡ (has old k && not (eqb id k))) → AllFirm t new
      left_firm old new all is k h =
          elim (cases_eq k id) [
            | inl e ↦ absurd (false≢true (sym (is k ∙ rw (eq-eqb id k (sym e)) (no (has old k))) ∙ h))
            | inr n ↦ subst (λ (z : Option Stored). is_firm z ≡ true) (sym (frees.others k n)) (all k (was (has old k) (eqb id k) (sym (is k) ∙ h)))
          ] where
            no : (b : Bool) → (b && false) ≡ false
            no true = refl
            no false = refl

            was : (a b : Bool) → (a && not b) ≡ true → a ≡ true
            was true b h = refl
            was false b h = h

      away : (k : ℕ) → is_firm (slot t k) ≡ true → k ≢ id
      away k a e = false≢true (subst (λ (z : Option Stored). is_firm z ≡ true) (ap (slot t) e ∙ frees.freed) a)

      not_listed : (old new : List ℕ) (k : ℕ) → k ≢ id → ((k : ℕ) → has new k ≡ (has old k && not (eqb id k))) → has new k ≡ false → has old k ≡ false
      not_listed old new k n is h = sym (yes (has old k)) ∙ sym (rw (ne_eqb id k (λ e. n (sym e))) at (is k)) ∙ h where
        yes : (b : Bool) → (b && true) ≡ b
        yes true = refl
        yes false = refl

      pub promises_went : Promises t m' w' x
      promises_went = record {
        vars = λ v h.
            let o = or_none (has m.vars v) (mentions (slot_lits (slot s id)) v) (has m'.vars v) (marks.vars v) h in
            candidate_freed s t id v frees o.1 ∙ p.vars v o.0;
        lits = λ l h.
            let o = or_none (has m.lits l) (denies (slot_lits (slot s id)) l) (has m'.lits l) (marks.lits l) h in
            let out : has (slot_lits (slot s id)) (neg l) ≡ false =
            elim (cases_Bool (has (slot_lits (slot s id)) (neg l))) [ inl y ↦ absurd (false≢true (sym o.1 ∙ neg_denies (slot_lits (slot s id)) l y)) | inr n ↦ n ] in
            blocks_none_freed s t id l frees out (p.lits l o.0);
        due = left_firm w.due w'.due p.due leaves.due;
        fresh = left_firm w.fresh w'.fresh p.fresh leaves.fresh;
        within = λ k h. leaves.due k ∙ without (has w.fresh k) (has w.due k) (not (eqb id k)) (p.within k) (sym (leaves.fresh k) ∙ h);
        tried = λ i j a b ne some d f.
            let ni = away i a in
            let nj = away j b in
            let si = frees.others i ni in
            let sj = frees.others j nj in
            rw (si, sj) (p.tried i j (rw si at a) (rw sj at b) ne (rw si at some) (not_listed w.due w'.due i ni leaves.due d) (not_listed w.fresh w'.fresh j nj leaves.fresh f));
        untied = λ h. untied_stays (is_frozen x.frozen) s t (none_came_freed s t id frees) (p.untied h);
        calm = λ h. all_calm_stays s t (none_came_freed s t id frees) (p.calm h);
      }

  -- no firm clause comes or goes
  pub promises_kept : {t : List (Option Stored)} → SameFirms s t → Promises t m w x
  promises_kept {t} same = record {
    vars = λ v h. candidate_kept s t same v ∙ p.vars v h;
    lits = λ l h. blocks_none_kept s t same l (p.lits l h);
    due = λ k h. subst (λ (z : Option Stored). is_firm z ≡ true) (sym (none_went s t same k (p.due k h))) (p.due k h);
    fresh = λ k h. subst (λ (z : Option Stored). is_firm z ≡ true) (sym (none_went s t same k (p.fresh k h))) (p.fresh k h);
    within = p.within;
    tried = λ i j a b ne some d f.
        let si = none_came s t same i a in
        let sj = none_came s t same j b in
        rw (si, sj) (p.tried i j (rw si at a) (rw sj at b) ne (rw si at some) d f);
    untied = λ h. untied_stays (is_frozen x.frozen) s t (none_came s t same) (p.untied h);
    calm = λ h. all_calm_stays s t (none_came s t same) (p.calm h);
  }

  -- a mark comes off
  without_one : (old new : List ℕ) (x k : ℕ) → has new k ≡ (has old k && not (eqb x k)) → has new k ≡ false → (has old k ≡ false) ⊎ (k ≡ x)
  without_one old new x k is out =
      elim (cases_eq k x) [
        | inl e ↦ inr e
        | inr n ↦ inl (sym (yes (has old k)) ∙ sym (rw (ne_eqb x k (λ e. n (sym e))) at is) ∙ out)
      ] where
        yes : (b : Bool) → (b && true) ≡ b
        yes true = refl
        yes false = refl

  still : (old new : List ℕ) (x : ℕ) → ((k : ℕ) → has new k ≡ (has old k && not (eqb x k))) → (k : ℕ) → has new k ≡ true → has old k ≡ true
  still old new x is k h = first (has old k) (eqb x k) (sym (is k) ∙ h) where
    first : (a b : Bool) → (a && not b) ≡ true → a ≡ true
    first true b y = refl
    first false b y = y

  pub promises_var : (m' : Marked) (var : ℕ) → ((v : ℕ) → has m'.vars v ≡ (has m.vars v && not (eqb var v))) → m'.lits ≡ m.lits → candidate (firm s) var ≡ false → Promises s m' w x
  promises_var m' var vars lits none = record {
    vars = λ v h. elim (without_one m.vars m'.vars var v (vars v) h) [ inl a ↦ p.vars v a | inr e ↦ subst (λ z. candidate (firm s) z ≡ false) (sym e) none ];
    lits = λ l h. p.lits l (rw lits at h);
    due = p.due;
    fresh = p.fresh;
    within = p.within;
    tried = p.tried;
    untied = p.untied;
    calm = p.calm;
  }

  pub promises_lit : (m' : Marked) (lit : ℕ) → ((l : ℕ) → has m'.lits l ≡ (has m.lits l && not (eqb lit l))) → m'.vars ≡ m.vars → BlocksNone s lit → Promises s m' w x
  promises_lit m' lit lits vars none = record {
    vars = λ v h. p.vars v (rw vars at h);
    lits = λ l h. elim (without_one m.lits m'.lits lit l (lits l) h) [ inl a ↦ p.lits l a | inr e ↦ subst (BlocksNone s) (sym e) none ];
    due = p.due;
    fresh = p.fresh;
    within = p.within;
    tried = p.tried;
    untied = p.untied;
    calm = p.calm;
  }

  pub promises_due : (w' : Waiting) (id : ℕ) → ((k : ℕ) → has w'.due k ≡ (has w.due k && not (eqb id k))) → w'.fresh ≡ w.fresh → (is_firm (slot s id) ≡ true → IsDone s id) → has w.fresh id ≡ false → Promises s m w' x
  promises_due w' id due fresh done tested = record {
    vars = p.vars;
    lits = p.lits;
    due = λ k h. p.due k (still w.due w'.due id due k h);
    fresh = λ k h. p.fresh k (rw fresh at h);
    within = λ k h.
        let h' : has w.fresh k ≡ true = rw fresh at h in
        let apart : id ≢ k = λ e. false≢true (sym tested ∙ ap (has w.fresh) e ∙ h') in
        due k ∙ without true (has w.due k) (not (eqb id k)) (λ _. p.within k h') (ap not (ne_eqb id k apart));
    tried = λ i j a b ne some d f.
        elim (without_one w.due w'.due id i (due i) d) [
          | inl before ↦ p.tried i j a b ne some before (rw fresh at f)
          | inr e ↦ rw e (done (rw e at a) j (λ same. ne (same ∙ sym e)) b)
        ];
    untied = p.untied;
    calm = p.calm;
  }

  pub promises_fresh : (w' : Waiting) (id : ℕ) → w'.due ≡ w.due → ((k : ℕ) → has w'.fresh k ≡ (has w.fresh k && not (eqb id k)))
      → ((other : ℕ) → other ≢ id → is_firm (slot s other) ≡ true → 0 < length (slot_lits (slot s other)) → has w.due other ≡ false → IsFree (slot_lits (slot s other)) (slot_lits (slot s id)))
      → Promises s m w' x
  promises_fresh w' id due fresh tried = record {
    vars = p.vars;
    lits = p.lits;
    due = λ k h. p.due k (rw due at h);
    fresh = λ k h. p.fresh k (still w.fresh w'.fresh id fresh k h);
    within = λ k h. ap (λ (z : List ℕ). has z k) due ∙ p.within k (still w.fresh w'.fresh id fresh k h);
    tried = λ i j a b ne some d f.
        elim (without_one w.fresh w'.fresh id j (fresh j) f) [
          | inl before ↦ p.tried i j a b ne some (rw due at d) before
          | inr e ↦ rw e (tried i (λ same. ne (e ∙ sym same)) a some (rw due at d))
        ];
    untied = p.untied;
    calm = p.calm;
  }

  pub promises_all_due : (w' : Waiting) → ((k : ℕ) → has w'.due k ≡ is_firm (slot s k)) → w'.fresh ≡ [] → Promises s m w' x
  promises_all_due w' due fresh = record {
    vars = p.vars;
    lits = p.lits;
    due = λ k h. sym (due k) ∙ h;
    fresh = λ k h. absurd (false≢true (rw fresh at h));
    within = λ k h. absurd (false≢true (rw fresh at h));
    tried = λ i j a b ne some d f. absurd (false≢true (sym d ∙ due i ∙ a));
    untied = p.untied;
    calm = p.calm;
  }

  pub promises_settled : (x' : Settled) → (x'.untied ≡ true → NoEquivalents (is_frozen x'.frozen) s) → (x'.calm ≡ true → AllCalm s) → Promises s m w x'
  promises_settled x' untied calm = record {
    vars = p.vars;
    lits = p.lits;
    due = p.due;
    fresh = p.fresh;
    within = p.within;
    tried = p.tried;
    untied = untied;
    calm = calm;
  }

-- each firm id is due, where those of a list that has each once came to due ids that are firm
pub all_listed : (s : List (Option Stored)) (old ids new : List ℕ) → AllFirm s old → HasEachOnce (firm_at s) ids → ((k : ℕ) → has new k ≡ (has old k || has ids k)) → (k : ℕ) → has new k ≡ is_firm (slot s k)
all_listed s old ids new all once is k = is k ∙ rw (listed_has (firm_at s) ids k once) (join (has old k) (is_firm (slot s k)) (all k)) where
  join : (a b : Bool) → (a ≡ true → b ≡ true) → (a || b) ≡ b
  join true b h = sym (h refl)
  join false b h = refl
