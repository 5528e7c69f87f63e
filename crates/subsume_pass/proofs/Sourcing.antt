-- Laws of the clauses that are to be compared with one.
use Rattle.std.proofs.Common.{◌≡◌, ℕ, ◌+◌, ◌<◌, ◌≤◌, Bool, true, false, eqb, ◌&&◌, List, [], ◌∷◌, ◌++◌, length, get_or, take, Option, inl, inr, ◌⊎◌, refl, sym, ap, ◌∙◌, subst, arith}
use Rattle.std.proofs.lemmas.Bool.{false≢true, cases_Bool, cases_lt, or_left, eqb-true, eq-eqb, false_from_ne_true}
use Rattle.std.proofs.lemmas.List.{get_or_default, take_all}
use Rattle.sat_terms.specs.Literal.{has, neg, var_of}
use Rattle.sat_terms.specs.Normal.{IsNormal}
use Rattle.sat_terms.proofs.Literals.{neg-neg, neg-other, var_of-neg}
use Rattle.clause_store.specs.Stored.{Stored, slot, slot_lits, is_firm}
use Rattle.clause_store.specs.Listing.{times, HasEachOnce, holds_at}
use Rattle.subsume_pass.specs.Choosing.{AreFree, begins, Gathers, AreSources}
use Rattle.sat_terms.proofs.Members.{has_place}
use Rattle.subsume_pass.proofs.Comparing.{free_missing}
use Rattle.firm_terms.proofs.Counting.{one_if, place_of}
use Rattle.subsume_pass.proofs.Collecting.{at_most_once, times_push, times_take, at_read, before_push, holds}

-- the first literal
begins_has : (c : List ℕ) (l : ℕ) → begins c l ≡ true → has c l ≡ true
begins_has [] l h = absurd (false≢true h)
begins_has (x ∷ c) l h = or_left (eqb x l) (has c l) h

first_of : (c : List ℕ) → 0 < length c → (l : ℕ) × (begins c l ≡ true)
first_of [] h = absurd (omega arith)
first_of (x ∷ c) h = (x, eq-eqb x x refl)

pub record Gathering (s : List (Option Stored)) (id l : ℕ) (occ : List ℕ) (k : ℕ) (old new : List ℕ) : Type 0 where
  pub kept : (i : ℕ) → has new i ≡ false → has old i ≡ false
  pub upto : (m : ℕ) → m < k → begins (slot_lits (slot s (get_or occ m 0))) l ≡ true → has new (get_or occ m 0) ≡ false → AreFree s (get_or occ m 0) id
  pub once : (i : ℕ) → begins (slot_lits (slot s i)) l ≡ true → times new i ≤ times old i + times (take k occ) i
  pub none : (i : ℕ) → begins (slot_lits (slot s i)) l ≡ false → times new i ≤ times old i

pub gathering_none : (s : List (Option Stored)) (id l : ℕ) (occ old : List ℕ) → Gathering s id l occ 0 old old
gathering_none s id l occ old = record { kept = λ i h. h; upto = λ m lt. absurd (omega arith); once = λ i b. omega arith; none = λ i b. omega arith }

pub gathering_push : (s : List (Option Stored)) (id l : ℕ) (occ : List ℕ) (k by : ℕ) (old now new : List ℕ) → k < length occ → by ≡ get_or occ k by → Gathering s id l occ k old now → new ≡ now ++ by ∷ [] → begins (slot_lits (slot s by)) l ≡ true → Gathering s id l occ (k + 1) old new
gathering_push s id l occ k by old now new in' read h pushed yes' = rw pushed (record {
  once = λ i b. (let a = times_push now by i in let e = times_take occ k by i in' read in let c = h.once i b in omega arith);
  none = λ i b.
      let a = times_push now by i in
      let c = h.none i b in
      let z : one_if (eqb by i) ≡ 0 = rw (false_from_ne_true (eqb by i) (λ y. false≢true (sym b ∙ ap (λ (w : ℕ). begins (slot_lits (slot s w)) l) (sym (eqb-true by i y)) ∙ yes'))) refl in
      omega arith;
  kept = λ i n. h.kept i (before_push now by i n).0;
  upto = λ m lt b n. elim (cases_lt m k) [
    | inl less ↦ h.upto m less b (before_push now by (get_or occ m 0) n).0
    | inr ge ↦ absurd ((before_push now by (get_or occ m 0) n).1 (at_read occ k by m in' read (let q : m ≡ k = omega arith in q)))
  ];
})

-- one that is free, or begins otherwise
pub gathering_skip : (s : List (Option Stored)) (id l : ℕ) (occ : List ℕ) (k by : ℕ) (old now : List ℕ) → k < length occ → by ≡ get_or occ k by → (begins (slot_lits (slot s by)) l ≡ true → AreFree s by id) → Gathering s id l occ k old now → Gathering s id l occ (k + 1) old now
gathering_skip s id l occ k by old now in' read apart h = record {
  once = λ i b. (let e = times_take occ k by i in' read in let c = h.once i b in omega arith);
  none = h.none;
  kept = h.kept;
  upto = λ m lt b n. elim (cases_lt m k) [
    | inl less ↦ h.upto m less b n
    | inr ge ↦
        (let e = at_read occ k by m in' read (let q : m ≡ k = omega arith in q) in
        subst (λ (z : ℕ). AreFree s z id) (sym e) (apart (subst (λ (z : ℕ). begins (slot_lits (slot s z)) l ≡ true) e b)))
  ];
}

pub gathered : (s : List (Option Stored)) (id l : ℕ) (occ : List ℕ) (k : ℕ) (old new : List ℕ) → HasEachOnce (holds_at s l) occ → length occ ≤ k → Gathering s id l occ k old new → Gathers s id l old new
gathered s id l occ k old new each past h = record {
  kept = h.kept;
  whole = λ i f b n.
      let p = place_of (holds_at s l) occ i each (holds s l i f (begins_has (slot_lits (slot s i)) l b)) in
      let lt = p.1 in
      subst (λ (z : ℕ). AreFree s z id) p.2 (h.upto p.0 (omega arith) (subst (λ (z : ℕ). begins (slot_lits (slot s z)) l ≡ true) (sym p.2) b) (subst (λ (z : ℕ). has new z ≡ false) (sym p.2) n));
  once = λ i. elim (cases_Bool (begins (slot_lits (slot s i)) l)) [
    | inr n ↦ (let a = h.none i n in omega arith)
    | inl b ↦
        (let a = h.once i b in
        let e : times (take k occ) i ≡ times occ i = ap (λ (z : List ℕ). times z i) (take_all k occ past) in
        let c : times occ i ≡ one_if (holds_at s l i) = each.once i in
        elim (cases_Bool (is_firm (slot s i))) [
          | inl f ↦
              (let x : one_if (holds_at s l i) ≡ 1 = ap one_if (holds s l i f (begins_has (slot_lits (slot s i)) l b)) in
              let y : one_if (is_firm (slot s i) && begins (slot_lits (slot s i)) l) ≡ 1 = rw (f, b) refl in
              omega arith)
          | inr f ↦ (let x : one_if (holds_at s l i) ≡ 0 = rw f refl in omega arith)
        ])
  ];
}

-- the clauses that begin with a variable of a clause, up to a place of it
abbrev pub Begins : List (Option Stored) → List ℕ → ℕ → ℕ → Type 0
Begins s c m i = (begins (slot_lits (slot s i)) (get_or c m 0) ≡ true) ⊎ (begins (slot_lits (slot s i)) (neg (get_or c m 0)) ≡ true)

pub record Sourcing (s : List (Option Stored)) (id : ℕ) (c : List ℕ) (k : ℕ) (ids : List ℕ) : Type 0 where
  pub upto : (m i : ℕ) → m < k → is_firm (slot s i) ≡ true → Begins s c m i → has ids i ≡ false → AreFree s i id
  pub unseen : (i : ℕ) → ((m : ℕ) → m < k → Begins s c m i → ⊥) → times ids i ≡ 0
  pub once : (i : ℕ) → times ids i ≤ one_if (is_firm (slot s i))

pub sourcing_none : (s : List (Option Stored)) (id : ℕ) (c ids : List ℕ) → ids ≡ [] → Sourcing s id c 0 ids
sourcing_none s id c ids nil = rw nil (record { upto = λ m i lt. absurd (omega arith); unseen = λ i h. refl; once = λ i. omega arith })

one_first : (d : List ℕ) (a b : ℕ) → begins d a ≡ true → begins d b ≡ true → a ≡ b
one_first [] a b h g = absurd (false≢true h)
one_first (x ∷ d) a b h g = sym (eqb-true x a h) ∙ eqb-true x b g

-- a clause that begins with the variable at a place begins with that at no other
first_var : (s : List (Option Stored)) (c : List ℕ) (m i l : ℕ) → Begins s c m i → begins (slot_lits (slot s i)) l ≡ true → var_of (get_or c m 0) ≡ var_of l
first_var s c m i l (inl p) h = ap var_of (one_first (slot_lits (slot s i)) (get_or c m 0) l p h)
first_var s c m i l (inr p) h = sym (var_of-neg (get_or c m 0)) ∙ ap var_of (one_first (slot_lits (slot s i)) (neg (get_or c m 0)) l p h)

no_earlier : (s : List (Option Stored)) (c : List ℕ) (k i l : ℕ) → IsNormal c → k < length c → var_of (get_or c k 0) ≡ var_of l → begins (slot_lits (slot s i)) l ≡ true → (m : ℕ) → m < k → Begins s c m i → ⊥
no_earlier s c k i l n in' v h m lt b = n.apart m k 0 lt in' (first_var s c m i l b h ∙ sym v)

share_none : (x : Option Stored) (b : Bool) → b ≡ false → one_if (is_firm x && b) ≡ 0
share_none x b e = elim (cases_Bool (is_firm x)) [ inl f ↦ rw (f, e) refl | inr f ↦ rw f refl ]

share_le : (x : Option Stored) (b : Bool) → one_if (is_firm x && b) ≤ one_if (is_firm x)
share_le x b = elim (cases_Bool (is_firm x)) [ inl f ↦ elim (cases_Bool b) [ inl y ↦ rw (f, y) (omega arith) | inr n ↦ rw (f, n) (omega arith) ] | inr f ↦ rw f (omega arith) ]

pub sourcing_more : (s : List (Option Stored)) (id : ℕ) (c : List ℕ) (k l : ℕ) (old mid new : List ℕ) → IsNormal c → k < length c → l ≡ get_or c k l → Sourcing s id c k old → Gathers s id l old mid → Gathers s id (neg l) mid new → Sourcing s id c (k + 1) new
sourcing_more s id c k l old mid new normal in' read h a b =
    let at0 : l ≡ get_or c k 0 = read ∙ get_or_default c k l 0 in' in
    record {
      upto = λ m i lt f y n. elim (cases_lt m k) [
        | inl less ↦ h.upto m i less f y (a.kept i (b.kept i n))
        | inr ge ↦
            (let e : get_or c m 0 ≡ l = ap (λ (z : ℕ). get_or c z 0) (let q : m ≡ k = omega arith in q) ∙ sym at0 in
            elim y [
              | inl p ↦ a.whole i f (subst (λ (z : ℕ). begins (slot_lits (slot s i)) z ≡ true) e p) (b.kept i n)
              | inr p ↦ b.whole i f (subst (λ (z : ℕ). begins (slot_lits (slot s i)) (neg z) ≡ true) e p) n
            ])
      ];
      unseen = λ i none'.
          let x = h.unseen i (λ m lt. none' m (omega arith)) in
          let y = a.once i in
          let z = b.once i in
          let p = share_none (slot s i) (begins (slot_lits (slot s i)) l) (false_from_ne_true (begins (slot_lits (slot s i)) l) (λ t. none' k (omega arith) (inl (subst (λ (w : ℕ). begins (slot_lits (slot s i)) w ≡ true) at0 t)))) in
          let q = share_none (slot s i) (begins (slot_lits (slot s i)) (neg l)) (false_from_ne_true (begins (slot_lits (slot s i)) (neg l)) (λ t. none' k (omega arith) (inr (subst (λ (w : ℕ). begins (slot_lits (slot s i)) (neg w) ≡ true) at0 t)))) in
          omega arith;
      once = λ i.
          let y = a.once i in
          let z = b.once i in
          elim (cases_Bool (begins (slot_lits (slot s i)) l)) [
            | inl t ↦
                (let x = h.unseen i (no_earlier s c k i l normal in' (ap var_of (sym at0)) t) in
                let q = share_none (slot s i) (begins (slot_lits (slot s i)) (neg l)) (false_from_ne_true (begins (slot_lits (slot s i)) (neg l)) (λ u. neg-other l (one_first (slot_lits (slot s i)) (neg l) l u t))) in
                let p = share_le (slot s i) (begins (slot_lits (slot s i)) l) in
                omega arith)
            | inr t ↦
                (let p = share_none (slot s i) (begins (slot_lits (slot s i)) l) t in
                elim (cases_Bool (begins (slot_lits (slot s i)) (neg l))) [
                  | inl u ↦
                      (let x = h.unseen i (no_earlier s c k i (neg l) normal in' (ap var_of (sym at0) ∙ sym (var_of-neg l)) u) in
                      let q = share_le (slot s i) (begins (slot_lits (slot s i)) (neg l)) in
                      omega arith)
                  | inr u ↦ (let q = share_none (slot s i) (begins (slot_lits (slot s i)) (neg l)) u in let x = h.once i in omega arith)
                ])
          ];
    }

pub sources_of : (s : List (Option Stored)) (id : ℕ) (c : List ℕ) (k : ℕ) (ids : List ℕ) → c ≡ slot_lits (slot s id) → length c ≤ k → Sourcing s id c k ids → AreSources s id ids
sources_of s id c k ids is past h = record {
  few = at_most_once s ids h.once;
  whole = λ i f some n. begin_of i f n (first_of (slot_lits (slot s i)) some);
} where
  begin_of : (i : ℕ) → is_firm (slot s i) ≡ true → has ids i ≡ false → (l : ℕ) × (begins (slot_lits (slot s i)) l ≡ true) → AreFree s i id
  begin_of i f n l =
      elim (cases_Bool (has c l.0)) [
        | inl y ↦ (let p = has_place c l.0 0 y in let lt = p.1 in h.upto p.0 i (omega arith) f (inl (subst (λ (w : ℕ). begins (slot_lits (slot s i)) w ≡ true) (sym p.2) l.1)) n)
        | inr y ↦
            elim (cases_Bool (has c (neg l.0))) [
              | inl z ↦
                  (let p = has_place c (neg l.0) 0 z in
                  let lt = p.1 in
                  let e : neg (get_or c p.0 0) ≡ l.0 = ap neg p.2 ∙ neg-neg l.0 in
                  h.upto p.0 i (omega arith) f (inr (subst (λ (w : ℕ). begins (slot_lits (slot s i)) w ≡ true) (sym e) l.1)) n)
              | inr z ↦ free_missing (slot_lits (slot s i)) (slot_lits (slot s id)) l.0 (begins_has (slot_lits (slot s i)) l.0 l.1) (subst (λ (w : List ℕ). has w l.0 ≡ false) is y) (subst (λ (w : List ℕ). has w (neg l.0) ≡ false) is z)
            ]
      ]
