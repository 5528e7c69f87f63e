-- Laws of the clauses with which a clause is to be compared.
use Rattle.std.proofs.Common.{◌≡◌, ◌≢◌, ℕ, suc, zero, ◌+◌, ◌-◌, ◌<◌, ◌≤◌, true, false, eqb, List, [], ◌∷◌, ◌++◌, length, get_or, take, Option, inl, inr, refl, sym, ap, ◌∙◌, subst, arith, bit_and, nat_lt}
use Rattle.std.proofs.lemmas.Bool.{ltb-true, false≢true, cases_Bool, cases_eq, cases_lt, and_parts, false_from_ne_true, eqb-true, eq-eqb, or_left}
use Rattle.std.proofs.lemmas.List.{get_or_default, take_more, take_all}
use Rattle.sat_terms.specs.Literal.{has, neg, var_of}
use Rattle.sat_terms.specs.Normal.{IsNormal}
use Rattle.sat_terms.proofs.Literals.{var_of-neg}
use Rattle.sat_terms.proofs.Members.{has-append_left, has-append_right}
use Rattle.clause_store.specs.Stored.{Stored, slot, slot_lits, is_firm}
use Rattle.clause_store.specs.Listing.{times, HasEachOnce, holds_at}
use Rattle.clause_store.proofs.Counts.{gains_push, times_at}
use Rattle.firm_terms.specs.Firm.{firm}
use Rattle.firm_terms.specs.Signing.{IsSignature}
use Rattle.firm_terms.proofs.Signing.{tells}
use Rattle.firm_terms.proofs.Counting.{one_if, tally_le, length_times, slot_within, count_tally, count_firm, place_of, listed}
use Rattle.firm_terms.specs.Subsuming.{IsFree}
use Rattle.subsume_pass.specs.Choosing.{AreFree, Collects, AreCandidates}
use Rattle.sat_terms.proofs.Members.{has_item, has_place}
use Rattle.subsume_pass.proofs.Clauses.{vars_rise, not_both}
use Rattle.subsume_pass.proofs.Comparing.{free_missing}

-- a list that has no id twice, and firm ones alone, is no longer than the firm clauses are many
pub at_most_once : (s : List (Option Stored)) (ids : List ℕ) → ((k : ℕ) → times ids k ≤ one_if (is_firm (slot s k))) → length ids ≤ length (firm s)
at_most_once s ids h =
    let a = length_times ids (length s) (λ k lt. slot_within is_firm s (get_or ids k 0) refl (firm_at_place k lt)) in
    let b = tally_le (times ids) (λ k. one_if (is_firm (slot s k))) (length s) h in
    let c = count_tally is_firm s (length s) refl (omega arith) in
    let d = count_firm s in
    omega arith where
      firm_at_place : (k : ℕ) → k < length ids → is_firm (slot s (get_or ids k 0)) ≡ true
      firm_at_place k lt =
          let x = times_at ids k lt in
          let y = h (get_or ids k 0) in
          elim (cases_Bool (is_firm (slot s (get_or ids k 0)))) [
            | inl t ↦ t
            | inr f ↦ (let z : one_if (is_firm (slot s (get_or ids k 0))) ≡ 0 = rw f refl in absurd (omega arith))
          ]

-- where each variable of c stands in d, c is no longer
no_longer : (c d : List ℕ) → IsNormal c → IsNormal d → ((i : ℕ) → i < length c → (q : ℕ) × (q < length d) × (var_of (get_or d q 0) ≡ var_of (get_or c i 0))) → (i : ℕ) → i < length c → (q : ℕ) × (q < length d) × (i ≤ q) × (var_of (get_or d q 0) ≡ var_of (get_or c i 0))
no_longer c d n m h zero lt = let k = h 0 lt in (k.0, k.1, omega arith, k.2)
no_longer c d n m h (suc i) lt =
    let r = no_longer c d n m h i (omega arith) in
    let k = h (suc i) lt in
    let up = vars_rise c i (suc i) n (omega arith) lt in
    let le = r.2 in
    let e = r.3 in
    let f = k.2 in
    elim (cases_lt r.0 k.0) [
      | inl less ↦ (k.0, k.1, omega arith, f)
      | inr ge ↦
          elim (cases_eq k.0 r.0) [
            | inl same ↦ absurd (let z : var_of (get_or d k.0 0) ≡ var_of (get_or d r.0 0) = ap (λ (x : ℕ). var_of (get_or d x 0)) same in omega arith)
            | inr ne ↦ absurd (let down = vars_rise d k.0 r.0 m (omega arith) r.1 in omega arith)
          ]
    ]

short_of : (c d : List ℕ) → IsNormal c → IsNormal d → ((l : ℕ) → has c l ≡ true → (x : ℕ) × (has d x ≡ true) × (var_of x ≡ var_of l)) → length d < length c → ⊥
short_of c d n m h lt =
    let i = length c - 1 in
    let r = no_longer c d n m (λ k in'. (let x = h (get_or c k 0) (has_item c k 0 in') in let p = has_place d x.0 0 x.1 in (p.0, p.1, ap var_of p.2 ∙ x.2))) i (omega arith) in
    let a = r.1 in
    let b = r.2 in
    omega arith

pub free_shorter : (c d : List ℕ) → IsNormal c → IsNormal d → length d < length c → IsFree c d
free_shorter c d n m lt = record {
  outside = λ w. short_of c d n m (λ l h. (l, w l h, refl)) lt;
  uncut = λ x r. short_of c d n m (λ l h. elim (cases_eq l (neg x)) [
    | inl e ↦ (x, r.here, sym (ap var_of e ∙ var_of-neg x))
    | inr ne ↦ (l, (r.rest l h ne).0, refl)
  ]) lt;
}

-- while the clauses of a literal are collected
pub record Collecting (s : List (Option Stored)) (by : ℕ) (occ : List ℕ) (i : ℕ) (old new : List ℕ) : Type 0 where
  pub kept : (k : ℕ) → has new k ≡ false → has old k ≡ false
  pub upto : (m : ℕ) → m < i → has new (get_or occ m 0) ≡ false → AreFree s by (get_or occ m 0)
  pub once : (k : ℕ) → times new k ≤ times old k + times (take i occ) k

pub collecting_none : (s : List (Option Stored)) (by : ℕ) (occ old : List ℕ) → Collecting s by occ 0 old old
collecting_none s by occ old = record { kept = λ k h. h; upto = λ m lt. absurd (omega arith); once = λ k. omega arith }

pub times_push : (v : List ℕ) (x k : ℕ) → times (v ++ x ∷ []) k ≡ times v k + one_if (eqb x k)
times_push v x k =
    let g = gains_push v x in
    elim (cases_eq x k) [
      | inl e ↦ (let a : one_if (eqb x k) ≡ 1 = rw (eq-eqb x k e) refl in let b : times (v ++ x ∷ []) k ≡ times v k + 1 = subst (λ (z : ℕ). times (v ++ x ∷ []) z ≡ times v z + 1) e g.here in omega arith)
      | inr ne ↦ (let a : one_if (eqb x k) ≡ 0 = rw (false_from_ne_true (eqb x k) (λ y. ne (eqb-true x k y))) refl in let b = g.others k (λ z. ne (sym z)) in omega arith)
    ]

pub times_take : (occ : List ℕ) (i x k : ℕ) → i < length occ → x ≡ get_or occ i x → times (take (i + 1) occ) k ≡ times (take i occ) k + one_if (eqb x k)
times_take occ i x k in' read = ap (λ (z : List ℕ). times z k) (take_more occ i x in') ∙ ap (λ (z : ℕ). times (take i occ ++ z ∷ []) k) (sym read) ∙ times_push (take i occ) x k

pub at_read : (occ : List ℕ) (i x m : ℕ) → i < length occ → x ≡ get_or occ i x → m ≡ i → get_or occ m 0 ≡ x
at_read occ i x m in' read e = ap (λ (z : ℕ). get_or occ z 0) e ∙ sym (read ∙ get_or_default occ i x 0 in')

pub holds : (s : List (Option Stored)) (l id : ℕ) → is_firm (slot s id) ≡ true → has (slot_lits (slot s id)) l ≡ true → holds_at s l id ≡ true
holds s l id f h = rw (f, h) refl

-- what is not there after one more came was not there, and is another one
pub before_push : (v : List ℕ) (x k : ℕ) → has (v ++ x ∷ []) k ≡ false → (has v k ≡ false) × (k ≢ x)
before_push v x k n = (
  false_from_ne_true (has v k) (λ y. false≢true (sym n ∙ has-append_left v (x ∷ []) k y)),
  λ e. false≢true (sym n ∙ has-append_right v (x ∷ []) k (or_left (eqb x k) false (eq-eqb x k (sym e)))),
)

pub collecting_push : (s : List (Option Stored)) (by : ℕ) (occ : List ℕ) (i id : ℕ) (old now new : List ℕ) → i < length occ → id ≡ get_or occ i id → new ≡ now ++ id ∷ [] → Collecting s by occ i old now → Collecting s by occ (i + 1) old new
collecting_push s by occ i id old now new in' read pushed h = rw pushed (record {
  kept = λ k n. h.kept k (before_push now id k n).0;
  upto = λ m lt n. elim (cases_lt m i) [
    | inl less ↦ h.upto m less (before_push now id (get_or occ m 0) n).0
    | inr ge ↦ absurd ((before_push now id (get_or occ m 0) n).1 (at_read occ i id m in' read (let q : m ≡ i = omega arith in q)))
  ];
  once = λ k. (let a = times_push now id k in let b = times_take occ i id k in' read in let c = h.once k in omega arith);
})

pub collecting_skip : (s : List (Option Stored)) (by : ℕ) (occ : List ℕ) (i id : ℕ) (old now : List ℕ) → i < length occ → id ≡ get_or occ i id → AreFree s by id → Collecting s by occ i old now → Collecting s by occ (i + 1) old now
collecting_skip s by occ i id old now in' read apart h = record {
  kept = h.kept;
  upto = λ m lt n. elim (cases_lt m i) [
    | inl less ↦ h.upto m less n
    | inr ge ↦ (let e = at_read occ i id m in' read (let q : m ≡ i = omega arith in q) in subst (λ (z : ℕ). AreFree s by z) (sym e) apart)
  ];
  once = λ k. (let b = times_take occ i id k in' read in let c = h.once k in omega arith);
}

pub collected : (s : List (Option Stored)) (by l : ℕ) (occ : List ℕ) (i : ℕ) (old new : List ℕ) → HasEachOnce (holds_at s l) occ → length occ ≤ i → Collecting s by occ i old new → Collects s by l old new
collected s by l occ i old new each past h = record {
  kept = h.kept;
  whole = λ k y n. (let p = place_of (holds_at s l) occ k each y in let lt = p.1 in subst (λ (z : ℕ). AreFree s by z) p.2 (h.upto p.0 (omega arith) (subst (λ (z : ℕ). has new z ≡ false) (sym p.2) n)));
  once = λ k.
      let a = h.once k in
      let b : times (take i occ) k ≡ times occ k = ap (λ (z : List ℕ). times z k) (take_all i occ past) in
      let c = each.once k in
      let d : times occ k ≡ one_if (holds_at s l k) = c in
      omega arith;
}

-- what is listed holds the literal, and is firm
pub firm_listed : (s : List (Option Stored)) (l : ℕ) (occ : List ℕ) (i id : ℕ) → HasEachOnce (holds_at s l) occ → i < length occ → id ≡ get_or occ i id → is_firm (slot s id) ≡ true
firm_listed s l occ i id each in' read =
    let y = listed (holds_at s l) occ i each in' in
    let z : holds_at s l id ≡ true = subst (λ (z : ℕ). holds_at s l z ≡ true) (sym (read ∙ get_or_default occ i id 0 in')) y in
    (and_parts (is_firm (slot s id)) (has (slot_lits (slot s id)) l) z).0

-- what signatures and lengths tell
pub apart_signed : (s : List (Option Stored)) (by id a b : ℕ) → IsSignature (slot_lits (slot s by)) a → IsSignature (slot_lits (slot s id)) b → eqb (bit_and a b) a ≡ false → AreFree s by id
apart_signed s by id a b h g n = tells (slot_lits (slot s by)) (slot_lits (slot s id)) a b h g n

pub apart_longer : (s : List (Option Stored)) (by id : ℕ) (c d : List ℕ) → c ≡ slot_lits (slot s by) → d ≡ slot_lits (slot s id) → IsNormal c → IsNormal d → nat_lt (length d) (length c) ≡ true → AreFree s by id
apart_longer s by id c d e f n m y = let lt = ltb-true (length d) (length c) y in rw (← e, ← f) (free_shorter c d n m lt)

-- both together
pub candidates_of : (s : List (Option Stored)) (by lit : ℕ) (mid ids : List ℕ) → ((k : ℕ) → IsNormal (slot_lits (slot s k))) → has (slot_lits (slot s by)) lit ≡ true → Collects s by lit [] mid → Collects s by (neg lit) mid ids → AreCandidates s by ids
candidates_of s by lit mid ids normal h a b = record {
  few = at_most_once s ids (λ k.
      let x = a.once k in
      let y = b.once k in
      let z : times [] k ≡ 0 = refl in
      elim (cases_Bool (holds_at s lit k)) [
        | inl p ↦
            (let q = and_parts (is_firm (slot s k)) (has (slot_lits (slot s k)) lit) p in
            let no' : holds_at s (neg lit) k ≡ false = false_from_ne_true (holds_at s (neg lit) k) (λ r. not_both (slot_lits (slot s k)) lit (normal k) q.1 (and_parts (is_firm (slot s k)) (has (slot_lits (slot s k)) (neg lit)) r).1) in
            let e : one_if (holds_at s lit k) ≡ 1 = ap one_if p in
            let f : one_if (holds_at s (neg lit) k) ≡ 0 = ap one_if no' in
            let g : one_if (is_firm (slot s k)) ≡ 1 = ap one_if q.0 in
            omega arith)
        | inr n ↦
            (let e : one_if (holds_at s lit k) ≡ 0 = ap one_if n in
            elim (cases_Bool (holds_at s (neg lit) k)) [
              | inl p ↦ (let f : one_if (holds_at s (neg lit) k) ≡ 1 = ap one_if p in let g : one_if (is_firm (slot s k)) ≡ 1 = ap one_if (and_parts (is_firm (slot s k)) (has (slot_lits (slot s k)) (neg lit)) p).0 in omega arith)
              | inr m ↦ (let f : one_if (holds_at s (neg lit) k) ≡ 0 = ap one_if m in omega arith)
            ])
      ]);
  whole = λ j f n.
      elim (cases_Bool (has (slot_lits (slot s j)) lit)) [
        | inl y ↦ a.whole j (holds s lit j f y) (b.kept j n)
        | inr y ↦
            elim (cases_Bool (has (slot_lits (slot s j)) (neg lit))) [
              | inl z ↦ b.whole j (holds s (neg lit) j f z) n
              | inr z ↦ free_missing (slot_lits (slot s by)) (slot_lits (slot s j)) lit h y z
            ]
      ];
}
