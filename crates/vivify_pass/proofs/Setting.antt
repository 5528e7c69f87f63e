-- Laws of what is set up before the first round.
use Rattle.std.proofs.Common.{◌≡◌, ℕ, ◌+◌, ◌<◌, ◌≤◌, Bool, true, false, eqb, ◌||◌, List, [], length, get_or, take, Option, inl, inr, refl, sym, ap, ◌∙◌, subst, arith}
use Rattle.std.proofs.lemmas.Bool.{cases_lt, false_from_ne_true}
use Rattle.std.proofs.lemmas.List.{get_or-take, get_or_default, length-take-le, take_all}
use Rattle.std.proofs.lemmas.List.Folds.{list_any_more}
use Rattle.sat_terms.specs.Limits.{max_var}
use Rattle.sat_terms.specs.Literal.{has, var_of}
use Rattle.sat_terms.proofs.Members.{has_item, has_place}
use Rattle.sat_terms.specs.Answer.{Within}
use Rattle.clause_store.specs.Stored.{Stored, slot, slot_lits, is_firm}
use Rattle.clause_store.specs.Listing.{HasEachOnce, firm_at}
use Rattle.trail_state.specs.Trail.{Trace}
use Rattle.watch_lists.specs.Propagation.{Watching, Follows}
use Rattle.vivify_pass.specs.Trailing.{Ready}
use Rattle.firm_terms.proofs.Counting.{place_of, listed}
use Rattle.firm_terms.proofs.Summing.{once_apart}

pub within_more : (lits : List ℕ) (i x m n : ℕ) → i < length lits → x ≡ get_or lits i x → m ≤ n → 1 ≤ var_of x → var_of x ≤ n → Within m (take i lits) → Within n (take (i + 1) lits)
within_more lits i x m n in' read le low high h k d lt =
    let l1 = length-take-le (i + 1) lits (omega arith) in
    let l0 = length-take-le i lits (omega arith) in
    let e = get_or-take (i + 1) lits k d (omega arith) in
    elim (cases_lt k i) [
      | inl less ↦ (let y = h k d (omega arith) in let f = get_or-take i lits k d less in let z : (1 ≤ var_of (get_or lits k d)) × (var_of (get_or lits k d) ≤ m) = rw f at y in let a = z.0 in let b = z.1 in rw e (a, omega arith))
      | inr ge ↦ (let s : get_or lits k d ≡ x = ap (λ (z : ℕ). get_or lits z d) (let q : k ≡ i = omega arith in q) ∙ get_or_default lits i d x in' ∙ sym read in rw (e, s) (low, high))
    ]

pub within_up : (m n : ℕ) (lits : List ℕ) → m ≤ n → Within m lits → Within n lits
within_up m n lits le h k d lt = let y = h k d lt in let b = y.1 in (y.0, omega arith)

pub record Attaching (s : List (Option Stored)) (ids : List ℕ) (i : ℕ) (old new : Watching) : Type 0 where
  pub attached : (k : ℕ) → has new.attached k ≡ has (take i ids) k
  pub declared : new.declared ≡ old.declared
  pub follows : (t : Trace) → Follows old s t → Follows new s t

pub attaching_none : (s : List (Option Stored)) (ids : List ℕ) (w : Watching) → w.attached ≡ [] → Attaching s ids 0 w w
attaching_none s ids w e = record { attached = λ k. rw e refl; declared = refl; follows = λ t f. f }

has_one_more : (w : List ℕ) (i x l : ℕ) → i < length w → x ≡ get_or w i x → has (take (i + 1) w) l ≡ (has (take i w) l || eqb x l)
has_one_more w i x l in' is = list_any_more (λ y. eqb y l) w i x in' ∙ rw (← is) refl

pub attach_fresh : (s : List (Option Stored)) (ids : List ℕ) (i id : ℕ) (old new : Watching) → HasEachOnce (firm_at s) ids → i < length ids → id ≡ get_or ids i id → Attaching s ids i old new → has new.attached id ≡ false
attach_fresh s ids i id old new each in' read h =
    let at0 : id ≡ get_or ids i 0 = read ∙ get_or_default ids i id 0 in' in
    h.attached id ∙ false_from_ne_true (has (take i ids) id) (λ y.
    let p = has_place (take i ids) id 0 y in
    let l = length-take-le i ids (omega arith) in
    let b = p.1 in
    let lt : p.0 < i = omega arith in
    once_apart (firm_at s) ids p.0 i each lt in' (sym (get_or-take i ids p.0 0 lt) ∙ p.2 ∙ at0))

pub attaching_more : (s : List (Option Stored)) (ids : List ℕ) (i id : ℕ) (old now new : Watching) → i < length ids → id ≡ get_or ids i id → Attaching s ids i old now → ((k : ℕ) → has new.attached k ≡ (has now.attached k || eqb id k)) → new.declared ≡ now.declared → ((t : Trace) → Follows now s t → Follows new s t)
    → Attaching s ids (i + 1) old new
attaching_more s ids i id old now new in' read h e d f = record {
  attached = λ k. e k ∙ ap (λ (b : Bool). b || eqb id k) (h.attached k) ∙ sym (has_one_more ids i id k in' read);
  declared = d ∙ h.declared;
  follows = λ t x. f t (h.follows t x);
}

pub attached_all : (s : List (Option Stored)) (ids : List ℕ) (i : ℕ) (old new : Watching) → length ids ≤ i → Attaching s ids i old new → (k : ℕ) → has new.attached k ≡ has ids k
attached_all s ids i old new le h k = h.attached k ∙ ap (λ (z : List ℕ). has z k) (take_all i ids le)

pub within_end : (m : ℕ) (lits : List ℕ) (i : ℕ) → length lits ≤ i → Within m (take i lits) → Within m lits
within_end m lits i le h = subst (λ (z : List ℕ). Within m z) (take_all i lits le) h

-- the clauses of the first ids have variables up to a number
pub record Covered (s : List (Option Stored)) (ids : List ℕ) (i m : ℕ) : Type 0 where
  pub all : (k : ℕ) → k < i → Within m (slot_lits (slot s (get_or ids k 0)))
  pub small : m ≤ max_var

pub covered_none : (s : List (Option Stored)) (ids : List ℕ) → Covered s ids 0 0
covered_none s ids = record { all = λ k lt. absurd (omega arith); small = omega arith }

pub covered_more : (s : List (Option Stored)) (ids : List ℕ) (i id m n : ℕ) → i < length ids → id ≡ get_or ids i id → Within n (slot_lits (slot s id)) → m ≤ n → n ≤ max_var → Covered s ids i m → Covered s ids (i + 1) n
covered_more s ids i id m n in' read here le small h = record {
  all = λ k lt. elim (cases_lt k i) [
    | inl less ↦ within_up m n (slot_lits (slot s (get_or ids k 0))) le (h.all k less)
    | inr ge ↦ (let e : get_or ids k 0 ≡ id = ap (λ (z : ℕ). get_or ids z 0) (let q : k ≡ i = omega arith in q) ∙ sym (read ∙ get_or_default ids i id 0 in') in subst (λ (z : ℕ). Within n (slot_lits (slot s z))) (sym e) here)
  ];
  small = small;
}

pub covered_all : (s : List (Option Stored)) (ids : List ℕ) (i m : ℕ) → HasEachOnce (firm_at s) ids → length ids ≤ i → Covered s ids i m → (k : ℕ) → is_firm (slot s k) ≡ true → Within m (slot_lits (slot s k))
covered_all s ids i m each le h k f =
    let p = place_of (firm_at s) ids k each f in
    let b = p.1 in
    subst (λ (z : ℕ). Within m (slot_lits (slot s z))) p.2 (h.all p.0 (omega arith))

-- all is set up
pub set_up_ready : (s : List (Option Stored)) (ids : List ℕ) (w w' : Watching) (t : Trace) → HasEachOnce (firm_at s) ids → ((k : ℕ) → has w'.attached k ≡ has ids k) → ((k : ℕ) → is_firm (slot s k) ≡ true → Within t.declared (slot_lits (slot s k))) → t.declared ≤ w'.declared → Follows w' s t → t.steps ≡ [] → Ready s w' t
set_up_ready s ids w w' t each att known le follows empty = record {
  sound = λ k i. (let p = has_place ids k 0 (sym (att k) ∙ i) in subst (λ (z : ℕ). is_firm (slot s z) ≡ true) p.2 (listed (firm_at s) ids p.0 each p.1));
  whole = λ k f. att k ∙ (let p = place_of (firm_at s) ids k each f in subst (λ (z : ℕ). has ids z ≡ true) p.2 (has_item ids p.0 0 p.1));
  known = known;
  lists = le;
  follows = follows;
  rooted = λ i lt. absurd (let n = ap length empty in omega arith);
}
