-- Laws of the look at those that wait.
use Rattle.std.proofs.Common.{◌≡◌, ◌≢◌, ℕ, zero, suc, ◌+◌, ◌-◌, ◌<◌, ◌≤◌, Bool, true, false, not, ◌&&◌, ◌||◌, cond, eqb, List, [], ◌∷◌, ◌++◌, length, get_or, set, Option, Some, None, inl, inr, refl, sym, ap, ◌∙◌, subst, arith}
use Rattle.std.specs.List.{count_by}
use Rattle.std.proofs.lemmas.Bool.{cases_eq, cases_lt, eq-eqb, ne_eqb, eqb-true, or_cases, or_parts, and_parts}
use Rattle.std.proofs.lemmas.List.{get_or-set_same, get_or-set_other, length-set}
use Rattle.std.proofs.lemmas.List.Sums.{sum_by-cons}
use Rattle.sat_terms.specs.Literal.{has, var_of}
use Rattle.flag_set.specs.Work.{Work}
use Rattle.card_propagator.specs.Queue.{TakenOut}
use Rattle.sat_model.specs.declared.constraint.Constraint.{Constraint}
use Rattle.card_propagator.specs.declared.told.Told.{Told}
use Rattle.clause_store.specs.Listing.{times}
use Rattle.card_propagator.specs.Values.{told, told_value, value, falses}
use Rattle.card_propagator.specs.Counting.{rule, lits_at, bound_at, AreSettled, ArePassed, IsSettled, is_told}
use Rattle.card_propagator.specs.Due.{IsBroken, IsForced, AllSettled}
use Rattle.clause_store.proofs.Counts.{times_place, times_at}

-- what is false though one other was taken out was false before
kept_out : (x y : Bool) → y ≡ false → (x && not y) ≡ false → x ≡ false
kept_out true true n h = n
kept_out true false n h = h
kept_out false y n h = refl

-- where none waits all are settled
pub settled_all : (rules : List Constraint) (t : List (Option Told)) (q : Work ℕ) → AreSettled rules t q → q.members ≡ [] → AllSettled rules t
settled_all rules t q a none = record { each = λ k lt. a.settled k lt (ap (λ ids. has ids k) none) }

-- one that waited was settled
pub settled_pop : (rules : List Constraint) (t : List (Option Told)) (q q' : Work ℕ) (id : ℕ) → AreSettled rules t q → TakenOut q q' id → IsSettled t (bound_at rules id) (lits_at rules id) → AreSettled rules t q'
settled_pop rules t q q' id a out s = record {
  within = λ k w. a.within k ((and_parts (has q.members k) (not (eqb id k)) (sym (out.others k) ∙ w)).0);
  room = rw out.room a.room;
  settled = λ k lt w. elim (cases_eq id k) [
    | inl e ↦ rw (← e) s
    | inr n ↦ a.settled k lt (kept_out (has q.members k) (eqb id k) (ne_eqb id k n) (sym (out.others k) ∙ w))
  ];
}

-- one that waited goes on waiting
pub settled_back : (rules : List Constraint) (t : List (Option Told)) (q now new : Work ℕ) (id : ℕ) → AreSettled rules t q → TakenOut q now id → new.room ≡ now.room → ((k : ℕ) → has new.members k ≡ (has now.members k || eqb id k)) → AreSettled rules t new
settled_back rules t q now new id a out room waits = record {
  within = λ k w. elim (or_cases (has now.members k) (eqb id k) (sym (waits k) ∙ w)) [
    | inl old ↦ a.within k ((and_parts (has q.members k) (not (eqb id k)) (sym (out.others k) ∙ old)).0)
    | inr new' ↦ rw (← eqb-true id k new') (a.within id out.waited)
  ];
  room = rw (room, out.room) a.room;
  settled = λ k lt w.
      let p = or_parts (has now.members k) (eqb id k) (sym (waits k) ∙ w) in
      a.settled k lt (kept_out (has q.members k) (eqb id k) p.1 (sym (out.others k) ∙ p.0));
}

at_most : (b : Bool) → cond {A = ℕ} b 1 0 ≤ 1
at_most true = omega arith
at_most false = omega arith

pub falses-le : (t : List (Option Told)) (c : List ℕ) → falses t c ≤ length c
falses-le t [] = omega arith
falses-le t (l ∷ c) =
    let e = sum_by-cons (λ x. cond {A = ℕ} (Rattle.card_propagator.specs.Values.is_false (value t x)) 1 0) l c in
    let one = at_most (Rattle.card_propagator.specs.Values.is_false (value t l)) in
    omega (arith, e, one, falses-le t c)

-- what holds of each position's literal holds of every literal
pub each_spared : (t : List (Option Told)) (c : List ℕ) (spare : ℕ) → ((i : ℕ) → i < length c → value t (get_or c i 0) ≡ None → times c (get_or c i 0) ≤ spare) → (l : ℕ) → value t l ≡ None → times c l ≤ spare
each_spared t c spare h l free =
    elim (cases_lt 0 (times c l)) [
      | inl pos ↦ let p = times_place c l pos in rw p.2 at (h p.0 p.1 (rw p.2 free))
      | inr le ↦ omega arith
    ]

pub stands : (c : List ℕ) (i : ℕ) → i < length c → 0 < times c (get_or c i 0)
stands c i lt = times_at c i lt

pub passed_keep : (rules : List Constraint) (t : List (Option Told)) (starts starts' : List ℕ) (k place : ℕ) → ArePassed rules t starts → k < length rules → starts' ≡ set starts k place
    → ((i : ℕ) → i < place → i < length (lits_at rules k) → is_told (told t (var_of (get_or (lits_at rules k) i 0))) ≡ true) → ArePassed rules t starts'
passed_keep rules t starts starts' k place a lt e h = rw e record {
  size = rw length-set a.size;
  passed = λ j i below in'. elim (cases_eq j k) [
    | inl q ↦
        let within : k < length starts = omega (arith, a.size) in
        let b : i < place = rw (get_or-set_same starts k place 0 within) at (rw q at below) in
        rw q (h i b (rw q at in'))
    | inr n ↦ a.passed j i (rw (get_or-set_other starts k j place 0 n) at below) in'
  ];
}
