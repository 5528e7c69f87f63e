-- Marks that are cleared through a list.
use Rattle.std.proofs.Common.{◌≡◌, ◌≢◌, ℕ, ◌+◌, ◌-◌, get_or, ◌⊎◌, ◌<◌, ◌≤◌, Bool, true, false, eqb, List, [], ◌∷◌, ◌++◌, ◌||◌, length, length-set, set, inl, inr, refl, sym, ap, ◌∙◌, subst, arith, append_assoc}
use Rattle.std.specs.List.{list_any}
use Rattle.std.proofs.lemmas.List.{append-nil}
use Rattle.std.proofs.lemmas.Bool.{false≢true, cases_eq, cases_lt, cases_Bool, or_cases, or_left, or_right, eqb-true, eq-eqb}
use Rattle.std.proofs.lemmas.List.Folds.{list_any-append}
use Rattle.std.proofs.Math.Bool.{or-false}
use Rattle.sat_terms.specs.Literal.{has, var_of}
use Rattle.sat_terms.proofs.Members.{has-append_left, has-append_right, has-append_cases, has_at, has_place}
use Rattle.rooted_trails.specs.Marks.{flag}
use Rattle.rooted_trails.proofs.Falses.{flag_other, flag_same}
use Rattle.conflict_analysis.specs.Walking.{has_var, IsListed, IsScratch}

-- with an empty list nothing is marked
pub listed_none : (seen : List Bool) → IsListed seen [] → (v : ℕ) → flag seen v ≡ false
listed_none seen h v =
    elim (cases_Bool (flag seen v)) [
      | inl on ↦ absurd (false≢true (h.listed v on))
      | inr off ↦ off
    ]

-- the last literal leaves the list, and its mark is taken off
pub listed_pop : (seen : List Bool) (others met met' : List ℕ) (l : ℕ) → IsListed seen (others ++ met) → met ≡ met' ++ l ∷ [] → (var_of l < length seen) × IsListed (set seen (var_of l) false) (others ++ met')
listed_pop seen others met met' l h e = pop_last seen (others ++ met) (others ++ met') l h (rw e (sym (append_assoc others met' (l ∷ [])))) where
  pop_last : (seen : List Bool) (met met' : List ℕ) (l : ℕ) → IsListed seen met → met ≡ met' ++ l ∷ [] → (var_of l < length seen) × IsListed (set seen (var_of l) false) met'
  pop_last seen met met' l h e =
      let inside : var_of l < length seen = h.inside l (rw e (has-append_right met' (l ∷ []) l (or_left (eqb l l) false (eq-eqb l l refl)))) in (
        inside,
        record {
          listed = λ v on.
              elim (cases_eq v (var_of l)) [
                | inl q ↦ absurd (false≢true (sym (rw q (flag_same seen (var_of l) false inside)) ∙ on))
                | inr n ↦
                    let was : has_var (met' ++ l ∷ []) v ≡ true = rw e at (h.listed v (sym (flag_other seen (var_of l) v false n) ∙ on)) in
                    elim (or_cases (has_var met' v) (has_var (l ∷ []) v) (sym (list_any-append (λ x. eqb (var_of x) v) met' (l ∷ [])) ∙ was)) [
                      | inl a ↦ a
                      | inr b ↦ absurd (n (sym (eqb-true (var_of l) v (rw or-false at b))))
                    ]
              ];
          inside = λ k m. rw (length-set seen (var_of l) false) (h.inside k (rw e (has-append_left met' (l ∷ []) k m)));
        },
      )

-- what is left once the list is empty
pub listed_rest : (seen : List Bool) (others met : List ℕ) → IsListed seen (others ++ met) → met ≡ [] → IsListed seen others
listed_rest seen others met h e = rw (append-nil others) at (rw e at h)

-- a literal more in the list, and its mark
pub listed_push : (seen : List Bool) (met : List ℕ) (l : ℕ) → IsListed seen met → var_of l < length seen → IsListed seen (met ++ l ∷ [])
listed_push seen met l h in' = record {
  listed = λ v on. list_any-append (λ x. eqb (var_of x) v) met (l ∷ []) ∙ or_left (has_var met v) (has_var (l ∷ []) v) (h.listed v on);
  inside = λ k m.
      elim (has-append_cases met (l ∷ []) k m) [
        | inl a ↦ h.inside k a
        | inr b ↦ subst (λ x. var_of x < length seen) (eqb-true l k (rw or-false at b)) in'
      ];
}

pub listed_mark : (seen : List Bool) (met : List ℕ) (l : ℕ) → IsListed seen (met ++ l ∷ []) → var_of l < length seen → IsListed (set seen (var_of l) true) (met ++ l ∷ [])
listed_mark seen met l h in' = record {
  listed = λ v on.
      elim (cases_eq v (var_of l)) [
        | inl q ↦ list_any-append (λ x. eqb (var_of x) v) met (l ∷ []) ∙ or_right (has_var met v) (has_var (l ∷ []) v) (or_left (eqb (var_of l) v) false (eq-eqb (var_of l) v (sym q)))
        | inr n ↦ h.listed v (sym (flag_other seen (var_of l) v true n) ∙ on)
      ];
  inside = λ k m. rw (length-set seen (var_of l) true) (h.inside k m);
}

-- a list with the same literals
listed_same : (seen : List Bool) (a b : List ℕ) → ((f : ℕ → Bool) → list_any f a ≡ list_any f b) → IsListed seen a → IsListed seen b
listed_same seen a b same h = record {
  listed = λ v on. sym (same (λ x. eqb (var_of x) v)) ∙ h.listed v on;
  inside = λ l m. h.inside l (same (λ x. eqb x l) ∙ m);
}

-- a literal more that was met
pub scratch_met : (seen levels : List Bool) (met spare : List ℕ) (l : ℕ) → IsScratch seen levels met spare → var_of l < length seen → IsScratch (set seen (var_of l) true) levels (met ++ l ∷ []) spare
scratch_met seen levels met spare l h in' = record {
  marks =
      listed_same (set seen (var_of l) true) ((spare ++ met) ++ l ∷ []) (spare ++ (met ++ l ∷ [])) (λ f. ap (list_any f) (append_assoc spare met (l ∷ [])))
      (listed_mark seen (spare ++ met) l (listed_push seen (spare ++ met) l h.marks in') in');
  unmarked = h.unmarked;
  room = rw (length-set seen (var_of l) true) h.room;
}

-- a literal more that follows from marked ones
pub scratch_spare : (seen levels : List Bool) (met spare : List ℕ) (l : ℕ) → IsScratch seen levels met spare → var_of l < length seen → IsScratch (set seen (var_of l) true) levels met (spare ++ l ∷ [])
scratch_spare seen levels met spare l h in' = record {
  marks =
      listed_same (set seen (var_of l) true) ((spare ++ met) ++ l ∷ []) ((spare ++ l ∷ []) ++ met) (λ f.
      list_any-append f (spare ++ met) (l ∷ []) ∙ rw (list_any-append f spare met, list_any-append f (spare ++ l ∷ []) met, list_any-append f spare (l ∷ [])) (swapped (list_any f spare) (list_any f met) (list_any f (l ∷ []))))
      (listed_mark seen (spare ++ met) l (listed_push seen (spare ++ met) l h.marks in') in');
  unmarked = h.unmarked;
  room = rw (length-set seen (var_of l) true) h.room;
} where
  swapped : (a b c : Bool) → ((a || b) || c) ≡ ((a || c) || b)
  swapped true b c = refl
  swapped false true true = refl
  swapped false true false = refl
  swapped false false true = refl
  swapped false false false = refl

-- the flags are lengthened, and read the same
pub scratch_reached : (seen levels seen' levels' : List Bool) (met spare : List ℕ) → IsScratch seen levels met spare → ((v : ℕ) → flag levels' v ≡ flag levels v) → length levels ≤ length levels'
    → ((v : ℕ) → flag seen' v ≡ flag seen v) → length seen ≤ length seen' → length seen' ≤ length levels' → IsScratch seen' levels' met spare
scratch_reached seen levels seen' levels' met spare h same long same' long' room = record {
  marks = record {
    listed = λ v on. h.marks.listed v (sym (same' v) ∙ on);
    inside = λ l m. (let k = h.marks.inside l m in omega arith);
  };
  unmarked = λ n. same n ∙ h.unmarked n;
  room = room;
}

-- A literal leaves a list, and the last one takes its place.
module _ (old new : List ℕ) (i n : ℕ) (moved : ((d : ℕ) → i + 1 < n → get_or new i d ≡ get_or old (n - 1) d) × ((k d : ℕ) → k ≢ i → k + 1 < n → get_or new k d ≡ get_or old k d))
    (long : n ≡ length old) (shorter : length new + 1 ≡ n) where
  pub swapped_left : (l : ℕ) → has new l ≡ true → has old l ≡ true
  swapped_left l h =
      let p = has_place new l l h in
      let lt = p.1 in
      elim (cases_eq p.0 i) [
        | inl e ↦
            let more : i + 1 < n = omega arith in
            has_at old (n - 1) l (omega arith) (sym p.2 ∙ ap (λ q. get_or new q l) e ∙ moved.0 l more)
        | inr other ↦
            let more : p.0 + 1 < n = omega arith in
            has_at old p.0 l (omega arith) (sym p.2 ∙ moved.1 p.0 l other more)
      ]

  pub swapped_gone : (l : ℕ) → i < n → has old l ≡ true → (has new l ≡ true) ⊎ (get_or old i l ≡ l)
  swapped_gone l in' h =
      let p = has_place old l l h in
      let lt = p.1 in
      elim (cases_eq p.0 i) [
        | inl e ↦ inr (ap (λ k. get_or old k l) (sym e) ∙ p.2)
        | inr other ↦
            elim (cases_lt (p.0 + 1) n) [
              | inl more ↦ inl (has_at new p.0 l (omega arith) (sym p.2 ∙ sym (moved.1 p.0 l other more)))
              | inr last ↦
                  let k : p.0 ≡ n - 1 = omega arith in
                  let more : i + 1 < n = omega arith in
                  inl (has_at new i l (omega arith) (sym p.2 ∙ ap (λ q. get_or old q l) k ∙ sym (moved.0 l more)))
            ]
      ]
