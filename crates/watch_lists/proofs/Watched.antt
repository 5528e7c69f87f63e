-- Laws of clauses that watch two literals.
use Rattle.std.proofs.Common.{◌≡◌, ◌≢◌, ℕ, ◌<◌, Bool, true, false, cond, eqb, List, [], ◌∷◌, ◌++◌, length, inl, inr, refl, sym, ap, ◌∙◌, Option, Some, None}
use Rattle.std.proofs.lemmas.Bool.{false≢true, cases_Bool, cases_eq, or_left, or_right, eq-eqb}
use Rattle.sat_terms.specs.Literal.{has, neg}
use Rattle.sat_terms.proofs.Literals.{neg-neg}
use Rattle.clause_store.specs.Stored.{Stored, slot_lits}
use Rattle.trail_state.specs.declared.trail.Step.{Step}
use Rattle.trail_state.specs.Trail.{step, true_on, value_on, IsTrail}
use Rattle.trail_state.specs.Clauses.{FalseOn, IsUnit, IsQuiet}
use Rattle.trail_state.proofs.Places.{place_of_true, true_at_place}
use Rattle.trail_state.proofs.Values.{not_both}
use Rattle.watch_lists.specs.Watching.{Pair, WatchesIt, HoldsPair, TrueIn}
use Rattle.watch_lists.specs.Visiting.{OtherOf, NoNext}

value_some : (a b v : Bool) → cond a (Some true) (cond b (Some false) None) ≡ Some v → v ≡ a
value_some true b v e = cc
value_some false true v e = cc
value_some false false v e = cc

value_none : (a b : Bool) → cond a (Some true) (cond b (Some false) None) ≡ None → (a ≡ false) × (b ≡ false)
value_none true b e = let f : Some true ≡ None = e in cc
value_none false true e = let f : Some false ≡ None = e in cc
value_none false false e = (refl, refl)

pub true_some : (t : List Step) (l : ℕ) (v : Bool) → value_on t l ≡ Some v → v ≡ true_on t l
true_some t l v e = value_some (true_on t l) (true_on t (neg l)) v e

pub true_none : (t : List Step) (l : ℕ) → value_on t l ≡ None → false ≡ true_on t l
true_none t l e = sym (value_none (true_on t l) (true_on t (neg l)) e).0

pub false_none : (t : List Step) (l : ℕ) → value_on t l ≡ None → false ≡ true_on t (neg l)
false_none t l e = sym (value_none (true_on t l) (true_on t (neg l)) e).1

-- a clause with a true literal is quiet
pub quiet_true_in : (t : List Step) (top : ℕ) (c : List ℕ) → IsTrail t top → TrueIn c t → IsQuiet t c
quiet_true_in t top c shape h =
    let x = (step t h.place).lit in
    let on : true_on t x ≡ true = true_at_place t h.place x h.within refl in
    record {
      not_false = λ f. not_both t x shape.apart on (f x h.holds);
      not_unit = λ l u.
          elim (cases_eq x l) [
            | inl e ↦ false≢true (sym (value_none (true_on t l) (true_on t (neg l)) u.free).0 ∙ rw (← e) on)
            | inr n ↦ not_both t x shape.apart on (u.others x h.holds n)
          ];
    }

-- The heart: a clause is quiet if each of its two watched literals that is false comes with a true literal of the clause.
pub quiet_watched : (t : List Step) (top : ℕ) (c : List ℕ) (p : Pair) → IsTrail t top → p.first ≢ p.second → has c p.first ≡ true → has c p.second ≡ true
    → ((i : ℕ) → i < length t → WatchesIt p (neg (step t i).lit) → TrueIn c t) → IsQuiet t c
quiet_watched t top c p shape differ first second covers =
    elim (cases_Bool (true_on t (neg p.first))) [
      | inl h ↦
          let a = place_of_true t (neg p.first) h in
          quiet_true_in t top c shape (covers a.0 a.1 (record { differ = differ; one = inl (sym (ap neg a.2 ∙ neg-neg p.first)) }))
      | inr no_first ↦
          elim (cases_Bool (true_on t (neg p.second))) [
            | inl h ↦
                let a = place_of_true t (neg p.second) h in
                quiet_true_in t top c shape (covers a.0 a.1 (record { differ = differ; one = inr (sym (ap neg a.2 ∙ neg-neg p.second)) }))
            | inr no_second ↦
                record {
                  not_false = λ f. false≢true (sym no_first ∙ f p.first first);
                  not_unit = λ l u.
                      elim (cases_eq p.first l) [
                        | inl e ↦ false≢true (sym no_second ∙ u.others p.second second (λ q. differ (e ∙ sym q)))
                        | inr n ↦ false≢true (sym no_first ∙ u.others p.first first n)
                      ];
                }
          ]
    ]

pub true_in_from : (t : List Step) (c : List ℕ) (l : ℕ) → has c l ≡ true → true_on t l ≡ true → TrueIn c t
true_in_from t c l holds h = let a = place_of_true t l h in record { place = a.0; within = a.1; holds = rw a.2 holds }

-- the other literal of a pair is one of the clause
pub other_held : (ids : List ℕ) (id : ℕ) (x : Option Stored) (n : ℕ) (p : Pair) (f o : ℕ) → HoldsPair ids id x n p → OtherOf p f o → has (slot_lits x) o ≡ true
other_held ids id x n p f o h (inl e) = rw (← e.1) h.second
other_held ids id x n p f o h (inr e) = rw (← e.1) h.first

-- where no other literal may be watched, the clause is unit or false
pub unit_left : (t : List Step) (c : List ℕ) (o : ℕ) → has c o ≡ true → true_on t o ≡ false → true_on t (neg o) ≡ false → NoNext t c o → IsUnit t c o
unit_left t c o holds a b none = record { holds = holds; free = rw (a, b) refl; others = none }

pub false_left : (t : List Step) (c : List ℕ) (o : ℕ) → true_on t (neg o) ≡ true → NoNext t c o → FalseOn t c
false_left t c o h none l holds =
    elim (cases_eq l o) [
      | inl e ↦ rw e h
      | inr n ↦ none l holds n
    ]

pub true_pushed : (t : List Step) (x : Step) → true_on (t ++ x ∷ []) x.lit ≡ true
true_pushed [] x = or_left (eqb x.lit x.lit) false (eq-eqb x.lit x.lit refl)
true_pushed (y ∷ t) x = or_right (eqb y.lit x.lit) (true_on (t ++ x ∷ []) x.lit) (true_pushed t x)
