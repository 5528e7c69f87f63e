-- Lemmas for those who write a propagator: what a callback that changes little meets, and what a
-- value on the seen trail says.
use Rattle.std.proofs.Common.{ℕ, zero, suc, ◌≡◌, ◌≢◌, ◌<◌, ◌||◌, Bool, true, false, not, cond, eqb, List, [], ◌∷◌, ◌++◌, length, Option, Some, None, inl, inr, refl, sym, ap, ◌∙◌, subst, arith}
use Rattle.std.specs.Prelude.{option_map}
use Rattle.std.proofs.Math.Seq.{drop-append_seam, drop-length, take-append_seam, get_or-append_seam}
use Rattle.std.proofs.lemmas.List.{length-append}
use Rattle.std.proofs.lemmas.Bool.{or_cases, or_left, eqb-true, eq-eqb, ne_eqb, cases_eq, false≢true}
use Rattle.std.proofs.lemmas.List.Elements.{All-nil, All-cons, All-head, All-tail}
use Rattle.std.proofs.lemmas.List.{append-nil}
use Rattle.sat_terms.specs.Literal.{has, neg, var_of}
use Rattle.sat_terms.specs.Truth.{Assignment, lit_true, clause_true}
use Rattle.sat_terms.proofs.Literals.{neg-neg, neg-other, var_of-neg}
use Rattle.sat_terms.proofs.Truths.{lit_true-neg}
use Rattle.user_propagator.specs.declared.seen.Seen.{Seen}
use Rattle.user_propagator.specs.Board.{Board, Handed, SeenTrail, IsSeenTrail, no_entry, entry, seen_var, trail_value, with_handed, with_wanted}
use Rattle.user_propagator.specs.Meaning.{Meaning, MakesTrue, StandsAt, put_on, Counted, IsQuiet, CalledBack, InStep, is_reached, IsFair, IsFalseOrUnit, LevelFell, asked_now, next_count}

-- only the count changes
pub record IsRecounted (old new : Meaning) : Type 0 where
  pub same : new ≡ record old { asked = next_count old.asked }

recounted : (old new : Meaning) → IsRecounted old new → (P : Meaning → Type 0) → P (record old { asked = next_count old.asked }) → P new
recounted old new h P p = subst P (sym h.same) p

level_stays : (top : ℕ) (b : Option ℕ) → LevelFell top b b
level_stays top None = tt
level_stays top (Some n) = omega arith

-- nothing was done
pub called_idle : (old new : Meaning) (b : Board) → IsRecounted old new → InStep old b → CalledBack old new b b
called_idle old new b h step = recounted old new h (λ t. CalledBack old t b b) record {
  counted = record { kinds = refl; steady = refl; accepted = refl; asked = refl };
  in_step = step;
  fewer = λ f p. p;
  explained = λ k l p. p;
  desk = record { observed = refl; seen = refl; level = refl; wanted = rw (drop-length b.wanted) (sym (append-nil b.wanted)); handed = rw (drop-length b.handed) (sym (append-nil b.handed)); back = level_stays b.level b.back };
  fair = rw (drop-length b.handed) (All-nil _);
  scope = λ v p. or_left (has old.scope v) (is_reached b b v) p;
  quiet = λ s. record { admits = refl; scope = refl; wanted = refl; back = refl; handed = rw (drop-length b.handed) (All-nil _) };
}

-- one clause was handed
pub called_handing : (old new : Meaning) (b : Board) (c : List ℕ) (forgettable : Bool) → IsRecounted old new → InStep old b →
    ((l : ℕ) → has c l ≡ true → has b.observed (var_of l) ≡ true) →
    ((f : Assignment) → old.admits f ≡ true → clause_true f c ≡ true) →
    IsFalseOrUnit b.seen c →
    CalledBack old new b (with_handed b c forgettable)
called_handing old new b c forgettable same step observed implied falsified =
    let h : Handed = record { clause = c; forgettable = forgettable } in
    recounted old new same (λ t. CalledBack old t b (with_handed b c forgettable)) record {
      counted = record { kinds = refl; steady = refl; accepted = refl; asked = refl };
      in_step = step;
      fewer = λ f p. p;
      explained = λ k l p. p;
      desk = record { observed = refl; seen = refl; level = refl; wanted = rw (drop-length b.wanted) (sym (append-nil b.wanted)); handed = rw (drop-append_seam b.handed (h ∷ [])) refl; back = level_stays b.level b.back };
      fair = rw (drop-append_seam b.handed (h ∷ [])) (
          let P : Handed → Type 0 = IsFair (record old { asked = next_count old.asked }) b (with_handed b c forgettable) in
          let fair : P h = record { reached = λ l p. or_left (has b.observed (var_of l)) (has (asked_now b (with_handed b c forgettable)) (var_of l)) (observed l p); implied = implied } in
          All-cons P h [] fair (All-nil P));
      scope = λ v p. or_left (has old.scope v) (is_reached b (with_handed b c forgettable) v) p;
      quiet = λ s. record { admits = refl; scope = refl; wanted = refl; back = refl; handed = rw (drop-append_seam b.handed (h ∷ [])) (let P : Handed → Type 0 = λ x. IsFalseOrUnit b.seen x.clause in All-cons P h [] falsified (All-nil P)) };
    }

-- one variable was asked for, by a propagator that is not steady
pub called_asking : (old new : Meaning) (b : Board) (v : ℕ) → IsRecounted old new → InStep old b → old.steady ≡ false → CalledBack old new b (with_wanted b v)
called_asking old new b v same step restless = recounted old new same (λ t. CalledBack old t b (with_wanted b v)) record {
  counted = record { kinds = refl; steady = refl; accepted = refl; asked = refl };
  in_step = step;
  fewer = λ f p. p;
  explained = λ k l p. p;
  desk = record { observed = refl; seen = refl; level = refl; wanted = rw (drop-append_seam b.wanted (v ∷ [])) refl; handed = rw (drop-length b.handed) (sym (append-nil b.handed)); back = level_stays b.level b.back };
  fair = rw (drop-length b.handed) (All-nil _);
  scope = λ x p. or_left (has old.scope x) (is_reached b (with_wanted b v) x) p;
  quiet = λ s. absurd (false≢true (sym restless ∙ s));
}

-- what holds of two literals holds of a clause of these
pub each_of_two : (P : ℕ → Type 0) (a b l : ℕ) → P a → P b → has (a ∷ b ∷ []) l ≡ true → P l
each_of_two P a b l pa pb h =
    elim (or_cases (eqb a l) (eqb b l || false) h) [
      | inl e ↦ subst P (eqb-true a l e) pa
      | inr r ↦ elim (or_cases (eqb b l) false r) [ inl e ↦ subst P (eqb-true b l e) pb | inr z ↦ absurd (false≢true z) ]
    ]

-- what the propagator was in step with before does not matter
pub called_stepped : (old new : Meaning) (steps : SeenTrail → Bool) (was now : Board) → CalledBack (record old { in_step = steps }) new was now → CalledBack old new was now
called_stepped old new steps was now h = record {
  counted = record { kinds = h.counted.kinds; steady = h.counted.steady; accepted = h.counted.accepted; asked = h.counted.asked };
  in_step = h.in_step;
  fewer = h.fewer;
  explained = h.explained;
  desk = h.desk;
  fair = h.fair;
  scope = h.scope;
  quiet = λ s. (let q = h.quiet s in record { admits = q.admits; scope = q.scope; wanted = q.wanted; back = q.back; handed = q.handed });
}

-- the value of a literal by the first entry and the others
by_value : (e : Seen) (es : List Seen) (l : ℕ) (G : Type 0) → (e.lit ≡ l → trail_value (e ∷ es) l ≡ Some true → G) → (e.lit ≡ neg l → trail_value (e ∷ es) l ≡ Some false → G) → (e.lit ≢ l → e.lit ≢ neg l → trail_value (e ∷ es) l ≡ trail_value es l → G) → G
by_value e es l G same against other =
    elim (cases_eq e.lit l) [
      | inl y ↦ same y (rw (eq-eqb e.lit l y) refl)
      | inr n ↦
          elim (cases_eq e.lit (neg l)) [
            | inl y ↦ against y (rw (ne_eqb e.lit l n, eq-eqb e.lit (neg l) y) refl)
            | inr m ↦ other n m (rw (ne_eqb e.lit l n, ne_eqb e.lit (neg l) m) refl)
          ]
    ]

-- a literal is true where its negation is false
pub value_neg : (seen : List Seen) (l : ℕ) → trail_value seen (neg l) ≡ option_map not (trail_value seen l)
value_neg [] l = refl
value_neg (e ∷ es) l =
    by_value e es l (trail_value (e ∷ es) (neg l) ≡ option_map not (trail_value (e ∷ es) l))
    (λ y v. rw (v, ne_eqb e.lit (neg l) (λ z. neg-other l (sym z ∙ y)), eq-eqb e.lit (neg (neg l)) (y ∙ sym (neg-neg l))) refl)
    (λ y v. rw (v, eq-eqb e.lit (neg l) y) refl)
    (λ n m v. rw (v, ne_eqb e.lit (neg l) m, ne_eqb e.lit (neg (neg l)) (λ z. n (z ∙ neg-neg l))) (value_neg es l))

-- a value stays while literals are told
pub value_stays : (seen more : List Seen) (l : ℕ) (b : Bool) → trail_value seen l ≡ Some b → trail_value (seen ++ more) l ≡ Some b
value_stays [] more l b h = absurd (let z : None ≡ Some b = h in cc)
value_stays (e ∷ es) more l b h =
    elim (cases_eq e.lit l) [
      | inl y ↦ rw (eq-eqb e.lit l y) (rw (eq-eqb e.lit l y) at h)
      | inr n ↦
          elim (cases_eq e.lit (neg l)) [
            | inl y ↦ rw (ne_eqb e.lit l n, eq-eqb e.lit (neg l) y) (rw (ne_eqb e.lit l n, eq-eqb e.lit (neg l) y) at h)
            | inr m ↦ rw (ne_eqb e.lit l n, ne_eqb e.lit (neg l) m) (value_stays es more l b (rw (ne_eqb e.lit l n, ne_eqb e.lit (neg l) m) at h))
          ]
    ]

-- a literal with a value is of an observed variable
known_of : (observed : List ℕ) (seen : List Seen) (l : ℕ) (b : Bool) → ((k : ℕ) → k < length seen → has observed (seen_var (entry seen k)) ≡ true) → trail_value seen l ≡ Some b → has observed (var_of l) ≡ true
known_of observed [] l b known h = absurd (let z : None ≡ Some b = h in cc)
known_of observed (e ∷ es) l b known h =
    by_value e es l (has observed (var_of l) ≡ true)
    (λ y v. subst (λ x. has observed (var_of x) ≡ true) y (known 0 (omega arith)))
    (λ y v. subst (λ x. has observed x ≡ true) (ap var_of y ∙ var_of-neg l) (known 0 (omega arith)))
    (λ n m v. known_of observed es l b (λ k lt. known (suc k) (omega arith)) (sym v ∙ h))

pub value_known : (observed : List ℕ) (seen : List Seen) (level l : ℕ) (b : Bool) → IsSeenTrail observed seen level → trail_value seen l ≡ Some b → has observed (var_of l) ≡ true
value_known observed seen level l b shape h = known_of observed seen l b shape.known h

-- what is true on the seen trail is true where the seen trail is
some_same : (a b : Bool) (r : Option Bool) → r ≡ Some a → r ≡ Some b → a ≡ b
some_same a b r p q = let z : Some a ≡ Some b = sym p ∙ q in cc

pub value_holds : (f : Assignment) (seen : List Seen) (l : ℕ) (v : Bool) → MakesTrue f seen → trail_value seen l ≡ Some v → lit_true f l ≡ v
value_holds f [] l v made h = absurd (let z : None ≡ Some v = h in cc)
value_holds f (e ∷ es) l v made h =
    let P : Seen → Type 0 = λ x. lit_true f x.lit ≡ true in
    let head : lit_true f e.lit ≡ true = All-head P e es made in
    by_value e es l (lit_true f l ≡ v)
    (λ y is. ap (lit_true f) (sym y) ∙ head ∙ some_same true v (trail_value (e ∷ es) l) is h)
    (λ y is. turned (lit_true f l) (sym (lit_true-neg f l) ∙ ap (lit_true f) (sym y) ∙ head) ∙ some_same false v (trail_value (e ∷ es) l) is h)
    (λ n m is. value_holds f es l v (All-tail P e es made) (sym is ∙ h)) where
      turned : (b : Bool) → not b ≡ true → b ≡ false
      turned true q = absurd (false≢true q)
      turned false q = refl

-- a literal that is explained stands explained once it was told
pub stands_told : (t : Meaning) (b after : Board) (l : ℕ) (decision : Bool) → after ≡ put_on b l decision → t.explains b.seen l ≡ true → (k : ℕ) × StandsAt t after.seen k l
stands_told t b after l decision is h =
    let e : Seen = record { lit = l; level = b.level; decision = decision } in
    let last : entry (b.seen ++ e ∷ []) (length b.seen) ≡ e = get_or-append_seam b.seen e [] no_entry in
    rw is (
      length b.seen,
      record {
        inside = omega (arith, length-append b.seen (e ∷ []));
        place = ap (λ s. s.lit) last;
        explained = rw (take-append_seam b.seen (e ∷ []), last) h;
      },
    )
