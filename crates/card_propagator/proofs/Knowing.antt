-- Which variables of cardinalities are observed, and what follows where all are.
use Rattle.std.proofs.Common.{◌≡◌, ◌≢◌, ◌⊎◌, ℕ, zero, suc, ◌+◌, ◌<◌, ◌≤◌, Bool, true, false, not, ◌||◌, cond, eqb, List, [], ◌∷◌, ◌++◌, length, map, Option, Some, None, inl, inr, refl, sym, ap, ◌∙◌, subst, arith}
use Rattle.std.specs.Prelude.{option_map, is_some}
use Rattle.std.specs.List.{count_by, flat_map, filter}
use Rattle.std.proofs.lemmas.Bool.{cases_eq, cases_lt, cases_Bool, eq-eqb, ne_eqb, or_left, or_right, leb-false, false≢true}
use Rattle.sat_terms.specs.Literal.{has, var_of, neg, pos_lit}
use Rattle.sat_terms.specs.Truth.{Assignment, values, lit_true}
use Rattle.sat_terms.proofs.Literals.{same_var, var_of-pos_lit}
use Rattle.sat_terms.proofs.Members.{has-append_left, has-append_right}
use Rattle.sat_model.specs.Constraint.{constraint_true, kind_of}
use Rattle.sat_model.specs.declared.constraint.Constraint.{Constraint}
use Rattle.sat_model.specs.declared.constraint.Constraint.TheVariants.{AtLeast, Parity}
use Rattle.sat_model.specs.declared.constraint.Kind.TheVariants.{Card}
use Rattle.user_propagator.specs.declared.seen.Seen.{Seen}
use Rattle.user_propagator.specs.Board.{Board, trail_of, trail_value, with_handed, IsSeenTrail}
use Rattle.user_propagator.specs.Meaning.{InStep, IsWhole, AreObserved, counted_lits}
use Rattle.user_propagator.proofs.Lawful.{value_neg, value_known, value_holds}
use Rattle.clause_store.specs.Listing.{times}
use Rattle.clause_store.proofs.Counts.{times-cons}
use Rattle.card_propagator.specs.Values.{value, is_false, open_count}
use Rattle.card_propagator.specs.Counting.{Counting, rule, lits_at, bound_at, bound_of, IsProper}
use Rattle.card_propagator.specs.Due.{IsBroken}
use Rattle.card_propagator.specs.Cards.{vars_of, card_meaning, fallen, AreAllObserved, HasBroken, HandsBroken}
use Rattle.card_propagator.proofs.Valuing.{follows}
use Rattle.card_propagator.proofs.Semantics.{fallen_same, fallen_false, falses_seen, open_false, count_le}

-- what is false on the seen trail is of observed variables
pub card_known : (c : Counting) (asked accepted k : ℕ) (b : Board) → IsProper c → InStep (card_meaning c asked accepted) b → IsSeenTrail b.observed b.seen b.level
    → AreObserved b (filter (λ x. is_false (value c.table x)) (lits_at c.rules k))
card_known c asked accepted k b proper step shape =
    let f = follows c.table c.level (trail_of b) step in
    let lits = lits_at c.rules k in
    let same : filter (λ x. is_false (value c.table x)) lits ≡ fallen b.seen lits = fallen_same c.table c.level (trail_of b) lits f (proper.known k) in
    rw same record { each = λ l h. value_known b.observed b.seen b.level l false shape (fallen_false b.seen lits l h) }

-- a cardinality that is broken by the table has too few open positions on the trail
pub card_broken : (c : Counting) (asked accepted k : ℕ) (b : Board) → IsProper c → InStep (card_meaning c asked accepted) b → k < length c.rules
    → IsBroken c.table (bound_at c.rules k) (lits_at c.rules k) → HasBroken c.rules b.seen
card_broken c asked accepted k b proper step lt broken =
    let f = follows c.table c.level (trail_of b) step in
    let lits = lits_at c.rules k in
    let down = falses_seen c.table c.level (trail_of b) lits f (proper.known k) in
    record { which = k; within = lt; short = omega (arith, broken.short, down, open_false b.seen lits) }

-- the variables of a list that holds a literal
map_holds : (c : List ℕ) (l : ℕ) → 0 < times c l → has (map var_of c) (var_of l) ≡ true
map_holds [] l pos = absurd (omega arith)
map_holds (x ∷ c) l pos =
    elim (cases_eq x l) [
      | inl e ↦ or_left (eqb (var_of x) (var_of l)) (has (map var_of c) (var_of l)) (eq-eqb (var_of x) (var_of l) (ap var_of e))
      | inr n ↦
          let none : ◌≡◌ {A = ℕ} (cond (eqb x l) 1 0) 0 = ap (λ b. cond {A = ℕ} b 1 0) (ne_eqb x l n) in
          or_right (eqb (var_of x) (var_of l)) (has (map var_of c) (var_of l)) (map_holds c l (omega (arith, times-cons x c l, none)))
    ]

scope_holds : (rules : List Constraint) (k l : ℕ) → k < length rules → 0 < times (lits_at rules k) l → has (flat_map vars_of rules) (var_of l) ≡ true
scope_holds [] k l lt pos = absurd (omega arith)
scope_holds (r ∷ rs) zero l lt pos = has-append_left (vars_of r) (flat_map vars_of rs) (var_of l) (map_holds (counted_lits r) l pos)
scope_holds (r ∷ rs) (suc k) l lt pos = has-append_right (vars_of r) (flat_map vars_of rs) (var_of l) (scope_holds rs k l (omega arith) pos)

-- each variable of a cardinality is observed where all are
pub card_observed : (rules : List Constraint) (b : Board) (k l : ℕ) → AreAllObserved rules b → k < length rules → 0 < times (lits_at rules k) l → has b.observed (var_of l) ≡ true
card_observed rules b k l all lt pos = all (var_of l) (scope_holds rules k l lt pos)

-- a literal of an observed variable has a value where the seen trail is whole
some_of : (o : Option Bool) → is_some o ≡ true → (v : Bool) × (o ≡ Some v)
some_of None h = cc
some_of (Some v) h = (v, refl)

whole_value : (b : Board) (model : List Bool) (l : ℕ) → IsWhole b model → has b.observed (var_of l) ≡ true → (v : Bool) × (trail_value b.seen l ≡ Some v)
whole_value b model l whole seen =
    let there = some_of (trail_value b.seen (pos_lit (var_of l))) (whole.each (var_of l) seen) in
    elim (same_var l (pos_lit (var_of l)) (sym (var_of-pos_lit (var_of l)))) [
      | inl e ↦ (there.0, ap (trail_value b.seen) e ∙ there.1)
      | inr n ↦ (not there.0, ap (trail_value b.seen) n ∙ value_neg b.seen (pos_lit (var_of l)) ∙ ap (option_map not) there.1)
    ]

card_short : (m : Assignment) (r : Constraint) → kind_of r ≡ Card → constraint_true m r ≡ false → count_by (lit_true m) (counted_lits r) < bound_of r
card_short m (AtLeast b l) k h = leb-false b (count_by (lit_true m) l) h
card_short m (Parity p l) k h = cc

-- a cardinality that the model breaks is broken on the seen trail, where all are observed
pub card_refuted : (c : Counting) (k : ℕ) (b : Board) (model : List Bool) → IsProper c → IsWhole b model → AreAllObserved c.rules b → k < length c.rules → constraint_true (values model) (rule c.rules k) ≡ false → HasBroken c.rules b.seen
card_refuted c k b model proper whole all lt unkept =
    let m = values model in
    let lits = lits_at c.rules k in
    let few = card_short m (rule c.rules k) (proper.cards k) unkept in
    let le = count_le (λ x. not (is_false (trail_value b.seen x))) (lit_true m) lits (λ l pos open_now.
    let v = whole_value b model l whole (card_observed c.rules b k l all lt pos) in
    let t : lit_true m l ≡ v.0 = value_holds m b.seen l v.0 whole.agrees v.1 in
    t ∙ opened v.0 (sym (ap (λ o. not (is_false o)) v.1) ∙ open_now)) in
    record { which = k; within = lt; short = omega (arith, few, le) } where
      opened : (v : Bool) → not (not v) ≡ true → v ≡ true
      opened true h = refl
      opened false h = cc

-- the clause of a broken cardinality
pub card_left : (c d : Counting) (asked accepted k : ℕ) (b now : Board) → d ≡ c → IsProper c → InStep (card_meaning c asked accepted) b → k < length c.rules → IsBroken c.table (bound_at c.rules k) (lits_at c.rules k)
    → now ≡ with_handed b (filter (λ x. is_false (value d.table x)) (lits_at d.rules k)) false → HandsBroken c.rules b now
card_left c d asked accepted k b now e proper step lt broken is =
    let f = follows c.table c.level (trail_of b) step in
    let lits = lits_at c.rules k in
    let down = falses_seen c.table c.level (trail_of b) lits f (proper.known k) in
    let same : filter (λ x. is_false (value c.table x)) lits ≡ fallen b.seen lits = fallen_same c.table c.level (trail_of b) lits f (proper.known k) in
    let is' : now ≡ with_handed b (filter (λ x. is_false (value c.table x)) lits) false = subst (λ (x : Counting). now ≡ with_handed b (filter (λ y. is_false (value x.table y)) (lits_at x.rules k)) false) e is in
    record { which = k; within = lt; short = omega (arith, broken.short, down, open_false b.seen lits); left = is' ∙ ap (λ x. with_handed b x false) same }
