-- What a propagator of cardinalities means.
use Rattle.std.specs.Prelude.{◌⊎◌, ℕ, ◌≡◌, ◌+◌, ◌&&◌, ◌≤◌, ◌<◌, Bool, true, false, List, [], ◌∷◌, ◌++◌, length, map, count_by, not, ◌%◌, ◌==◌, nat_le, nat_lt, Option, None, Some, All, Contains}
use Rattle.std.specs.List.{list_all, list_any, flat_map, filter}
use Rattle.std.proofs.Common.{refl, ap, ◌∙◌, cond, sym, subst, inl, inr, eqb}
use Rattle.std.proofs.lemmas.Bool.{cases_Bool, or_left, or_right, eq-eqb}
use Rattle.std.proofs.lemmas.List.Sums.{sum_by-cons}
use Rattle.sat_terms.specs.Literal.{has, var_of}
use Rattle.sat_terms.specs.Truth.{Assignment, lit_true}
use Rattle.sat_terms.proofs.Members.{has-append_left, has-append_right}
use Rattle.sat_terms.proofs.Models.{lit_true_pos, lit_true_neg}
use Rattle.sat_model.specs.Constraint.{constraint_true}
use Rattle.user_propagator.specs.Meaning.{counted_lits}
use Rattle.sat_model.specs.declared.constraint.Constraint.{Constraint}
use Rattle.sat_model.specs.declared.constraint.Constraint.TheVariants.{AtLeast, Parity}
use Rattle.sat_model.specs.declared.constraint.Kind.TheVariants as kinds
use Rattle.user_propagator.specs.Board.{Board, trail_value, empty_trail, with_handed}
use Rattle.user_propagator.specs.Meaning.{Meaning, DependsOnScope, handed_now, IsFalseSeen}
use Rattle.user_propagator.specs.declared.seen.Seen.{Seen}
use Rattle.clause_store.specs.Listing.{times}
use Rattle.card_propagator.specs.Values.{is_false, open_count, open_but}
use Rattle.card_propagator.specs.Following.{is_followed}
use Rattle.card_propagator.specs.Counting.{Counting, bound_of, bound_at, lits_at}

abbrev pub are_kept : Assignment → List Constraint → Bool
are_kept f rules = list_all (constraint_true f) rules

abbrev pub vars_of : Constraint → List ℕ
vars_of c = map var_of (counted_lits c)

-- the literals of a list that are false
abbrev pub fallen : List Seen → List ℕ → List ℕ
fallen seen c = filter (λ x. is_false (trail_value seen x)) c

-- the rule holds the literal, and without it too few positions are open
abbrev pub is_forced : List Seen → ℕ → Constraint → Bool
is_forced seen l r = nat_lt 0 (times (counted_lits r) l) && nat_lt (open_but seen l (counted_lits r)) (bound_of r)

unfoldable pub can_explain : List Constraint → List Seen → ℕ → Bool
can_explain rules seen l = list_any (is_forced seen l) rules

abbrev pub card_meaning : Counting → ℕ → ℕ → Meaning
card_meaning c asked accepted = record { admits = λ f. are_kept f c.rules; scope = flat_map vars_of c.rules; in_step = λ t. is_followed c.table c.level t; explains = λ seen l. can_explain c.rules seen l; steady = true; kinds = kinds.Card ∷ []; asked = asked; accepted = accepted }

-- nothing follows from a rule on this trail
pub record IsQuiet (seen : List Seen) (bound : ℕ) (lits : List ℕ) : Type 0 where
  pub holds : bound ≤ open_count seen lits
  pub spare : (l : ℕ) → trail_value seen l ≡ None → bound ≤ open_but seen l lits

pub record AreQuiet (rules : List Constraint) (seen : List Seen) : Type 0 where
  pub each : (k : ℕ) → k < length rules → IsQuiet seen (bound_at rules k) (lits_at rules k)

-- where nothing was answered and nothing handed, nothing follows
abbrev pub IsQuietIfNone : List Constraint → Board → Board → Option ℕ → Type 0
IsQuietIfNone rules was now None = handed_now was now ≡ [] → AreQuiet rules was.seen
IsQuietIfNone rules was now (Some l) = Unit {0}

-- the variables of the cardinalities are observed
abbrev pub AreAllObserved : List Constraint → Board → Type 0
AreAllObserved rules b = (v : ℕ) → has (flat_map vars_of rules) v ≡ true → has b.observed v ≡ true

-- too few positions of a cardinality are open
pub record HasBroken (rules : List Constraint) (seen : List Seen) : Type 0 where
  pub which : ℕ
  pub within : which < length rules
  pub short : open_count seen (lits_at rules which) < bound_at rules which

-- where all variables are observed, memory is wanted for the clause of a broken cardinality alone
abbrev pub WantsForAClause : List Constraint → Board → Type 0
WantsForAClause rules b = AreAllObserved rules b → HasBroken rules b.seen

-- the false literals of a broken cardinality were handed, to be kept
pub record HandsBroken (rules : List Constraint) (was now : Board) : Type 0 where
  pub which : ℕ
  pub within : which < length rules
  pub short : open_count was.seen (lits_at rules which) < bound_at rules which
  pub left : now ≡ with_handed was (fallen was.seen (lits_at rules which)) false

-- what propagation leaves on the desk: nothing, but for one clause where a cardinality is broken
abbrev pub LeftBy : List Constraint → Board → Board → Option ℕ → Type 0
LeftBy rules was now None = ((now ≡ was) × AreQuiet rules was.seen) ⊎ HandsBroken rules was now
LeftBy rules was now (Some l) = now ≡ was

-- only clauses that are false on the trail are handed
abbrev pub HandsFalse : Board → Board → Type 0
HandsFalse was now = All (λ h. IsFalseSeen was.seen h.clause) (handed_now was now)

-- literals over variables that have the same values
lit_same : (f g : Assignment) (l : ℕ) → f (var_of l) ≡ g (var_of l) → lit_true f l ≡ lit_true g l
lit_same f g l h =
    elim (cases_Bool ((l % 2) == 0)) [
      | inl y ↦ lit_true_pos f l y ∙ h ∙ sym (lit_true_pos g l y)
      | inr n ↦ lit_true_neg f l n ∙ ap not h ∙ sym (lit_true_neg g l n)
    ]

has_head : (x : ℕ) (xs : List ℕ) → has (x ∷ xs) x ≡ true
has_head x xs = or_left (eqb x x) (has xs x) (eq-eqb x x refl)

-- they are as often true
count_same : (f g : Assignment) (c : List ℕ) → ((v : ℕ) → has (map var_of c) v ≡ true → f v ≡ g v) → count_by (lit_true f) c ≡ count_by (lit_true g) c
count_same f g [] h = refl
count_same f g (l ∷ ls) h =
    let same : lit_true f l ≡ lit_true g l = lit_same f g l (h (var_of l) (has_head (var_of l) (map var_of ls))) in
    let rest = count_same f g ls (λ v k. h v (or_right (eqb (var_of l) v) (has (map var_of ls) v) k)) in
    let a : ℕ → ℕ = λ x. cond (lit_true f x) 1 0 in
    let b : ℕ → ℕ = λ x. cond (lit_true g x) 1 0 in
    sum_by-cons a l ls ∙ ap (λ x. cond x 1 0 + count_by (lit_true f) ls) same ∙ ap (λ x. b l + x) rest ∙ sym (sum_by-cons b l ls)

rule_same : (f g : Assignment) (c : Constraint) → ((v : ℕ) → has (vars_of c) v ≡ true → f v ≡ g v) → constraint_true f c ≡ constraint_true g c
rule_same f g (AtLeast b l) h = rw (count_same f g l h) refl
rule_same f g (Parity p l) h = rw (count_same f g l h) refl

kept_same : (f g : Assignment) (rules : List Constraint) → ((v : ℕ) → has (flat_map vars_of rules) v ≡ true → f v ≡ g v) → are_kept f rules ≡ are_kept g rules
kept_same f g [] h = refl
kept_same f g (r ∷ rs) h =
    let first = rule_same f g r (λ v k. h v (has-append_left (vars_of r) (flat_map vars_of rs) v k)) in
    let rest = kept_same f g rs (λ v k. h v (has-append_right (vars_of r) (flat_map vars_of rs) v k)) in
    rw (first, rest) refl

pub card_depends : (c : Counting) (asked accepted : ℕ) → DependsOnScope (card_meaning c asked accepted)
card_depends c asked accepted f g h = kept_same f g c.rules h

-- what a propagator of cardinalities means that was given none
abbrev pub no_cards : Counting
no_cards = record { rules = []; table = []; level = 0 }

-- A propagator that was told and given nothing: it is in step with the empty trail, is steady, takes cardinalities, depends on no
-- variable and admits everything.
pub record IsFresh (t : Meaning) : Type 0 where
  pub in_step : t.in_step empty_trail ≡ true
  pub steady : t.steady ≡ true
  pub card : Contains t.kinds kinds.Card
  pub scope : t.scope ≡ []
  pub everything : (f : Assignment) → t.admits f ≡ true
