-- A declared number of variables and a bound are in range, and no cardinality comes where none may.
use Rattle.std.proofs.Common.{◌≡◌, sym, refl, subst, arith, ℕ, ◌≤◌, Bool, true, false, List, [], ltb}
use Rattle.std.specs.Prelude.{codes, ◌&&◌, not, if◌then◌else◌}
use Rattle.std.specs.Str.{bytes_eq}
use Rattle.std.proofs.lemmas.Bool.Decides.{nat_tests}
use Rattle.sat_terms.specs.Limits.{max_var, max_number}
use Rattle.icnf_reader.specs.Numbers.{place_of, plain_place, are_digits, number_from, IsAtMost}
use Rattle.icnf_reader.specs.Grammar.{has_cards, allowed_by}
use Rattle.icnf_reader.specs.Outcomes.{doing, in_statement, opened, resting, closed, vars_place, clauses_place, first_told, bound_place}
use Rattle.icnf_reader.specs.ReadState.{IsDeclared, NoneOutside, HasBound, IsNoCard, takes_cards}
use Rattle.icnf_reader.specs.declared.item.Allowed.{Allowed}
use Rattle.icnf_reader.specs.declared.item.Heads.{Heads}
use Rattle.icnf_reader.specs.declared.item.Header.{Header}
use Rattle.icnf_reader.specs.declared.item.HeadKind.{HeadKind}
use Rattle.icnf_reader.specs.declared.item.HeadKind.TheVariants.{Cnf, Knf, Inc}
use Rattle.icnf_reader.specs.declared.item.Why.TheVariants.{HeaderExpected}
use Rattle.icnf_reader.specs.declared.reader.Mode.{Mode}
use Rattle.icnf_reader.specs.declared.reader.Mode.TheVariants.{Start, Kind, Vars, Clauses, Between, InClause, InQuery, Bound, InCard}
use Rattle.icnf_reader.specs.declared.numbers.LitWord.{LitWord}
use Rattle.icnf_reader.specs.declared.numbers.LitWord.TheVariants.{Zero, Literal, Large, Other}
use Rattle.icnf_reader.specs.declared.numbers.PlainWord.{PlainWord}
use Rattle.icnf_reader.specs.declared.numbers.PlainWord.TheVariants as plain
use Rattle.icnf_reader.specs.declared.reader.Meaning.{Meaning}
use Rattle.icnf_reader.specs.declared.reader.Meaning.TheVariants.{Enters, Adds, Closes, Heading, Wrong}
use Rattle.icnf_reader.proofs.Modes.{kind_cases}

pub plain_most : (most : ℕ) (w : List ℕ) → IsAtMost most (plain_place most w)
plain_most most w = on (not (are_digits w)) (ltb most (number_from 0 w)) refl
  where
    on : (a b : Bool) → ltb most (number_from 0 w) ≡ b → IsAtMost most (if a then plain.Other else if b then plain.Large else plain.Value (number_from 0 w))
    on true b e = tt
    on false true e = tt
    on false false e = grind (arith, nat_tests)

-- what holds of the place that a word enters, of the header that it ends, and of nothing else
abbrev LeadsTo : (Mode → Type 0) → (Header → Allowed → Type 0) → Meaning → Type 0
LeadsTo P Q (Enters k) = P k
LeadsTo P Q (Heading h may) = Q h may
LeadsTo P Q mean = Unit {0}

inside_with : (P : Mode → Type 0) (Q : Header → Allowed → Type 0) (x : LitWord) → LeadsTo P Q (in_statement x)
inside_with P Q Zero = tt
inside_with P Q (Literal l) = tt
inside_with P Q Large = tt
inside_with P Q Other = tt

-- a header's declared number of variables is in range
abbrev InRange : Header → Allowed → Type 0
InRange h may = h.vars ≤ max_var

-- what a word leads to is in range
declares : (m : Mode) (w : List ℕ) → IsDeclared m → LeadsTo IsDeclared InRange (doing m w)
declares (Start heads) w d = on (bytes_eq w (codes "p"))
  where
    on : (b : Bool) → LeadsTo IsDeclared InRange (if b then Enters (Kind heads) else Wrong HeaderExpected)
    on true = tt
    on false = tt
declares (Kind heads) w d = kind_cases heads w (LeadsTo IsDeclared InRange) (λ kind n. tt) (λ h is. omega arith) tt
declares (Vars heads kind) w d = on (plain_place max_var w) (plain_most max_var w)
  where
    on : (x : PlainWord) → IsAtMost max_var x → LeadsTo IsDeclared InRange (vars_place heads kind x)
    on (plain.Value n) h = h
    on plain.Large h = tt
    on plain.Other h = tt
declares (Clauses heads kind vars) w d = on (plain_place max_number w)
  where
    on : (x : PlainWord) → LeadsTo IsDeclared InRange (clauses_place heads kind vars x)
    on (plain.Value n) = d
    on plain.Large = tt
    on plain.Other = tt
declares (Between may) w d = on (may.queries && bytes_eq w (codes "a")) (may.cards && bytes_eq w (codes "k"))
  where
    on : (a k : Bool) → LeadsTo IsDeclared InRange (first_told may a k (place_of w))
    on true k = tt
    on false true = tt
    on false false = inside_with IsDeclared InRange (place_of w)
declares (InClause may) w d = inside_with IsDeclared InRange (place_of w)
declares (InQuery may) w d = inside_with IsDeclared InRange (place_of w)
declares (Bound may) w d = on (plain_place max_number w) (plain_most max_number w)
  where
    on : (x : PlainWord) → IsAtMost max_number x → LeadsTo IsDeclared InRange (bound_place may x)
    on (plain.Value n) h = h
    on plain.Large h = tt
    on plain.Other h = tt
declares (InCard may b) w d = inside_with IsDeclared InRange (place_of w)

pub entered_declared : (m : Mode) (w : List ℕ) (k : Mode) → IsDeclared m → doing m w ≡ Enters k → IsDeclared k
entered_declared m w k d e = subst (LeadsTo IsDeclared InRange) e (declares m w d)

-- the header that a word ends
pub heading_declared : (m : Mode) (w : List ℕ) (h : Header) (may : Allowed) → IsDeclared m → doing m w ≡ Heading h may → h.vars ≤ max_var
heading_declared m w h may d e = subst (LeadsTo IsDeclared InRange) e (declares m w d)

pub opened_declared : (m : Mode) → IsDeclared m → IsDeclared (opened m)
opened_declared (Start heads) h = h
opened_declared (Kind heads) h = h
opened_declared (Vars heads kind) h = h
opened_declared (Clauses heads kind vars) h = h
opened_declared (Between may) h = tt
opened_declared (InClause may) h = tt
opened_declared (InQuery may) h = tt
opened_declared (Bound may) h = tt
opened_declared (InCard may b) h = h

pub resting_declared : (m : Mode) → IsDeclared (resting m)
resting_declared (Start heads) = tt
resting_declared (Kind heads) = tt
resting_declared (Vars heads kind) = tt
resting_declared (Clauses heads kind vars) = tt
resting_declared (Between may) = tt
resting_declared (InClause may) = tt
resting_declared (InQuery may) = tt
resting_declared (Bound may) = tt
resting_declared (InCard may b) = tt

-- the bound of what is closed
pub closed_bound : (m : Mode) (lits : List ℕ) → IsDeclared m → HasBound (closed m lits)
closed_bound (Start heads) lits h = tt
closed_bound (Kind heads) lits h = tt
closed_bound (Vars heads kind) lits h = tt
closed_bound (Clauses heads kind vars) lits h = tt
closed_bound (Between may) lits h = tt
closed_bound (InClause may) lits h = tt
closed_bound (InQuery may) lits h = tt
closed_bound (Bound may) lits h = tt
closed_bound (InCard may b) lits h = h

-- no cardinality comes
abbrev TakesNone : Mode → Type 0
TakesNone m = takes_cards m ≡ false

abbrev AllowsNone : Header → Allowed → Type 0
AllowsNone h may = may.cards ≡ false

-- under no kind of header, where cardinalities are not in the grammar
none_allowed : (heads : Heads) (kind : HeadKind) → has_cards heads ≡ false → (allowed_by heads kind).cards ≡ false
none_allowed heads Cnf h = refl
none_allowed heads Knf h = h
none_allowed heads Inc h = h

takes_none : (m : Mode) (w : List ℕ) → TakesNone m → LeadsTo TakesNone AllowsNone (doing m w)
takes_none (Start heads) w d = on (bytes_eq w (codes "p"))
  where
    on : (b : Bool) → LeadsTo TakesNone AllowsNone (if b then Enters (Kind heads) else Wrong HeaderExpected)
    on true = d
    on false = tt
takes_none (Kind heads) w d = kind_cases heads w (LeadsTo TakesNone AllowsNone) (λ kind n. none_allowed heads kind d) (λ h is. none_allowed heads Inc d) tt
takes_none (Vars heads kind) w d = on (plain_place max_var w)
  where
    on : (x : PlainWord) → LeadsTo TakesNone AllowsNone (vars_place heads kind x)
    on (plain.Value n) = d
    on plain.Large = tt
    on plain.Other = tt
takes_none (Clauses heads kind vars) w d = on (plain_place max_number w)
  where
    on : (x : PlainWord) → LeadsTo TakesNone AllowsNone (clauses_place heads kind vars x)
    on (plain.Value n) = d
    on plain.Large = tt
    on plain.Other = tt
takes_none (Between may) w d =
    subst (λ c. LeadsTo TakesNone AllowsNone (first_told may (may.queries && bytes_eq w (codes "a")) (c && bytes_eq w (codes "k")) (place_of w))) (sym d) (on (may.queries && bytes_eq w (codes "a")))
  where
    on : (a : Bool) → LeadsTo TakesNone AllowsNone (first_told may a false (place_of w))
    on true = d
    on false = inside_with TakesNone AllowsNone (place_of w)
takes_none (InClause may) w d = inside_with TakesNone AllowsNone (place_of w)
takes_none (InQuery may) w d = inside_with TakesNone AllowsNone (place_of w)
takes_none (Bound may) w d = cc
takes_none (InCard may b) w d = cc

pub entered_takes : (m : Mode) (w : List ℕ) (k : Mode) → takes_cards m ≡ false → doing m w ≡ Enters k → takes_cards k ≡ false
entered_takes m w k d e = subst (LeadsTo TakesNone AllowsNone) e (takes_none m w d)

pub heading_takes : (m : Mode) (w : List ℕ) (h : Header) (may : Allowed) → takes_cards m ≡ false → doing m w ≡ Heading h may → may.cards ≡ false
heading_takes m w h may d e = subst (LeadsTo TakesNone AllowsNone) e (takes_none m w d)

pub opened_takes : (m : Mode) → takes_cards m ≡ false → takes_cards (opened m) ≡ false
opened_takes (Start heads) h = h
opened_takes (Kind heads) h = h
opened_takes (Vars heads kind) h = h
opened_takes (Clauses heads kind vars) h = h
opened_takes (Between may) h = h
opened_takes (InClause may) h = h
opened_takes (InQuery may) h = h
opened_takes (Bound may) h = h
opened_takes (InCard may b) h = h

pub resting_takes : (m : Mode) → takes_cards m ≡ false → takes_cards (resting m) ≡ false
resting_takes (Start heads) h = refl
resting_takes (Kind heads) h = refl
resting_takes (Vars heads kind) h = refl
resting_takes (Clauses heads kind vars) h = refl
resting_takes (Between may) h = h
resting_takes (InClause may) h = h
resting_takes (InQuery may) h = h
resting_takes (Bound may) h = cc
resting_takes (InCard may b) h = cc

pub closed_no_card : (m : Mode) (lits : List ℕ) → takes_cards m ≡ false → IsNoCard (closed m lits)
closed_no_card (Start heads) lits h = tt
closed_no_card (Kind heads) lits h = tt
closed_no_card (Vars heads kind) lits h = tt
closed_no_card (Clauses heads kind vars) lits h = tt
closed_no_card (Between may) lits h = tt
closed_no_card (InClause may) lits h = tt
closed_no_card (InQuery may) lits h = tt
closed_no_card (Bound may) lits h = cc
closed_no_card (InCard may b) lits h = cc

-- no literal stands outside a statement
pub empty_outside : (m : Mode) (lits : List ℕ) → lits ≡ [] → NoneOutside m lits
empty_outside (Start heads) lits e = e
empty_outside (Kind heads) lits e = e
empty_outside (Vars heads kind) lits e = e
empty_outside (Clauses heads kind vars) lits e = e
empty_outside (Between may) lits e = e
empty_outside (InClause may) lits e = tt
empty_outside (InQuery may) lits e = tt
empty_outside (Bound may) lits e = e
empty_outside (InCard may b) lits e = tt

-- no literal stands where a word enters a place, or ends the header
abbrev none_with : List ℕ → Meaning → Type 0
none_with lits mean = LeadsTo (λ k. lits ≡ []) (λ h may. lits ≡ []) mean

none_known : (lits : List ℕ) (mean : Meaning) → lits ≡ [] → none_with lits mean
none_known lits (Enters k) h = h
none_known lits (Adds l) h = tt
none_known lits Closes h = tt
none_known lits (Heading x may) h = h
none_known lits (Wrong why) h = tt

none_read : (m : Mode) (w lits : List ℕ) → NoneOutside m lits → none_with lits (doing m w)
none_read (Start heads) w lits h = none_known lits (doing (Start heads) w) h
none_read (Kind heads) w lits h = none_known lits (doing (Kind heads) w) h
none_read (Vars heads kind) w lits h = none_known lits (doing (Vars heads kind) w) h
none_read (Clauses heads kind vars) w lits h = none_known lits (doing (Clauses heads kind vars) w) h
none_read (Between may) w lits h = none_known lits (doing (Between may) w) h
none_read (InClause may) w lits h = inside_with (λ k. lits ≡ []) (λ x to. lits ≡ []) (place_of w)
none_read (InQuery may) w lits h = inside_with (λ k. lits ≡ []) (λ x to. lits ≡ []) (place_of w)
none_read (Bound may) w lits h = none_known lits (doing (Bound may) w) h
none_read (InCard may b) w lits h = inside_with (λ k. lits ≡ []) (λ x to. lits ≡ []) (place_of w)

pub entered_empty : (m : Mode) (w lits : List ℕ) (k : Mode) → NoneOutside m lits → doing m w ≡ Enters k → lits ≡ []
entered_empty m w lits k h e = subst (none_with lits) e (none_read m w lits h)

pub heading_empty : (m : Mode) (w lits : List ℕ) (x : Header) (may : Allowed) → NoneOutside m lits → doing m w ≡ Heading x may → lits ≡ []
heading_empty m w lits x may h e = subst (none_with lits) e (none_read m w lits h)
