-- A group of variables of which at most one is true, and what its propagator knows of a seen trail.
use Rattle.std.specs.Prelude.{ℕ, ◌≡◌, ◌≢◌, ◌↔◌, ◌⊎◌, ◌==◌, ◌%◌, ◌&&◌, ◌||◌, not, Bool, true, false, nat_le, if◌then◌else◌}
use Rattle.std.specs.Prelude.{List, [], ◌∷◌, take, find, Option, Some, None}
use Rattle.std.specs.List.{list_all}
use Rattle.sat_terms.specs.Literal.{has, neg, var_of, pos_lit, neg_lit}
use Rattle.sat_terms.specs.Truth.{Assignment}
use Rattle.user_propagator.specs.declared.seen.Seen.{Seen}
use Rattle.user_propagator.specs.Board.{Board, SeenTrail, empty_board, trail_value, with_handed}
use Rattle.user_propagator.specs.Meaning.{Meaning, InStep}

-- two members that are both true are the same one: at most one member is true
pub record NoTwo (f : Assignment) (group : List ℕ) : Type 0 where
  pub same : (u v : ℕ) → has group u ≡ true → has group v ≡ true → f u ≡ true → f v ≡ true → u ≡ v

-- the same as a test
abbrev pub no_two : Assignment → List ℕ → Bool
no_two f group = list_all (λ u. list_all (λ v. (u == v) || not (f u && f v)) group) group

-- whether a literal makes a member true, and whether it makes one false
abbrev pub is_true_member : List ℕ → ℕ → Bool
is_true_member group l = (l % 2 == 0) && has group (var_of l)

abbrev pub is_false_member : List ℕ → ℕ → Bool
is_false_member group l = not (l % 2 == 0) && has group (var_of l)

abbrev pub is_false : Option Bool → Bool
is_false None = false
is_false (Some true) = false
is_false (Some false) = true

-- A literal is explained where it makes a member false, and the member that the seen trail made
-- true first is another one and is true there.
abbrev pub is_explained_by : List ℕ → List Seen → ℕ → Option Seen → Bool
is_explained_by group seen l None = false
is_explained_by group seen l (Some c) =
    (is_false_member group l && not (l == neg c.lit)) && is_false (trail_value seen (neg c.lit))

abbrev pub explains_group : List ℕ → List Seen → ℕ → Bool
explains_group group seen l =
    is_explained_by group seen l (find (λ e. is_true_member group e.lit) seen)

-- no member is true on the seen trail
abbrev pub none_true : List ℕ → List Seen → Bool
none_true group seen = list_all (λ e. not (is_true_member group e.lit)) seen

-- The chosen literal is the first on the seen trail that makes a member true: it stands there at
-- its level, its negation does not stand before it, and what came later came at no lower level.
abbrev pub leads : List ℕ → Seen → List Seen → Bool
leads group c [] = false
leads group c (e ∷ es) =
    if is_true_member group e.lit
    then ((e.lit == c.lit) && (e.level == c.level)) && list_all (λ x. nat_le c.level x.level) es
    else (not (e.lit == neg c.lit) && leads group c es)

-- a member is the chosen one, or false on the seen trail
abbrev pub is_settled : List Seen → ℕ → ℕ → Bool
is_settled seen chosen v = (pos_lit v == chosen) || is_false (trail_value seen (pos_lit v))

-- What the propagator remembers is right for a seen trail: the level, the chosen literal, and that
-- the members before a place are settled.
abbrev pub follows : List ℕ → Option Seen → ℕ → ℕ → SeenTrail → Bool
follows group None passed level t = (t.level == level) && none_true group t.seen
follows group (Some c) passed level t =
    ((t.level == level) && nat_le c.level level)
    && (leads group c t.seen && list_all (is_settled t.seen c.lit) (take passed group))

abbrev pub group_meaning : List ℕ → Option Seen → ℕ → ℕ → ℕ → Meaning
group_meaning group chosen passed level asked = record {
  admits = λ f. no_two f group;
  scope = group;
  in_step = follows group chosen passed level;
  explains = explains_group group;
  steady = true;
  kinds = [];
  asked = asked;
  accepted = 0;
}

-- What a propagator for a group means before its first callback: it admits the assignments under
-- which at most one member is true, its scope is the group, and it is in step with the empty trail.
pub record IsNewFor (group : List ℕ) (t : Meaning) : Type 0 where
  pub admits : (f : Assignment) → (t.admits f ≡ true) ↔ NoTwo f group
  pub scope : (v : ℕ) → has t.scope v ≡ has group v
  pub in_step : InStep t empty_board
  pub steady : t.steady ≡ true
  pub kinds : t.kinds ≡ []
  pub asked : t.asked ≡ 0
  pub accepted : t.accepted ≡ 0

-- If the group is observed: where a member is true on the seen trail, every other one is false there.
pub record IsSettled (b : Board) (group : List ℕ) : Type 0 where
  pub others : ((v : ℕ) → has group v ≡ true → has b.observed v ≡ true)
      → (u v : ℕ) → has group u ≡ true → has group v ≡ true → u ≢ v
      → trail_value b.seen (pos_lit u) ≡ Some true → trail_value b.seen (pos_lit v) ≡ Some false

-- Two different members are true on the seen trail, and the clause was handed that says that one
-- of them is false.
pub record HandsTwo (group : List ℕ) (was now : Board) (u v : ℕ) : Type 0 where
  pub first : has group u ≡ true
  pub second : has group v ≡ true
  pub apart : u ≢ v
  pub holds : trail_value was.seen (pos_lit u) ≡ Some true
  pub holds_too : trail_value was.seen (pos_lit v) ≡ Some true
  pub handed : now ≡ with_handed was (neg_lit u ∷ neg_lit v ∷ []) false

-- what `propagate` leaves on the desk beside its answer, and what `check` does
abbrev pub Spoken : List ℕ → Board → Board → Option ℕ → Type 0
Spoken group was now (Some l) = (now ≡ was) × (is_false_member group l ≡ true)
Spoken group was now None = (now ≡ was) ⊎ ((u : ℕ) × (v : ℕ) × HandsTwo group was now u v)

abbrev pub Judged : List ℕ → Board → Board → Bool → Type 0
Judged group was now true = now ≡ was
Judged group was now false = (u : ℕ) × (v : ℕ) × HandsTwo group was now u v

-- what stays of the chosen literal at a way back to a level
abbrev pub kept_at : ℕ → Option Seen → Option Seen
kept_at level None = None
kept_at level (Some c) = if nat_le c.level level then Some c else None

-- a variable is false, or a given one
abbrev pub is_false_or : Assignment → ℕ → ℕ → Bool
is_false_or f one v = (v == one) || not (f v)

-- a member is true
pub record IsTrueIn (f : Assignment) (group : List ℕ) (v : ℕ) : Type 0 where
  pub member : has group v ≡ true
  pub holds : f v ≡ true

-- two different members are true
pub record AreTwo (f : Assignment) (group : List ℕ) (two : ℕ × ℕ) : Type 0 where
  pub first : has group two.0 ≡ true
  pub second : has group two.1 ≡ true
  pub apart : two.0 ≢ two.1
  pub holds : f two.0 ≡ true
  pub holds_too : f two.1 ≡ true
