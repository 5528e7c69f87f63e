-- The counts that a propagator of cardinalities keeps.
use Rattle.std.specs.Prelude.{ℕ, ◌≡◌, ◌+◌, ◌<◌, ◌≤◌, ◌^◌, Bool, true, false, List, [], ◌∷◌, length, Option, Some, None, if◌then◌else◌, nat_eq, count_by, slice_index, slice_index_or, slice_set}
use Rattle.sat_terms.specs.Literal.{has, var_of, neg}
use Rattle.flag_set.specs.Work.{Work}
use Rattle.sat_model.specs.Constraint.{kind_of}
use Rattle.user_propagator.specs.Meaning.{counted_lits}
use Rattle.sat_model.specs.declared.constraint.Constraint.{Constraint}
use Rattle.sat_model.specs.declared.constraint.Constraint.TheVariants.{AtLeast, Parity}
use Rattle.sat_model.specs.declared.constraint.Kind.TheVariants.{Card}
use Rattle.card_propagator.specs.declared.told.Told.{Told}
use Rattle.clause_store.specs.Listing.{times}
use Rattle.clause_store.specs.Lists.{occ_at}
use Rattle.card_propagator.specs.Values.{told, value, trues, falses}

-- what a counter shows: its cardinalities in the order of admission, what was told of each variable, and the level
pub record Counting : Type 0 where
  pub rules : List Constraint
  pub table : List (Option Told)
  pub level : ℕ

abbrev pub no_rule : Constraint
no_rule = AtLeast 0 []

abbrev pub rule : List Constraint → ℕ → Constraint
rule rules k = slice_index_or rules k no_rule

abbrev pub bound_of : Constraint → ℕ
bound_of (AtLeast b l) = b
bound_of (Parity p l) = 0

abbrev pub lits_at : List Constraint → ℕ → List ℕ
lits_at rules k = counted_lits (rule rules k)

abbrev pub bound_at : List Constraint → ℕ → ℕ
bound_at rules k = bound_of (rule rules k)

abbrev pub height : Option Told → ℕ
height None = 0
height (Some e) = e.level

-- whether something was told
abbrev pub is_told : Option Told → Bool
is_told None = false
is_told (Some e) = true

-- the lists of the literals name each rule as often as it holds the literal
pub record AreHeld (rules : List Constraint) (holders : List (List ℕ)) (vars : ℕ) : Type 0 where
  pub known : (k l : ℕ) → 0 < times (lits_at rules k) l → (0 < var_of l) × (var_of l < vars)
  pub held : (k l : ℕ) → times (occ_at holders l) k ≡ times (lits_at rules k) l
  pub fits : (k : ℕ) → length (lits_at rules k) < 2 ^ 63
  pub cards : (k : ℕ) → kind_of (rule rules k) ≡ Card

-- the counts are those of the table
pub record AreCounted (rules : List Constraint) (table : List (Option Told)) (true_counts false_counts : List ℕ) : Type 0 where
  pub up_size : length true_counts ≡ length rules
  pub down_size : length false_counts ≡ length rules
  pub up : (k : ℕ) → slice_index true_counts k ≡ trues table (lits_at rules k)
  pub down : (k : ℕ) → slice_index false_counts k ≡ falses table (lits_at rules k)

-- the stack has the variables that were told above the root, by rising levels
pub record AreStacked (table : List (Option Told)) (stack : List ℕ) (level : ℕ) : Type 0 where
  pub stands : (v : ℕ) → times stack v ≡ (if nat_eq (height (told table v)) 0 then 0 else 1)
  pub rising : (i j : ℕ) → i ≤ j → j < length stack → height (told table (slice_index stack i)) ≤ height (told table (slice_index stack j))
  pub below : (v : ℕ) → height (told table v) ≤ level
  pub room : length stack ≤ count_by is_told table
  pub own : (v : ℕ) (e : Told) → told table v ≡ Some e → var_of e.lit ≡ v

-- Nothing follows from the rule: enough positions are open, also without any one literal that is unassigned.
pub record IsSettled (table : List (Option Told)) (bound : ℕ) (lits : List ℕ) : Type 0 where
  pub holds : bound + falses table lits ≤ length lits
  pub spare : (l : ℕ) → value table l ≡ None → bound + falses table lits + times lits l ≤ length lits

-- only rules wait, there is room for all of them, and each that does not wait is settled
pub record AreSettled (rules : List Constraint) (table : List (Option Told)) (queue : Work ℕ) : Type 0 where
  pub within : (k : ℕ) → has queue.members k ≡ true → k < length rules
  pub room : length rules ≤ queue.room
  pub settled : (k : ℕ) → k < length rules → has queue.members k ≡ false → IsSettled table (bound_at rules k) (lits_at rules k)

-- a bound on how often a rule holds a literal
pub record AreHeavy (rules : List Constraint) (heavy : List ℕ) : Type 0 where
  pub size : length heavy ≡ length rules
  pub weighs : (k l : ℕ) → times (lits_at rules k) l ≤ slice_index heavy k

-- The positions of a rule before a place have a value.
pub record ArePassed (rules : List Constraint) (table : List (Option Told)) (starts : List ℕ) : Type 0 where
  pub size : length starts ≡ length rules
  pub passed : (k i : ℕ) → i < slice_index starts k → i < length (lits_at rules k) → is_told (told table (var_of (slice_index (lits_at rules k) i))) ≡ true

-- one that was told above a level was taken back
pub record Undone (old new : List (Option Told)) (above : ℕ) : Type 0 where
  pub var : ℕ
  pub high : above < height (told old var)
  pub table : new ≡ slice_set old var None

-- all that a counter keeps
pub record IsKept (rules : List Constraint) (holders : List (List ℕ)) (table : List (Option Told)) (true_counts false_counts heavy starts : List ℕ) (queue : Work ℕ) (stack : List ℕ) (level space : ℕ) : Type 0 where
  pub held : AreHeld rules holders (length table)
  pub counted : AreCounted rules table true_counts false_counts
  pub stacked : AreStacked table stack level
  pub settled : AreSettled rules table queue
  pub heavy_rules : AreHeavy rules heavy
  pub passed : ArePassed rules table starts
  pub room : length table ≤ space

-- Each rule is a cardinality, and its variables are known.
pub record IsProper (c : Counting) : Type 0 where
  pub known : (k l : ℕ) → 0 < times (lits_at c.rules k) l → (0 < var_of l) × (var_of l < length c.table)
  pub cards : (k : ℕ) → kind_of (rule c.rules k) ≡ Card
