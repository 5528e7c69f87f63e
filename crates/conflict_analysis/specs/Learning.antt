-- What a conflict teaches.
use Rattle.std.specs.List.{list_any, range_with_len}
use Rattle.std.specs.Prelude.{◌≡◌, ◌≢◌, ◌<◌, ◌≤◌, ◌+◌, ◌==◌, ◌⊎◌, min, ℕ, Bool, true, List, Option, Some, Result, Ok, Err, unwrap_or, count_by}
use Rattle.sat_terms.specs.Limits.{max_number}
use Rattle.sat_terms.specs.Literal.{has, var_of}
use Rattle.trail_state.specs.declared.trail.Step.{Step}
use Rattle.trail_state.specs.Trail.{level_on}
use Rattle.conflict_analysis.specs.Counting.{Counted, IsDue}
use Rattle.conflict_analysis.specs.declared.analysis.AnalyzeStop.{AnalyzeStop}
use Rattle.conflict_analysis.specs.declared.analysis.AnalyzeStop.TheVariants.{Conflicts, Callbacks, Memory}
use Rattle.theory_bridge.specs.declared.stop.AskStop.TheVariants as asks
use Rattle.theory_bridge.specs.Shown.{Shown, is_out}
use Rattle.lazy_reasons.specs.Facing.{IsAskDue}

-- the level of a literal, 0 where it has no value
abbrev pub lit_level : List Step → ℕ → ℕ
lit_level t l = unwrap_or (level_on t (var_of l)) 0

-- the clause has a literal of the current level
abbrev pub Reaches : List Step → ℕ → List ℕ → Type 0
Reaches t top c = (l : ℕ) × (has c l ≡ true) × (lit_level t l ≡ top)

-- Of the clause's literals this one alone has the current level, and `back` is the highest level of
-- the others, 0 if there is none.
pub record IsAsserting (t : List Step) (top : ℕ) (c : List ℕ) (l back : ℕ) : Type 0 where
  pub holds : has c l ≡ true
  pub at_top : lit_level t l ≡ top
  pub below : back < top
  pub others : (k : ℕ) → has c k ≡ true → k ≢ l → lit_level t k ≤ back
  pub attained : (back ≡ 0) ⊎ ((k : ℕ) × (has c k ≡ true) × (lit_level t k ≡ back))

-- the literal that is owed asserts
pub record Owes (owed : Option ℕ) (t : List Step) (top : ℕ) (c : List ℕ) (back : ℕ) : Type 0 where
  pub lit : ℕ
  pub is : owed ≡ Some lit
  pub asserting : IsAsserting t top c lit back

-- whether one of the clause's literals has a level
abbrev pub has_level : List Step → List ℕ → ℕ → Bool
has_level t c n = list_any (λ l. lit_level t l == n) c

-- the number of levels of a clause's literals
abbrev pub glue_of : List Step → ℕ → List ℕ → ℕ
glue_of t top c = count_by (has_level t c) (range_with_len 0 (top + 1))

-- a conflict was counted, which the budget allowed
pub record Rises (old new : Counted) : Type 0 where
  pub allowed : IsDue old.count old.budget → ⊥
  pub count : new.count ≡ min (old.count + 1) max_number
  pub total : new.total ≡ min (old.total + 1) max_number
  pub budget : new.budget ≡ old.budget
  pub unspent : new.is_spent ≡ old.is_spent

-- why an analysis stopped, and what it leaves of the tally
abbrev pub Stops : AnalyzeStop → Counted → Counted → Type 0
Stops (Conflicts n) old new = (n ≡ old.count) × IsDue n old.budget × (new ≡ record old { is_spent = true })
Stops (Callbacks n) old new = (IsDue old.count old.budget → ⊥) × (new ≡ old)
Stops Memory old new = (IsDue old.count old.budget → ⊥) × (new ≡ old)

-- How an analysis leaves the bridge: spent exactly where it answers Callbacks, which it does where no callback is left. Where it
-- answers Conflicts the box was not called.
abbrev pub ClosedBy : AnalyzeStop → Shown → Shown → Type 0
ClosedBy (Conflicts n) old new = new ≡ old
ClosedBy (Callbacks n) old new = (n ≡ new.count) × (is_out new ≡ true) × (new.spent ≡ true)
ClosedBy Memory old new = new.spent ≡ old.spent

abbrev pub Closed : {A : Type 0} → Result A AnalyzeStop → Shown → Shown → Type 0
Closed (Ok a) old new = new.spent ≡ old.spent
Closed (Err e) old new = ClosedBy e old new

-- where it stopped at a callback, one was due
abbrev pub IsDueOn : AnalyzeStop → List Step → Type 0
IsDueOn (Conflicts n) t = Unit {0}
IsDueOn (Callbacks n) t = IsAskDue (asks.Callbacks n) t
IsDueOn Memory t = Unit {0}
