-- Good replies to a script (iCNF: each query asks of the clauses above it, under its assumptions).
use Rattle.std.specs.Prelude.{◌≡◌, ◌⊎◌, ℕ, ◌+◌, ◌<◌, max, List, [], ◌∷◌, ◌++◌, length, Contains}
use Rattle.sat_terms.specs.Limits.{max_number}
use Rattle.sat_terms.specs.Answer.{greatest_var, IsModel, IsCore}
use Rattle.icnf_reader.specs.Grammar.{Statement, Clause, Card, Query}
use Rattle.sat_model.specs.declared.constraint.Constraint.TheVariants.{AtLeast}
use Rattle.solver_api.specs.declared.givens.GivenPart.{GivenPart}
use Rattle.solver_api.specs.declared.givens.GivenPart.TheVariants as part
use Rattle.solver_api.specs.Given.{GivenTrue}
use Rattle.reply_text.specs.Reply.{Reply, Sat, Unsat, Unknown}

-- the parts that statements give: their clauses and cardinalities
abbrev pub parts_of : List Statement → List GivenPart
parts_of [] = []
parts_of (Clause c ∷ ss) = part.Clause c ∷ parts_of ss
parts_of (Card b ls ∷ ss) = part.Rule (AtLeast b ls) ∷ parts_of ss
parts_of (Query a ∷ ss) = parts_of ss

-- the greatest variable in statements, 0 if there is none
abbrev pub greatest_in : List Statement → ℕ
greatest_in [] = 0
greatest_in (Clause c ∷ ss) = max (greatest_var c) (greatest_in ss)
greatest_in (Card b ls ∷ ss) = max (greatest_var ls) (greatest_in ss)
greatest_in (Query a ∷ ss) = max (greatest_var a) (greatest_in ss)

-- how many of the statements are queries
abbrev pub query_count : List Statement → ℕ
query_count [] = 0
query_count (Clause c ∷ ss) = query_count ss
query_count (Card b ls ∷ ss) = query_count ss
query_count (Query a ∷ ss) = 1 + query_count ss

-- A good reply to the query of these assumptions below these statements, where so many variables are declared: a model of the
-- parts above and of the assumptions, which gives a value to each variable up to the greatest one so far, and to each declared
-- one; or a core of the assumptions; or UNKNOWN after as many conflicts as the budget has. A budget of 2^62 is none, and no
-- UNKNOWN is good there.
abbrev pub IsGood : ℕ → ℕ → List Statement → List ℕ → Reply → Type 0
IsGood budget vars above a (Sat m) = IsModel (GivenTrue (parts_of above)) a (max vars (max (greatest_in above) (greatest_var a))) m
IsGood budget vars above a (Unsat core) = IsCore (GivenTrue (parts_of above)) a core
IsGood budget vars above a (Unknown conflicts) = (conflicts ≡ budget) × (conflicts < max_number)

-- below these statements and after these replies nothing has a model any more: an empty clause, or an empty core
abbrev pub IsSettled : List Statement → List Reply → Type 0
IsSettled above earlier = Contains above (Clause []) ⊎ Contains earlier (Unsat [])

-- A reply to each query of the script, in order, where each query has this budget of conflicts. Each reply is good, and where
-- all is settled before it, it is the empty core.
pub record GoodReplies (budget vars : ℕ) (script : List Statement) (replies : List Reply) : Type 0 where
  pub one_each : length replies ≡ query_count script
  pub good : (above below : List Statement) (a : List ℕ) (earlier later : List Reply) (r : Reply)
      → script ≡ above ++ Query a ∷ below → replies ≡ earlier ++ r ∷ later → length earlier ≡ query_count above
      → IsGood budget vars above a r × (IsSettled above earlier → r ≡ Unsat [])
