-- The requests on a desk: by kind, and in the order in which they are taken.
use Rattle.std.specs.Prelude.{ℕ, ◌≡◌, ◌++◌, List, [], ◌∷◌, Option, Some, None, map}
use Rattle.std.specs.Option.{option_to_list}
use Rattle.user_propagator.specs.Board.{Board, Handed}
use Rattle.user_propagator.specs.declared.request.Request.{Request}
use Rattle.user_propagator.specs.declared.request.Request.TheVariants.{Observe, Clause, Back}

-- the requests by kind
pub record Waiting : Type 0 where
  pub wanted : List ℕ
  pub handed : List Handed
  pub back : Option ℕ

abbrev pub nothing_waiting : Waiting
nothing_waiting = record { wanted = []; handed = []; back = None }

abbrev pub waiting_of : Board → Waiting
waiting_of b = record { wanted = b.wanted; handed = b.handed; back = b.back }

abbrev pub clause_request : Handed → Request
clause_request h = Clause h.clause h.forgettable

abbrev pub back_requests : Option ℕ → List Request
back_requests None = []
back_requests (Some level) = Back level ∷ []

-- variables before clauses before going back, each kind in the order of asking
abbrev pub requests : Waiting → List Request
requests w = map Observe w.wanted ++ (map clause_request w.handed ++ back_requests w.back)

abbrev pub first : List Request → Option Request
first [] = None
first (r ∷ rs) = Some r

abbrev pub rest : List Request → List Request
rest [] = []
rest (r ∷ rs) = rs

-- what waits, by kind, once the first request was taken off
abbrev pub rest_of : List ℕ → List Handed → Option ℕ → Waiting
rest_of (v ∷ vs) cs back = record { wanted = vs; handed = cs; back = back }
rest_of [] (c ∷ cs) back = record { wanted = []; handed = cs; back = back }
rest_of [] [] back = nothing_waiting

abbrev pub without_first : Waiting → Waiting
without_first w = rest_of w.wanted w.handed w.back

-- a desk once the first request was taken off
abbrev pub desk_without : Board → Waiting → Board
desk_without b w = record b { wanted = w.wanted; handed = w.handed; back = w.back }

-- requests of one kind, as what they ask for
abbrev pub vars_in : List Request → List ℕ
vars_in [] = []
vars_in (Observe v ∷ rs) = v ∷ vars_in rs
vars_in (Clause c f ∷ rs) = vars_in rs
vars_in (Back n ∷ rs) = vars_in rs

abbrev pub clauses_in : List Request → List Handed
clauses_in [] = []
clauses_in (Observe v ∷ rs) = clauses_in rs
clauses_in (Clause c f ∷ rs) = record { clause = c; forgettable = f } ∷ clauses_in rs
clauses_in (Back n ∷ rs) = clauses_in rs

abbrev pub level_in : Option Request → Option ℕ
level_in (Some (Back n)) = Some n
level_in (Some (Observe v)) = None
level_in (Some (Clause c f)) = None
level_in None = None

-- the list holds requests of one kind alone
pub record AreVars (rs : List Request) : Type 0 where
  pub same : rs ≡ map Observe (vars_in rs)

pub record AreClauses (rs : List Request) : Type 0 where
  pub same : rs ≡ map clause_request (clauses_in rs)

pub record IsLevel (r : Option Request) : Type 0 where
  pub same : option_to_list r ≡ back_requests (level_in r)
