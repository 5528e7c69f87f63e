-- What the placing of a clause's watches does.
use Rattle.std.specs.Prelude.{◌≡◌, ◌≢◌, ◌<◌, ◌≤◌, ◌++◌, ◌==◌, ℕ, Bool, not, List, [], ◌∷◌, length, filter, slice_set, Option, Some}
use Rattle.sat_terms.specs.Literal.{neg}
use Rattle.trail_state.specs.declared.trail.Step.{Step}
use Rattle.trail_state.specs.Trail.{step}
use Rattle.watch_lists.specs.declared.lists.Watch.{Watch}
use Rattle.watch_lists.specs.Watching.{at}
use Rattle.watch_lists.specs.Propagation.{marked}

-- a literal is true at a level that is no higher than that of place i
pub record IsTrueBy (t : List Step) (l i : ℕ) : Type 0 where
  pub place : ℕ
  pub within : place < length t
  pub here : (step t place).lit ≡ l
  pub low : (step t place).level ≤ (step t i).level

-- before the head, where a literal is false, the other one is true at a level that is no higher
abbrev pub IsLow : List Step → ℕ → ℕ → ℕ → Type 0
IsLow t l other head = (i : ℕ) → i < head → i < length t → (step t i).lit ≡ neg l → IsTrueBy t other i

-- a level is known, and no higher than another
pub record IsNoHigher (a b : Option ℕ) : Type 0 where
  pub left : ℕ
  pub right : ℕ
  pub left-is : a ≡ Some left
  pub right-is : b ≡ Some right
  pub low : left ≤ right

-- the lists with the watches of a clause more
abbrev pub with_watch : List (List Watch) → ℕ → Watch → List (List Watch)
with_watch ls l w = slice_set ls l (at ls l ++ w ∷ [])

abbrev pub IsPushed : ℕ → ℕ → ℕ → Bool → List (List Watch) → List (List Watch) → Type 0
IsPushed id a b binary ls ls' = ls' ≡ with_watch (with_watch ls a (record { id = id; blocker = b; binary = binary })) b (record { id = id; blocker = a; binary = binary })

-- the lists once the watches of a clause were taken out of the list of a literal
abbrev pub without : ℕ → List Watch → List Watch
without id ws = filter (λ w. not (w.id == id)) ws

-- each list has the watches of the marked clauses left
pub record IsSwept (marks : List Bool) (ls ls' : List (List Watch)) : Type 0 where
  pub sized : length ls' ≡ length ls
  pub left : (l : ℕ) → at ls' l ≡ filter (λ w. marked marks w.id) (at ls l)

pub record IsTakenOut (id l : ℕ) (ls ls' : List (List Watch)) : Type 0 where
  pub sized : length ls' ≡ length ls
  pub here : at ls' l ≡ without id (at ls l)
  pub others : (k : ℕ) → k ≢ l → at ls' k ≡ at ls k
