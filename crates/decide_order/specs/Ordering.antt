-- The order of decisions.
use Rattle.std.specs.Prelude.{◌≡◌, ◌<◌, ◌≤◌, ℕ, Bool, true, false, if◌then◌else◌, List, length, max, slice_index_or, None, IsSome}
use Rattle.sat_terms.specs.Limits.{max_var}
use Rattle.sat_terms.specs.Literal.{var_of, pos_lit, neg_lit}
use Rattle.trail_state.specs.Trail.{Trace, value_on}
use Rattle.decide_order.specs.Line.{at, Line, IsAhead}
use Rattle.decide_order.specs.Pile.{Pile, IsHeaped}

-- What contracts see of an order: how many variables are declared, a flag for each active one and
-- for each whose saved phase is true, the queue and the heap, and whether the heap decides.
pub record Ordered : Type 0 where
  pub declared : ℕ
  pub active : List Bool
  pub phases : List Bool
  pub queue : Line
  pub heap : Pile
  pub stable : Bool

-- whether a variable is active, and its saved phase
abbrev pub is_active : Ordered → ℕ → Bool
is_active o v = slice_index_or o.active v false

abbrev pub saved_phase : Ordered → ℕ → Bool
saved_phase o v = slice_index_or o.phases v false

-- the literal of a variable in its saved phase
abbrev pub in_phase : Ordered → ℕ → ℕ
in_phase o v = if saved_phase o v then pos_lit v else neg_lit v

-- a variable has no value on the trail
abbrev pub IsFree : Trace → ℕ → Type 0
IsFree t v = value_on t.steps (pos_lit v) ≡ None

-- an active variable with no value
pub record IsOpen (o : Ordered) (t : Trace) (v : ℕ) : Type 0 where
  pub active : is_active o v ≡ true
  pub free : IsFree t v

-- what may be decided: an open variable, in its saved phase
pub record IsPick (o : Ordered) (t : Trace) (l : ℕ) : Type 0 where
  pub open_ : IsOpen o t (var_of l)
  pub phase : l ≡ in_phase o (var_of l)
  pub free : value_on t.steps l ≡ None
  pub known : var_of l ≤ o.declared

-- no open variable was bumped later
abbrev pub IsLatest : Ordered → Trace → ℕ → Type 0
IsLatest o t v = (u : ℕ) → IsOpen o t u → at o.queue.stamps u ≤ at o.queue.stamps v

-- no variable is open
abbrev pub NoneOpen : Ordered → Trace → Type 0
NoneOpen o t = (v : ℕ) → is_active o v ≡ true → IsSome (value_on t.steps (pos_lit v))

-- both find the variable
pub record IsListed (o : Ordered) (v : ℕ) : Type 0 where
  pub queued : IsAhead o.queue v
  pub heaped : IsHeaped o.heap v

-- whatever was found still is
abbrev pub KeepsListed : Ordered → Ordered → Type 0
KeepsListed old new = (v : ℕ) → IsListed old v → IsListed new v

-- The order follows a trail: it will come to each open variable, so that `pick` looks at all of
-- them only before it says that there is none. Callers use the laws of `Order` alone.
pub record Follows (o : Ordered) (t : Trace) : Type 0 where
  pub listed : (v : ℕ) → is_active o v ≡ true → IsFree t v → IsListed o v

-- whatever trail the old one followed, the new one follows
abbrev pub KeepsFollowing : Ordered → Ordered → Type 0
KeepsFollowing old new = (t : Trace) → Follows old t → Follows new t

-- the same variables are declared, and the same of them are active
pub record SameActive (old new : Ordered) : Type 0 where
  pub declared : new.declared ≡ old.declared
  pub active : (v : ℕ) → is_active new v ≡ is_active old v

-- the same variables are declared and active, with the same phases
pub record SameVars (old new : Ordered) : Type 0 where
  pub declared : new.declared ≡ old.declared
  pub active : (v : ℕ) → is_active new v ≡ is_active old v
  pub phase : (v : ℕ) → saved_phase new v ≡ saved_phase old v

-- the variables up to n are declared too, and those that were not before are active with phase true
pub record Declares (old new : Ordered) (n : ℕ) : Type 0 where
  pub declared : new.declared ≡ max old.declared n
  pub old_active : (v : ℕ) → v ≤ old.declared → is_active new v ≡ is_active old v
  pub old_phase : (v : ℕ) → v ≤ old.declared → saved_phase new v ≡ saved_phase old v
  pub new_active : (v : ℕ) → old.declared < v → v ≤ new.declared → is_active new v ≡ true
  pub new_phase : (v : ℕ) → old.declared < v → v ≤ new.declared → saved_phase new v ≡ true

-- the tables of an order belong together
pub record IsOrdered (active phases : List Bool) (queue : Line) (heap : Pile) : Type 0 where
  pub same : heap.count ≡ queue.count
  pub active_room : 0 < queue.count → queue.count < length active
  pub phases_room : 0 < queue.count → queue.count < length phases
  pub only : (v : ℕ) → slice_index_or active v false ≡ true → v ≤ queue.count
  pub named : slice_index_or active 0 false ≡ false
  pub few : queue.count ≤ max_var
