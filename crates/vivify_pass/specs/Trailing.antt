-- A trail on which literals are assumed, over the firm clauses but one, and its root.
use Rattle.std.specs.Prelude.{◌≡◌, ◌≢◌, ◌⊎◌, ◌+◌, ◌++◌, ◌∷◌, ◌==◌, ℕ, ◌<◌, ◌≤◌, true, List, [], length, Option, if◌then◌else◌}
use Rattle.sat_terms.specs.Literal.{has, neg}
use Rattle.sat_terms.specs.Truth.{Implies}
use Rattle.sat_terms.specs.Normal.{IsNormal}
use Rattle.sat_terms.specs.Answer.{Within}
use Rattle.clause_store.specs.Stored.{Stored, slot, slot_lits, is_firm, FirmTrue}
use Rattle.trail_state.specs.declared.trail.Step.{Step}
use Rattle.trail_state.specs.Trail.{Trace, step, true_on}
use Rattle.trail_state.specs.Clauses.{IsReason}
use Rattle.watch_lists.specs.Propagation.{Watching, Follows, AllReady, AllQuiet}
use Rattle.vivify_pass.specs.declared.probe.Look.{Look}
use Rattle.vivify_pass.specs.declared.probe.Look.TheVariants.{False, True, Open}
use Rattle.firm_terms.specs.Vivifying.{Forced, Fails, Vivifies, Calm}

-- the ids are those of the firm clauses but one
pub record AreOthers (s : List (Option Stored)) (id : ℕ) (ids : List ℕ) : Type 0 where
  pub sound : (k : ℕ) → has ids k ≡ true → (k ≢ id) × (is_firm (slot s k) ≡ true)
  pub whole : (k : ℕ) → k ≢ id → is_firm (slot s k) ≡ true → has ids k ≡ true

-- each literal of the trail is forced by what is given
abbrev pub AreForced : List (Option Stored) → ℕ → List ℕ → List Step → Type 0
AreForced s id given t = (i : ℕ) → i < length t → Forced s id given (step t i).lit

-- what is given is true on the trail
abbrev pub AreTrue : List ℕ → List Step → Type 0
AreTrue given t = (l : ℕ) → has given l ≡ true → true_on t l ≡ true

-- what is true on a trail from given literals, over the firm clauses but one
pub record Probes (s : List (Option Stored)) (id : ℕ) (given : List ℕ) (w : Watching) (t : Trace)
    : Type 0 where
  pub others : AreOthers s id w.attached
  pub ready : AllReady w.attached s t.declared
  pub follows : Follows w s t
  pub forced : AreForced s id given t.steps
  pub given_true : AreTrue given t.steps

-- what a look after propagation says of a clause c
abbrev pub Looked : List (Option Stored) → ℕ → List ℕ → List ℕ → List Step → Look → Type 0
Looked s id given c t False = Fails s id given
Looked s id given c t (True l) = (Fails s id given → ⊥) × (has c l ≡ true) × (true_on t l ≡ true)
    × ((m : ℕ) → Forced s id given m → true_on t m ≡ true)
Looked s id given c t Open = (Fails s id given → ⊥)
    × ((l : ℕ) → has c l ≡ true → Forced s id given l → ⊥)
    × ((l : ℕ) → Forced s id given l → true_on t l ≡ true)

-- The steps from a to b are as many as literals were assumed, which are all n of the new clause,
-- or all but the last one, which was found true.
abbrev pub IsCount : ℕ → ℕ → ℕ → Type 0
IsCount a b n = (b ≡ a + n) ⊎ (b + 1 ≡ a + n)

-- where no clause was false, the trail has what the given literals make true
abbrev pub Leaves : List (Option Stored) → ℕ → List ℕ → Watching → Trace → Look → Type 0
Leaves s id given w t False = Unit {0}
Leaves s id given w t (True l) = Probes s id given w t
Leaves s id given w t Open = Probes s id given w t

-- what came out of the rule: it is the rule's result, not longer than the clause, and as long
-- only where the clause is calm
pub record Probed (s : List (Option Stored)) (id : ℕ) (c new : List ℕ) : Type 0 where
  pub made : Vivifies s id c [] c new
  pub short : length new ≤ length c
  pub calm : length c ≤ length new → Calm s id c
  pub normal : IsNormal new
  pub within : (l : ℕ) → has new l ≡ true → has c l ≡ true

-- a shorter form of the clause of an id, or the clause itself, which is calm then
pub record Found (s : List (Option Stored)) (id : ℕ) (c new : List ℕ) : Type 0 where
  pub short : length new ≤ length c
  pub calm : length c ≤ length new → Calm s id c
  pub normal : IsNormal new
  pub within : (l : ℕ) → has new l ≡ true → has c l ≡ true
  pub implied : Implies (FirmTrue s) new

-- whatever the rule makes of the clause c of an id, it is the new clause
abbrev pub OnlyMakes : List (Option Stored) → ℕ → List ℕ → List ℕ → Type 0
OnlyMakes s id c new = (other : List ℕ) → Vivifies s id c [] c other → other ≡ new

-- the trail begins with the steps of its root, and what follows stands above it
pub record IsOver (root t : List Step) : Type 0 where
  pub tail : List Step
  pub steps : t ≡ root ++ tail
  pub above : (i : ℕ) → length root ≤ i → i < length t → 0 < (step t i).level

-- one of the clauses of some ids implies the step at place i by the steps before it
pub record IsRooted (ids : List ℕ) (s : List (Option Stored)) (t : List Step) (i : ℕ)
    : Type 0 where
  pub by : ℕ
  pub attached : has ids by ≡ true
  pub implied : IsReason (slot_lits (slot s by)) t i

abbrev pub AreRooted : List ℕ → List (Option Stored) → List Step → Type 0
AreRooted ids s t = (i : ℕ) → i < length t → IsRooted ids s t i

-- the clause c is a reason for no step
abbrev pub NoneRests : List ℕ → List Step → Type 0
NoneRests c t = (i : ℕ) → i < length t → IsReason c t i → ⊥

-- the new clause holds the literals for which the clause c is a reason
abbrev pub KeepsRoot : List ℕ → List ℕ → List Step → Type 0
KeepsRoot c new t = (i : ℕ) → i < length t → IsReason c t i → has new (step t i).lit ≡ true

-- where anything is true on the trail, nothing more follows from the clauses of some ids
abbrev pub IsSettled : List ℕ → List (Option Stored) → List Step → Type 0
IsSettled ids s t = (l : ℕ) → true_on t l ≡ true → AllQuiet ids s t

-- one literal of the clause is true, and all others are false
pub record IsHeld (t : List Step) (c : List ℕ) (l : ℕ) : Type 0 where
  pub holds : has c l ≡ true
  pub on : true_on t l ≡ true
  pub off : (m : ℕ) → has c m ≡ true → m ≢ l → true_on t (neg m) ≡ true

-- the first literal of a clause and another one, or the first alone where it is that one
abbrev pub held_form : List ℕ → ℕ → List ℕ
held_form [] l = []
held_form (x ∷ c) l = if x == l then x ∷ [] else x ∷ l ∷ []

-- the lists have every firm clause, and the trail, on which these make every literal true, all
-- their variables
pub record Ready (s : List (Option Stored)) (w : Watching) (t : Trace) : Type 0 where
  pub sound : (k : ℕ) → has w.attached k ≡ true → is_firm (slot s k) ≡ true
  pub whole : (k : ℕ) → is_firm (slot s k) ≡ true → has w.attached k ≡ true
  pub known : (k : ℕ) → is_firm (slot s k) ≡ true → Within t.declared (slot_lits (slot s k))
  pub lists : t.declared ≤ w.declared
  pub follows : Follows w s t
  pub rooted : AreRooted w.attached s t.steps
