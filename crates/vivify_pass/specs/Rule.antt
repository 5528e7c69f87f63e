-- What the laws of vivification say.
use Rattle.std.specs.Prelude.{◌≡◌, ℕ, ◌≤◌, true, List, [], length, Option}
use Rattle.sat_terms.specs.Truth.{Implies}
use Rattle.clause_store.specs.Stored.{Stored, slot, is_firm, FirmTrue}
use Rattle.firm_terms.specs.Firm.{NoneCame}
use Rattle.firm_terms.specs.Vivifying.{Vivifies, Makes, Calm}

abbrev pub ResultIsImplied : Type 0
ResultIsImplied = (s : List (Option Stored)) (id : ℕ) (new : List ℕ) → is_firm (slot s id) ≡ true
    → Makes s id new → Implies (FirmTrue s) new

abbrev pub CalmIsNotShortened : Type 0
CalmIsNotShortened = (s : List (Option Stored)) (id : ℕ) (c new : List ℕ) → Calm s id c
    → Vivifies s id c [] c new → length c ≤ length new

abbrev pub CalmStays : Type 0
CalmStays = (s t : List (Option Stored)) (id : ℕ) (c : List ℕ) → NoneCame s t → Calm s id c
    → Calm t id c
