-- What a call leaves standing.
use Rattle.std.proofs.Common.{◌≡◌, refl, subst, arith, ⊎_elim, ℕ, ◌≤◌, Bool, true, List, [], ◌∷◌, ◌++◌, length}
use Rattle.std.specs.Prelude.{◌||◌, ◌==◌}
use Rattle.std.proofs.lemmas.Bool.{false≢true, or_cases, eqb-true}
use Rattle.std.proofs.lemmas.List.Elements.{All-weaker}
use Rattle.sat_terms.specs.Limits.{max_var, max_literals}
use Rattle.sat_terms.specs.Literal.{var_of}
use Rattle.sat_terms.specs.Answer.{Within, NoModel, IsModel, IsCore}
use Rattle.clause_store.specs.Stored.{FirmTrue, StoreTrue, slot, slot_lits}
use Rattle.rooted_trails.proofs.Knowing.{known, from_known}
use Rattle.search_engine.specs.Searching.{StoreWithin, Learns}
use Rattle.solver_api.specs.declared.givens.GivenPart.{GivenPart}
use Rattle.solver_api.specs.declared.givens.GivenPart.TheVariants.{Clause}
use Rattle.solver_api.specs.declared.mode.Mode.{Mode}
use Rattle.solver_api.specs.declared.mode.Mode.TheVariants.{Input, Sat, Unsat}
use Rattle.solver_api.specs.Given.{part_true, GivenTrue}
use Rattle.solver_api.specs.Held.{Held, Takes}
use Rattle.solver_api.specs.Standing.{StandsFor, Stands}
use Rattle.solver_api.proofs.PartLemmas.{given_less, given_more}
use Rattle.search_engine.proofs.Looping.{firm_before}

-- a greater bound
pub within_more : (m n : ℕ) (lits : List ℕ) → m ≤ n → Within m lits → Within n lits
within_more m n lits le w = All-weaker (λ l. (1 ≤ var_of l) × (var_of l ≤ m)) (λ l. (1 ≤ var_of l) × (var_of l ≤ n)) (λ l h. (h.0, omega (arith, h.1, le))) lits w

pub stands_for_more : (h : Held) (given : List GivenPart) (m n : ℕ) → m ≤ n → StandsFor h given m → StandsFor h given n
stands_for_more h given m n le s = record {
  follows = s.follows;
  suffices = s.suffices;
  within = λ id live. within_more m n (slot_lits (slot h.store id)) le (s.within id live);
  declared = omega (arith, s.declared, le);
}

-- the engine takes a clause
pub stands_for_taken : (h k : Held) (given : List GivenPart) (n : ℕ) (lits : List ℕ) → Takes h.store k.store lits → k.declared ≡ h.declared → Within n lits → StandsFor h given n
    → StandsFor k (given ++ Clause lits ∷ []) n
stands_for_taken h k given n lits takes same within s = record {
  follows = λ f all. let less = given_less f given (Clause lits) all in takes.all f (s.follows f less.0) less.1;
  suffices = λ f all. let less = takes.firm f all in given_more f given (Clause lits) (s.suffices f less.0) less.1;
  within = takes.within n s.within within;
  declared = omega (arith, s.declared, same);
}

-- the engine learns
pub stands_for_learned : (h k : Held) (given : List GivenPart) (n : ℕ) → Learns h.store k.store → StoreWithin n k.store → k.declared ≤ n → StandsFor h given n → StandsFor k given n
stands_for_learned h k given n learns within le s = record {
  follows = λ f all. from_known k.store f (learns.implied f (known h.store f (s.follows f all)));
  suffices = λ f all. s.suffices f (firm_before h.store k.store learns f all);
  within = within;
  declared = le;
}

-- what the engine finds is an answer to what was given
pub model_of_given : (h : Held) (given : List GivenPart) (n : ℕ) (lits : List ℕ) (m : List Bool) → StandsFor h given n → IsModel (FirmTrue h.store) lits n m → IsModel (GivenTrue given) lits n m
model_of_given h given n lits m s good = record { size = good.size; holds = s.suffices _ good.holds; assumed = good.assumed }

pub core_of_given : (h : Held) (given : List GivenPart) (n : ℕ) (lits core : List ℕ) → StandsFor h given n → IsCore (StoreTrue h.store) lits core → IsCore (GivenTrue given) lits core
core_of_given h given n lits core s good = record { some = good.some; once = good.once; none = λ f holds all. good.none f (s.follows f holds) all }

empty_list : (lits : List ℕ) → (length lits == 0) ≡ true → lits ≡ []
empty_list [] h = refl
empty_list (x ∷ lits) h = let z : length (x ∷ lits) ≡ 0 = eqb-true (length (x ∷ lits)) 0 h in absurd (omega arith)

-- what makes more true makes less true
hopeless_more : (given : List GivenPart) (lits : List ℕ) → NoModel (GivenTrue given) [] → NoModel (GivenTrue (given ++ Clause lits ∷ [])) []
hopeless_more given lits none f holds h = none f (given_less f given (Clause lits) holds).0 h

-- the empty clause is never true
hopeless_empty : (given : List GivenPart) (lits : List ℕ) → lits ≡ [] → NoModel (GivenTrue (given ++ Clause lits ∷ [])) []
hopeless_empty given lits e f holds h =
    let P : List ℕ → Type 0 = λ c. part_true f (Clause c) ≡ true in
    false≢true (subst P e (given_less f given (Clause lits) holds).1)

module _ (held : Held) (given : List GivenPart) (pending queried : List ℕ) (taken greatest : ℕ) (settled : Bool) (mode : Mode) (s : Stands held given pending queried taken greatest settled mode) where
  -- the answer is taken away
  pub stands_input : Stands held given pending queried taken greatest settled Input
  stands_input = record { stored = s.stored; pending_within = s.pending_within; few = s.few; room = s.room; model_good = λ m e. cc; core_good = λ core e. cc; hopeless = s.hopeless }

  -- a clause is given
  pub stands_add : (held' : Held) (lits : List ℕ) (taken' greatest' : ℕ)
      → Takes held.store held'.store lits → held'.declared ≡ held.declared → taken' ≤ max_literals → greatest ≤ greatest' → greatest' ≤ max_var → Within greatest' lits
      → Stands held' (given ++ Clause lits ∷ []) pending queried taken' greatest' (settled || (length lits == 0)) Input
  stands_add held' lits taken' greatest' takes same room le few within = record {
    stored = stands_for_taken held held' given greatest' lits takes same within (stands_for_more held given greatest greatest' le s.stored);
    pending_within = within_more greatest greatest' pending le s.pending_within;
    few = few;
    room = room;
    model_good = λ m e. cc;
    core_good = λ core e. cc;
    hopeless = λ h. ⊎_elim (λ (was : settled ≡ true). hopeless_more given lits (s.hopeless was))
        (λ (empty : (length lits == 0) ≡ true). hopeless_empty given lits (empty_list lits empty)) (or_cases settled (length lits == 0) h);
  }

  -- the engine has searched
  pub stands_searched : (held' : Held) (queried' : List ℕ) → StandsFor held' given greatest → Stands held' given [] queried' taken greatest settled Input
  stands_searched held' queried' stored = record {
    stored = stored;
    pending_within = λ k d l. absurd (omega arith);
    few = s.few;
    room = s.room;
    model_good = λ m e. cc;
    core_good = λ core e. cc;
    hopeless = s.hopeless;
  }

  -- a model is found
  pub stands_model : (held' : Held) (m : List Bool) → StandsFor held' given greatest → IsModel (GivenTrue given) pending greatest m
      → Stands held' given [] pending taken greatest settled (Sat m)
  stands_model held' m stored good = record {
    stored = stored;
    pending_within = λ k d l. absurd (omega arith);
    few = s.few;
    room = s.room;
    model_good = λ n e. subst (λ (x : List Bool). IsModel (GivenTrue given) pending greatest x) (model_is m n e) good;
    core_good = λ core e. cc;
    hopeless = s.hopeless;
  }
    where
      model_is : (a b : List Bool) → Sat a ≡ Sat b → a ≡ b
      model_is a b e = cc

  -- a core is found
  pub stands_core : (held' : Held) (core : List ℕ) → StandsFor held' given greatest → NoModel (GivenTrue given) core
      → Stands held' given [] pending taken greatest (settled || (length core == 0)) (Unsat core)
  stands_core held' core stored none = record {
    stored = stored;
    pending_within = λ k d l. absurd (omega arith);
    few = s.few;
    room = s.room;
    model_good = λ m e. cc;
    core_good = λ c e. subst (λ (x : List ℕ). NoModel (GivenTrue given) x) (core_is core c e) none;
    hopeless = λ h. ⊎_elim s.hopeless
        (λ (empty : (length core == 0) ≡ true). subst (λ (x : List ℕ). NoModel (GivenTrue given) x) (empty_list core empty) none) (or_cases settled (length core == 0) h);
  }
    where
      core_is : (a b : List ℕ) → Unsat a ≡ Unsat b → a ≡ b
      core_is a b e = cc
