-- Each rule keeps the chain.
use Rattle.std.proofs.Common.{◌≡◌, ℕ, ◌+◌, ◌<◌, Bool, true, false, not, List, [], ◌∷◌, ◌++◌, length, drop, Option, Some, None, IsSome, refl, sym, add-one}
use Rattle.std.specs.List.{remove}
use Rattle.std.proofs.lemmas.Bool.{false≢true}
use Rattle.sat_terms.specs.Truth.{Assignment, Implies}
use Rattle.redundancy.specs.Redundancy.{Entry, Witnesses, Chain, Clean, And, entry, no_entry}
use Rattle.redundancy.proofs.Chains.{Witnesses-same, Chain-same, Chain-add, Chain-park, Chain-restore}
use Rattle.clause_store.specs.Stored.{Stored, slot, slot_lits, is_firm, is_redundant, keeps_firm, SlotTrue, FirmTrue, OthersTrue, Fills, Frees, SameSlots}
use Rattle.clause_store.proofs.Slots.{FirmTrue-from, OthersTrue-from, FirmTrue-filled, FirmTrue-before, FirmTrue-freed, OthersTrue-freed, FirmTrue-same}
use Rattle.rule_kernel.specs.State.{State, IsChained}
use Rattle.rule_kernel.specs.Rules.{firm_clause, redundant_clause, Rule, Add, AddImplied, DropImplied, Park, Restore, Learn, Forget, Applies, SameButMarks, RulesKeepChain}

-- an id of a firm clause, or of a redundant one, is live
pub live_from_firm : (x : Option Stored) → is_firm x ≡ true → IsSome x
live_from_firm None h = absurd (false≢true h)
live_from_firm (Some c) h = refl

pub live_from_redundant : (x : Option Stored) → is_redundant x ≡ true → IsSome x
live_from_redundant None h = absurd (false≢true h)
live_from_redundant (Some c) h = refl

-- a redundant clause asks nothing
pub SlotTrue-redundant : (f : Assignment) (x : Option Stored) → is_redundant x ≡ true → SlotTrue f x
SlotTrue-redundant f None h = λ t. absurd (false≢true t)
SlotTrue-redundant f (Some c) h = λ t. absurd (both (keeps_firm c.keep) h t) where
  both : (b : Bool) → not b ≡ true → b ≡ true → ⊥
  both true h t = false≢true h
  both false h t = false≢true t

-- the chain where a firm clause came that is clean
pub chain_added : (old new : List (Option Stored)) (s : List Entry) (lits : List ℕ) (id : ℕ) → Fills old new id (firm_clause lits) → Clean lits s → Chain (FirmTrue old) s → Chain (FirmTrue new) s
chain_added old new s lits id fills clean h =
    Chain-same (And (FirmTrue old) lits) (FirmTrue new) s
    (λ f x. FirmTrue-filled f fills x.0 (λ _. x.1))
    (λ f x. let r = FirmTrue-before f fills x in (r.0, r.1 refl))
    (Chain-add (FirmTrue old) lits s clean h)

-- where one came that the others imply
pub chain_implied : (old new : List (Option Stored)) (s : List Entry) (lits : List ℕ) (id : ℕ) → Fills old new id (firm_clause lits) → Implies (FirmTrue old) lits → Chain (FirmTrue old) s → Chain (FirmTrue new) s
chain_implied old new s lits id fills implied h =
    Chain-same (FirmTrue old) (FirmTrue new) s
    (λ f x. FirmTrue-filled f fills x (λ _. implied f x))
    (λ f x. (FirmTrue-before f fills x).0)
    h

-- where a redundant one came
pub chain_learned : (old new : List (Option Stored)) (s : List Entry) (lits : List ℕ) (glue id : ℕ) → Fills old new id (redundant_clause lits glue) → Chain (FirmTrue old) s → Chain (FirmTrue new) s
chain_learned old new s lits glue id fills h =
    Chain-same (FirmTrue old) (FirmTrue new) s
    (λ f x. FirmTrue-filled f fills x (λ t. absurd (false≢true t)))
    (λ f x. (FirmTrue-before f fills x).0)
    h

-- where one went that the others imply, or that was redundant
pub chain_freed : (old new : List (Option Stored)) (s : List Entry) (id : ℕ) → Frees old new id → ((f : Assignment) → OthersTrue old id f → SlotTrue f (slot old id)) → Chain (FirmTrue old) s → Chain (FirmTrue new) s
chain_freed old new s id frees implied h =
    Chain-same (FirmTrue old) (FirmTrue new) s
    (λ f x. FirmTrue-freed f frees (OthersTrue-from old id f x))
    (λ f x. let others = OthersTrue-freed f frees x in FirmTrue-from old id f others (implied f others))
    h

pub chain_dropped : (old new : List (Option Stored)) (s : List Entry) (id : ℕ) → Frees old new id → Implies (OthersTrue old id) (slot_lits (slot old id)) → Chain (FirmTrue old) s → Chain (FirmTrue new) s
chain_dropped old new s id frees implied h = chain_freed old new s id frees (λ f x _. implied f x) h

pub chain_forgotten : (old new : List (Option Stored)) (s : List Entry) (id : ℕ) → Frees old new id → is_redundant (slot old id) ≡ true → Chain (FirmTrue old) s → Chain (FirmTrue new) s
chain_forgotten old new s id frees redundant h = chain_freed old new s id frees (λ f x. SlotTrue-redundant f (slot old id) redundant) h

-- where one went to the end of the stack
pub chain_parked : (old new : List (Option Stored)) (s : List Entry) (id : ℕ) (w : List ℕ) → Frees old new id → is_firm (slot old id) ≡ true → Witnesses (OthersTrue old id) w (slot_lits (slot old id)) → Chain (FirmTrue old) s
    → Chain (FirmTrue new) (s ++ record { witness = w; clause = slot_lits (slot old id) } ∷ [])
chain_parked old new s id w frees firm wit h =
    let e : Entry = record { witness = w; clause = slot_lits (slot old id) } in
    Chain-park (FirmTrue new) e s
    (Witnesses-same (OthersTrue old id) (FirmTrue new) w e.clause (λ f x. FirmTrue-freed f frees x) (λ f x. OthersTrue-freed f frees x) wit)
    (Chain-same (FirmTrue old) (And (FirmTrue new) e.clause) s
    (λ f x. (FirmTrue-freed f frees (OthersTrue-from old id f x), x id firm))
    (λ f x. FirmTrue-from old id f (OthersTrue-freed f frees x.0) (λ _. x.1))
    h)

-- where the clause of an entry came back
pub chain_restored : (old new : List (Option Stored)) (s : List Entry) (k id : ℕ) → k < length s → Clean (entry s k).clause (drop (k + 1) s) → Fills old new id (firm_clause (entry s k).clause) → Chain (FirmTrue old) s → Chain (FirmTrue new) (remove s k)
chain_restored old new s k id in' clean fills h =
    let c = (entry s k).clause in
    Chain-same (And (FirmTrue old) c) (FirmTrue new) (remove s k)
    (λ f x. FirmTrue-filled f fills x.0 (λ _. x.1))
    (λ f x. let r = FirmTrue-before f fills x in (r.0, r.1 refl))
    (Chain-restore (FirmTrue old) s k no_entry in' (rw add-one at clean) h)

-- each rule keeps the chain
pub applied : (rule : Rule) (old new : State) → IsChained old → Applies rule old new → IsChained new
applied (Add lits id) old new h r = rw r.rest.stack (chain_added _ _ _ _ _ r.store r.clean h)
applied (AddImplied lits id) old new h r = rw r.rest.stack (chain_implied _ _ _ _ _ r.store r.implied h)
applied (DropImplied id) old new h r = rw r.stack (chain_dropped _ _ _ _ r.store r.implied h)
applied (Park id w) old new h r = rw r.stack (chain_parked _ _ _ _ _ r.store r.firm r.witnessed h)
applied (Restore k id) old new h r = rw r.stack (chain_restored _ _ _ _ _ r.within r.clean r.store h)
applied (Learn lits glue id) old new h r = rw r.rest.stack (chain_learned _ _ _ _ _ _ r.store h)
applied (Forget id) old new h r = rw r.rest.stack (chain_forgotten _ _ _ _ r.store r.redundant h)

-- so does a change of marks
pub unmarked : (old new : State) → SameButMarks old new → IsChained old → IsChained new
unmarked old new same h = rw (same.store, same.rest.stack) h

-- so do all lists of rules
pub rules_keep : RulesKeepChain
rules_keep [] old new h run = unmarked old new run h
rules_keep (rule ∷ rules) old new h run = rules_keep rules run.1 new (applied rule run.0 run.1 (unmarked old run.0 run.2 h) run.3) run.4

-- where every id names what it did
pub chain_kept : (old new : List (Option Stored)) (s : List Entry) → SameSlots old new → Chain (FirmTrue old) s → Chain (FirmTrue new) s
chain_kept old new s same h =
    Chain-same (FirmTrue old) (FirmTrue new) s
    (λ f x. FirmTrue-same old new f same x)
    (λ f x. FirmTrue-same new old f (λ id. sym (same id)) x)
    h
