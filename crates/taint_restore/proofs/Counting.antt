-- The clauses stay the same up to order.
use Rattle.std.proofs.Common.{◌≡◌, ℕ, suc, zero, ◌+◌, ◌<◌, Bool, cond, List, [], ◌∷◌, length, refl, ◌∙◌, arith}
use Rattle.std.specs.List.{remove}
use Rattle.std.proofs.lemmas.List.Sums.{sum_by-cons}
use Rattle.redundancy.specs.Redundancy.{Entry, entry}
use Rattle.clause_store.proofs.FirmCounts.{adding_counts}
use Rattle.rule_kernel.specs.State.{State}
use Rattle.rule_kernel.specs.Rules.{firm_clause, Restores}
use Rattle.taint_restore.specs.Restored.{Restored, stack_count, SameClauses}
use Rattle.taint_restore.specs.Restored.Restored.{none, one_more}

-- an entry that leaves is counted no more
pub stack_count-remove : (test : List ℕ → Bool) (s : List Entry) (k : ℕ) → k < length s → stack_count test s ≡ cond (test (entry s k).clause) 1 0 + stack_count test (remove s k)
stack_count-remove test [] k in' = absurd (omega arith)
stack_count-remove test (e ∷ s) zero in' = sum_by-cons (λ (x : Entry). cond (test x.clause) 1 0) e s
stack_count-remove test (e ∷ s) (suc k) in' =
    omega (arith, sum_by-cons (λ (x : Entry). cond (test x.clause) 1 0) e s, sum_by-cons (λ (x : Entry). cond (test x.clause) 1 0) e (remove s k), stack_count-remove test s k (omega arith))

-- one restoration
pub SameClauses-step : (old new : State) (k id : ℕ) → Restores old new k id → SameClauses old new
SameClauses-step old new k id r test =
    rw r.stack (omega (arith, adding_counts test old.store new.store id (firm_clause (entry old.stack k).clause) r.store, stack_count-remove test old.stack k r.within))

pub SameClauses-restored : (old new : State) (ids : List ℕ) → Restored old ids new → SameClauses old new
SameClauses-restored old new ids none test = refl
SameClauses-restored old new ids (one_more {ids = ids0} {mid = mid} {new = last} k id before r) test =
    SameClauses-step mid last k id r test ∙ SameClauses-restored old mid ids0 before test
