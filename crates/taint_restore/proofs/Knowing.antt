-- Laws of the variables that may occur.
use Rattle.std.proofs.Common.{◌≡◌, ℕ, suc, zero, Bool, true, List, [], ◌∷◌, ◌++◌, Option, inl, inr}
use Rattle.std.specs.List.{remove}
use Rattle.std.proofs.lemmas.Bool.{cases_eq, false≢true}
use Rattle.sat_terms.specs.Literal.{var_of}
use Rattle.redundancy.specs.Redundancy.{Entry, Unmentioned, entry}
use Rattle.clause_store.specs.Stored.{Stored, Fills, Frees}
use Rattle.taint_restore.specs.Known.{KnowsLits, KnowsStore, KnowsStack}

-- nothing occurs in no clause
pub knows_nil : (known : ℕ → Bool) → KnowsLits known []
knows_nil known l h = absurd (false≢true h)

-- a store that took a clause, or lost one
pub KnowsStore-filled : (known : ℕ → Bool) (old new : List (Option Stored)) (id : ℕ) (c : Stored) → Fills old new id c → KnowsLits known c.lits → KnowsStore known old → KnowsStore known new
KnowsStore-filled known old new id c fills here h j =
    elim (cases_eq j id) [ inl e ↦ rw (e, fills.filled) here | inr n ↦ rw (fills.others j n) (h j) ]

pub KnowsStore-freed : (known : ℕ → Bool) (old new : List (Option Stored)) (id : ℕ) → Frees old new id → KnowsStore known old → KnowsStore known new
KnowsStore-freed known old new id frees h j =
    elim (cases_eq j id) [ inl e ↦ rw (e, frees.freed) (knows_nil known) | inr n ↦ rw (frees.others j n) (h j) ]

-- a stack that lost an entry, or got one
pub KnowsStack-remove : (known : ℕ → Bool) (s : List Entry) (k : ℕ) → KnowsStack known s → KnowsStack known (remove s k)
KnowsStack-remove known [] zero h = tt
KnowsStack-remove known [] (suc k) h = tt
KnowsStack-remove known (e ∷ s) zero h = h.1
KnowsStack-remove known (e ∷ s) (suc k) h = (h.0, KnowsStack-remove known s k h.1)

pub KnowsStack-push : (known : ℕ → Bool) (s : List Entry) (e : Entry) → KnowsLits known e.witness → KnowsLits known e.clause → KnowsStack known s → KnowsStack known (s ++ e ∷ [])
KnowsStack-push known [] e w c h = ((w, c), tt)
KnowsStack-push known (x ∷ s) e w c h = (h.0, KnowsStack-push known s e w c h.1)

pub KnowsStack-clause : (known : ℕ → Bool) (s : List Entry) (k : ℕ) → KnowsStack known s → KnowsLits known (entry s k).clause
KnowsStack-clause known [] k h = knows_nil known
KnowsStack-clause known (e ∷ s) zero h = h.0.1
KnowsStack-clause known (e ∷ s) (suc k) h = KnowsStack-clause known s k h.1

-- more variables are known
pub KnowsStack-more : (known known' : ℕ → Bool) (s : List Entry) → ((v : ℕ) → known v ≡ true → known' v ≡ true) → KnowsStack known s → KnowsStack known' s
KnowsStack-more known known' [] more h = tt
KnowsStack-more known known' (e ∷ s) more h = (((λ l i. more (var_of l) (h.0.0 l i)), (λ l i. more (var_of l) (h.0.1 l i))), KnowsStack-more known known' s more h.1)

-- a stack that lost an entry mentions no more
pub Unmentioned-remove : (v : ℕ) (s : List Entry) (k : ℕ) → Unmentioned v s → Unmentioned v (remove s k)
Unmentioned-remove v [] zero h = tt
Unmentioned-remove v [] (suc k) h = tt
Unmentioned-remove v (e ∷ s) zero h = h.1
Unmentioned-remove v (e ∷ s) (suc k) h = (h.0, Unmentioned-remove v s k h.1)

pub Unmentioned-push : (v : ℕ) (s : List Entry) (e : Entry) → Unmentioned v (e ∷ []) → Unmentioned v s → Unmentioned v (s ++ e ∷ [])
Unmentioned-push v [] e here h = here
Unmentioned-push v (x ∷ s) e here h = (h.0, Unmentioned-push v s e here h.1)
