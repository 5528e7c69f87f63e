-- When the clauses of small examples may be parked and restored.
use Rattle.std.proofs.Common.{◌≡◌, ℕ, suc, zero, ◌<◌, ◌≤◌, false, eqb, List, [], ◌∷◌, ◌++◌, length, get_or, drop, Option, None, refl, ◌∙◌, arith}
use Rattle.std.proofs.lemmas.Bool.{eq-eqb, or_left}
use Rattle.std.proofs.lemmas.List.Elements.{All-push}
use Rattle.sat_terms.specs.Literal.{var_of}
use Rattle.sat_terms.specs.Truth.{Assignment}
use Rattle.sat_terms.specs.Answer.{Within}
use Rattle.redundancy.specs.Setting.{set_true}
use Rattle.redundancy.specs.Redundancy.{Entry, Witnesses, Clean, StackWithin}
use Rattle.witness_stack.proofs.Counted.{has_here}
use Rattle.witness_stack.proofs.Rows.{apart_one}
use Rattle.clause_store.specs.Stored.{Stored, slot, slot_lits, OthersTrue, Fills}
use Rattle.clause_store.proofs.Slots.{SlotTrue-none}
use Rattle.rule_kernel.specs.Rules.{firm_clause}

-- the only clause of a store has no others
OthersTrue-alone : (s t : List (Option Stored)) (id : ℕ) (c : Stored) (f : Assignment) → ((k : ℕ) → slot s k ≡ None) → Fills s t id c → OthersTrue t id f
OthersTrue-alone s t id c f none fills k ne = SlotTrue-none f (slot t k) (fills.others k ne ∙ none k)

-- so it may be parked with its first literal
pub witnesses_alone : (s t : List (Option Stored)) (id a : ℕ) (c : List ℕ) → ((k : ℕ) → slot s k ≡ None) → Fills s t id (firm_clause c) → 0 < length c → a ≡ get_or c 0 a → Witnesses (OthersTrue t id) (a ∷ []) (slot_lits (slot t id))
witnesses_alone s t id a c none fills some is = record {
  apart = apart_one a;
  shared = (a, or_left (eqb a a) false (eq-eqb a a refl), rw fills.filled (has_here c 0 a some is));
  moves = λ f x n. OthersTrue-alone s t id (firm_clause c) (set_true f (a ∷ [])) none fills;
}

-- one more entry whose witness is one of the first variables
pub within_push : (n a : ℕ) (s : List Entry) (c : List ℕ) → StackWithin n s → 1 ≤ var_of a → var_of a ≤ n → StackWithin n (s ++ record { witness = a ∷ []; clause = c } ∷ [])
within_push n a s c h low high = All-push (λ (e : Entry). Within n e.witness) s (record { witness = a ∷ []; clause = c }) h (one low high) where
  one : 1 ≤ var_of a → var_of a ≤ n → Within n (a ∷ [])
  one low high zero d lt = (low, high)
  one low high (suc k) d lt = absurd (omega arith)

-- what is clean for a stack is clean for the entries from a place on
pub clean_from : (c : List ℕ) (s : List Entry) (k : ℕ) → Clean c s → Clean c (drop k s)
clean_from c s zero h = h
clean_from c [] (suc k) h = tt
clean_from c (e ∷ s) (suc k) h = clean_from c s k h.1
