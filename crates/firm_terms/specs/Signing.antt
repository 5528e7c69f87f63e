-- Signatures of clauses (Eén, Biere, SAT 2005).
use Rattle.std.specs.Prelude.{◌≡◌, ℕ, ◌%◌, ◌==◌, true, false, List, bit_and}
use Rattle.std.specs.Int.{bit_at}
use Rattle.sat_terms.specs.Literal.{has, var_of}
use Rattle.firm_terms.specs.Subsuming.{IsFree}

-- a bit is set where a variable of its class stands in the clause, and nowhere else
pub record IsSignature (c : List ℕ) (bits : ℕ) : Type 0 where
  pub set : (l : ℕ) → has c l ≡ true → bit_at bits (var_of l % 64) ≡ 1
  pub only : (i : ℕ) → bit_at bits i ≡ 1 → (l : ℕ) × (has c l ≡ true) × (var_of l % 64 ≡ i)

-- where a signature has a bit that another one lacks, nothing follows
abbrev pub SignaturesTell : Type 0
SignaturesTell = (c d : List ℕ) (a b : ℕ) → IsSignature c a → IsSignature d b → (bit_and a b == a) ≡ false → IsFree c d
