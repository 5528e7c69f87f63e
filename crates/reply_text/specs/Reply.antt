-- Replies to queries (IPASIR's answers 10, 20 and 0).
use Rattle.std.specs.Prelude.{ℕ, Bool, List}

-- a model, as the truth values of the variables from 1 on, or a core, as a list of literals, or neither after so many conflicts
pub data Reply : Type 0 where
  Sat : List Bool → Reply
  Unsat : List ℕ → Reply
  Unknown : ℕ → Reply

-- the exit status that names the reply
abbrev pub code_of : Reply → ℕ
code_of (Sat m) = 10
code_of (Unsat c) = 20
code_of (Unknown conflicts) = 0
