-- Bytes that an object outside may tell.
use Rattle.std.specs.Prelude.{ℕ, List, take, Some, None}
use Rattle.std.specs.declared.option.Option.{Option}
use Rattle.std.specs.Io.KnownBytes.{Appends}

-- what is said of bytes before and after a call, where they are told
abbrev pub WhereTold : Option (List ℕ) → Option (List ℕ) → (List ℕ → List ℕ → Type 0) → Type 0
WhereTold None after P = Unit {0}
WhereTold (Some xs) None P = ⊥
WhereTold (Some xs) (Some ys) P = P xs ys

-- a prefix of these bytes was appended
abbrev pub AppendsFront : Option (List ℕ) → Option (List ℕ) → List ℕ → Type 0
AppendsFront old new bytes = (n : ℕ) × Appends old new (take n bytes)
