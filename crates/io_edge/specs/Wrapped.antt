-- Wrapped lists of numbers: twenty on a line, each line behind a prefix, and a 0 behind the last number.
use Rattle.std.specs.Prelude.{◌≡◌, ℕ, suc, zero, ◌+◌, ◌==◌, ℤ, if◌then◌else◌, List, [], ◌∷◌, ◌++◌, codes, map, length, take, drop}
use Rattle.std.specs.declared.option.Option.{Option}
use Rattle.std.specs.List.{flat_map, join_with_byte}
use Rattle.std.specs.Fmt.{signed_decimal}
use Rattle.std.specs.Io.KnownBytes.{Appends}

-- The words cut into runs of n, of which only the last may be shorter. There are at most so many runs as the second number.
abbrev pub runs_within : ℕ → ℕ → List (List ℕ) → List (List (List ℕ))
runs_within n zero ws = []
runs_within n (suc most) [] = []
runs_within n (suc most) (w ∷ ws) = take n (w ∷ ws) ∷ runs_within n most (drop n (w ∷ ws))

-- the words cut into runs of n
abbrev pub runs : ℕ → List (List ℕ) → List (List (List ℕ))
runs n ws = runs_within n (length ws) ws

-- a line of words: the prefix, the words with single spaces between them, and LF
abbrev pub line_of : List ℕ → List (List ℕ) → List ℕ
line_of prefix ws = prefix ++ (join_with_byte 32 ws ++ (10 ∷ []))

-- the numbers and then 0, twenty on a line
abbrev pub wrap : List ℕ → List ℤ → List ℕ
wrap prefix numbers = flat_map (line_of prefix) (runs 20 (map signed_decimal numbers ++ codes "0" ∷ []))

-- The same text as it comes from number to number: what stands before a number where so many stand on the open line, and the
-- numbers and 0 from there on.
abbrev pub lead : List ℕ → ℕ → List ℕ
lead prefix zero = prefix
lead prefix (suc k) = 32 ∷ []

abbrev pub flow : List ℕ → ℕ → List ℤ → List ℕ
flow prefix k [] = lead prefix k ++ 48 ∷ 10 ∷ []
flow prefix k (n ∷ ns) = lead prefix k ++ signed_decimal n ++ (if k == 19 then 10 ∷ flow prefix 0 ns else flow prefix (k + 1) ns)

-- an open line: its bytes so far, and how many numbers stand on it
pub record LineSoFar : Type 0 where
  pub bytes : List ℕ
  pub count : ℕ

-- what is still to be written, where these numbers are still to come
abbrev pub still_to_come : List ℕ → LineSoFar → List ℤ → List ℕ
still_to_come prefix line numbers = line.bytes ++ flow prefix line.count numbers

-- a number was taken to the line, and perhaps a text was written: with it the same is still to come, whatever numbers follow
pub record TakesNumber (prefix : List ℕ) (number : ℤ) (old new : LineSoFar) (before now : Option (List ℕ)) : Type 0 where
  pub text : List ℕ
  pub wrote : Appends before now text
  pub same : (rest : List ℤ) → still_to_come prefix old (number ∷ rest) ≡ text ++ still_to_come prefix new rest

-- a front of what was still to come was written, whatever numbers follow
pub record FailsAt (prefix : List ℕ) (number : ℤ) (old : LineSoFar) (before now : Option (List ℕ)) : Type 0 where
  pub text : List ℕ
  pub wrote : Appends before now text
  pub front : (rest : List ℤ) → (more : List ℕ) × (still_to_come prefix old (number ∷ rest) ≡ text ++ more)

-- part of a text was written, and this is still to come
pub record IsUnderWay (whole rest : List ℕ) (before now : Option (List ℕ)) : Type 0 where
  pub text : List ℕ
  pub wrote : Appends before now text
  pub same : text ++ rest ≡ whole
