-- The lines of a text, as DIMACS and its kin are read: each ends with an LF, which the last one may lack.
use Rattle.std.specs.Prelude.{◌≢◌, ℕ, ◌+◌, ◌<◌, ◌≤◌, ◌==◌, if◌then◌else◌, List, [], ◌∷◌, length, All}
use Rattle.sat_terms.specs.Limits.{max_line, max_input}

-- a byte before the first line
abbrev pub put_before : ℕ → List (List ℕ) → List (List ℕ)
put_before b [] = (b ∷ []) ∷ []
put_before b (p ∷ ps) = (b ∷ p) ∷ ps

-- the text, cut after each LF: a rest without LF is a line if it is not empty
abbrev pub lines : List ℕ → List (List ℕ)
lines [] = []
lines (b ∷ bs) = if b == 10 then (b ∷ []) ∷ lines bs else put_before b (lines bs)

-- a line without its LF
abbrev pub line_text : List ℕ → List ℕ
line_text [] = []
line_text (b ∷ bs) = if b == 10 then [] else b ∷ line_text bs

-- no byte is LF
abbrev pub NoLf : List ℕ → Type 0
NoLf bs = All (λ b. b ≢ 10) bs

-- What may be wrong with a line before which `used` bytes stand. Where both limits are passed, the earlier byte decides.
pub record IsTooLong (used : ℕ) (line : List ℕ) : Type 0 where
  pub passed : max_line < length (line_text line)
  pub first : used + max_line ≤ max_input

pub record IsTooMuch (used : ℕ) (line : List ℕ) : Type 0 where
  pub passed : max_input < used + length line
  pub first : max_line < length (line_text line) → max_input < used + max_line

pub record Fits (used : ℕ) (line : List ℕ) : Type 0 where
  pub short : length (line_text line) ≤ max_line
  pub within : used + length line ≤ max_input
