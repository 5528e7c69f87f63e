-- Cells that lie in one array, by a table of pieces.
use Rattle.std.specs.Prelude.{◌≡◌, ◌≢◌, ◌⊎◌, ◌≤◌, ◌<◌, ◌+◌, ◌^◌, ◌++◌, ℕ, List, length, map, take, drop, slice_index_or, sum_by}
use Rattle.clause_store.specs.declared.spots.Piece.{Piece}

-- what lies at a piece of the array
abbrev pub piece : List ℕ → Piece → List ℕ
piece cells p = take p.len (drop p.start cells)

-- what lies at each
abbrev pub pieces_of : List ℕ → List Piece → List (List ℕ)
pieces_of cells ps = map (piece cells) ps

abbrev pub piece_at : List Piece → ℕ → Piece
piece_at ps i = slice_index_or ps i (record { start = 0; len = 0 })

-- how many cells the pieces have together
abbrev pub cell_count : List (List ℕ) → ℕ
cell_count cs = sum_by (λ c. length c) cs

-- one of two pieces ends before the other begins
abbrev pub AreClear : Piece → Piece → Type 0
AreClear p q = (p.start + p.len ≤ q.start) ⊎ (q.start + q.len ≤ p.start)

-- Each piece lies in the array, no two overlap, and the array has fewer than 2^32 cells, and at least as many as the pieces.
pub record IsLaid (cells : List ℕ) (ps : List Piece) : Type 0 where
  pub within : (i : ℕ) → (piece_at ps i).start + (piece_at ps i).len ≤ length cells
  pub clear : (i j : ℕ) → i ≢ j → AreClear (piece_at ps i) (piece_at ps j)
  pub room : cell_count (pieces_of cells ps) ≤ length cells
  pub short : length cells < 2 ^ 32

-- the array has become longer
pub record Lengthens (cells cells' : List ℕ) : Type 0 where
  pub more : List ℕ
  pub longer : cells' ≡ cells ++ more
