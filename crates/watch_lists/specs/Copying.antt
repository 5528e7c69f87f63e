-- Copies of clauses that lie in one array, by a table of their places.
use Rattle.std.specs.Prelude.{◌≡◌, ◌≢◌, ◌⊎◌, ◌<◌, ◌≤◌, ◌+◌, ◌^◌, ◌++◌, ℕ, true, false, List, [], length, map, sum_by, take, drop, slice_index_or}
use Rattle.sat_terms.specs.Literal.{has}
use Rattle.watch_lists.specs.declared.copies.Place.{Place}
use Rattle.watch_lists.specs.Watching.{copy}

-- what lies at a place of the array
abbrev pub piece : List ℕ → Place → List ℕ
piece words p = take p.len (drop p.start words)

-- the copies
abbrev pub pieces : List ℕ → List Place → List (List ℕ)
pieces words ps = map (piece words) ps

abbrev pub place : List Place → ℕ → Place
place ps i = slice_index_or ps i (record { start = 0; len = 0 })

-- one of two places ends before the other begins
abbrev pub AreClear : Place → Place → Type 0
AreClear p q = (p.start + p.len ≤ q.start) ⊎ (q.start + q.len ≤ p.start)

-- each place lies in the array, and no two overlap
pub record IsLaid (words : List ℕ) (ps : List Place) : Type 0 where
  pub within : (i : ℕ) → (place ps i).start + (place ps i).len ≤ length words
  pub clear : (i j : ℕ) → i ≢ j → AreClear (place ps i) (place ps j)

-- the copies of these ids are gone, and the others stay
pub record IsEmptied (ids : List ℕ) (cs cs' : List (List ℕ)) : Type 0 where
  pub gone : (k : ℕ) → has ids k ≡ true → copy cs' k ≡ []
  pub kept : (k : ℕ) → has ids k ≡ false → copy cs' k ≡ copy cs k

-- how many words the places have
abbrev pub words_of : List Place → ℕ
words_of ps = sum_by (λ p. p.len) ps

-- so many words are at no place, and all can be numbered
pub record IsCounted (words : List ℕ) (ps : List Place) (dead : ℕ) : Type 0 where
  pub counted : dead + words_of ps ≡ length words
  pub few : length words < 2 ^ 32

-- the array has become longer
pub record Lengthens (words words' : List ℕ) : Type 0 where
  pub more : List ℕ
  pub longer : words' ≡ words ++ more
