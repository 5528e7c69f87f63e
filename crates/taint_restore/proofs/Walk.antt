-- The walk from the oldest entry to the newest.
use Rattle.std.specs.Prelude.{ℕ, zero, suc, Bool, cond, List, [], ◌∷◌, ◌++◌, take, drop}
use Rattle.redundancy.specs.Redundancy.{Entry, touches, entry}

-- the literals whose negations are marked once an entry was looked at
abbrev pub marks_after : List ℕ → Entry → List ℕ
marks_after m e = cond (touches e.witness m) (e.clause ++ m) m

-- and when the walk comes to the entry at a place
abbrev pub marks_at : List ℕ → List Entry → ℕ → List ℕ
marks_at m s zero = m
marks_at m [] (suc k) = m
marks_at m (e ∷ s) (suc k) = marks_at (marks_after m e) s k

-- whether the walk chooses the entry at a place
abbrev pub chosen_at : List ℕ → List Entry → ℕ → Bool
chosen_at m s k = touches (entry s k).witness (marks_at m s k)

-- the entries that the walk does not choose
abbrev pub unchosen : List ℕ → List Entry → List Entry
unchosen m [] = []
unchosen m (e ∷ s) = cond (touches e.witness m) (unchosen (e.clause ++ m) s) (e ∷ unchosen m s)

-- the stack once the chosen entries from a place on were taken out
abbrev pub stack_at : List ℕ → List Entry → ℕ → List Entry
stack_at m s k = take k s ++ unchosen (marks_at m s k) (drop k s)
