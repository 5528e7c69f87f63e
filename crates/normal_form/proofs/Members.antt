-- Laws of the members of a list.
use Rattle.std.proofs.Common.{◌≡◌, ℕ, ◌<◌, true, eqb, List, length, get_or, sym}
use Rattle.std.specs.Prelude.{Contains}
use Rattle.std.specs.List.{dedup}
use Rattle.std.proofs.lemmas.List.Kept.{Contains-dedup_nat, Contains-from_dedup}
use Rattle.sat_terms.specs.Literal.{has}
use Rattle.sat_terms.proofs.Members.{has_at, has_place, same_tests}

pub Contains-from_has : (c : List ℕ) (l : ℕ) → has c l ≡ true → Contains c l
Contains-from_has c l h = has_place c l l h

pub has-from_Contains : (c : List ℕ) (l k : ℕ) → k < length c → get_or c k l ≡ l → has c l ≡ true
has-from_Contains c l k lt e = has_at c k l lt (sym e)

-- a list without its repeats has the same members
pub has-dedup : (c : List ℕ) (l : ℕ) → has (dedup eqb c) l ≡ has c l
has-dedup c l = same_tests (has (dedup eqb c) l) (has c l)
    (λ h. let r = Contains-from_dedup eqb c l (Contains-from_has (dedup eqb c) l h) in has-from_Contains c l r.0 r.1 r.2)
    (λ h. let r = Contains-dedup_nat c l (Contains-from_has c l h) in has-from_Contains (dedup eqb c) l r.0 r.1 r.2)
