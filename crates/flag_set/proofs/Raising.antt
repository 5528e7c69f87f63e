-- Laws of flags that are set and taken back.
use Rattle.std.proofs.Common.{◌≡◌, ℕ, ◌<◌, Bool, true, false, not, ◌||◌, ◌&&◌, eqb, List, length, map, set, inl, inr, refl, sym, ◌∙◌}
use Rattle.std.proofs.Math.ListN.{get_or-map}
use Rattle.std.proofs.lemmas.Bool.{cases_Bool, cases_eq, eq-eqb, ne_eqb, false≢true}
use Rattle.std.proofs.lemmas.List.{get_or-set_same, get_or-set_other}
use Rattle.flag_set.specs.Flags.{holds}
use Rattle.flag_set.specs.declared.set.Flag.{Flag}
use Rattle.flag_set.specs.declared.set.Flag.TheVariants.{Out, In, Left}
use Rattle.flag_set.specs.Listed.{flag, is_in, is_listed}

-- what a set holds is what its flags say
pub holds_is : (flags : List Flag) (n : ℕ) → holds (map is_in flags) n ≡ is_in (flag flags n)
holds_is flags n = get_or-map is_in flags n Out

-- a number that is in is listed
listed_where_in : (f : Flag) → is_listed f ≡ false → is_in f ≡ false
listed_where_in Out h = h
listed_where_in In h = h
listed_where_in Left h = absurd (false≢true (sym h))

-- one flag is raised
pub raised : (old flags : List Flag) (a n : ℕ) → a < length flags → flag flags n ≡ flag old n → holds (map is_in (set flags a In)) n ≡ (eqb a n || holds (map is_in old) n)
raised old flags a n in' same =
    elim (cases_eq a n) [
      | inl e ↦ rw (holds_is (set flags a In) n, eq-eqb a n e, ← e, get_or-set_same flags a In Out in') refl
      | inr d ↦ rw (holds_is (set flags a In) n, holds_is old n, ne_eqb a n d, get_or-set_other flags a n In Out (λ e. d (sym e)), same) refl
    ]

-- one flag is lowered, and stays listed
pub lowered : (flags : List Flag) (a n : ℕ) → a < length flags → holds (map is_in (set flags a Left)) n ≡ (holds (map is_in flags) n && not (eqb a n))
lowered flags a n in' =
    elim (cases_eq a n) [
      | inl e ↦ rw (holds_is (set flags a Left) n, holds_is flags n, eq-eqb a n e, ← e, get_or-set_same flags a Left Out in') (sym (and_no (is_in (flag flags a))))
      | inr d ↦ rw (holds_is (set flags a Left) n, holds_is flags n, ne_eqb a n d, get_or-set_other flags a n Left Out (λ e. d (sym e))) (sym (and_yes (is_in (flag flags n))))
    ] where
      and_no : (b : Bool) → (b && false) ≡ false
      and_no true = refl
      and_no false = refl

      and_yes : (b : Bool) → (b && true) ≡ b
      and_yes true = refl
      and_yes false = refl

-- where no flag says that its number is listed, the set is empty
pub emptied : (flags : List Flag) (n : ℕ) → (is_listed (flag flags n) ≡ true → is_listed (flag flags n) ≡ false) → holds (map is_in flags) n ≡ false
emptied flags n h =
    holds_is flags n ∙ listed_where_in (flag flags n) (elim (cases_Bool (is_listed (flag flags n))) [ inl y ↦ h y | inr x ↦ x ])
