-- Two normal clauses are walked through side by side, and their resolvent is put together.
use Rattle.std.specs.Prelude.{◌≡◌, ◌≢◌, ◌<◌, ℕ, true, List, [], ◌∷◌, length, take, drop, slice_index_or}
use Rattle.sat_terms.specs.Literal.{has, neg, var_of}
use Rattle.sat_terms.specs.Normal.{IsNormal}
use Rattle.firm_terms.specs.Resolving.{resolvent}
use Rattle.var_elim.specs.declared.resolve.Next.{Next}
use Rattle.var_elim.specs.declared.resolve.Next.TheVariants.{Left, Right, Both, Skip, Clash}

-- the variables of the first literals are below those of the second
pub record AreBelow (c d : List ℕ) : Type 0 where
  pub below : (l m : ℕ) → has c l ≡ true → has d m ≡ true → var_of l < var_of m

-- Two clauses are walked through, and of each there is what was passed and what is left. The resolvent of what was passed stands
-- there, in normal form, and all variables that were passed are below those that are left.
pub record Merging (x : ℕ) (passed left passed' left' form : List ℕ) : Type 0 where
  pub same : (l : ℕ) → has form l ≡ has (resolvent x passed passed') l
  pub normal : IsNormal form
  pub first : AreBelow passed left
  pub second : AreBelow passed' left'
  pub across : AreBelow passed left'
  pub back : AreBelow passed' left

abbrev pub Merged : ℕ → List ℕ → List ℕ → ℕ → ℕ → List ℕ → Type 0
Merged x c d i j form = Merging x (take i c) (drop i c) (take j d) (drop j d) form

-- the literal at a place
abbrev pub lit_at : List ℕ → ℕ → ℕ
lit_at c i = slice_index_or c i 0

-- which literal comes next, at a place of each clause
abbrev pub Leads : ℕ → List ℕ → List ℕ → ℕ → ℕ → Next → Type 0
Leads x c d i j Left = (i < length c) × AreBelow (lit_at c i ∷ []) (drop j d)
Leads x c d i j Right = (j < length d) × AreBelow (lit_at d j ∷ []) (drop i c)
Leads x c d i j Both = (i < length c) × (j < length d) × (lit_at c i ≡ lit_at d j)
Leads x c d i j Skip = (i < length c) × (j < length d) × (lit_at c i ≡ x) × (lit_at d j ≡ neg x)
Leads x c d i j Clash = (i < length c) × (j < length d) × (lit_at c i ≢ x) × (lit_at d j ≡ neg (lit_at c i))
