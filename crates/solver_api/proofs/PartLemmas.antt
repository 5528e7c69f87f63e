-- What one more part says.
use Rattle.std.proofs.Common.{◌≡◌, refl, Bool, true, false, List, [], ◌∷◌, ◌++◌}
use Rattle.std.specs.Prelude.{◌&&◌}
use Rattle.std.specs.List.{list_all}
use Rattle.sat_terms.specs.Truth.{Assignment}
use Rattle.solver_api.specs.declared.givens.GivenPart.{GivenPart}
use Rattle.solver_api.specs.Given.{part_true, GivenTrue}

pub given_less : (f : Assignment) (parts : List GivenPart) (p : GivenPart) → GivenTrue (parts ++ p ∷ []) f → (GivenTrue parts f) × (part_true f p ≡ true)
given_less f [] p h = (refl, either (part_true f p) h)
  where
    either : (b : Bool) → (b && true) ≡ true → b ≡ true
    either true e = refl
    either false e = e
given_less f (x ∷ parts) p h = both (part_true f x) refl h (given_less f parts p)
  where
    both : (b : Bool) → part_true f x ≡ b → (b && list_all (part_true f) (parts ++ p ∷ [])) ≡ true → (GivenTrue (parts ++ p ∷ []) f → (GivenTrue parts f) × (part_true f p ≡ true))
        → ((part_true f x && list_all (part_true f) parts) ≡ true) × (part_true f p ≡ true)
    both true is e on = let r = on e in (rw is r.0, r.1)
    both false is e on = cc

pub given_more : (f : Assignment) (parts : List GivenPart) (p : GivenPart) → GivenTrue parts f → part_true f p ≡ true → GivenTrue (parts ++ p ∷ []) f
given_more f [] p h here = rw here refl
given_more f (x ∷ parts) p h here = both (part_true f x) refl h (λ on. given_more f parts p on here)
  where
    both : (b : Bool) → part_true f x ≡ b → (b && list_all (part_true f) parts) ≡ true → (GivenTrue parts f → GivenTrue (parts ++ p ∷ []) f)
        → (part_true f x && list_all (part_true f) (parts ++ p ∷ [])) ≡ true
    both true is e on = rw is (on e)
    both false is e on = cc
