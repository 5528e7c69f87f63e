-- The measure of a search.
use Rattle.std.proofs.Common.{◌≡◌, ℕ, suc, zero, ◌+◌, ◌*◌, ◌^◌, ◌<◌, ◌≤◌, Bool, true, false, List, [], ◌∷◌, ◌++◌, length, refl, ◌∙◌, arith}
use Rattle.std.proofs.Math.Nat.{mul-le-mul_right}
use Rattle.trail_state.specs.declared.trail.Step.{Step}
use Rattle.trail_state.specs.Trail.{Trace}
use Rattle.trail_state.specs.Rank.{rank}
use Rattle.trail_state.proofs.Ranks.{rank-bound}
use Rattle.search_engine.specs.Turns.{RankRises, left_over}

-- the rank does not fall as a trail grows
pub rank-append : (n : ℕ) (t more : List Step) → rank n t ≤ rank n (t ++ more)
rank-append zero t more = omega arith
rank-append (suc n) [] more = omega arith
rank-append (suc n) (x ∷ t) more = let h = rank-append n t more in omega arith

-- as the rank rises less is left
pub left_falls : (n n' r r' : ℕ) (t t' : List Step) → n' ≡ n → length t' ≤ n' → r' ≤ r → RankRises t t' → left_over r' n' t' < left_over r n t
left_falls n n' r r' t t' same room le up =
    rw same
    (let b = rank-bound n t' in
    let q = up.rises n (rw same at room) in
    let m : r' * 3 ^ n ≤ r * 3 ^ n = mul-le-mul_right (3 ^ n) le in
    omega arith)

-- and one restart less leaves less, whatever the trail
pub left_restarts : (n n' r r' : ℕ) (t t' : List Step) → n' ≡ n → r' < r → left_over r' n' t' < left_over r n t
left_restarts n n' r r' t t' same lt =
    rw same
    (let b = rank-bound n t in
    let m : (r' + 1) * 3 ^ n ≤ r * 3 ^ n = mul-le-mul_right (3 ^ n) (omega arith) in
    let e : (r' + 1) * 3 ^ n ≡ r' * 3 ^ n + 3 ^ n = omega arith in
    omega arith)

-- as a trail grows no more is left
pub left_grown : (n n' r : ℕ) (t t' more : List Step) → n' ≡ n → t' ≡ t ++ more → left_over r n' t' ≤ left_over r n t
left_grown n n' r t t' more same is = rw (same, is) (let le = rank-append n t more in omega arith)

-- a trail a, its successor b, and maybe a restart to c
pub left_paced : (n n' r r' r'' : ℕ) (t t' t'' : Trace) (back : Bool) → n' ≡ n → t'.declared ≡ n → length t'.steps ≤ t'.declared → r' ≤ r → (back ≡ true → r' < r) → r'' ≡ r' → RankRises t.steps t'.steps → (back ≡ false → t'' ≡ t')
    → left_over r'' n' t''.steps < left_over r n t.steps
left_paced n n' r r' r'' t t' t'' true same dec room le lt is up stays = rw is (left_restarts n n' r r' t.steps t''.steps same (lt refl))
left_paced n n' r r' r'' t t' t'' false same dec room le lt is up stays = rw (is, stays refl) (left_falls n n' r r' t.steps t'.steps same (rw (same ∙ (let e : n ≡ t'.declared = omega arith in e)) room) le up)
