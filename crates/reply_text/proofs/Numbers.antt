-- Numbers that are written one after another.
use Rattle.std.proofs.Common.{◌≡◌, ◌∙◌, ap, refl, arith, ℕ, zero, suc, ◌+◌, ◌-◌, ◌/◌, ◌%◌, ◌<◌, ℤ, pos, negsuc, Bool, false, List, [], ◌∷◌, ◌++◌, length, get_or, drop, map, add-one}
use Rattle.std.specs.Prelude.{◌≢◌, replicate}
use Rattle.std.proofs.lemmas.Bool.{eq-eqb, ne_eqb}
use Rattle.sat_terms.specs.Literal.{var_of, code_of}
use Rattle.reply_text.specs.Text.{number_of, value_number, true_numbers}

-- the number of a literal is told by its code
pub number_is : (z : ℤ) (l : ℕ) → code_of z ≡ l → z ≡ number_of l
unfolding var_of
number_is (pos n) l e =
    let even : l % 2 ≡ 0 = omega arith in
    let half : l / 2 ≡ n = omega arith in
    rw (eq-eqb (l % 2) 0 even, half) refl
number_is (negsuc n) l e =
    let odd : l % 2 ≢ 0 = omega arith in
    let half : l / 2 - 1 ≡ n = omega arith in
    rw (ne_eqb (l % 2) 0 odd, half) refl

pub length_numbers : (n : ℕ) (bs : List Bool) → length (true_numbers n bs) ≡ length bs
length_numbers n [] = refl
length_numbers n (b ∷ bs) = ap suc (length_numbers (n + 1) bs)

-- the number at a place, and those behind it
pub drop_numbers : (n k : ℕ) (bs : List Bool) → k < length bs → drop k (true_numbers n bs) ≡ value_number (n + k) (get_or bs k false) ∷ drop (k + 1) (true_numbers n bs)
drop_numbers n k [] h = absurd (omega arith)
drop_numbers n zero (b ∷ bs) h = let z : n + 0 ≡ n = omega arith in rw z refl
drop_numbers n (suc k) (b ∷ bs) h =
    let here = drop_numbers (n + 1) k bs (omega arith) in
    let z : n + 1 + k ≡ n + suc k = omega arith in
    rw (add-one (suc k)) (here ∙ ap (λ v. value_number v (get_or bs k false) ∷ drop (k + 1) (true_numbers (n + 1) bs)) z ∙ rw (add-one k) refl)

-- values past the end are false
value_none : (n k : ℕ) → get_or (replicate n false) k false ≡ false
value_none zero k = refl
value_none (suc n) zero = refl
value_none (suc n) (suc k) = value_none n k

pub value_padded : (m : List Bool) (n k : ℕ) → get_or (m ++ replicate n false) k false ≡ get_or m k false
value_padded [] n k = value_none n k
value_padded (b ∷ m) n zero = refl
value_padded (b ∷ m) n (suc k) = value_padded m n k

-- the numbers of literals that are left
pub drop_map : (k d : ℕ) (ls : List ℕ) → k < length ls → drop k (map number_of ls) ≡ number_of (get_or ls k d) ∷ drop (k + 1) (map number_of ls)
drop_map k d [] h = absurd (omega arith)
drop_map zero d (l ∷ ls) h = refl
drop_map (suc k) d (l ∷ ls) h = rw (add-one (suc k)) (drop_map k d ls (omega arith) ∙ rw (add-one k) refl)

pub plus_one : (k : ℕ) → k + 1 ≡ 1 + k
plus_one k = omega arith
