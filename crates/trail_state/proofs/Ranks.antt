-- The rank rises with each literal and with each conflict.
use Rattle.std.proofs.Common.{◌≡◌, ℕ, suc, zero, ◌*◌, ◌^◌, ◌<◌, ◌≤◌, List, [], ◌∷◌, ◌++◌, length, ap, arith}
use Rattle.std.proofs.Math.Nat.{pow-succ'}
use Rattle.trail_state.specs.declared.trail.Step.{Step}
use Rattle.trail_state.specs.declared.reason.Reason.{Reason}
use Rattle.trail_state.specs.declared.reason.Reason.TheVariants.{Decision, Clause, Theory}
use Rattle.trail_state.specs.Rank.{digit, rank}

digit_times : (r : Reason) (k : ℕ) → (k ≤ digit r * k) × (digit r * k ≤ 2 * k)
digit_times Decision k = (omega arith, omega arith)
digit_times (Clause id) k = (omega arith, omega arith)
digit_times Theory k = (omega arith, omega arith)

decision_times : (r : Reason) (k : ℕ) → r ≡ Decision → digit r * k ≡ k
decision_times r k e = rw e (omega arith)

three_more : (n : ℕ) → 3 ^ suc n ≡ 3 * 3 ^ n
three_more n = pow-succ' 3 n

pub three_pos : (n : ℕ) → 0 < 3 ^ n
three_pos zero = omega arith
three_pos (suc n) = let h = three_pos n in let e = three_more n in omega arith

-- the rank is a number of n digits
pub rank-bound : (n : ℕ) (t : List Step) → rank n t < 3 ^ n
rank-bound zero t = omega arith
rank-bound (suc n) [] = three_pos (suc n)
rank-bound (suc n) (x ∷ t) =
    let h = rank-bound n t in
    let e = three_more n in
    let d = digit_times x.reason (3 ^ n) in
    let up = d.1 in
    omega arith

-- one more literal raises the rank
pub rank-push : (n : ℕ) (t : List Step) (x : Step) → length t < n → rank n t < rank n (t ++ x ∷ [])
rank-push zero t x room = absurd (omega arith)
rank-push (suc n) [] x room =
    let p = three_pos n in
    let d = digit_times x.reason (3 ^ n) in
    let low = d.0 in
    omega arith
rank-push (suc n) (y ∷ t) x room = let h = rank-push n t x (omega arith) in omega arith

-- a conflict: a decision and all behind it give way to an implied literal
pub rank-conflict : (n : ℕ) (p q : List Step) (d x : Step) → length p < n → d.reason ≡ Decision → digit x.reason ≡ 2 → rank n (p ++ d ∷ q) < rank n (p ++ x ∷ [])
rank-conflict zero p q d x room dec imp = absurd (omega arith)
rank-conflict (suc n) [] q d x room dec imp =
    let h = rank-bound n q in
    let a = decision_times d.reason (3 ^ n) dec in
    let b : digit x.reason * 3 ^ n ≡ 2 * 3 ^ n = ap (λ k. k * 3 ^ n) imp in
    omega arith
rank-conflict (suc n) (y ∷ p) q d x room dec imp = let h = rank-conflict n p q d x (omega arith) dec imp in omega arith
