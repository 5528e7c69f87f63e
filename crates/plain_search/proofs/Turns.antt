-- What a turn of the search keeps, and that it goes on.
use Rattle.std.proofs.Common.{◌≡◌, ◌∙◌, sym, ap, refl, subst, arith, ℕ, zero, suc, ◌+◌, ◌-◌, ◌*◌, ◌^◌, ◌<◌, ◌≤◌, Bool, true, false, List, [], ◌∷◌, length, Some, None}
use Rattle.std.specs.Prelude.{not}
use Rattle.std.proofs.lemmas.Bool.{false≢true, true≢false}
use Rattle.std.proofs.Math.Nat.{pow-succ'}
use Rattle.sat_terms.specs.Literal.{neg}
use Rattle.sat_terms.specs.Truth.{Assignment, lit_true}
use Rattle.sat_terms.proofs.Truths.{lit_true-neg}
use Rattle.plain_search.specs.declared.assignment.Step.{Step}
use Rattle.plain_search.specs.Steps.{AllTrue, DecisionsTrue, Justified, Blocked, flip, digit, rank}
use Rattle.plain_search.specs.declared.search.Turn.TheVariants.{On, NoModel}
use Rattle.plain_search.specs.Search.{Turns}

-- what P holds of makes something on the trail false
abbrev pub Refuted : (Assignment → Type 0) → List Step → Type 0
Refuted P steps = (f : Assignment) → P f → AllTrue f steps → ⊥

-- what P holds of makes the literal true where it makes the trail true
abbrev pub Implies : (Assignment → Type 0) → List Step → ℕ → Type 0
Implies P steps l = (f : Assignment) → P f → AllTrue f steps → lit_true f l ≡ true

-- where the decisions are true, so is all that follows
pub justified_true : (P : Assignment → Type 0) (steps : List Step) (f : Assignment) → Justified P steps → P f → DecisionsTrue f steps → AllTrue f steps
justified_true P [] f j p d = tt
justified_true P (s ∷ older) f j p d = (either s.decision refl, justified_true P older f j.1 p d.1)
  where
    either : (b : Bool) → s.decision ≡ b → lit_true f s.lit ≡ true
    either true e = d.0 e
    either false e = j.0 e f p d.1

pub blocked : (P : Assignment → Type 0) (steps : List Step) → Justified P steps → Refuted P steps → Blocked P steps
blocked P steps j found f p d = found f p (justified_true P steps f j p d)

pub forced : (P : Assignment → Type 0) (steps : List Step) (l : ℕ) → Justified P steps → Implies P steps l
    → Justified P (record { lit = l; decision = false } ∷ steps)
forced P steps l j found = (λ _ f p d. found f p (justified_true P steps f j p d), j)

pub decided : (P : Assignment → Type 0) (steps : List Step) (l : ℕ) → Justified P steps → Justified P (record { lit = l; decision = true } ∷ steps)
decided P steps l j = (λ e. absurd (true≢false e), j)

-- a step that is no decision is undone
blocked_older : (P : Assignment → Type 0) (s : Step) (older : List Step) → s.decision ≡ false → Blocked P (s ∷ older) → Blocked P older
blocked_older P s older e b f p d = b f p (λ t. absurd (false≢true (sym e ∙ t)), d)

-- no decision is left: there is no model
pub flip_none : (P : Assignment → Type 0) (steps : List Step) → Blocked P steps → flip steps ≡ None → (f : Assignment) → P f → ⊥
flip_none P [] b e f p = b f p tt
flip_none P (s ∷ older) b e f p = either s.decision refl (λ is. flip_none P older (blocked_older P s older is b) (sym (rw is refl) ∙ e) f p)
  where
    either : (d : Bool) → s.decision ≡ d → (s.decision ≡ false → ⊥) → ⊥
    either true is on = let x : Some (record { lit = neg s.lit; decision = false } ∷ older) ≡ None = sym (rw is refl) ∙ e in cc
    either false is on = on is

-- the newest decision is turned round
turned : (P : Assignment → Type 0) (s : Step) (older : List Step) → s.decision ≡ true → Blocked P (s ∷ older) → (f : Assignment) → P f → DecisionsTrue f older → lit_true f (neg s.lit) ≡ true
turned P s older is b f p d = lit_true-neg f s.lit ∙ ap not (either (lit_true f s.lit) refl)
  where
    either : (v : Bool) → lit_true f s.lit ≡ v → lit_true f s.lit ≡ false
    either true e = absurd (b f p (λ _. e, d))
    either false e = e

pub flip_some : (P : Assignment → Type 0) (steps new : List Step) → Justified P steps → Blocked P steps → flip steps ≡ Some new → Justified P new
flip_some P [] new j b e = cc
flip_some P (s ∷ older) new j b e = either s.decision refl (λ is. flip_some P older new j.1 (blocked_older P s older is b) (sym (rw is refl) ∙ e))
  where
    either : (d : Bool) → s.decision ≡ d → (s.decision ≡ false → Justified P new) → Justified P new
    either true is on =
        let x : Some (record { lit = neg s.lit; decision = false } ∷ older) ≡ Some new = sym (rw is refl) ∙ e in
        let y : record { lit = neg s.lit; decision = false } ∷ older ≡ new = cc in
        subst (Justified P) y (λ _. turned P s older is b, j.1)
    either false is on = on is

-- The measure: the weight of a place is three times that of the next.
power : (n k : ℕ) → k < n → 3 ^ (n - k) ≡ 3 * 3 ^ (n - k - 1)
power n k h = let e : n - k ≡ suc (n - k - 1) = omega arith in ap (λ x. 3 ^ x) e ∙ pow-succ' 3 (n - k - 1)

pow_positive : (k : ℕ) → 0 < 3 ^ k
pow_positive zero = omega arith
pow_positive (suc k) = omega (arith, pow-succ' 3 k, pow_positive k)

weight : (d : Bool) (w : ℕ) → (w ≤ digit d * w) × (digit d * w ≤ 2 * w)
weight true w = (omega arith, omega arith)
weight false w = (omega arith, omega arith)

-- the steps and all that may still come
pub rank_bound : (n : ℕ) (steps : List Step) → length steps ≤ n → rank n steps + 3 ^ (n - length steps) ≤ 3 ^ n
rank_bound n [] h = let q : n - 0 ≡ n = omega arith in omega (arith, ap (λ x. 3 ^ x) q)
rank_bound n (s ∷ older) h =
    let q : n - suc (length older) ≡ n - length older - 1 = omega arith in
    omega (arith, power n (length older) (omega arith), weight s.decision (3 ^ (n - length older - 1)), rank_bound n older (omega arith), ap (λ x. 3 ^ x) q)

-- a new step raises the rank
pub rank_push : (n : ℕ) (s : Step) (steps : List Step) → length steps < n → rank n steps < rank n (s ∷ steps)
rank_push n s steps h = omega (arith, weight s.decision (3 ^ (n - length steps - 1)), pow_positive (n - length steps - 1))

-- a decision that is turned round raises it above the steps and all that might have come
flip_ceiling : (n : ℕ) (steps new : List Step) → length steps ≤ n → flip steps ≡ Some new → rank n steps + 3 ^ (n - length steps) ≤ rank n new
flip_ceiling n [] new h e = cc
flip_ceiling n (s ∷ older) new h e = either s.decision refl (λ is. flip_ceiling n older new (omega arith) (sym (rw is refl) ∙ e))
  where
    either : (d : Bool) → s.decision ≡ d → (s.decision ≡ false → rank n older + 3 ^ (n - length older) ≤ rank n new)
        → digit s.decision * 3 ^ (n - length older - 1) + rank n older + 3 ^ (n - suc (length older)) ≤ rank n new
    either true is on =
        let q : n - suc (length older) ≡ n - length older - 1 = omega arith in
        let x : Some (record { lit = neg s.lit; decision = false } ∷ older) ≡ Some new = sym (rw is refl) ∙ e in
        let y : record { lit = neg s.lit; decision = false } ∷ older ≡ new = cc in
        rw is (omega (arith, ap (rank n) y, ap (λ z. 3 ^ z) q))
    either false is on =
        let q : n - suc (length older) ≡ n - length older - 1 = omega arith in
        rw is (omega (arith, on is, power n (length older) (omega arith), ap (λ z. 3 ^ z) q))

pub rank_flip : (n : ℕ) (steps new : List Step) → length steps ≤ n → flip steps ≡ Some new → rank n steps < rank n new
rank_flip n steps new h e = omega (arith, flip_ceiling n steps new h e, pow_positive (n - length steps))

pub length_flip : (steps new : List Step) → flip steps ≡ Some new → length new ≤ length steps
length_flip [] new e = cc
length_flip (s ∷ older) new e = either s.decision refl (λ is. length_flip older new (sym (rw is refl) ∙ e))
  where
    either : (d : Bool) → s.decision ≡ d → (s.decision ≡ false → length new ≤ length older) → length new ≤ suc (length older)
    either true is on =
        let x : Some (record { lit = neg s.lit; decision = false } ∷ older) ≡ Some new = sym (rw is refl) ∙ e in
        let y : record { lit = neg s.lit; decision = false } ∷ older ≡ new = cc in
        omega (arith, ap length y)
    either false is on = omega (arith, on is)

-- the turns of the search
pub turn_flip : (P : Assignment → Type 0) (vars : ℕ) (old new : List Step) → Justified P old → length old ≤ vars + 1 → Refuted P old → flip old ≡ Some new
    → Turns P vars old new On
turn_flip P vars old new j room found e = (flip_some P old new j (blocked P old j found) e, omega (arith, length_flip old new e), rank_flip (vars + 1) old new room e)

pub turn_end : (P : Assignment → Type 0) (vars : ℕ) (old new : List Step) → Justified P old → Refuted P old → flip old ≡ None → Turns P vars old new NoModel
turn_end P vars old new j found e = flip_none P old (blocked P old j found) e

pub turn_push : (P : Assignment → Type 0) (vars : ℕ) (s : Step) (old new : List Step) → Justified P (s ∷ old) → new ≡ s ∷ old → length new ≤ vars + 1 → Turns P vars old new On
turn_push P vars s old new j e room =
    (subst (Justified P) (sym e) j, room, rw e (rank_push (vars + 1) s old (omega (arith, ap length e))))

-- the measure falls
pub turn_falls : (n : ℕ) (old new : List Step) → length new ≤ n → rank n old < rank n new → 3 ^ n - rank n new < 3 ^ n - rank n old
turn_falls n old new room h = omega (arith, rank_bound n new room, pow_positive (n - length new))
