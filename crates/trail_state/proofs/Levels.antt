-- What the levels of a trail say.
use Rattle.std.proofs.Common.{◌≡◌, ℕ, suc, zero, ◌+◌, ◌<◌, ◌≤◌, List, [], ◌∷◌, ◌++◌, length, take, inl, inr, refl, ◌∙◌, arith}
use Rattle.std.proofs.lemmas.Bool.{cases_lt}
use Rattle.trail_state.specs.declared.trail.Step.{Step}
use Rattle.trail_state.specs.declared.reason.Reason.{Reason}
use Rattle.trail_state.specs.declared.reason.Reason.TheVariants.{Decision, Clause, Theory}
use Rattle.trail_state.specs.Trail.{Trace, step, level_after, Levelled, IsStart, IsBack}

pub after_le : (n : ℕ) (r : Reason) → n ≤ level_after n r
after_le n Decision = omega arith
after_le n (Clause id) = omega arith
after_le n Theory = omega arith

pub after_most : (n : ℕ) (r : Reason) → level_after n r ≤ n + 1
after_most n Decision = omega arith
after_most n (Clause id) = omega arith
after_most n Theory = omega arith

-- the level is no more than the number of steps
pub levelled_bound : (n : ℕ) (t : List Step) (top : ℕ) → Levelled n t top → top ≤ n + length t
levelled_bound n [] top h = omega arith
levelled_bound n (x ∷ t) top h =
    let r = levelled_bound (level_after n x.reason) t top h.1 in
    let a = after_most n x.reason in
    omega arith

-- no step stands below the level at which the list begins
pub levelled_from : (n : ℕ) (t : List Step) (top : ℕ) → Levelled n t top → (i : ℕ) → i < length t → n ≤ (step t i).level
levelled_from n [] top h i in' = absurd (omega arith)
levelled_from n (x ∷ t) top h zero in' = let a = after_le n x.reason in let e = h.0 in omega arith
levelled_from n (x ∷ t) top h (suc i) in' =
    let r = levelled_from (level_after n x.reason) t top h.1 i (omega arith) in
    let a = after_le n x.reason in
    omega arith

pub levelled_le : (n : ℕ) (t : List Step) (top : ℕ) → Levelled n t top → n ≤ top
levelled_le n [] top h = omega arith
levelled_le n (x ∷ t) top h =
    let r = levelled_le (level_after n x.reason) t top h.1 in
    let a = after_le n x.reason in
    omega arith

-- no step stands above the current level
pub below_top : (n : ℕ) (t : List Step) (top : ℕ) → Levelled n t top → (i : ℕ) → i < length t → (step t i).level ≤ top
below_top n [] top h i in' = absurd (omega arith)
below_top n (x ∷ t) top h zero in' = let r = levelled_le (level_after n x.reason) t top h.1 in let e = h.0 in omega arith
below_top n (x ∷ t) top h (suc i) in' = below_top (level_after n x.reason) t top h.1 i (omega arith)

-- levels never fall from one place to a later one
pub rising : (n : ℕ) (t : List Step) (top : ℕ) → Levelled n t top → (i j : ℕ) → i ≤ j → j < length t → (step t i).level ≤ (step t j).level
rising n [] top h i j le in' = absurd (omega arith)
rising n (x ∷ t) top h zero zero le in' = omega arith
rising n (x ∷ t) top h zero (suc j) le in' = let r = levelled_from (level_after n x.reason) t top h.1 j (omega arith) in let e = h.0 in omega arith
rising n (x ∷ t) top h (suc i) zero le in' = absurd (omega arith)
rising n (x ∷ t) top h (suc i) (suc j) le in' = rising (level_after n x.reason) t top h.1 i j (omega arith) (omega arith)

-- a decision stands above the level at which the list begins, and so above the root
pub decided : (n : ℕ) (t : List Step) (top : ℕ) → Levelled n t top → (i : ℕ) → i < length t → (step t i).reason ≡ Decision → n < (step t i).level
decided n [] top h i in' is = absurd (omega arith)
decided n (x ∷ t) top h zero in' is = let e : x.level ≡ suc n = rw is at h.0 in omega arith
decided n (x ∷ t) top h (suc i) in' is =
    let r = decided (level_after n x.reason) t top h.1 i (omega arith) is in
    let a = after_le n x.reason in
    omega arith

-- a decision stands above every earlier step
pub opens : (n : ℕ) (t : List Step) (top : ℕ) → Levelled n t top → (i j : ℕ) → i < j → j < length t → (step t j).reason ≡ Decision → (step t i).level < (step t j).level
opens n [] top h i j lt in' is = absurd (omega arith)
opens n (x ∷ t) top h i zero lt in' is = absurd (omega arith)
opens n (x ∷ t) top h zero (suc j) lt in' is = let r = decided (level_after n x.reason) t top h.1 j (omega arith) is in let e = h.0 in omega arith
opens n (x ∷ t) top h (suc i) (suc j) lt in' is = opens (level_after n x.reason) t top h.1 i j (omega arith) (omega arith) is

-- one step more
pub levelled_push : (n : ℕ) (t : List Step) (top top' : ℕ) (x : Step) → Levelled n t top → top' ≡ level_after top x.reason → x.level ≡ top' → Levelled n (t ++ x ∷ []) top'
levelled_push n [] top top' x h after lev = (lev ∙ rw (after, h) refl, rw (after, h) refl)
levelled_push n (y ∷ t) top top' x h after lev = (h.0, levelled_push (level_after n y.reason) t top top' x h.1 after lev)

-- the front up to a level
pub levelled_back : (n : ℕ) (t : List Step) (top level k : ℕ) → Levelled n t top → n ≤ level → level ≤ top → k ≤ length t → ((i : ℕ) → i < k → (step t i).level ≤ level) → ((i : ℕ) → k ≤ i → i < length t → level < (step t i).level) → Levelled n (take k t) level
levelled_back n [] top level zero h low le in' small great = omega arith
levelled_back n [] top level (suc k) h low le in' small great = absurd (omega arith)
levelled_back n (x ∷ t) top level zero h low le in' small great =
    let g = great 0 (omega arith) (omega arith) in
    let e = h.0 in
    let a = after_most n x.reason in
    omega arith
levelled_back n (x ∷ t) top level (suc k) h low le in' small great =
    (h.0, levelled_back (level_after n x.reason) t top level k h.1 (let s = small 0 (omega arith) in let e = h.0 in omega arith) le (omega arith) (λ i lt. small (suc i) (omega arith)) (λ i a b. great (suc i) (omega arith) (omega arith)))

-- the first step above a level is a decision
pub first_high : (n : ℕ) (t : List Step) (top level k : ℕ) → Levelled n t top → n ≤ level → k < length t → ((i : ℕ) → i < k → (step t i).level ≤ level) → level < (step t k).level → (step t k).reason ≡ Decision
first_high n [] top level k h low in' small great = absurd (omega arith)
first_high n (x ∷ t) top level zero h low in' small great = only x.reason h.0 where
  only : (r : Reason) → x.level ≡ level_after n r → r ≡ Decision
  only Decision e = refl
  only (Clause id) e = absurd (omega arith)
  only Theory e = absurd (omega arith)
first_high n (x ∷ t) top level (suc k) h low in' small great =
    first_high (level_after n x.reason) t top level k h.1 (let s = small 0 (omega arith) in let e = h.0 in omega arith) (omega arith) (λ i lt. small (suc i) (omega arith)) great

-- a step stands at the current level, if that is not the level at which the list begins
pub top_stands : (n : ℕ) (t : List Step) (top : ℕ) → Levelled n t top → n < top → (j : ℕ) × (j < length t) × ((step t j).level ≡ top)
top_stands n [] top h up = absurd (omega arith)
top_stands n (x ∷ t) top h up =
    elim (cases_lt (level_after n x.reason) top) [
      | inl lt ↦
          let r = top_stands (level_after n x.reason) t top h.1 lt in
          let b = r.1 in
          (suc r.0, omega arith, r.2)
      | inr ge ↦
          let le = levelled_le (level_after n x.reason) t top h.1 in
          let e = h.0 in
          (0, omega arith, omega arith)
    ]

-- a level up to the current one starts before the end
pub start_before : (t : List Step) (top level s : ℕ) → Levelled 0 t top → IsStart t level s → 0 < level → level ≤ top → s < length t
start_before t top level s h start pos le =
    let r = top_stands 0 t top h (omega arith) in
    let b = r.1 in
    let e = r.2 in
    elim (cases_lt r.0 s) [
      | inl lt ↦ absurd (let z = start.below r.0 lt in omega arith)
      | inr ge ↦ omega arith
    ]

-- a level starts at one place
pub start_once : (t : List Step) (level s s' : ℕ) → IsStart t level s → IsStart t level s' → s ≤ s'
start_once t level s s' a b =
    elim (cases_lt s' s) [
      | inl lt ↦ absurd (let i = a.within in let x = a.below s' lt in let y = b.rest s' (omega arith) (omega arith) in omega arith)
      | inr ge ↦ ge
    ]

-- what going back to a level keeps ends where the next level starts
pub kept_start : (old new : Trace) (level s : ℕ) (back : IsBack old new level) → IsStart old.steps (suc level) s → back.kept ≡ s
kept_start old new level s back start =
    let low : s ≤ back.kept =
    elim (cases_lt back.kept s) [
      | inl lt ↦ absurd (let i = start.within in let x = start.below back.kept lt in let y = back.high back.kept (omega arith) (omega arith) in omega arith)
      | inr ge ↦ ge
    ] in
    let up : back.kept ≤ s =
    elim (cases_lt s back.kept) [
      | inl lt ↦ absurd (let i = back.within in let x = start.rest s (omega arith) (omega arith) in let y = back.low s lt in omega arith)
      | inr ge ↦ ge
    ] in
    omega arith
