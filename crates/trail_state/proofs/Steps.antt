-- The steps, as the tables give them.
use Rattle.std.proofs.Common.{◌≡◌, ◌≢◌, ℕ, suc, zero, ◌+◌, ◌-◌, ◌<◌, ◌≤◌, Bool, true, false, ◌&&◌, List, [], ◌∷◌, ◌++◌, length, get_or, set, take, replicate, inl, inr, refl, sym, ap, ◌∙◌, arith, length-append, eqb, add-one}
use Rattle.std.specs.Prelude.{map, nat_lt, slice_index_or}
use Rattle.std.proofs.lemmas.Bool.{cases_eq, cases_lt, ne_eqb, eq-eqb}
use Rattle.std.proofs.lemmas.List.{append-nil, get_or_append_left, get_or-append_right, length-replicate, get_or_push, get_or-take, get_or-set_same, get_or-set_other, length_push, length-take-le, take_more, take_all, get_or_past, get_or-map, map-set}
use Rattle.sat_terms.specs.Literal.{var_of}
use Rattle.trail_state.specs.declared.trail.Step.{Step}
use Rattle.trail_state.specs.declared.trail.Entry.{Entry}
use Rattle.trail_state.specs.declared.reason.Reason.{Reason}
use Rattle.trail_state.specs.declared.reason.Reason.TheVariants.{Decision, Clause, Theory}
use Rattle.trail_state.specs.Trail.{step, no_step, lits_of, level_after}
use Rattle.trail_state.specs.Table.{empty_entry, entry_of, opens, reason_by, step_by, step_at, first_steps, steps_of, starts_after, flags_after, is_decision, is_theory}
use Rattle.trail_state.proofs.Changes.{step_old, step_new, lits_push}

-- how many first steps there are, and what they are
first_steps-length : (f : ℕ → Step) (n : ℕ) → length (first_steps f n) ≡ n
first_steps-length f zero = refl
first_steps-length f (suc n) = let l = length_push (first_steps f n) (f n) in let r = first_steps-length f n in omega arith

first_steps-step : (f : ℕ → Step) (n i : ℕ) → i < n → step (first_steps f n) i ≡ f i
first_steps-step f zero i lt = absurd (omega arith)
first_steps-step f (suc n) i lt =
    let l = first_steps-length f n in
    elim (cases_eq i n) [
      | inl e ↦ let z : step (first_steps f n ++ f n ∷ []) n ≡ f n = get_or_push (first_steps f n) (f n) no_step n l in rw e z
      | inr m ↦ step_old (first_steps f n) (f n) i (omega arith) ∙ first_steps-step f n i (omega arith)
    ]

first_steps-same : (f g : ℕ → Step) (n : ℕ) → ((i : ℕ) → i < n → f i ≡ g i) → first_steps f n ≡ first_steps g n
first_steps-same f g zero same = refl
first_steps-same f g (suc n) same = rw (first_steps-same f g n (λ i lt. same i (omega arith)), same n (omega arith)) refl

first_steps-take : (f : ℕ → Step) (n k : ℕ) → k ≤ n → take k (first_steps f n) ≡ first_steps f k
first_steps-take f zero k le = let z : k ≡ 0 = omega arith in rw z refl
first_steps-take f (suc n) k le =
    elim (cases_eq k (suc n)) [
      | inl e ↦ rw e (take_all (suc n) (first_steps f (suc n)) (let l = first_steps-length f (suc n) in omega arith))
      | inr m ↦
          let l = first_steps-length f n in
          front (first_steps f n) (f n) k (omega arith) ∙ first_steps-take f n k (omega arith)
    ] where
      front : (t : List Step) (x : Step) (j : ℕ) → j ≤ length t → take j (t ++ x ∷ []) ≡ take j t
      front t x zero b = refl
      front [] x (suc j) b = absurd (omega arith)
      front (y ∷ t) x (suc j) b = ap (λ u. y ∷ u) (front t x j (omega arith))

-- the steps of a trail by place
pub steps-length : (ls : List ℕ) (es : List Entry) (th : List Bool) (st : List ℕ) → length (steps_of ls es th st) ≡ length ls
unfolding steps_of
steps-length ls es th st = first_steps-length (step_at ls es th st) (length ls)

pub steps-step : (ls : List ℕ) (es : List Entry) (th : List Bool) (st : List ℕ) (i : ℕ) → i < length ls → step (steps_of ls es th st) i ≡ step_at ls es th st i
unfolding steps_of
steps-step ls es th st i lt = first_steps-step (step_at ls es th st) (length ls) i lt

pub steps-lit : (ls : List ℕ) (es : List Entry) (th : List Bool) (st : List ℕ) (i : ℕ) → i < length ls → (step (steps_of ls es th st) i).lit ≡ get_or ls i 0
steps-lit ls es th st i lt = ap (λ x. x.lit) (steps-step ls es th st i lt)

pub steps-none : (es : List Entry) (th : List Bool) (st : List ℕ) → steps_of [] es th st ≡ []
unfolding steps_of
steps-none es th st = refl

-- their literals are those of the list
pub lits_of-steps : (ls : List ℕ) (es : List Entry) (th : List Bool) (st : List ℕ) → lits_of (steps_of ls es th st) ≡ ls
unfolding steps_of
lits_of-steps ls es th st = go (length ls) (omega arith) ∙ take_all (length ls) ls (omega arith) where
  go : (n : ℕ) → n ≤ length ls → lits_of (first_steps (step_at ls es th st) n) ≡ take n ls
  go zero le = refl
  go (suc n) le = lits_push (first_steps (step_at ls es th st) n) (step_at ls es th st n) ∙ rw (go n (omega arith)) (let more : take (n + 1) ls ≡ take n ls ++ get_or ls n 0 ∷ [] = take_more ls n 0 (omega arith) in sym (rw add-one at more))

-- what two entries have in common where the place alone differs
pub record SameStanding (e e' : Entry) : Type 0 where
  pub level : e'.level ≡ e.level
  pub clause : e'.clause ≡ e.clause

-- the same literal, level, clause, flag and starts make the same step
same_step : (ls ls' : List ℕ) (es es' : List Entry) (th th' : List Bool) (st st' : List ℕ) (i : ℕ) → get_or ls' i 0 ≡ get_or ls i 0 → SameStanding (entry_of es (var_of (get_or ls i 0))) (entry_of es' (var_of (get_or ls i 0)))
    → get_or th' i false ≡ get_or th i false → opens st' (entry_of es (var_of (get_or ls i 0))).level i ≡ opens st (entry_of es (var_of (get_or ls i 0))).level i → step_at ls' es' th' st' i ≡ step_at ls es th st i
same_step ls ls' es es' th th' st st' i l e f o = rw (l, e.level, e.clause, f, o) refl

-- whether a level starts at an old place is not changed by later starts
opens_longer : (st more : List ℕ) (level i : ℕ) → level ≤ length st → opens (st ++ more) level i ≡ opens st level i
opens_longer st more zero i le = refl
opens_longer st more (suc n) i le = ap (λ z. eqb z i) (get_or_append_left st more 0 n (omega arith))

opens_take : (st : List ℕ) (m level i : ℕ) → level ≤ m → opens (take m st) level i ≡ opens st level i
opens_take st m zero i le = refl
opens_take st m (suc n) i le = ap (λ z. eqb z i) (get_or-take m st n 0 (omega arith))

-- what a table reads of a variable whose entry was changed, and of another
pub entry_set-same : (es : List Entry) (v : ℕ) (e : Entry) → 0 < v → v ≤ length es → entry_of (set es (v - 1) e) v ≡ e
entry_set-same es v e pos le = get_or-set_same es (v - 1) e empty_entry (omega arith)

pub entry_set-other : (es : List Entry) (v u : ℕ) (e : Entry) → 0 < v → 0 < u → u ≢ v → entry_of (set es (v - 1) e) u ≡ entry_of es u
entry_set-other es v u e pos pos' n = get_or-set_other es (v - 1) (u - 1) e empty_entry (λ q. n (omega arith))

-- the flags once a literal came, at the old places and at its own
unflagged : (k i : ℕ) → get_or (replicate k false) i false ≡ false
unflagged zero i = refl
unflagged (suc k) zero = refl
unflagged (suc k) (suc i) = unflagged k i

padded : (th : List Bool) (n : ℕ) → length th ≤ n → length (th ++ replicate (n - length th) false) ≡ n
padded th n le = let a = length-append th (replicate (n - length th) false) in let c = length-replicate (n - length th) false in omega arith

flag_old : (th : List Bool) (n i : ℕ) (r : Reason) → i < n → length th ≤ n → get_or (flags_after th n r) i false ≡ get_or th i false
flag_old th n i Decision lt le = refl
flag_old th n i (Clause id) lt le = refl
flag_old th n i Theory lt le =
    let l = padded th n le in
    get_or_append_left (th ++ replicate (n - length th) false) (true ∷ []) false i (omega arith)
    ∙ elim (cases_lt i (length th)) [
      | inl a ↦ get_or_append_left th (replicate (n - length th) false) false i a
      | inr b ↦ get_or-append_right th (replicate (n - length th) false) (length th) i false refl b ∙ unflagged (n - length th) (i - length th) ∙ sym (get_or_past th i false b)
    ]

flag_here : (th : List Bool) (n : ℕ) (r : Reason) → length th ≤ n → get_or (flags_after th n r) n false ≡ is_theory r
flag_here th n Decision le = get_or_past th n false le
flag_here th n (Clause id) le = get_or_past th n false le
flag_here th n Theory le = get_or_push (th ++ replicate (n - length th) false) true false n (padded th n le)

pub flags-length : (th : List Bool) (n : ℕ) (r : Reason) → length th ≤ n → length (flags_after th n r) ≤ n + 1
flags-length th n Decision le = omega arith
flags-length th n (Clause id) le = omega arith
flags-length th n Theory le =
    let a = padded th n le in
    let b = length_push (th ++ replicate (n - length th) false) true in
    omega arith

-- whether a level starts at a place, once a literal came
opens_old : (st : List ℕ) (n level i : ℕ) (r : Reason) → level ≤ length st → opens (starts_after st n r) level i ≡ opens st level i
opens_old st n level i Decision le = opens_longer st (n ∷ []) level i le
opens_old st n level i (Clause id) le = refl
opens_old st n level i Theory le = refl

not_opened : (st : List ℕ) (n m : ℕ) → ((k : ℕ) → k < m → get_or st k 0 < n) → opens st m n ≡ false
not_opened st n zero up = refl
not_opened st n (suc m) up = ne_eqb (get_or st m 0) n (λ e. absurd (let z = up m (omega arith) in omega arith))

opens_here : (st : List ℕ) (n : ℕ) (r : Reason) → ((k : ℕ) → k < length st → get_or st k 0 < n) → opens (starts_after st n r) (length (starts_after st n r)) n ≡ is_decision r
opens_here st n Decision low = rw length_push (rw add-one (eq-eqb (get_or (st ++ n ∷ []) (length st) 0) n (get_or_push st n 0 (length st) refl)))
opens_here st n (Clause id) low = not_opened st n (length st) low
opens_here st n Theory low = not_opened st n (length st) low

pub starts-length : (st : List ℕ) (n : ℕ) (r : Reason) → length (starts_after st n r) ≡ level_after (length st) r
starts-length st n Decision = length_push st n ∙ add-one (length st)
starts-length st n (Clause id) = refl
starts-length st n Theory = refl

-- the steps with a literal more
pub steps-push : (ls : List ℕ) (es : List Entry) (th : List Bool) (st : List ℕ) (l clause n : ℕ) (r : Reason) → n ≡ length ls → 0 < var_of l → var_of l ≤ length es → length th ≤ n
    → ((j : ℕ) → j < n → (0 < var_of (get_or ls j 0)) × (var_of (get_or ls j 0) ≢ var_of l) × ((entry_of es (var_of (get_or ls j 0))).level ≤ length st)) → ((k : ℕ) → k < length st → get_or st k 0 < n) → r ≡ reason_by (is_decision r) (is_theory r) clause
    → steps_of (ls ++ l ∷ []) (set es (var_of l - 1) (record { place = n + 1; level = length (starts_after st n r); clause = clause })) (flags_after th n r) (starts_after st n r) ≡ steps_of ls es th st ++ record { lit = l; level = level_after (length st) r; reason = r } ∷ []
unfolding steps_of
steps-push ls es th st l clause n r n-is pos le few old low r-is =
    rw (length_push ls l, add-one (length ls))
    (let same : first_steps new (length ls) ≡ first_steps (step_at ls es th st) (length ls) = first_steps-same new (step_at ls es th st) (length ls) (λ i lt.
    let lt' : i < n = omega arith in
    let o = old i lt' in
    let here : get_or (ls ++ l ∷ []) i 0 ≡ get_or ls i 0 = get_or_append_left ls (l ∷ []) 0 i lt in
    let keep = entry_set-other es (var_of l) (var_of (get_or ls i 0)) e pos o.0 o.1 in
    same_step ls (ls ++ l ∷ []) es es' th (flags_after th n r) st (starts_after st n r) i here (record { level = ap (λ z. z.level) keep; clause = ap (λ z. z.clause) keep }) (flag_old th n i r lt' few) (opens_old st n (entry_of es (var_of (get_or ls i 0))).level i r o.2)) in
    let last : new (length ls) ≡ record { lit = l; level = level_after (length st) r; reason = r } =
    rw (get_or_push ls l 0 (length ls) refl, entry_set-same es (var_of l) e pos le, ← n-is, flag_here th n r few, opens_here st n r low, ← r-is, starts-length st n r) refl in
    rw (same, last) refl)
  where
    e : Entry
    e = record { place = n + 1; level = length (starts_after st n r); clause = clause }

    es' : List Entry
    es' = set es (var_of l - 1) e

    new : ℕ → Step
    new = step_at (ls ++ l ∷ []) es' (flags_after th n r) (starts_after st n r)

-- the steps of a front, whose variables keep their levels and clauses
pub steps-back : (ls : List ℕ) (es es' : List Entry) (th : List Bool) (st : List ℕ) (k m : ℕ) → k ≤ length ls → ((i : ℕ) → i < k → SameStanding (entry_of es (var_of (get_or ls i 0))) (entry_of es' (var_of (get_or ls i 0)))) → ((i : ℕ) → i < k → (entry_of es (var_of (get_or ls i 0))).level ≤ m)
    → steps_of (take k ls) es' (take k th) (take m st) ≡ take k (steps_of ls es th st)
unfolding steps_of
steps-back ls es es' th st k m le keep low =
    rw (length-take-le k ls le, first_steps-take (step_at ls es th st) (length ls) k le)
    (first_steps-same (step_at (take k ls) es' (take k th) (take m st)) (step_at ls es th st) k (λ i lt.
    same_step ls (take k ls) es es' th (take k th) st (take m st) i (get_or-take k ls i 0 lt) (keep i lt) (get_or-take k th i false lt) (opens_take st m (entry_of es (var_of (get_or ls i 0))).level i (low i lt))))

-- the steps beside a table of more variables
pub steps-wider : (ls : List ℕ) (es es' : List Entry) (th : List Bool) (st : List ℕ) → ((i : ℕ) → i < length ls → entry_of es' (var_of (get_or ls i 0)) ≡ entry_of es (var_of (get_or ls i 0))) → steps_of ls es' th st ≡ steps_of ls es th st
unfolding steps_of
steps-wider ls es es' th st keep = first_steps-same (step_at ls es' th st) (step_at ls es th st) (length ls) (λ i lt. let k = keep i lt in same_step ls ls es es' th th st st i refl (record { level = ap (λ z. z.level) k; clause = ap (λ z. z.clause) k }) refl refl)
