-- What each call makes of the tables.
use Rattle.std.proofs.Common.{◌≡◌, ◌≢◌, ℕ, suc, zero, ◌+◌, ◌-◌, ◌<◌, ◌≤◌, Bool, false, List, [], ◌∷◌, ◌++◌, length, length-set, get_or, set, take, replicate, inl, inr, refl, sym, ap, ◌∙◌, arith, Some, None, length-append, add-one}
use Rattle.std.specs.Prelude.{map}
use Rattle.std.proofs.lemmas.Bool.{cases_eq, cases_lt}
use Rattle.std.proofs.lemmas.List.{length-map, map-append, map-set, take-map, take_all, length-replicate, length-take, length-take-le, get_or_append_left, get_or_push, get_or-take, get_or_past, get_or_default, get_or_read, get_or-map, length_push}
use Rattle.sat_terms.specs.Limits.{max_var}
use Rattle.sat_terms.specs.Literal.{var_of}
use Rattle.trail_state.specs.declared.trail.Step.{Step}
use Rattle.trail_state.specs.declared.trail.Entry.{Entry}
use Rattle.trail_state.specs.declared.reason.Reason.{Reason}
use Rattle.trail_state.specs.declared.reason.Reason.TheVariants.{Decision, Clause, Theory}
use Rattle.trail_state.specs.Trail.{step, value_on, place_on, level_on, level_after, IsTrail, IsStart, IsBack}
use Rattle.trail_state.specs.Table.{empty_entry, entry_of, places_of, reason_by, opens, steps_of, starts_after, flags_after, is_decision, is_theory, start_by, step_by, TableFits, AllStart, IsHeld, IsValued}
use Rattle.trail_state.proofs.Places.{nowhere, read_past, read_zero, read_here, place_some, level_at}
use Rattle.trail_state.proofs.Levels.{levelled_bound, below_top, start_before}
use Rattle.trail_state.proofs.Changes.{step_old, step_new, old_or_new, table_push, shape_push, room_left, table_declared}
use Rattle.trail_state.proofs.Backing.{step_take, Falling, shape_back}
use Rattle.trail_state.proofs.Steps.{SameStanding, steps-length, steps-step, steps-lit, steps-none, steps-push, steps-back, steps-wider, starts-length, flags-length}

-- where a level starts, as the code finds it
pub start_is : (ls : List ℕ) (es : List Entry) (th : List Bool) (st : List ℕ) (rl rf rs : ℕ) (level end : ℕ) → IsHeld ls es th st rl rf rs → end ≡ length ls → IsStart (steps_of ls es th st) level (start_by st level end)
start_is ls es th st rl rf rs zero end h is = record { within = omega arith; below = λ i lt. absurd (omega arith); rest = λ i a b. omega arith }
start_is ls es th st rl rf rs (suc n) end h is =
    let t = steps_of ls es th st in
    let size : length t ≡ length ls = steps-length ls es th st in
    elim (cases_lt n (length st)) [
      | inl lt ↦ let e : get_or st n end ≡ get_or st n 0 = get_or_default st n end 0 lt in rw e (h.started n lt)
      | inr ge ↦
          let e : get_or st n end ≡ end = get_or_past st n end ge in
          rw e (record { within = omega arith; below = λ i lt. let z = below_top 0 t (length st) h.shape.levels i (omega arith) in omega arith; rest = λ i a b. absurd (omega arith) })
    ]

-- the level that the table has for a literal of the trail
pub entry_level : (ls : List ℕ) (es : List Entry) (th : List Bool) (st : List ℕ) (rl rf rs i : ℕ) → IsHeld ls es th st rl rf rs → i < length ls → (entry_of es (var_of (get_or ls i 0))).level ≤ length st
entry_level ls es th st rl rf rs i h lt =
    let t = steps_of ls es th st in
    let size : length t ≡ length ls = steps-length ls es th st in
    let e : (step t i).level ≡ (entry_of es (var_of (get_or ls i 0))).level = ap (λ x. x.level) (steps-step ls es th st i lt) in
    let z = below_top 0 t (length st) h.shape.levels i (omega arith) in
    omega arith

-- the variable of a literal of the trail is declared
pub lit_declared : (ls : List ℕ) (es : List Entry) (th : List Bool) (st : List ℕ) (rl rf rs i : ℕ) → IsHeld ls es th st rl rf rs → i < length ls → (0 < var_of (get_or ls i 0)) × (var_of (get_or ls i 0) ≤ length es)
lit_declared ls es th st rl rf rs i h lt =
    let size = steps-length ls es th st in
    let p = h.table.placed i (omega arith) in
    let e = steps-lit ls es th st i lt in
    let l = length-map es (λ (z : Entry). z.place) in
    let a : 0 < var_of (get_or ls i 0) = rw e at p.named in
    let b : var_of (get_or ls i 0) ≤ length (places_of es) = rw e at p.declared in
    (a, omega arith)

-- a trail has no more levels than literals, and no more of these than variables
pub few_levels : (ls : List ℕ) (es : List Entry) (th : List Bool) (st : List ℕ) (rl rf rs : ℕ) → IsHeld ls es th st rl rf rs → (length st ≤ length ls) × (length ls ≤ length es) × (length es ≤ max_var)
few_levels ls es th st rl rf rs h =
    let size = steps-length ls es th st in
    let filled = h.table.filled in
    let few = h.table.few in
    let l = length-map es (λ (z : Entry). z.place) in
    let b = levelled_bound 0 (steps_of ls es th st) (length st) h.shape.levels in
    (omega arith, omega arith, omega arith)

-- a level's start on a longer trail
start_longer : (t : List Step) (x : Step) (level s : ℕ) → IsStart t level s → level ≤ x.level → IsStart (t ++ x ∷ []) level s
start_longer t x level s h le =
    let size = length_push t x in
    let w = h.within in
    record {
      within = omega arith;
      below = λ i lt. rw (step_old t x i (omega arith)) (h.below i lt);
      rest = λ i a b.
          elim (old_or_new t x i b) [
            | inl old ↦ rw (step_old t x i old) (h.rest i a old)
            | inr e ↦ rw (e, step_new t x) le
          ];
    }

-- the starts once a literal came
started_push : (t : List Step) (st : List ℕ) (x : Step) (n : ℕ) (r : Reason) → IsTrail t (length st) → AllStart t st → n ≡ length t → x.level ≡ level_after (length st) r → AllStart (t ++ x ∷ []) (starts_after st n r)
started_push t st x n Decision shape all n-is lev k lt =
    let size = length_push st n in
    let size' = length_push t x in
    elim (cases_lt k (length st)) [
      | inl old ↦
          let e : get_or (st ++ n ∷ []) k 0 ≡ get_or st k 0 = get_or_append_left st (n ∷ []) 0 k old in
          rw e (start_longer t x (suc k) (get_or st k 0) (all k old) (omega arith))
      | inr ge ↦
          let k-is : k ≡ length st = omega arith in
          let e : get_or (st ++ n ∷ []) (length st) 0 ≡ n = get_or_push st n 0 (length st) refl in
          rw (k-is, e) (record {
            within = omega arith;
            below = λ i lt'. rw (step_old t x i (omega arith)) (let z = below_top 0 t (length st) shape.levels i (omega arith) in omega arith);
            rest = λ i a b.
                let i-is : i ≡ length t = omega arith in
                rw (i-is, step_new t x) (omega arith);
          })
    ]
started_push t st x n (Clause id) shape all n-is lev k lt = start_longer t x (suc k) (get_or st k 0) (all k lt) (omega arith)
started_push t st x n Theory shape all n-is lev k lt = start_longer t x (suc k) (get_or st k 0) (all k lt) (omega arith)

-- a literal of a declared variable that has no value comes: there is room, and the tables then fit
pub room_for : (ls : List ℕ) (es : List Entry) (th : List Bool) (st : List ℕ) (rl rf rs l : ℕ) → IsHeld ls es th st rl rf rs → 0 < var_of l → var_of l ≤ length es → value_on (steps_of ls es th st) l ≡ None → length ls < length es
room_for ls es th st rl rf rs l h pos le free =
    let t = steps_of ls es th st in
    let size = steps-length ls es th st in
    let long = length-map es (λ (z : Entry). z.place) in
    let left = room_left (places_of es) t (var_of l) h.table pos (omega arith) (nowhere t l free) in
    omega arith

pub record IsPushed (ls : List ℕ) (es : List Entry) (th : List Bool) (st : List ℕ) (ls' : List ℕ) (es' : List Entry) (th' : List Bool) (st' : List ℕ) (rl rf rs l : ℕ) (r : Reason) : Type 0 where
  pub steps : steps_of ls' es' th' st' ≡ steps_of ls es th st ++ record { lit = l; level = level_after (length st) r; reason = r } ∷ []
  pub held : IsHeld ls' es' th' st' rl rf rs

pub held_push : (ls : List ℕ) (es : List Entry) (th : List Bool) (st ls' : List ℕ) (es' : List Entry) (th' : List Bool) (st' : List ℕ) (rl rf rs rl' rf' rs' l clause n : ℕ) (r : Reason) → IsHeld ls es th st rl rf rs → 0 < var_of l → var_of l ≤ length es → value_on (steps_of ls es th st) l ≡ None
    → n ≡ length ls → r ≡ reason_by (is_decision r) (is_theory r) clause → ls' ≡ ls ++ l ∷ [] → th' ≡ flags_after th n r → st' ≡ starts_after st n r → es' ≡ set es (var_of l - 1) (record { place = n + 1; level = length st'; clause = clause }) → rl ≤ rl' → rf ≤ rf' → rs ≤ rs' → IsPushed ls es th st ls' es' th' st' rl' rf' rs' l r
held_push ls es th st ls' es' th' st' rl rf rs rl' rf' rs' l clause n r h pos le free n-is r-is ls-is th-is st-is es-is more-l more-f more-s =
    let a = h.lits_room in
    let b = h.flags_room in
    let c = h.starts_room in
    let f = h.flags in
    let size' : length es' ≡ length es = ap length es-is ∙ length-set es (var_of l - 1) (record { place = n + 1; level = length st'; clause = clause }) in
    let long' : length ls' ≡ length ls + 1 = ap length ls-is ∙ length_push ls l in
    let flags' : length th' ≤ n + 1 = rw th-is (flags-length th n r (omega arith)) in
    let top : length st' ≡ level_after (length st) r = rw st-is (starts-length st n r) in
    let fit : TableFits (set (places_of es) (var_of l - 1) (length t + 1)) (t ++ x ∷ []) = table_push (places_of es) t x h.table pos (omega (arith, long)) (nowhere t l free) in
    record {
      steps = steps;
      held = record {
        table = rw (steps, es-is, map-set (λ (z : Entry). z.place) es (var_of l - 1) (record { place = n + 1; level = length st'; clause = clause })) (rw (size, ← n-is) at fit);
        shape = rw steps (shape_push t (length st) (length st') x h.shape (nowhere t l free) top (sym top));
        started = rw (steps, st-is) (started_push t st x n r h.shape h.started (omega (arith, size)) refl);
        flags = omega arith;
        lits_room = omega arith;
        flags_room = omega arith;
        starts_room = omega arith;
      };
    }
  where
    t : List Step
    t = steps_of ls es th st

    x : Step
    x = record { lit = l; level = level_after (length st) r; reason = r }

    size : length t ≡ length ls
    size = steps-length ls es th st

    long : length (places_of es) ≡ length es
    long = length-map es (λ (z : Entry). z.place)

    old : (j : ℕ) → j < n → (0 < var_of (get_or ls j 0)) × (var_of (get_or ls j 0) ≢ var_of l) × ((entry_of es (var_of (get_or ls j 0))).level ≤ length st)
    old j lt =
        let in' : j < length ls = omega arith in
        let d = lit_declared ls es th st rl rf rs j h in' in
        (d.0, let o : var_of (step t j).lit ≢ var_of l = nowhere t l free j (omega (arith, size)) in rw (steps-lit ls es th st j in') at o, entry_level ls es th st rl rf rs j h in')

    low : (k : ℕ) → k < length st → get_or st k 0 < n
    low k lt = let z = start_before t (length st) (suc k) (get_or st k 0) h.shape.levels (h.started k lt) (omega arith) (omega arith) in omega (arith, size)

    steps : steps_of ls' es' th' st' ≡ t ++ x ∷ []
    steps = rw (ls-is, th-is, es-is, st-is) (steps-push ls es th st l clause n r n-is pos le (let f = h.flags in omega arith) old low r-is)

-- The trail goes back to a level: the walk came down to where the next one starts.
pub record IsPopped (ls : List ℕ) (es : List Entry) (th : List Bool) (st : List ℕ) (ls' : List ℕ) (es' : List Entry) (th' : List Bool) (st' : List ℕ) (rl rf rs k : ℕ) : Type 0 where
  pub steps : steps_of ls' es' th' st' ≡ take k (steps_of ls es th st)
  pub held : IsHeld ls' es' th' st' rl rf rs

start_taken : (t : List Step) (k level s : ℕ) → k ≤ length t → s ≤ k → IsStart t level s → IsStart (take k t) level s
start_taken t k level s in' le h =
    let size = length-take-le k t in' in
    record {
      within = omega arith;
      below = λ i lt. rw (step_take t k i (omega arith)) (h.below i lt);
      rest = λ i a b. rw (step_take t k i (omega arith)) (h.rest i a (omega arith));
    }

pub held_back : (ls : List ℕ) (es : List Entry) (th : List Bool) (st ls' : List ℕ) (es' : List Entry) (th' : List Bool) (st' : List ℕ) (rl rf rs rl' rf' rs' level k : ℕ) → IsHeld ls es th st rl rf rs → level ≤ length st → IsStart (steps_of ls es th st) (level + 1) k → Falling (steps_of ls es th st) es es' k
    → ls' ≡ take k ls → th' ≡ take k th → st' ≡ take level st → rl ≤ rl' → rf ≤ rf' → rs ≤ rs' → IsPopped ls es th st ls' es' th' st' rl' rf' rs' k
held_back ls es th st ls' es' th' st' rl rf rs rl' rf' rs' level k h le start f ls-is th-is st-is more-l more-f more-s =
    let a = h.lits_room in
    let b = h.flags_room in
    let c = h.starts_room in
    let same = f.sized in
    let long : length ls' ≡ k = rw ls-is (length-take-le k ls in') in
    let flags' : length th' ≤ k = rw th-is (omega (arith, length-take k th)) in
    record {
      steps = steps;
      held = record {
        table = rw steps f.table;
        shape = rw (steps, top) (shape_back t (length st) level k h.shape le within low high);
        started = rw steps (λ n lt.
            let n-in : n < level = rw top at lt in
            let s = h.started n (omega arith) in
            let e : get_or st' n 0 ≡ get_or st n 0 = rw st-is (get_or-take level st n 0 n-in) in
            let up : get_or st n 0 ≤ k =
            elim (cases_lt k (get_or st n 0)) [
              | inl gt ↦ absurd (let w = s.within in let y = s.below k gt in let z = high k (omega arith) (omega arith) in omega arith)
              | inr ge ↦ ge
            ] in
            rw e (start_taken t k (suc n) (get_or st n 0) within up s));
        flags = omega arith;
        lits_room = omega arith;
        flags_room = omega arith;
        starts_room = omega arith;
      };
    }
  where
    t : List Step
    t = steps_of ls es th st

    size : length t ≡ length ls
    size = steps-length ls es th st

    within : k ≤ length t
    within = start.within

    in' : k ≤ length ls
    in' = let w = start.within in omega (arith, size)

    top : length st' ≡ level
    top = rw st-is (length-take-le level st le)

    low : (i : ℕ) → i < k → (step t i).level ≤ level
    low i lt = let z = start.below i lt in omega arith

    high : (i : ℕ) → k ≤ i → i < length t → level < (step t i).level
    high i a b = let z = start.rest i a b in omega arith

    steps : steps_of ls' es' th' st' ≡ take k t
    steps = rw (ls-is, th-is, st-is) (steps-back ls es es' th st k level in' (λ i lt. f.keep (var_of (get_or ls i 0))) (λ i lt.
        let e : (step t i).level ≡ (entry_of es (var_of (get_or ls i 0))).level = ap (λ x. x.level) (steps-step ls es th st i (omega (arith, in'))) in
        let z = low i lt in
        omega arith))

-- more variables are declared
pub held_declared : (ls : List ℕ) (es : List Entry) (th : List Bool) (st : List ℕ) (es' : List Entry) (rl rf rs rl' rf' rs' had count : ℕ) → IsHeld ls es th st rl rf rs → had ≡ length es → had < count → count ≤ max_var → es' ≡ take count es ++ replicate (count - had) empty_entry
    → count ≤ rl' → count ≤ rf' → count ≤ rs' → (steps_of ls es' th st ≡ steps_of ls es th st) × (length es' ≡ count) × IsHeld ls es' th st rl' rf' rs'
held_declared ls es th st es' rl rf rs rl' rf' rs' had count h is lt few es-is a b c = (
  same,
  long,
  record {
    table = rw (same, places-is) table.0;
    shape = rw same h.shape;
    started = rw same h.started;
    flags = h.flags;
    lits_room = omega (arith, long);
    flags_room = omega (arith, long);
    starts_room = omega (arith, long);
  },
)
  where
    whole : es' ≡ es ++ replicate (count - had) empty_entry
    whole = rw (take_all count es (omega arith)) at es-is

    long : length es' ≡ count
    long = rw whole (let x = length-append es (replicate (count - had) empty_entry) in let y = length-replicate (count - had) empty_entry in omega arith)

    empty-places : (n : ℕ) → places_of (replicate n empty_entry) ≡ replicate n 0
    empty-places zero = refl
    empty-places (suc n) = ap (λ z. 0 ∷ z) (empty-places n)

    sized : length (places_of es) ≡ length es
    sized = length-map es (λ (z : Entry). z.place)

    places-is : places_of es' ≡ take count (places_of es) ++ replicate (count - had) 0
    places-is = rw (whole, map-append (λ (z : Entry). z.place) es (replicate (count - had) empty_entry), empty-places (count - had), take_all count (places_of es) (let z = sized in omega arith)) refl

    table : TableFits (take count (places_of es) ++ replicate (count - had) 0) (steps_of ls es th st) × (length (take count (places_of es) ++ replicate (count - had) 0) ≡ count)
    table = table_declared (places_of es) (take count (places_of es) ++ replicate (count - had) 0) (steps_of ls es th st) had count h.table (omega (arith, sized)) lt few refl

    same : steps_of ls es' th st ≡ steps_of ls es th st
    same = steps-wider ls es es' th st (λ i in'.
        let d = lit_declared ls es th st rl rf rs i h in' in
        let pos = d.0 in
        let le = d.1 in
        rw whole (get_or_append_left es (replicate (count - had) empty_entry) empty_entry (var_of (get_or ls i 0) - 1) (omega arith)))

-- What the table says of a variable, as the code reads it: `at` is the variable's index, and `e` what stands there.
pub entry_past : (ls : List ℕ) (es : List Entry) (th : List Bool) (st : List ℕ) (rl rf rs v at : ℕ) → IsHeld ls es th st rl rf rs → 0 < v → at + 1 ≡ v → length es ≤ at → place_on (steps_of ls es th st) v ≡ None
entry_past ls es th st rl rf rs v at h pos is out =
    let l = length-map es (λ (z : Entry). z.place) in
    read_past (places_of es) (steps_of ls es th st) v at h.table pos is (omega arith)

pub entry_zero_at : (ls : List ℕ) (es : List Entry) (th : List Bool) (st : List ℕ) (rl rf rs v at : ℕ) (e : Entry) → IsHeld ls es th st rl rf rs → 0 < v → at + 1 ≡ v → at < length es → e ≡ get_or es at e → e.place ≡ 0 → place_on (steps_of ls es th st) v ≡ None
entry_zero_at ls es th st rl rf rs v at e h pos is in' read z =
    let l = length-map es (λ (z : Entry). z.place) in
    read_zero (places_of es) (steps_of ls es th st) v at e.place h.table pos is (omega arith) (ap (λ z. z.place) read ∙ sym (get_or-map (λ (z : Entry). z.place) es at e e.place in')) z

pub entry_here : (ls : List ℕ) (es : List Entry) (th : List Bool) (st : List ℕ) (rl rf rs v at : ℕ) (e : Entry) → IsHeld ls es th st rl rf rs → 0 < v → at + 1 ≡ v → at < length es → e ≡ get_or es at e → 0 < e.place → place_on (steps_of ls es th st) v ≡ Some (e.place - 1)
entry_here ls es th st rl rf rs v at e h pos is in' read some =
    let l = length-map es (λ (z : Entry). z.place) in
    read_here (places_of es) (steps_of ls es th st) v at e.place h.table pos is (omega arith) (ap (λ z. z.place) read ∙ sym (get_or-map (λ (z : Entry). z.place) es at e e.place in')) some

-- the step at a place, from the literal and the entry that the code reads
pub step_here : (ls : List ℕ) (es : List Entry) (th : List Bool) (st : List ℕ) (i l at : ℕ) (e : Entry) → i < length ls → l ≡ get_or ls i l → at ≡ var_of l - 1 → at < length es → e ≡ get_or es at e → step (steps_of ls es th st) i ≡ step_by l e (get_or th i false) st i
step_here ls es th st i l at e in' l-is at-is below read =
    let l' : l ≡ get_or ls i 0 = get_or_read ls i l in' l-is 0 in
    let e' : e ≡ get_or es at empty_entry = get_or_read es at e below read empty_entry in
    let e'' : e ≡ entry_of es (var_of (get_or ls i 0)) = rw (at-is, l') at e' in
    steps-step ls es th st i in' ∙ rw (← e'', ← l') refl

pub level_here : (ls : List ℕ) (es : List Entry) (th : List Bool) (st : List ℕ) (rl rf rs v at : ℕ) (e : Entry) → IsHeld ls es th st rl rf rs → 0 < v → at + 1 ≡ v → at < length es → e ≡ get_or es at e → 0 < e.place → level_on (steps_of ls es th st) v ≡ Some e.level
level_here ls es th st rl rf rs v at e h pos is in' read some =
    let t = steps_of ls es th st in
    let k = e.place - 1 in
    let p : place_on t v ≡ Some k = entry_here ls es th st rl rf rs v at e h pos is in' read some in
    let s = place_some t v k p in
    let size = steps-length ls es th st in
    let in'' : k < length ls = let b = s.0 in omega arith in
    let l : var_of (get_or ls k 0) ≡ v = rw (steps-lit ls es th st k in'') at s.1 in
    let e' : e ≡ entry_of es v = let i : v - 1 ≡ at = omega arith in rw i (get_or_read es at e in' read empty_entry) in
    let lev : (step t k).level ≡ e.level = ap (λ x. x.level) (steps-step ls es th st k in'') ∙ rw (l, ← e') refl in
    level_at t v k p ∙ ap (λ z. Some z) lev

-- the first literal, as the code reads it, and its index in the table
pub index_in : (ls : List ℕ) (es : List Entry) (th : List Bool) (st : List ℕ) (rl rf rs i l at : ℕ) → IsHeld ls es th st rl rf rs → i < length ls → l ≡ get_or ls i l → at ≡ var_of l - 1 → at < length es
index_in ls es th st rl rf rs i l at h in' l-is at-is =
    let l' : l ≡ get_or ls i 0 = get_or_read ls i l in' l-is 0 in
    let d = lit_declared ls es th st rl rf rs i h in' in
    let a : 0 < var_of l = rw l' d.0 in
    let b : var_of l ≤ length es = rw l' d.1 in
    omega arith

pub level_low : (ls : List ℕ) (es : List Entry) (th : List Bool) (st : List ℕ) (rl rf rs i l at : ℕ) (e : Entry) → IsHeld ls es th st rl rf rs → i < length ls → l ≡ get_or ls i l → at ≡ var_of l - 1 → e ≡ get_or es at e → e.level ≤ length st
level_low ls es th st rl rf rs i l at e h in' l-is at-is read =
    let below = index_in ls es th st rl rf rs i l at h in' l-is at-is in
    let s : (step (steps_of ls es th st) i).level ≡ e.level = ap (λ x. x.level) (step_here ls es th st i l at e in' l-is at-is below read) in
    let size = steps-length ls es th st in
    let z = below_top 0 (steps_of ls es th st) (length st) h.shape.levels i (omega arith) in
    omega arith

-- nothing is held where nothing is declared
pub held_new : (rl rf rs : ℕ) → IsHeld [] [] [] [] rl rf rs
held_new rl rf rs = record {
  table = rw none (record { placed = λ i lt. absurd (omega arith); within = λ v a b. absurd (omega arith); back = λ v a b some. absurd (omega arith); apart = λ i j a b e. absurd (omega arith); filled = refl; few = omega arith });
  shape = rw none (record { apart = λ i j a b e. absurd (omega arith); levels = refl });
  started = λ n lt. absurd (omega arith);
  flags = omega arith;
  lits_room = omega arith;
  flags_room = omega arith;
  starts_room = omega arith;
}
  where
    none : steps_of [] [] [] [] ≡ []
    none = steps-none [] [] []

pub valued_new : IsValued [] 0 (steps_of [] [] [] [])
valued_new = rw steps-none (record { wide = λ l a b. absurd (omega arith); valued = λ l. refl })

-- a place of the trail is one of the list
pub lit_within : (ls : List ℕ) (es : List Entry) (th : List Bool) (st : List ℕ) (i : ℕ) → i < length (steps_of ls es th st) → i < length ls
lit_within ls es th st i lt = let size = steps-length ls es th st in omega arith

-- the reason at a place, by the tests that the code makes
pub reason_here : (ls : List ℕ) (es : List Entry) (th : List Bool) (st : List ℕ) (rl rf rs i l at : ℕ) (e : Entry) (o f : Bool) → IsHeld ls es th st rl rf rs → i < length (steps_of ls es th st) → l ≡ get_or ls i l → at ≡ var_of l - 1 → e ≡ get_or es at e → o ≡ opens st e.level i → f ≡ get_or th i false → (step (steps_of ls es th st) i).reason ≡ reason_by o f e.clause
reason_here ls es th st rl rf rs i l at e o f h in' l-is at-is read o-is f-is =
    let w = lit_within ls es th st i in' in
    let below = index_in ls es th st rl rf rs i l at h w l-is at-is in
    ap (λ x. x.reason) (step_here ls es th st i l at e w l-is at-is below read) ∙ rw (← o-is, ← f-is) refl

-- more room does no harm
pub held_roomier : (ls : List ℕ) (es : List Entry) (th : List Bool) (st : List ℕ) (rl rf rs rl' rf' rs' : ℕ) → IsHeld ls es th st rl rf rs → rl ≤ rl' → rf ≤ rf' → rs ≤ rs' → IsHeld ls es th st rl' rf' rs'
held_roomier ls es th st rl rf rs rl' rf' rs' h a b c =
    let x = h.lits_room in
    let y = h.flags_room in
    let z = h.starts_room in
    record { table = h.table; shape = h.shape; started = h.started; flags = h.flags; lits_room = omega arith; flags_room = omega arith; starts_room = omega arith }

-- the literal at a place, as the code reads it
pub lit_here : (ls : List ℕ) (es : List Entry) (th : List Bool) (st : List ℕ) (i l : ℕ) → i < length ls → l ≡ get_or ls i l → l ≡ (step (steps_of ls es th st) i).lit
lit_here ls es th st i l in' l-is = get_or_read ls i l in' l-is 0 ∙ sym (steps-lit ls es th st i in')

-- the literal that the walk back comes to, as the code reads it
pub fall_lit : (ls : List ℕ) (es : List Entry) (th : List Bool) (st : List ℕ) (es' : List Entry) (n l : ℕ) → Falling (steps_of ls es th st) es es' n → 0 < n → l ≡ get_or ls (n - 1) l → l ≡ (step (steps_of ls es th st) (n - 1)).lit
fall_lit ls es th st es' n l f pos l-is = let w = f.within in let size = steps-length ls es th st in lit_here ls es th st (n - 1) l (omega arith) l-is
