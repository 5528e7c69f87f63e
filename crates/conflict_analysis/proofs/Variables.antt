-- Marks of variables as marks of places of a trail.
use Rattle.std.proofs.Common.{◌≡◌, ◌≢◌, ℕ, ◌<◌, ◌≤◌, Bool, true, false, eqb, List, [], ◌∷◌, length, length-set, set, take, inl, inr, refl, sym, ap, ◌∙◌, arith}
use Rattle.std.proofs.lemmas.Bool.{false≢true, cases_eq, cases_lt, cases_Bool, eq-eqb, eqb-true, or_left}
use Rattle.std.proofs.lemmas.List.{get_or-map, get_or_past, ext_get_or, length-map}
use Rattle.sat_terms.specs.Literal.{neg, var_of}
use Rattle.sat_terms.proofs.Literals.{var_of-neg, neg-neg}
use Rattle.sat_terms.proofs.Members.{has-append_left, has-append_right}
use Rattle.trail_state.specs.declared.trail.Step.{Step}
use Rattle.trail_state.specs.Trail.{Trace, step, no_step, true_on, IsTrail, IsApart, HasRoom}
use Rattle.trail_state.proofs.Levels.{below_top}
use Rattle.rooted_trails.specs.Marks.{flag, Covered, Grows}
use Rattle.rooted_trails.proofs.Falses.{flag_other, flag_same}
use Rattle.conflict_analysis.specs.Learning.{lit_level}
use Rattle.conflict_analysis.specs.Walking.{Resolvent, noted, marks_on, Marked, IsMarking}
use Rattle.conflict_analysis.proofs.Marking.{IsSpot, spot_found, marked_open, marked_lower}
use Rattle.conflict_analysis.proofs.Mets.{met_more}

pub marks_length : (seen : List Bool) (t : List Step) → length (marks_on seen t) ≡ length t
marks_length seen t = length-map t (λ x. flag seen (var_of x.lit))

pub marks_read : (seen : List Bool) (t : List Step) (j : ℕ) → j < length t → flag (marks_on seen t) j ≡ flag seen (var_of (step t j).lit)
marks_read seen t j in' = get_or-map (λ x. flag seen (var_of x.lit)) t j no_step false in'

marks_past : (seen : List Bool) (t : List Step) (j : ℕ) → length t ≤ j → flag (marks_on seen t) j ≡ false
marks_past seen t j past = let e = marks_length seen t in get_or_past (marks_on seen t) j false (omega arith)

pub marks_off : (seen : List Bool) (t : List Step) → ((v : ℕ) → flag seen v ≡ false) → (j : ℕ) → flag (marks_on seen t) j ≡ false
marks_off seen t off j =
    elim (cases_lt j (length t)) [
      | inl in' ↦ marks_read seen t j in' ∙ off (var_of (step t j).lit)
      | inr past ↦ marks_past seen t j past
    ]

-- a variable is marked: so is its place
pub marks_set : (seen : List Bool) (t : List Step) (k v : ℕ) → IsApart t → k < length t → var_of (step t k).lit ≡ v → v < length seen → marks_on (set seen v true) t ≡ set (marks_on seen t) k true
marks_set seen t k v apart in' is wide =
    let e = marks_length seen t in
    let e' = marks_length (set seen v true) t in
    ext_get_or false (marks_on (set seen v true) t) (set (marks_on seen t) k true) (e' ∙ sym e ∙ sym (length-set (marks_on seen t) k true))
    (λ j lt.
    let in'' : j < length t = omega arith in
    marks_read (set seen v true) t j in'' ∙
    elim (cases_eq j k) [
      | inl q ↦ rw (q, is) (flag_same seen v true wide ∙ sym (flag_same (marks_on seen t) k true (omega arith)))
      | inr n ↦
          let other : var_of (step t j).lit ≢ v = λ q. n (apart j k in'' in' (q ∙ sym is)) in
          flag_other seen v (var_of (step t j).lit) true other ∙ sym (marks_read seen t j in'') ∙ sym (flag_other (marks_on seen t) k j true n)
    ])

pub marks_grow : (seen seen' : List Bool) (t : List Step) → Grows seen seen' → Grows (marks_on seen t) (marks_on seen' t)
marks_grow seen seen' t grows j h =
    elim (cases_lt j (length t)) [
      | inl in' ↦ marks_read seen' t j in' ∙ grows (var_of (step t j).lit) (sym (marks_read seen t j in') ∙ h)
      | inr past ↦ absurd (false≢true (sym (marks_past seen t j past) ∙ h))
    ]

-- what is not marked was not marked before
pub still_off : (seen seen' : List Bool) (v : ℕ) → Grows seen seen' → flag seen' v ≡ false → flag seen v ≡ false
still_off seen seen' v grows off = elim (cases_Bool (flag seen v)) [ inl h ↦ absurd (false≢true (sym off ∙ grows v h)) | inr h ↦ h ]

-- a literal that is false or marked is that of a variable with a mark's place
pub var_wide : (tr : Trace) (below l : ℕ) (r : Resolvent) → IsTrail tr.steps tr.level → HasRoom tr → IsMarking tr below r → (flag r.seen (var_of l) ≡ false → true_on (take below tr.steps) (neg l) ≡ true) → var_of l < length r.seen
var_wide tr below l r shape room m off =
    elim (cases_lt (var_of l) (length r.seen)) [
      | inl lt ↦ lt
      | inr past ↦
          let p = spot_found tr.steps tr.level l below shape (off (get_or_past r.seen (var_of l) false past)) in
          let same : var_of (step tr.steps p.0).lit ≡ var_of l = ap var_of p.1.lit ∙ var_of-neg l in
          let named = (room.named p.0 p.1.inside).1 in
          let w = m.wide in
          omega arith
    ]

-- a false literal whose variable is marked, or that stands at the root, is covered
pub covered_marked : (tr : Trace) (below l : ℕ) (seen : List Bool) → IsTrail tr.steps tr.level → true_on (take below tr.steps) (neg l) ≡ true → flag seen (var_of l) ≡ true → Covered tr.steps (marks_on seen tr.steps) below l
covered_marked tr below l seen shape off m =
    let p = spot_found tr.steps tr.level l below shape off in
    let same : var_of (step tr.steps p.0).lit ≡ var_of l = ap var_of p.1.lit ∙ var_of-neg l in
    (p.0, p.1.lower, p.1.inside, p.1.lit, inl (marks_read seen tr.steps p.0 p.1.inside ∙ ap (flag seen) same ∙ m))

pub covered_root : (tr : Trace) (below l : ℕ) (seen : List Bool) → IsTrail tr.steps tr.level → true_on (take below tr.steps) (neg l) ≡ true → lit_level tr.steps l ≡ 0 → Covered tr.steps (marks_on seen tr.steps) below l
covered_root tr below l seen shape off z =
    let p = spot_found tr.steps tr.level l below shape off in
    (p.0, p.1.lower, p.1.inside, p.1.lit, inr (sym p.1.level ∙ z))

-- one literal more is marked
module _ (tr : Trace) (below l : ℕ) (r : Resolvent) (shape : IsTrail tr.steps tr.level) (room : HasRoom tr) (m : IsMarking tr below r) (unmarked : flag r.seen (var_of l) ≡ false) (off : true_on (take below tr.steps) (neg l) ≡ true) (pos : 0 < lit_level tr.steps l) where
  spot : IsSpot tr.steps below l (spot_found tr.steps tr.level l below shape off).0
  spot = (spot_found tr.steps tr.level l below shape off).1

  pub marking_noted : (b : Bool) → eqb (lit_level tr.steps l) tr.level ≡ b → IsMarking tr below (noted r l b)
  marking_noted b e =
      let t = tr.steps in
      let k = (spot_found t tr.level l below shape off).0 in
      let s = spot in
      let same : var_of (step t k).lit ≡ var_of l = ap var_of s.lit ∙ var_of-neg l in
      let wide : var_of l < length r.seen = var_wide tr below l r shape room m (λ q. off) in
      let set_is : marks_on (set r.seen (var_of l) true) t ≡ set (marks_on r.seen t) k true = marks_set r.seen t k (var_of l) shape.apart s.inside same wide in
      let off' : flag (marks_on r.seen t) k ≡ false = marks_read r.seen t k s.inside ∙ ap (flag r.seen) same ∙ unmarked in
      let lev = s.level in
      let pos' : 0 < (step t k).level = omega arith in
      let size = marks_length r.seen t in
      let w = m.wide in
      record {
        wide = rw (length-set r.seen (var_of l) true) m.wide;
        marked = marked_by b e k s set_is off' pos';
        met_all = λ j in' h.
            elim (cases_eq j k) [
              | inl q ↦ has-append_right r.met (l ∷ []) (neg (step t j).lit) (rw (q, s.lit, neg-neg l) (or_left (eqb l l) false (eq-eqb l l refl)))
              | inr n ↦ has-append_left r.met (l ∷ []) (neg (step t j).lit) (m.met_all j in' (sym (flag_other (marks_on r.seen t) k j true n) ∙ (rw set_is at h)))
            ];
        met_false = met_more t r.met l below off m.met_false;
      } where
        marked_by : (b : Bool) → eqb (lit_level tr.steps l) tr.level ≡ b → (k : ℕ) → IsSpot tr.steps below l k → marks_on (set r.seen (var_of l) true) tr.steps ≡ set (marks_on r.seen tr.steps) k true → flag (marks_on r.seen tr.steps) k ≡ false → 0 < (step tr.steps k).level
            → Marked tr.steps tr.level below (marks_on (set r.seen (var_of l) true) tr.steps) (noted r l b).count (noted r l b).lits
        marked_by true e k s set_is off' pos' =
            let lev = s.level in
            let top = eqb-true (lit_level tr.steps l) tr.level e in
            rw set_is (marked_open tr.steps tr.level below (marks_on r.seen tr.steps) r.count r.lits m.marked k s.inside off' pos' s.lower (sym s.level ∙ top))
        marked_by false e k s set_is off' pos' =
            let lev = s.level in
            let low = below_top 0 tr.steps tr.level shape.levels k s.inside in
            let other : lit_level tr.steps l ≢ tr.level = λ q. false≢true (sym e ∙ eq-eqb (lit_level tr.steps l) tr.level q) in
            rw set_is (marked_lower tr.steps tr.level below (marks_on r.seen tr.steps) r.count r.lits m.marked k s.inside off' pos' l s.lit (omega arith))

  -- it is covered then
  pub covered_noted : (b : Bool) → Covered tr.steps (marks_on (noted r l b).seen tr.steps) below l
  covered_noted b = covered_marked tr below l (set r.seen (var_of l) true) shape off (flag_same r.seen (var_of l) true (var_wide tr below l r shape room m (λ q. off)))
