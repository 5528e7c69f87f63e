-- Shortening the learned clause.
use Rattle.std.proofs.Common.{◌≡◌, ◌≢◌, ℕ, suc, ◌+◌, ◌-◌, ◌<◌, ◌≤◌, Bool, true, false, eqb, List, [], ◌∷◌, ◌++◌, length, length-set, get_or, set, take, ◌⊎◌, inl, inr, refl, sym, ap, ◌∙◌, subst, arith, Option}
use Rattle.std.specs.Prelude.{slice_index_or}
use Rattle.std.proofs.lemmas.Bool.{false≢true, cases_eq, cases_lt, eqb-true}
use Rattle.std.proofs.lemmas.List.{get_or_default}
use Rattle.sat_terms.specs.Literal.{has, neg, var_of}
use Rattle.sat_terms.specs.Truth.{Assignment}
use Rattle.sat_terms.proofs.Literals.{var_of-neg, neg-neg}
use Rattle.sat_terms.proofs.Members.{has-append_left, has-append_right, has-append_cases, has_more, has_at, has_place}
use Rattle.clause_store.specs.Stored.{Stored}
use Rattle.trail_state.specs.declared.trail.Step.{Step}
use Rattle.trail_state.specs.Trail.{Trace, step, true_on, IsTrail, IsApart, HasRoom}
use Rattle.trail_state.specs.Clauses.{FalseOn, IsReason}
use Rattle.rooted_trails.specs.Known.{everything, Known}
use Rattle.rooted_trails.specs.Marks.{flag, Covered, Grows}
use Rattle.rooted_trails.proofs.Knowing.{known_all}
use Rattle.theory_bridge.specs.Shown.{Shown}
use Rattle.rooted_trails.proofs.Falses.{flag_other, flag_same, flag_grows, covered_grows}
use Rattle.conflict_analysis.specs.Learning.{lit_level}
use Rattle.conflict_analysis.specs.Walking.{Resolvent, marks_on, LowerFrom, IsSpare, Follows, IsUip, IsResolved}
use Rattle.conflict_analysis.proofs.Marking.{IsSpot, spot_found}
use Rattle.conflict_analysis.proofs.Variables.{marks_grow, marks_read, marks_length, marks_set, covered_marked, covered_root}

-- a literal of a reason is that of a variable with a mark's place
pub reason_wide : (tr : Trace) (c : List ℕ) (i l n : ℕ) → IsTrail tr.steps tr.level → HasRoom tr → i < length tr.steps → IsReason c tr.steps i → has c l ≡ true → tr.declared < n → var_of l < n
reason_wide tr c i l n shape room in' reason h wide =
    elim (cases_eq l (step tr.steps i).lit) [
      | inl e ↦ (let named = (room.named i in').1 in rw e (omega arith))
      | inr other ↦
          let p = spot_found tr.steps tr.level l i shape (reason.others l h other) in
          let same : var_of (step tr.steps p.0).lit ≡ var_of l = ap var_of p.1.lit ∙ var_of-neg l in
          let named = (room.named p.0 p.1.inside).1 in
          omega arith
    ]

-- one literal more of a reason is marked or at the root
pub covered_more : (tr : Trace) (c : List ℕ) (seen : List Bool) (i j x own : ℕ) → IsTrail tr.steps tr.level → IsReason c tr.steps i → own ≡ (step tr.steps i).lit → j < length c → x ≡ get_or c j x
    → ((x ≡ own) ⊎ ((flag seen (var_of x) ≡ true) ⊎ (lit_level tr.steps x ≡ 0)))
    → ((l : ℕ) → has (take j c) l ≡ true → l ≢ (step tr.steps i).lit → Covered tr.steps (marks_on seen tr.steps) i l)
    → (l : ℕ) → has (take (j + 1) c) l ≡ true → l ≢ (step tr.steps i).lit → Covered tr.steps (marks_on seen tr.steps) i l
covered_more tr c seen i j x own shape reason own-is in' is looked before l h other =
    elim (has_more c j x l in' is h) [
      | inl a ↦ before l a other
      | inr e ↦ subst (λ y. Covered tr.steps (marks_on seen tr.steps) i y) e (here (λ q. other (sym e ∙ q)))
    ] where
      here : x ≢ (step tr.steps i).lit → Covered tr.steps (marks_on seen tr.steps) i x
      here n =
          let off = reason.others x (has_at c j x in' is) n in
          elim looked [
            | inl e ↦ absurd (n (e ∙ own-is))
            | inr (inl m) ↦ covered_marked tr i x seen shape off m
            | inr (inr z) ↦ covered_root tr i x seen shape off z
          ]

-- more marks: what was spare is so
spare_grows : (F : Assignment → Type 0) (t : List Step) (seen seen' : List Bool) (j : ℕ) → Grows seen seen' → IsSpare F t seen j → IsSpare F t seen' j
spare_grows F t seen seen' j grows s = record {
  clause = s.clause;
  implied = s.implied;
  covered = λ l h n. covered_grows t seen seen' j l grows (s.covered l h n);
}

-- what is spare by the clauses is so under what is admitted
spare_known : (s : List (Option Stored)) (admits : Assignment → Bool) (t : List Step) (seen : List Bool) (j : ℕ) → IsSpare (Known s everything) t seen j → IsSpare (Known s admits) t seen j
spare_known s admits t seen j x = record { clause = x.clause; implied = λ f known. x.implied f (known_all f known); covered = x.covered }

-- a literal that follows is marked
pub uip_settled : (F : Assignment → Type 0) (t : List Step) (top i k : ℕ) (seen : List Bool) (lower : List ℕ) → IsTrail t top → IsUip F t top i seen lower → length seen ≡ length t → k < length t → 0 < (step t k).level → (step t k).level < top → IsSpare F t seen k
    → IsUip F t top i (set seen k true) lower
uip_settled F t top i k seen lower shape u long in' above below spare =
    let grows : Grows seen (set seen k true) = flag_grows seen k (omega arith) in
    record {
      within = u.within;
      top_level = u.top_level;
      others = λ j lt h.
          elim (cases_eq j k) [
            | inl e ↦ rw e below
            | inr n ↦ u.others j lt (sym (flag_other seen k j true n) ∙ h)
          ];
      above_root = λ j h.
          elim (cases_eq j k) [
            | inl e ↦ rw e above
            | inr n ↦ u.above_root j (sym (flag_other seen k j true n) ∙ h)
          ];
      blocked = λ f sat all. u.blocked f sat (λ j lt m. all j lt (grows j m));
      lower_needed = λ j in'' h low.
          elim (cases_eq j k) [
            | inl e ↦ inr (spare_grows F t seen (set seen k true) j grows (rw e spare))
            | inr n ↦
                elim (u.lower_needed j in'' (sym (flag_other seen k j true n) ∙ h) low) [
                  | inl a ↦ inl a
                  | inr s ↦ inr (spare_grows F t seen (set seen k true) j grows s)
                ]
          ];
      lower_only = λ l h. let o = u.lower_only l h in (o.0, o.1, o.2, grows o.0 o.3, o.4);
    }

pub resolved_settled : (s : List (Option Stored)) (b : Shown) (tr : Trace) (i l : ℕ) (r r' : Resolvent) → IsTrail tr.steps tr.level → IsResolved s b tr i r → Follows (Known s everything) tr.steps tr.level (marks_on r.seen tr.steps) l → var_of l < length r.seen
    → r' ≡ record r { seen = set r.seen (var_of l) true } → IsResolved s b tr i r'
resolved_settled s b tr i l r r' shape w f wide e =
    let set-is : marks_on (set r.seen (var_of l) true) tr.steps ≡ set (marks_on r.seen tr.steps) f.place true = marks_set r.seen tr.steps f.place (var_of l) shape.apart f.within f.same wide in
    rw e (record {
      wide = rw (length-set r.seen (var_of l) true) w.wide;
      uip = rw set-is (uip_settled (Known s b.means.admits) tr.steps tr.level i f.place (marks_on r.seen tr.steps) r.lits shape w.uip (marks_length r.seen tr.steps) f.within f.above f.below
          (spare_known s b.means.admits tr.steps (marks_on r.seen tr.steps) f.place f.spare));
      met_false = w.met_false;
      from = w.from;
    })

-- a literal that follows has a mark's place
pub follows_wide : (s : List (Option Stored)) (tr : Trace) (l : ℕ) (r : Resolvent) → HasRoom tr → tr.declared < length r.seen → Follows (Known s everything) tr.steps tr.level (marks_on r.seen tr.steps) l → var_of l < length r.seen
follows_wide s tr l r room wide f = let named = (room.named f.place f.within).1 in let same = f.same in omega arith

-- a literal that follows is dropped
pub resolved_dropped : (s : List (Option Stored)) (b : Shown) (tr : Trace) (i x : ℕ) (r r' : Resolvent) → IsTrail tr.steps tr.level → IsResolved s b tr i r → Follows (Known s everything) tr.steps tr.level (marks_on r.seen tr.steps) x
    → r' ≡ record r { lits = r'.lits } → ((l : ℕ) → has r'.lits l ≡ true → has r.lits l ≡ true) → ((l : ℕ) → has r.lits l ≡ true → (has r'.lits l ≡ true) ⊎ (x ≡ l)) → IsResolved s b tr i r'
resolved_dropped s b tr i x r r' shape w f e left gone =
    let t = tr.steps in
    let p : ℕ = neg (step t i).lit in
    rw e (record {
      wide = w.wide;
      uip = record {
        within = w.uip.within;
        top_level = w.uip.top_level;
        others = w.uip.others;
        above_root = w.uip.above_root;
        blocked = w.uip.blocked;
        lower_needed = λ j in' h low.
            elim (w.uip.lower_needed j in' h low) [
              | inl a ↦
                  elim (gone (neg (step t j).lit) a) [
                    | inl b ↦ inl b
                    | inr q ↦
                        let same : var_of (step t f.place).lit ≡ var_of (step t j).lit = f.same ∙ ap var_of q ∙ var_of-neg (step t j).lit in
                        inr (subst (λ k. IsSpare (Known s b.means.admits) t (marks_on r.seen t) k) (shape.apart f.place j f.within in' same) (spare_known s b.means.admits t (marks_on r.seen t) f.place f.spare))
                  ]
              | inr a ↦ inr a
            ];
        lower_only = λ l h. w.uip.lower_only l (left l h);
      };
      met_false = w.met_false;
      from = λ l h.
          w.from l
          (elim (has-append_cases r'.lits (p ∷ []) l h) [
            | inl a ↦ has-append_left r.lits (p ∷ []) l (left l a)
            | inr b ↦ has-append_right r.lits (p ∷ []) l b
          ]);
    })

-- the literal that went, as the code reads it
pub gone_is : (c d : List ℕ) (i x l : ℕ) → i < length c → x ≡ get_or c i x → (has d l ≡ true) ⊎ (get_or c i l ≡ l) → (has d l ≡ true) ⊎ (x ≡ l)
gone_is c d i x l in' is (inl a) = inl a
gone_is c d i x l in' is (inr e) = inr (is ∙ get_or_default c i x l in' ∙ e)
