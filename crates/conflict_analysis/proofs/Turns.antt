-- The walk of a scratch down the trail.
use Rattle.std.proofs.Common.{◌≡◌, ℕ, suc, ◌+◌, ◌-◌, ◌<◌, ◌≤◌, Bool, true, false, eqb, List, [], length, take, ◌⊎◌, inl, inr, sym, ap, ◌∙◌, subst, arith, add-one, Option}
use Rattle.std.specs.List.{list_any}
use Rattle.std.specs.Prelude.{IsSome}
use Rattle.std.proofs.lemmas.Bool.{false≢true, or_left, cases_eq}
use Rattle.std.proofs.lemmas.List.{take_all}
use Rattle.sat_terms.specs.Literal.{has, neg, var_of}
use Rattle.sat_terms.proofs.Literals.{neg-neg}
use Rattle.clause_store.specs.Stored.{Stored, slot, slot_lits}
use Rattle.trail_state.specs.Trail.{Trace, step, true_on, IsTrail, HasRoom}
use Rattle.trail_state.specs.Clauses.{FalseOn, IsReason}
use Rattle.rooted_trails.specs.Known.{Known, stands_in}
use Rattle.rooted_trails.specs.Rooted.{IsImpliedAt}
use Rattle.rooted_trails.specs.Marks.{flag, Covered, Grows}
use Rattle.rooted_trails.proofs.Knowing.{stands_of, known_fewer}
use Rattle.rooted_trails.proofs.Reasons.{live_implied, root_follows}
use Rattle.trail_state.proofs.Places.{true_at_place}
use Rattle.trail_state.proofs.Values.{not_both}
use Rattle.user_propagator.specs.declared.seen.Seen.{Seen}
use Rattle.theory_bridge.specs.Shown.{Shown}
use Rattle.theory_bridge.specs.Going.{Asked}
use Rattle.theory_bridge.proofs.Going.{asked_on, asked_fewer}
use Rattle.lazy_reasons.specs.declared.source.Source.{Source}
use Rattle.lazy_reasons.specs.Facing.{IsReady}
use Rattle.lazy_reasons.specs.Row.{Row}
use Rattle.lazy_reasons.specs.Sources.{AreMet, AreMetBut, IsSource, source_lits}
use Rattle.lazy_reasons.proofs.Rows.{row_none, row_on, row_fewer}
use Rattle.conflict_analysis.specs.Learning.{Reaches}
use Rattle.conflict_analysis.specs.Walking.{Resolvent, marks_on, IsMarking, Resolving, IsUip, IsResolving, IsResolved}
use Rattle.conflict_analysis.proofs.Walks.{no_decision, marked_down, resolving_fewer, resolving_step, resolving_skip, resolving_pos, uip_here}
use Rattle.conflict_analysis.proofs.Learns.{marked_none, resolving_start, learned_cases}
use Rattle.conflict_analysis.proofs.Mets.{met_none}
use Rattle.conflict_analysis.proofs.Variables.{marks_length, marks_read, marks_off, marks_grow}

-- nothing is marked
pub marking_none : (tr : Trace) (r : Resolvent) → tr.declared < length r.seen → ((v : ℕ) → flag r.seen v ≡ false) → r.count ≡ 0 → r.lits ≡ [] → r.met ≡ [] → IsMarking tr (length tr.steps) r
marking_none tr r wide off count lits met = record {
  wide = wide;
  marked = marked_none tr.steps tr.level (marks_on r.seen tr.steps) r.count r.lits (marks_length r.seen tr.steps) (marks_off r.seen tr.steps off) count lits;
  met_all = λ j in' h. absurd (false≢true (sym (marks_off r.seen tr.steps off j) ∙ h));
  met_false = met_none tr.steps r.met met;
}

-- what was met stands in live clauses
stands_more : (s : List (Option Stored)) (id : ℕ) (seen : List Seen) (met : List ℕ) → IsSome (slot s id) → ((l : ℕ) → has met l ≡ true → (has [] l ≡ true) ⊎ (has (slot_lits (slot s id)) l ≡ true)) → AreMet s seen met
stands_more s id seen met live from l h =
    elim (from l h) [
      | inl a ↦ absurd (false≢true a)
      | inr b ↦ or_left (stands_in s l) (list_any (λ e. eqb e.lit (neg l)) seen) (stands_of s id l live b)
    ]

-- What was met above the resolved literal stands there still, and so does what its reason brought: the literal itself is true, so it
-- was not met.
met_on : (s : List (Option Stored)) (old new : List Seen) (tr : Trace) (i : ℕ) (c met met' : List ℕ) → IsTrail tr.steps tr.level → i < length tr.steps → new ≡ old → AreMet s old met → AreMetBut s new (step tr.steps i).lit c → FalseOn tr.steps met'
    → ((l : ℕ) → has met' l ≡ true → (has met l ≡ true) ⊎ (has c l ≡ true)) → AreMet s new met'
met_on s old new tr i c met met' shape in' same before there off from l h =
    elim (from l h) [
      | inl a ↦ rw same (before l a)
      | inr b ↦
          elim (cases_eq l (step tr.steps i).lit) [
            | inl e ↦ absurd (not_both tr.steps l shape.apart (true_at_place tr.steps i l in' (sym e)) (off l h))
            | inr n ↦ there l b n
          ]
    ]

-- the literals of the false clause are marked
pub resolving_begin : (s : List (Option Stored)) (tr : Trace) (id : ℕ) (c : List ℕ) (r : Resolvent) → IsTrail tr.steps tr.level → IsSome (slot s id) → c ≡ slot_lits (slot s id) → 0 < tr.level
    → Reaches tr.steps tr.level c → FalseOn tr.steps c → IsMarking tr (length tr.steps) r
    → ((l : ℕ) → has c l ≡ true → true_on (take (length tr.steps) tr.steps) (neg l) ≡ true → Covered tr.steps (marks_on r.seen tr.steps) (length tr.steps) l)
    → ((l : ℕ) → has r.met l ≡ true → (has [] l ≡ true) ⊎ (has c l ≡ true)) → (b : Shown) → IsReady s tr.steps b → IsResolving s b tr (length tr.steps) r
resolving_begin s tr id c r shape live is above reaches off m covered from b ready =
    let all : take (length tr.steps) tr.steps ≡ tr.steps = take_all (length tr.steps) tr.steps (omega arith) in
    record {
      wide = m.wide;
      resolving = resolving_start (Known s b.means.admits) tr.steps tr.level c (marks_on r.seen tr.steps) r.count r.lits (root_follows s b.means.admits tr.steps tr.level ready.rooted shape) shape (rw is (live_implied s id live)) above reaches m.marked
          (λ l h. covered l h (rw all (off l h)));
      met_all = m.met_all;
      met_false = m.met_false;
      from = stands_more s id b.board.seen r.met live (rw is at from);
    }

module _ (s : List (Option Stored)) (b : Shown) (tr : Trace) (i : ℕ) (r : Resolvent) (w : IsResolving s b tr (i + 1) r) (shape : IsTrail tr.steps tr.level) (in' : i < length tr.steps) where
  before : Resolving (Known s b.means.admits) tr.steps tr.level (suc i) (marks_on r.seen tr.steps) r.count r.lits
  before = rw add-one at w.resolving

  -- a place that is not marked is passed over
  pub resolving_off : flag (marks_on r.seen tr.steps) i ≡ false → IsResolving s b tr i r
  resolving_off off = record {
    wide = w.wide;
    resolving = resolving_skip (Known s b.means.admits) tr.steps tr.level i (marks_on r.seen tr.steps) r.count r.lits before shape in' off;
    met_all = w.met_all;
    met_false = w.met_false;
    from = w.from;
  }

  pub implied_here : 1 < r.count → flag (marks_on r.seen tr.steps) i ≡ true → IsImpliedAt tr.steps i
  implied_here more on = record {
    within = in';
    above = before.marked.above_root i on;
    implied = no_decision (Known s b.means.admits) tr.steps tr.level i (marks_on r.seen tr.steps) r.count r.lits before shape in' more;
  }

  -- it is done
  pub marking_down : (r' : Resolvent) → r' ≡ record r { count = r.count - 1 } → 1 < r.count → flag (marks_on r.seen tr.steps) i ≡ true → IsMarking tr i r'
  marking_down r' e more on = rw e (record {
    wide = w.wide;
    marked = marked_down (Known s b.means.admits) tr.steps tr.level i (marks_on r.seen tr.steps) r.count r.lits before shape in' more on;
    met_all = w.met_all;
    met_false = w.met_false;
  })

  -- the literals of its reason are false before it, but for itself, which is marked
  pub reason_off : (c : List ℕ) → IsReason c tr.steps i → flag (marks_on r.seen tr.steps) i ≡ true → (l : ℕ) → has c l ≡ true → flag r.seen (var_of l) ≡ false → true_on (take i tr.steps) (neg l) ≡ true
  reason_off c reason on l h off =
      elim (cases_eq l (step tr.steps i).lit) [
        | inl e ↦ absurd (false≢true (sym off ∙ ap (λ x. flag r.seen (var_of x)) e ∙ sym (marks_read r.seen tr.steps i in') ∙ on))
        | inr n ↦ reason.others l h n
      ]

  pub resolving_next : (new : Shown) (x : Source) (c : List ℕ) (r' : Resolvent) → Asked 1 b new → IsReady s tr.steps new → IsSource s new.means.admits tr.steps i x → c ≡ source_lits s x → AreMetBut s new.board.seen (step tr.steps i).lit (source_lits s x)
      → 1 < r.count → IsMarking tr i r' → Grows r.seen r'.seen
      → ((l : ℕ) → has c l ≡ true → true_on (take i tr.steps) (neg l) ≡ true → Covered tr.steps (marks_on r'.seen tr.steps) i l)
      → ((l : ℕ) → has r'.met l ≡ true → (has r.met l ≡ true) ⊎ (has c l ≡ true)) → IsResolving s new tr i r'
  resolving_next new x c r' asked ready source is there more m grows covered from =
      let covered' : (l : ℕ) → has (source_lits s x) l ≡ true → true_on (take i tr.steps) (neg l) ≡ true → Covered tr.steps (marks_on r'.seen tr.steps) i l = rw is at covered in
      let from' : (l : ℕ) → has r'.met l ≡ true → (has r.met l ≡ true) ⊎ (has (source_lits s x) l ≡ true) = rw is at from in
      record {
        wide = m.wide;
        resolving = resolving_step (Known s new.means.admits) tr.steps tr.level i (marks_on r.seen tr.steps) r.count r.lits
            (resolving_fewer (Known s b.means.admits) (Known s new.means.admits) tr.steps tr.level (suc i) (marks_on r.seen tr.steps) r.count r.lits (known_fewer b.means.admits new.means.admits asked.later.fewer) before)
            shape in' (source_lits s x) (marks_on r'.seen tr.steps) r'.count r'.lits more source.implied
            (root_follows s new.means.admits tr.steps tr.level ready.rooted shape) m.marked (marks_grow r.seen r'.seen tr.steps grows) (λ l h n. covered' l h (source.reason.others l h n));
        met_all = m.met_all;
        met_false = m.met_false;
        from = met_on s b.board.seen new.board.seen tr i (source_lits s x) r.met r'.met shape in' asked.later.seen w.from there m.met_false from';
      }

  -- the walk ends
  pub resolved_here : flag (marks_on r.seen tr.steps) i ≡ true → r.count ≤ 1 → IsResolved s b tr i r
  resolved_here on one = record {
    wide = w.wide;
    uip = uip;
    met_false = w.met_false;
    from = λ l h.
        elim (learned_cases (Known s b.means.admits) tr.steps tr.level i (marks_on r.seen tr.steps) r.lits shape uip l h) [
          | inl a ↦
              let o = uip.lower_only l a in
              w.from l (ap (has r.met) (sym (neg-neg l)) ∙ ap (λ x. has r.met (neg x)) (sym o.2) ∙ w.met_all o.0 o.1 o.3)
          | inr e ↦ w.from l (ap (has r.met) e ∙ w.met_all i in' on)
        ];
  } where
    uip : IsUip (Known s b.means.admits) tr.steps tr.level i (marks_on r.seen tr.steps) r.lits
    uip = uip_here (Known s b.means.admits) tr.steps tr.level i (marks_on r.seen tr.steps) r.count r.lits before shape in' on one

-- an open place is left below
pub place_left : (s : List (Option Stored)) (b : Shown) (tr : Trace) (i : ℕ) (r : Resolvent) → IsResolving s b tr i r → 0 < i
place_left s b tr i r w = resolving_pos (Known s b.means.admits) tr.steps tr.level i (marks_on r.seen tr.steps) r.count r.lits w.resolving

-- the walk at place i: so many questions were answered on the way
pub record IsWalking (s : List (Option Stored)) (tr : Trace) (i : ℕ) (r : Resolvent) (was now : Shown) : Type 0 where
  pub within : i < length tr.steps
  pub row : Row (length tr.steps - (i + 1)) s tr.steps was now
  pub resolving : IsResolving s now tr (i + 1) r

pub walking_start : (s : List (Option Stored)) (b : Shown) (tr : Trace) (n : ℕ) (r : Resolvent) → IsReady s tr.steps b → n ≡ length tr.steps → IsResolving s b tr (length tr.steps) r → IsWalking s tr (n - 1) r b b
walking_start s b tr n r ready size w =
    let pos = place_left s b tr (length tr.steps) r w in
    let e : length tr.steps ≡ n - 1 + 1 = omega arith in
    record {
      within = omega arith;
      row = row_fewer s tr.steps 0 (length tr.steps - (n - 1 + 1)) b b (omega arith) (row_none s tr.steps b ready);
      resolving = subst (λ k. IsResolving s b tr k r) e w;
    }

module _ (s : List (Option Stored)) (tr : Trace) (i : ℕ) (r : Resolvent) (was now : Shown) (w : IsWalking s tr i r was now) where
  -- the walk broke off at a question
  pub walking_stop : (new : Shown) → Asked 1 now new → Asked (length tr.steps) was new
  walking_stop new a = asked_fewer (length tr.steps - (i + 1) + 1) (length tr.steps) was new (let b = w.within in omega arith) (asked_on (length tr.steps - (i + 1)) 1 was now new w.row.asked a)

  pub walking_ends : Asked (length tr.steps) was now
  walking_ends = asked_fewer (length tr.steps - (i + 1)) (length tr.steps) was now (omega arith) w.row.asked

  -- the next turn of the walk
  pub walking_on : (new : Shown) (r' : Resolvent) → Asked 1 now new → new.spent ≡ now.spent → IsReady s tr.steps new → IsResolving s new tr i r' → IsWalking s tr (i - 1) r' was new
  walking_on new r' asked spent ready w' =
      let pos = place_left s new tr i r' w' in
      let e : i ≡ i - 1 + 1 = omega arith in
      record {
        within = (let b = w.within in omega arith);
        row = row_fewer s tr.steps (length tr.steps - (i + 1) + 1) (length tr.steps - (i - 1 + 1)) was new (let b = w.within in omega arith)
            (row_on s tr.steps (length tr.steps - (i + 1)) 1 was now new w.row (record { asked = asked; spent = spent; ready = ready }));
        resolving = subst (λ k. IsResolving s new tr k r') e w';
      }

-- the variable of a place has a mark's place
pub place_wide : (tr : Trace) (i lit n : ℕ) → HasRoom tr → i < length tr.steps → lit ≡ (step tr.steps i).lit → tr.declared < n → var_of lit < n
place_wide tr i lit n room in' is wide = let named = (room.named i in').1 in rw is (omega arith)

-- the mark of a place, as the code reads it
pub mark_read : (tr : Trace) (i lit : ℕ) (r : Resolvent) → i < length tr.steps → lit ≡ (step tr.steps i).lit → (b : Bool) → b ≡ flag r.seen (var_of lit) → b ≡ flag (marks_on r.seen tr.steps) i
mark_read tr i lit r in' is b e = e ∙ ap (λ x. flag r.seen (var_of x)) is ∙ sym (marks_read r.seen tr.steps i in')
