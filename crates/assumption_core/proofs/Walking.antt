-- What stays blocked along the walk, and what its end says.
use Rattle.std.proofs.Common.{◌≡◌, ℕ, ◌+◌, ◌-◌, ◌<◌, ◌≤◌, Bool, true, false, eqb, List, [], ◌∷◌, length, take, inl, inr, refl, sym, ◌∙◌, subst, arith, add-one, Option, Some, None}
use Rattle.std.specs.Prelude.{IsSome, IsTrue, ◌↔◌, IfOk, Result, Ok, Err}
use Rattle.std.proofs.lemmas.Bool.{false≢true, or_cases, or_left, eqb-true, eq-eqb, cases_lt, and_parts}
use Rattle.std.proofs.lemmas.List.{take_all, get_or_past}
use Rattle.std.proofs.Math.Bool.{or-false}
use Rattle.sat_terms.specs.Literal.{has, neg}
use Rattle.sat_terms.specs.Truth.{Assignment, lit_true, lits_true, Implies}
use Rattle.sat_terms.specs.Answer.{IsCore}
use Rattle.sat_terms.proofs.Truths.{clause_true-from}
use Rattle.clause_store.specs.Stored.{Stored, slot, slot_lits}
use Rattle.trail_state.specs.declared.trail.Step.{Step}
use Rattle.trail_state.specs.declared.reason.Reason.TheVariants.{Decision}
use Rattle.trail_state.specs.Trail.{step, true_on, IsTrail, IsStart}
use Rattle.trail_state.specs.Clauses.{FalseOn, IsReason}
use Rattle.rooted_trails.specs.Known.{Known}
use Rattle.rooted_trails.specs.Rooted.{RootedUnder, IsImpliedAt}
use Rattle.rooted_trails.specs.Marks.{flag, RootFollows, BlockedCore, Grows}
use Rattle.rooted_trails.proofs.Reasons.{live_implied, root_follows}
use Rattle.rooted_trails.proofs.Knowing.{known_fewer}
use Rattle.rooted_trails.proofs.Blocking.{root_fewer, core_start, core_step, core_keep, core_end}
use Rattle.theory_bridge.specs.Shown.{Shown}
use Rattle.theory_bridge.specs.Going.{Asked}
use Rattle.theory_bridge.proofs.Going.{asked_on, asked_fewer}
use Rattle.lazy_reasons.specs.declared.source.Source.{Source}
use Rattle.lazy_reasons.specs.Facing.{IsReady}
use Rattle.lazy_reasons.specs.Row.{Row}
use Rattle.lazy_reasons.specs.Sources.{IsSource, source_lits}
use Rattle.lazy_reasons.proofs.Rows.{row_none, row_on, row_fewer}
use Rattle.assumption_core.specs.declared.cores.CoreStart.{CoreStart}
use Rattle.assumption_core.specs.declared.cores.CoreStart.TheVariants.{Falsified, Conflict}
use Rattle.assumption_core.specs.Core.{Both, Starts, DecidesAssumed, asks, falsified_by}
use Rattle.assumption_core.specs.Needs.{IsMarked, IsNeeded, HoldsNeeded}
use Rattle.assumption_core.proofs.Marking.{CoversLit, CoversAll}

-- what is known of F is known of fewer assignments
core_fewer : (F G : Assignment → Type 0) (t : List Step) (seen : List Bool) (i : ℕ) → ((f : Assignment) → G f → F f) → BlockedCore F t seen i → BlockedCore G t seen i
core_fewer F G t seen i fewer h f g all = h f (fewer f g) all

module _ (s : List (Option Stored)) (admits : Assignment → Bool) (t : List Step) (top : ℕ) (rooted : RootedUnder s admits t) (shape : IsTrail t top) (test : Assignment → Bool) where
  root : RootFollows (Both s admits test) t
  root = root_fewer (Known s admits) (Both s admits test) t (λ f h. h.0) (root_follows s admits t top rooted shape)

  on_front : (l : ℕ) → true_on t l ≡ true → true_on (take (length t) t) l ≡ true
  on_front l h = rw (take_all (length t) t (omega arith)) h

  -- a place gives its mark to the literals of its reason
  resolved_by : (i : ℕ) (c : List ℕ) (seen seen' : List Bool) → Implies (Known s admits) c → IsReason c t i → Grows seen seen' → CoversAll t seen' c → BlockedCore (Both s admits test) t seen (i + 1) → BlockedCore (Both s admits test) t seen' i
  resolved_by i c seen seen' implied reason grows covers b =
      core_step (Both s admits test) t top root shape c seen seen' i (λ f h. implied f h.0) (rw add-one at b) grows (λ l k n. covers l i k (reason.others l k n))

  -- a clause that is false
  pub core_of_clause : (id : ℕ) (c : List ℕ) (seen : List Bool) → IsSome (slot s id) → FalseOn t (slot_lits (slot s id)) → c ≡ slot_lits (slot s id) → CoversAll t seen c
      → BlockedCore (Both s admits test) t seen (length t)
  core_of_clause id c seen live off is covers =
      let covers' : CoversAll t seen (slot_lits (slot s id)) = rw is at covers in
      core_start (Both s admits test) t top root shape (slot_lits (slot s id)) seen (length t) (λ f h. live_implied s id live f h.0) (λ l k. covers' l (length t) k (on_front (neg l) (off l k)))

-- the same once the box was asked
pub core_resolved : (s : List (Option Stored)) (t : List Step) (top i : ℕ) (old new : Shown) (x : Source) (c : List ℕ) (seen seen' : List Bool) → Asked 1 old new → IsReady s t new → IsTrail t top → IsSource s new.means.admits t i x → c ≡ source_lits s x
    → Grows seen seen' → CoversAll t seen' c → (test : Assignment → Bool) → BlockedCore (Both s old.means.admits test) t seen (i + 1) → BlockedCore (Both s new.means.admits test) t seen' i
core_resolved s t top i old new x c seen seen' asked ready shape source is grows covers test b =
    let covers' : CoversAll t seen' (source_lits s x) = rw is at covers in
    resolved_by s new.means.admits t top ready.rooted shape test i (source_lits s x) seen seen' source.implied source.reason grows covers'
    (core_fewer (Both s old.means.admits test) (Both s new.means.admits test) t seen (i + 1) (λ f h. (known_fewer old.means.admits new.means.admits asked.later.fewer f h.0, h.1)) b)

-- the walk, where the places from one on are done: over every test, what was blocked at the start is so still
pub record IsTracing (s : List (Option Stored)) (t : List Step) (first : Option ℕ) (before : List Bool) (was : Shown) (place : ℕ) (falsified : Option ℕ) (seen : List Bool) (now : Shown) : Type 0 where
  pub within : place ≤ length t
  pub same : falsified ≡ first
  pub marked : IsMarked t seen
  pub row : Row (length t - place) s t was now
  pub blocked : (test : Assignment → Bool) → BlockedCore (Both s was.means.admits test) t before (length t) → BlockedCore (Both s now.means.admits test) t seen place

pub tracing_start : (s : List (Option Stored)) (t : List Step) (first : Option ℕ) (before : List Bool) (b : Shown) (n : ℕ) → IsReady s t b → IsMarked t before → n ≡ length t → IsTracing s t first before b n first before b
tracing_start s t first before b n ready m size = record {
  within = omega arith;
  same = refl;
  marked = m;
  row = row_fewer s t 0 (length t - n) b b (omega arith) (row_none s t b ready);
  blocked = λ test h. rw size h;
}

module _ (s : List (Option Stored)) (t : List Step) (first : Option ℕ) (before : List Bool) (was : Shown) (place : ℕ) (falsified : Option ℕ) (seen : List Bool) (now : Shown) (w : IsTracing s t first before was place falsified seen now) where
  pub tracing_on : (falsified' : Option ℕ) (seen' : List Bool) (new : Shown) → 0 < place → Asked 1 now new → new.spent ≡ now.spent → IsReady s t new → falsified' ≡ falsified → IsMarked t seen'
      → ((test : Assignment → Bool) → BlockedCore (Both s now.means.admits test) t seen (place - 1 + 1) → BlockedCore (Both s new.means.admits test) t seen' (place - 1))
      → IsTracing s t first before was (place - 1) falsified' seen' new
  tracing_on falsified' seen' new pos asked spent ready same marked blocked =
      let e : place - 1 + 1 ≡ place = omega arith in
      record {
        within = (let b = w.within in omega arith);
        same = same ∙ w.same;
        marked = marked;
        row = row_fewer s t (length t - place + 1) (length t - (place - 1)) was new (let b = w.within in omega arith)
            (row_on s t (length t - place) 1 was now new w.row (record { asked = asked; spent = spent; ready = ready }));
        blocked = λ test h. blocked test (rw e (w.blocked test h));
      }

  pub tracing_stop : (new : Shown) → 0 < place → Asked 1 now new → Asked (length t) was new
  tracing_stop new pos a = asked_fewer (length t - place + 1) (length t) was new (let b = w.within in omega arith) (asked_on (length t - place) 1 was now new w.row.asked a)

  pub tracing_ends : Asked (length t) was now
  tracing_ends = asked_fewer (length t - place) (length t) was now (omega arith) w.row.asked

-- a marked place that was not decided
pub implied_place : (t : List Step) (seen : List Bool) (i : ℕ) (told : Bool) → IsMarked t seen → i < length t → flag seen i ≡ true → IsTrue told ↔ ((step t i).reason ≡ Decision) → told ≡ false → IsImpliedAt t i
implied_place t seen i told m in' on says no' = record {
  within = in';
  above = m.above i on;
  implied = λ dec. false≢true (sym no' ∙ says.1 dec);
}

-- a decision keeps its mark
pub decided_stays : (F : Assignment → Type 0) (t : List Step) (seen : List Bool) (i : ℕ) (told : Bool) → IsTrue told ↔ ((step t i).reason ≡ Decision) → told ≡ true → BlockedCore F t seen (i + 1) → BlockedCore F t seen i
decided_stays F t seen i told says yes' b = core_keep F t seen i (says.0 yes') (rw add-one at b)

-- an assumption that is false
pub core_of_lit : (s : List (Option Stored)) (admits : Assignment → Bool) (t : List Step) (top : ℕ) → RootedUnder s admits t → IsTrail t top → (lit : ℕ) (seen : List Bool) → true_on t (neg lit) ≡ true → CoversLit t seen lit
    → BlockedCore (Both s admits (asks (Some lit))) t seen (length t)
core_of_lit s admits t top rooted shape lit seen off covers =
    core_start (Both s admits (asks (Some lit))) t top (root s admits t top rooted shape (asks (Some lit))) shape (lit ∷ []) seen (length t)
    (λ f h. clause_true-from f (lit ∷ []) lit (or_left (eqb lit lit) false (eq-eqb lit lit refl)) h.1)
    (λ l k.
    let e : lit ≡ l = eqb-true lit l (rw or-false at k) in
    subst (CoversLit t seen) e covers (length t) (rw (← e) (on_front s admits t top rooted shape (asks (Some lit)) (neg lit) off)))

-- a member of true literals is true
true_member : (f : Assignment) (ls : List ℕ) (l : ℕ) → lits_true f ls ≡ true → has ls l ≡ true → lit_true f l ≡ true
true_member f [] l all h = absurd (false≢true h)
true_member f (x ∷ ls) l all h =
    let p = and_parts (lit_true f x) (lits_true f ls) all in
    elim (or_cases (eqb x l) (has ls l) h) [
      | inl e ↦ subst (λ y. lit_true f y ≡ true) (eqb-true x l e) p.0
      | inr h' ↦ true_member f ls l p.1 h'
    ]

-- what is marked stands on the trail
marked_within : (seen : List Bool) (j : ℕ) → flag seen j ≡ true → j < length seen
marked_within seen j h =
    elim (cases_lt j (length seen)) [
      | inl lt ↦ lt
      | inr ge ↦ absurd (false≢true (sym (get_or_past seen j false (omega arith)) ∙ h))
    ]

pub falsified_assumed : (s : List (Option Stored)) (t : List Step) (assumptions : List ℕ) (start : CoreStart) → Starts s t assumptions start → (l : ℕ) → falsified_by start ≡ Some l → has assumptions l ≡ true
falsified_assumed s t assumptions (Falsified lit) h l is = let e : lit ≡ l = cc in rw (← e) h.0
falsified_assumed s t assumptions (Conflict id) h l is = absurd (let e : None ≡ Some l = is in cc)

-- the end: what is needed is a core
module _ (s : List (Option Stored)) (admits : Assignment → Bool) (t : List Step) (falsified : Option ℕ) (seen : List Bool) (assumptions core : List ℕ) (m : IsMarked t seen) (held : HoldsNeeded (IsNeeded t falsified seen) assumptions core) where
  asked : (x : Option ℕ) → falsified ≡ x → ((l : ℕ) → x ≡ Some l → has assumptions l ≡ true) → (f : Assignment) → lits_true f core ≡ true → asks x f ≡ true
  asked None e known f all = refl
  asked (Some l) e known f all = true_member f core l all (held.all l (known l refl) (inl e))

  pub core_is : BlockedCore (Both s admits (asks falsified)) t seen 0 → DecidesAssumed t assumptions → ((l : ℕ) → falsified ≡ Some l → has assumptions l ≡ true) → IsCore (Known s admits) assumptions core
  core_is blocked decides assumed = record {
    some = held.some;
    once = held.once;
    none = λ f known all.
        core_end (Both s admits (asks falsified)) t seen blocked f (known, asked falsified refl assumed f all) (λ j on dec.
        let in' : j < length t = rw (← m.long) (marked_within seen j on) in
        true_member f core (step t j).lit all (held.all (step t j).lit (decides j in' dec) (inr (j, in', on, dec, refl))));
  }

-- what the calls of a core give
pub core_found : (s : List (Option Stored)) (t : List Step) (assumptions core : List ℕ) (start : CoreStart) (old new : Shown) (marks seen : List Bool) (first falsified : Option ℕ)
    → IsReady s t old → IsReady s t new → IsMarked t seen → first ≡ falsified_by start → falsified ≡ first
    → ((admits : Assignment → Bool) → RootedUnder s admits t → BlockedCore (Both s admits (asks (falsified_by start))) t marks (length t))
    → ((test : Assignment → Bool) → BlockedCore (Both s old.means.admits test) t marks (length t) → BlockedCore (Both s new.means.admits test) t seen 0)
    → DecidesAssumed t assumptions → Starts s t assumptions start → HoldsNeeded (IsNeeded t falsified seen) assumptions core → IsCore (Known s new.means.admits) assumptions core
core_found s t assumptions core start old new marks seen first falsified ready ready' m is same begun traced decides starts held =
    let e : falsified ≡ falsified_by start = same ∙ is in
    core_is s new.means.admits t falsified seen assumptions core m held (rw e (traced (asks (falsified_by start)) (begun old.means.admits ready.rooted))) decides
    (λ l q. falsified_assumed s t assumptions start starts l (sym e ∙ q))

-- below the first place above the root nothing is marked
pub core_rest : (F : Assignment → Type 0) (t : List Step) (seen : List Bool) (i start : ℕ) → IsMarked t seen → IsStart t 1 start → i ≤ start → BlockedCore F t seen i → BlockedCore F t seen 0
core_rest F t seen i start m first le b f h all =
    b f h (λ j on where'.
    elim where' [
      | inl lt ↦ absurd (let low = first.below j (omega arith) in let high = m.above j on in omega arith)
      | inr d ↦ all j on (inr d)
    ])
