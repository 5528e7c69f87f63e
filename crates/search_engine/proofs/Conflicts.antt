-- What a learned clause changes.
use Rattle.std.proofs.Common.{◌≡◌, ◌≢◌, ℕ, suc, ◌<◌, ◌≤◌, true, false, ◌||◌, eqb, List, [], ◌∷◌, ◌++◌, length, get_or, take, inl, inr, refl, sym, ap, ◌∙◌, subst, arith, Option, Some, None}
use Rattle.std.specs.Prelude.{IsSome}
use Rattle.std.proofs.lemmas.Bool.{false≢true, cases_eq, or_right, eq-eqb, ne_eqb}
use Rattle.std.proofs.lemmas.List.{length-take-le, take-take, take-append-le}
use Rattle.std.proofs.Math.Bool.{or-false}
use Rattle.sat_terms.specs.Literal.{has, neg, var_of}
use Rattle.sat_terms.specs.Answer.{Within, IsSubsequence, IsCore}
use Rattle.sat_terms.proofs.Literals.{var_of-neg}
use Rattle.sat_terms.specs.Truth.{Implies}
use Rattle.clause_store.specs.Stored.{Stored, slot, slot_lits, is_firm, Fills}
use Rattle.clause_store.proofs.Slots.{StoreTrue-filled}
use Rattle.sat_terms.proofs.Members.{has_item}
use Rattle.trail_state.specs.declared.trail.Step.{Step}
use Rattle.trail_state.specs.declared.reason.Reason.TheVariants.{Decision, Clause}
use Rattle.trail_state.specs.Trail.{Trace, step, true_on, value_on, IsTrail, IsBack, HasRoom}
use Rattle.trail_state.specs.Clauses.{FalseOn, IsUnit}
use Rattle.trail_state.proofs.Backing.{step_take}
use Rattle.trail_state.proofs.Changes.{step_old, step_new, old_or_new}
use Rattle.trail_state.proofs.Places.{place_of_true}
use Rattle.rooted_trails.specs.Known.{everything, Known}
use Rattle.rooted_trails.specs.Rooted.{Rooted}
use Rattle.rooted_trails.proofs.Knowing.{known_more}
use Rattle.rooted_trails.proofs.Falses.{not_all_false, false_by_neg}
use Rattle.rooted_trails.proofs.Blocking.{root_true}
use Rattle.rooted_trails.proofs.Reasons.{rooted_back, rooted_push, rooted_filled, live_filled, live_implied, unit_reason, root_follows, rooted_under}
use Rattle.watch_lists.specs.Propagation.{Watching, Follows}
use Rattle.conflict_analysis.specs.Counting.{Counted}
use Rattle.conflict_analysis.specs.Walking.{Resolvent}
use Rattle.conflict_analysis.specs.Learning.{lit_level, IsAsserting, Owes}
use Rattle.conflict_analysis.proofs.Highests.{level_here}
use Rattle.conflict_analysis.proofs.Returns.{false_kept, back_frees}
use Rattle.search_engine.specs.declared.state.Core.{Core}
use Rattle.decide_order.specs.Ordering.{Ordered}
use Rattle.search_policy.specs.Plan.{Plan}
use Rattle.search_engine.specs.Searching.{StoreWithin, AttachesLive, IsReady, IsOrderly, Learns, Keeps}
use Rattle.search_engine.proofs.Keeping.{learns_same, keeps_ready}
use Rattle.search_engine.specs.Turns.{AssumesFirst, Jumped}
use Rattle.search_engine.proofs.Jumps.{jumped_from}

-- the variables of a false clause are declared
false_named : (t : Trace) (l : ℕ) → HasRoom t → true_on t.steps (neg l) ≡ true → (1 ≤ var_of l) × (var_of l ≤ t.declared)
false_named t l room off =
    let p = place_of_true t.steps (neg l) off in
    let v : var_of (step t.steps p.0).lit ≡ var_of l = ap var_of p.2 ∙ var_of-neg l in
    let h = room.named p.0 p.1 in
    (let low = h.0 in omega arith, let high = h.1 in omega arith)

pub false_watched : (t : Trace) (c : List ℕ) (n : ℕ) → HasRoom t → FalseOn t.steps c → t.declared ≤ n → Within n c
false_watched t c n room off le k d in' =
    let named = false_named t (get_or c k d) room (off (get_or c k d) (has_item c k d in')) in
    let low = named.0 in
    let high = named.1 in
    (omega arith, omega arith)

pub false_within : (t : Trace) (c : List ℕ) → HasRoom t → FalseOn t.steps c → Within t.declared c
false_within t c room off k d in' = false_named t (get_or c k d) room (off (get_or c k d) (has_item c k d in'))

-- a redundant clause more in the store
module _ (s s' : List (Option Stored)) (id : ℕ) (c : Stored) (fills : Fills s s' id c) where
  pub learns_filled : is_firm (Some c) ≡ false → Implies (Known s everything) c.lits → Learns s s'
  learns_filled soft implied = record {
    firm = λ k h. fills.others k (λ e. false≢true (sym (ap is_firm (ap (slot s) e ∙ fills.free)) ∙ h));
    no_more = λ k h. fills.others k (λ e. false≢true (sym soft ∙ sym (ap is_firm (ap (slot s') e ∙ fills.filled)) ∙ h));
    implied = λ f known. known_more s s' f (λ sat. StoreTrue-filled f fills sat (implied f known)) known;
  }

  pub attaches_filled : (ids ids' : List ℕ) → AttachesLive ids s → ((k : ℕ) → has ids' k ≡ (has ids k || eqb id k)) → AttachesLive ids' s'
  attaches_filled ids ids' live more k =
      elim (cases_eq id k) [
        | inl e ↦ more k ∙ rw (eq-eqb id k e, ← e, fills.filled) (or_right (has ids id) true refl)
        | inr n ↦ more k ∙ rw (ne_eqb id k n, or-false, fills.others k (λ e. n (sym e))) (live k)
      ]

  pub within_filled : (n : ℕ) → StoreWithin n s → Within n c.lits → StoreWithin n s'
  within_filled n within new k live =
      elim (cases_eq k id) [
        | inl e ↦ rw (e, fills.filled) new
        | inr other ↦ let same = fills.others k other in rw same (within k (rw same at live))
      ]

  pub slots_filled : (ids : List ℕ) → AttachesLive ids s → (k : ℕ) → has ids k ≡ true → slot s' k ≡ slot s k
  slots_filled ids live k h = live_filled s s' id c fills k (sym (live k) ∙ h)

-- assumptions come first on a front, and with an implied literal more
first_front : (assumptions : List ℕ) (t : List Step) (k : ℕ) → k ≤ length t → AssumesFirst assumptions t → AssumesFirst assumptions (take k t)
first_front assumptions t k le first i in' dec =
    let size = length-take-le k t le in
    let lt : i < k = omega arith in
    elim (first i (omega arith) (rw (step_take t k i lt) at dec)) [
      | inl a ↦ inl (rw (step_take t k i lt) a)
      | inr b ↦ inr (rw (take-take i k t (omega arith)) b)
    ]

pub first_back : (assumptions : List ℕ) (old new : Trace) (level : ℕ) → IsBack old new level → AssumesFirst assumptions old.steps → AssumesFirst assumptions new.steps
first_back assumptions old new level back first = subst (λ t. AssumesFirst assumptions t) (sym back.steps) (first_front assumptions old.steps back.kept back.within first)

pub first_push : (assumptions : List ℕ) (t : List Step) (x : Step) → x.reason ≢ Decision → AssumesFirst assumptions t → AssumesFirst assumptions (t ++ x ∷ [])
first_push assumptions t x implied first i in' dec =
    elim (old_or_new t x i in') [
      | inl old ↦
          elim (first i old (rw (step_old t x i old) at dec)) [
            | inl a ↦ inl (rw (step_old t x i old) a)
            | inr b ↦ inr (rw (take-append-le i t (x ∷ []) (omega arith)) b)
          ]
      | inr e ↦ absurd (implied (rw (e, step_new t x) at dec))
    ]

-- what a search needs stays where its trail goes back
pub ready_back : (assumptions : List ℕ) (core : Core) (t : Trace) (o : Ordered) (p : Plan) (w : Watching) (tally : Counted) (scratch : Resolvent) (level : ℕ) → IsReady assumptions core → IsBack core.trail t level
    → w.attached ≡ core.watches.attached → w.declared ≡ core.watches.declared → Follows w core.store t → IsOrderly o t → o.declared ≡ core.order.declared → IsReady assumptions (record core { trail = t; order = o; policy = p; watches = w; tally = tally; scratch = scratch })
ready_back assumptions core t o p w tally scratch level ready back same size following orderly known =
    let dec = back.declared in
    record {
      rooted = rooted_back core.store core.trail t level back ready.rooted;
      attached = rw same ready.attached;
      none_listed = ready.none_listed;
      following = following;
      within = rw dec ready.within;
      assumed = rw dec ready.assumed;
      watched = (let h = ready.watched in omega arith);
      room = rw dec ready.room;
      orderly = orderly;
      decided = known ∙ ready.decided ∙ sym dec;
    }

-- what a search keeps where its trail goes back
pub keeps_back : (assumptions : List ℕ) (core : Core) (t : Trace) (o : Ordered) (p : Plan) (w : Watching) (tally : Counted) (scratch : Resolvent) (level : ℕ) → IsReady assumptions core → IsBack core.trail t level → w.attached ≡ core.watches.attached → w.declared ≡ core.watches.declared → Follows w core.store t
    → IsOrderly o t → o.declared ≡ core.order.declared → Keeps core (record core { trail = t; order = o; policy = p; watches = w; tally = tally; scratch = scratch })
keeps_back assumptions core t o p w tally scratch level ready back same size following orderly known =
    keeps_ready assumptions core (record core { trail = t; order = o; policy = p; watches = w; tally = tally; scratch = scratch }) ready (ready_back assumptions core t o p w tally scratch level ready back same size following orderly known) (learns_same core.store) back.declared refl

-- where a clause is false at the root, nothing that is known can be
pub root_conflict : (assumptions : List ℕ) (s : List (Option Stored)) (t : List Step) (top id level : ℕ) → Rooted s t → IsTrail t top → IsSome (slot s id) → FalseOn t (slot_lits (slot s id))
    → ((l : ℕ) → has (slot_lits (slot s id)) l ≡ true → lit_level t l ≤ level) → level ≡ 0 → IsCore (Known s everything) assumptions []
root_conflict assumptions s t top id level rooted shape live off low zero' = record {
  some = none assumptions;
  once = λ i j d lt in'. absurd (omega arith);
  none = λ f known assumed.
      not_all_false f (slot_lits (slot s id)) (live_implied s id live f known) (λ l m.
      let p = place_of_true t (neg l) (off l m) in
      let e = level_here t top l p.0 shape p.1 (ap var_of p.2 ∙ var_of-neg l) in
      let le = low l m in
      false_by_neg f l (rw (← p.2) (root_true (Known s everything) t top (root_follows s everything t top (rooted_under s everything t rooted) shape) shape f known (suc p.0) p.0 (omega arith) p.1 (omega arith))));
} where
  none : (xs : List ℕ) → IsSubsequence [] xs
  none [] = refl
  none (x ∷ xs) = inl (none xs)

-- A clause that is false on the trail and asserts a literal has come into the store.
pub record Taught (assumptions : List ℕ) (core : Core) (s : List (Option Stored)) (id : ℕ) (c : Stored) (lit level : ℕ) : Type 0 where
  pub ready : IsReady assumptions core
  pub first : AssumesFirst assumptions core.trail.steps
  pub shape : IsTrail core.trail.steps core.trail.level
  pub room : HasRoom core.trail
  pub fills : Fills core.store s id c
  pub soft : is_firm (Some c) ≡ false
  pub implied : Implies (Known core.store everything) c.lits
  pub off : FalseOn core.trail.steps c.lits
  pub asserts : IsAsserting core.trail.steps core.trail.level c.lits lit level

module _ {assumptions : List ℕ} {core : Core} {s : List (Option Stored)} {id : ℕ} {c : Stored} {lit level : ℕ} (taught : Taught assumptions core s id c lit level) where
  pub taught_within : StoreWithin core.trail.declared s
  taught_within = within_filled core.store s id c taught.fills core.trail.declared taught.ready.within (false_within core.trail c.lits taught.room taught.off)

  pub taught_learns : Learns core.store s
  taught_learns = learns_filled core.store s id c taught.fills taught.soft taught.implied

  pub taught_rooted : Rooted s core.trail.steps
  taught_rooted = rooted_filled core.store s id c taught.fills core.trail.steps taught.ready.rooted

  module _ {t : Trace} (back : IsBack core.trail t level) where
    pub taught_declared : var_of lit ≤ t.declared
    taught_declared =
        let named = false_named core.trail lit taught.room (taught.off lit taught.asserts.holds) in
        let high = named.1 in
        let dec = back.declared in
        omega arith

    pub taught_free : value_on t.steps lit ≡ None
    taught_free =
        let at = taught.asserts.at_top in
        let below = taught.asserts.below in
        back_frees core.trail t level lit taught.shape back (omega arith)

    unit : IsUnit t.steps c.lits lit
    unit = record {
      holds = taught.asserts.holds;
      free = taught_free;
      others = λ k m n. false_kept core.trail t level k taught.shape back (taught.off k m) (taught.asserts.others k m n);
    }

    module _ (last : Trace) (is : last.steps ≡ t.steps ++ record { lit = lit; level = t.level; reason = Clause id } ∷ []) where
      pub last_rooted : Rooted s last.steps
      last_rooted =
          let x : Step = record { lit = lit; level = t.level; reason = Clause id } in
          let filled = taught.fills.filled in
          rw is (rooted_push s t.steps x (rooted_back s core.trail t level back taught_rooted) (unit_reason s t.steps x id (rw filled refl) (rw filled unit)))

      pub last_first : AssumesFirst assumptions last.steps
      last_first = rw is (first_push assumptions t.steps (record { lit = lit; level = t.level; reason = Clause id }) (λ e. cc) (first_back assumptions core.trail t level back taught.first))

      pub last_jumped : Jumped core.trail.steps last.steps
      last_jumped =
          let p = place_of_true core.trail.steps (neg lit) (taught.off lit taught.asserts.holds) in
          let e = level_here core.trail.steps core.trail.level lit p.0 taught.shape p.1 (ap var_of p.2 ∙ var_of-neg lit) in
          let at = taught.asserts.at_top in
          let below = taught.asserts.below in
          jumped_from core.trail t level p.0 last.steps (record { lit = lit; level = t.level; reason = Clause id }) taught.shape back p.1 (omega arith) (λ q. cc) is

      pub last_ready : (o : Ordered) (w : Watching) (tally : Counted) → last.declared ≡ core.trail.declared → o.declared ≡ core.order.declared → ((k : ℕ) → has w.attached k ≡ (has core.watches.attached k || eqb id k)) → w.declared ≡ core.watches.declared
          → Follows w s last → IsOrderly o last → IsReady assumptions (record core { store = s; trail = last; order = o; watches = w; tally = tally })
      last_ready o w tally dec known more size following orderly = record {
        rooted = last_rooted;
        attached = attaches_filled core.store s id c taught.fills core.watches.attached w.attached taught.ready.attached more;
        none_listed = taught.ready.none_listed;
        following = following;
        within = rw dec taught_within;
        assumed = rw dec taught.ready.assumed;
        watched = (let h = taught.ready.watched in omega arith);
        room = rw dec taught.ready.room;
        orderly = orderly;
        decided = known ∙ taught.ready.decided ∙ sym dec;
      }

-- the same, as the code reads it
pub taught_by : {assumptions : List ℕ} {core : Core} {s : List (Option Stored)} {id lit level : ℕ} {c : Stored} {lits : List ℕ} → IsReady assumptions core → AssumesFirst assumptions core.trail.steps → IsTrail core.trail.steps core.trail.level
    → HasRoom core.trail → Fills core.store s id c → is_firm (Some c) ≡ false → c.lits ≡ lits → Implies (Known core.store everything) lits → FalseOn core.trail.steps lits
    → (owes : Owes core.tally.owes core.trail.steps core.trail.level lits level) → owes.lit ≡ lit → Taught assumptions core s id c lit level
taught_by {assumptions} {core} {s} {id} {lit} {level} {c} {lits} ready first shape room fills soft same implied off owes is = record {
  ready = ready;
  first = first;
  shape = shape;
  room = room;
  fills = fills;
  soft = soft;
  implied = rw same implied;
  off = rw same off;
  asserts = rw same (subst (λ l. IsAsserting core.trail.steps core.trail.level lits l level) is owes.asserting);
}

pub owed_is : {owed answer : Option ℕ} {t : List Step} {top l level : ℕ} {lits : List ℕ} (owes : Owes owed t top lits level) → answer ≡ owed → answer ≡ Some l → owes.lit ≡ l
owed_is {l = l} owes same is = let e : Some owes.lit ≡ Some l = sym owes.is ∙ sym same ∙ is in cc
