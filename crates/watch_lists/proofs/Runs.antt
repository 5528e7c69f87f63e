-- Runs over the places of a trail.
use Rattle.std.proofs.Common.{◌≡◌, ℕ, ◌+◌, ◌<◌, ◌≤◌, true, List, [], ◌∷◌, length, set, inl, inr, refl, sym, ap, ◌∙◌, subst, arith, Option, Some, None}
use Rattle.std.proofs.lemmas.Bool.{cases_eq, cases_lt}
use Rattle.sat_terms.specs.Literal.{has, neg, var_of}
use Rattle.sat_terms.proofs.Literals.{neg-neg}
use Rattle.clause_store.specs.Stored.{Stored, slot, slot_lits}
use Rattle.trail_state.specs.declared.trail.Step.{Step}
use Rattle.trail_state.specs.Trail.{Trace, step, no_step, true_on, IsTrail, IsBack}
use Rattle.trail_state.proofs.Places.{true_at_place}
use Rattle.watch_lists.specs.declared.lists.Watch.{Watch}
use Rattle.watch_lists.specs.Propagation.{Grown}
use Rattle.watch_lists.specs.Watching.{Pair, pair, at, put_at, tally, WatchesIt, AllBlock, Kept, TrueIn, Covers, CoverStays, FollowsOn}
use Rattle.watch_lists.specs.Visiting.{AllTrueIn, IsLeveled, IsPassed, WatchedQuiet}
use Rattle.std.specs.Prelude.{Result, Ok, Err, IfOk, MatchOption}
use Rattle.std.proofs.lemmas.List.{get_or-set_same, get_or-set_other, get_or_append_left, length-append, length-take-le, length-map}
use Rattle.trail_state.specs.Trail.{level_on, lits_of}
use Rattle.trail_state.proofs.Places.{place_apart, level_at}
use Rattle.trail_state.proofs.Levels.{rising, below_top}
use Rattle.trail_state.proofs.Backing.{step_take}
use Rattle.watch_lists.proofs.Tallies.{tally_apart, expects_one, put_here, put_apart}
use Rattle.watch_lists.proofs.Growing.{grown_none, grown_more}
use Rattle.watch_lists.proofs.Watched.{quiet_watched}

-- levels
pub leveled_at : (t : Trace) (start sure level l : ℕ) → IsTrail t.steps t.level → start < length t.steps → l ≡ (step t.steps start).lit → level_on t.steps (var_of l) ≡ Some level → t.level ≤ level → IsLeveled t start sure
leveled_at t start sure level l shape within l-is here high = record {
  same = λ i above in' below.
      let at = level_at t.steps (var_of l) start (place_apart t.steps (var_of l) start shape.apart within (ap var_of (sym l-is))) in
      let both : Some level ≡ Some (step t.steps start).level = sym here ∙ at in
      let e : level ≡ (step t.steps start).level = cc in
      let a = rising 0 t.steps t.level shape.levels start i above in' in
      let b = below_top 0 t.steps t.level shape.levels i in' in
      omega arith;
}

pub leveled_past : (t : Trace) (start sure : ℕ) → length t.steps ≤ start → IsLeveled t start sure
leveled_past t start sure past = record { same = λ i above in' below. absurd (omega arith) }

pub leveled_none : (t : Trace) (start : ℕ) → IsLeveled t start start
leveled_none t start = record { same = λ i above in' below. absurd (omega arith) }

pub leveled_grown : (ids : List ℕ) (s : List (Option Stored)) (a b : Trace) (start sure : ℕ) → Grown ids s a b → IsLeveled a start sure → IsLeveled b start sure
leveled_grown ids s a b start sure g h = record {
  same = λ i above in' below.
      let long : length b.steps ≡ length a.steps + length g.tail = rw (g.steps, length-append) refl in
      elim (cases_lt i (length a.steps)) [
        | inl old ↦ ap (λ z. (step z i).level) g.steps ∙ ap (λ (x : Step). x.level) (get_or_append_left a.steps g.tail no_step i old) ∙ h.same i above old below ∙ sym g.level
        | inr new ↦ (g.implied i new in').stands ∙ sym g.level
      ];
}

-- a place of the trail, as the code reads its literals
pub place_in : (lits : List ℕ) (t : List Step) (i : ℕ) → lits ≡ lits_of t → i < length lits → i < length t
place_in lits t i is lt = let a = ap length is in let b = length-map t (λ (x : Step). x.lit) in omega arith

-- lists that are the same
pub kept_same : (ids : List ℕ) (s : List (Option Stored)) (n : ℕ) (A B : ℕ → List Watch) (ps : List Pair) → ((l : ℕ) → l < n → B l ≡ A l) → Kept ids s n A ps → Kept ids s n B ps
kept_same ids s n A B ps same k = record {
  tallied = λ l id below. ap (tally id) (same l below) ∙ k.tallied l id below;
  held = k.held;
  blocking = λ l below. subst (AllBlock s l) (sym (same l below)) (k.blocking l below);
}

pub taken_out : (ids : List ℕ) (s : List (Option Stored)) (n f : ℕ) (ls : List (List Watch)) (ws : List Watch) (ps : List Pair) → f < length ls → Kept ids s n (at ls) ps → Kept ids s n (put_at (at (set ls f ws)) f (at ls f)) ps
taken_out ids s n f ls ws ps in' k = kept_same ids s n (at ls) (put_at (at (set ls f ws)) f (at ls f)) ps
    (λ l below.
    elim (cases_eq f l) [
      | inl e ↦ put_here (at (set ls f ws)) f l (at ls f) e ∙ ap (at ls) e
      | inr ne ↦ put_apart (at (set ls f ws)) f l (at ls f) ne ∙ get_or-set_other ls f l ws [] (λ q. ne (sym q))
    ])
    k

pub put_back : (ids : List ℕ) (s : List (Option Stored)) (n f : ℕ) (ls : List (List Watch)) (ws : List Watch) (ps : List Pair) → f < length ls → Kept ids s n (put_at (at ls) f ws) ps → Kept ids s n (at (set ls f ws)) ps
put_back ids s n f ls ws ps in' k = kept_same ids s n (put_at (at ls) f ws) (at (set ls f ws)) ps
    (λ l below.
    elim (cases_eq f l) [
      | inl e ↦ ap (at (set ls f ws)) (sym e) ∙ get_or-set_same ls f ws [] in' ∙ sym (put_here (at ls) f l ws e)
      | inr ne ↦ get_or-set_other ls f l ws [] (λ q. ne (sym q)) ∙ sym (put_apart (at ls) f l ws ne)
    ])
    k

-- a clause that stands in a list of which all have a true literal
tallied_true : (s : List (Option Stored)) (ws : List Watch) (t : List Step) (id : ℕ) → 0 < tally id ws → AllTrueIn s ws t → TrueIn (slot_lits (slot s id)) t
tallied_true s [] t id h all = absurd (omega arith)
tallied_true s (w ∷ ws) t id h all =
    elim (cases_eq w.id id) [
      | inl e ↦ subst (λ z. TrueIn (slot_lits (slot s z)) t) e all.0
      | inr n ↦
          let a = tally_apart id [] ws w n in
          tallied_true s ws t id (omega arith) all.1
    ]

pub passed : (ids : List ℕ) (s : List (Option Stored)) (n f place : ℕ) (ls : ℕ → List Watch) (ws : List Watch) (ps : List Pair) (t : List Step) → f < n → neg (step t place).lit ≡ f → Kept ids s n (put_at ls f ws) ps → AllTrueIn s ws t → IsPassed s ps t place
passed ids s n f place ls ws ps t in' is k all = record {
  true_in = λ id watches.
      let a = k.tallied f id in' in
      let b = ap (tally id) (put_here ls f f ws refl) in
      let c = expects_one (pair ps id) f (subst (WatchesIt (pair ps id)) is watches) in
      tallied_true s ws t id (omega arith) all;
}

-- no list is there for the literal
pub passed_none : (ids : List ℕ) (s : List (Option Stored)) (n f place : ℕ) (ls : ℕ → List Watch) (ps : List Pair) (t : List Step) → n ≤ f → neg (step t place).lit ≡ f → Kept ids s n ls ps → IsPassed s ps t place
passed_none ids s n f place ls ps t out is k = record {
  true_in = λ id watches.
      let h = k.held id watches.differ in
      elim watches.one [
        | inl e ↦ let a = h.within (pair ps id).first h.first in absurd (omega arith)
        | inr e ↦ let a = h.within (pair ps id).second h.second in absurd (omega arith)
      ];
}

-- what holds while places are passed, from `start` on
pub record Running (ids : List ℕ) (s : List (Option Stored)) (n : ℕ) (ls : List (List Watch)) (ps : List Pair) (t0 t : Trace) (start place sure : ℕ) : Type 0 where
  pub sized : length ls ≡ n
  pub kept : Kept ids s n (at ls) ps
  pub grown : Grown ids s t0 t
  pub covers : Covers s ps t.steps place sure
  pub within : place ≤ length t.steps
  pub above : start ≤ place
  pub sure_above : start ≤ sure
  pub leveled : IsLeveled t start sure

pub run_starts : (ids : List ℕ) (s : List (Option Stored)) (n : ℕ) (ls : List (List Watch)) (ps : List Pair) (t : Trace) (start sure : ℕ) → length ls ≡ n → Kept ids s n (at ls) ps → FollowsOn s ps t.steps start → start ≤ sure → IsLeveled t start sure
    → Running ids s n ls ps t t start start sure
run_starts ids s n ls ps t start sure sized kept follows above leveled = record {
  sized = sized;
  kept = kept;
  grown = grown_none ids s t;
  covers = λ i id below watches.
      let c = follows.covers i id below watches in
      record { true_in = c.true_in; low = λ _. c.low below };
  within = follows.within;
  above = omega arith;
  sure_above = above;
  leveled = leveled;
}

longer : (ids : List ℕ) (s : List (Option Stored)) (a b : Trace) → Grown ids s a b → length a.steps ≤ length b.steps
longer ids s a b g = rw (g.steps, length-append) (omega arith)

pub run_passes : (ids : List ℕ) (s : List (Option Stored)) (n : ℕ) (ls ls' : List (List Watch)) (ps ps' : List Pair) (t0 t t' : Trace) (start place sure : ℕ) → IsTrail t'.steps t'.level → Running ids s n ls ps t0 t start place sure → place < length t.steps
    → length ls' ≡ n → Kept ids s n (at ls') ps' → Grown ids s t t' → CoverStays s ps ps' t.steps t'.steps → IsPassed s ps' t'.steps place → Running ids s n ls' ps' t0 t' start (place + 1) sure
run_passes ids s n ls ls' ps ps' t0 t t' start place sure shape r in' sized kept g stays p =
    let long = longer ids s t t' g in
    let above = r.above in
    record {
      sized = sized;
      kept = kept;
      grown = grown_more ids s t0 t t' r.grown g;
      covers = λ i id below watches.
          elim (cases_eq i place) [
            | inl e ↦
                let h = p.true_in id (subst (λ z. WatchesIt (pair ps' id) (neg (step t'.steps z).lit)) e watches) in
                record {
                  true_in = h;
                  low = λ lt.
                      let a = below_top 0 t'.steps t'.level shape.levels h.place h.within in
                      let b = (leveled_grown ids s t t' start sure g r.leveled).same i (omega arith) (omega arith) lt in
                      omega arith;
                }
            | inr ne ↦ stays.covers place sure r.within r.covers i id (omega arith) watches
          ];
      within = omega arith;
      above = omega arith;
      sure_above = r.sure_above;
      leveled = leveled_grown ids s t t' start sure g r.leveled;
    }

-- the lists follow the trail up to any place that was passed and is sure
pub run_follows : (s : List (Option Stored)) (ps ps' : List Pair) (t t' : List Step) (place sure head : ℕ) → Covers s ps t place sure → place ≤ length t → length t ≤ length t' → CoverStays s ps ps' t t' → head ≤ place → head ≤ sure → FollowsOn s ps' t' head
run_follows s ps ps' t t' place sure head c within long stays a b = record {
  within = omega arith;
  covers = λ i id below watches.
      let h = stays.covers place sure within c i id (omega arith) watches in
      record { true_in = h.true_in; low = λ lt. h.low (omega arith) };
}

pub run_quiet : (ids : List ℕ) (s : List (Option Stored)) (n : ℕ) (ls : List (List Watch)) (ps : List Pair) (t0 t : Trace) (start place sure : ℕ) → IsTrail t.steps t.level → Running ids s n ls ps t0 t start place sure → length t.steps ≤ place → WatchedQuiet s ps t.steps
run_quiet ids s n ls ps t0 t start place sure shape r past = record {
  quiet = λ id differ.
      let h = r.kept.held id differ in
      quiet_watched t.steps t.level (slot_lits (slot s id)) (pair ps id) shape differ h.first h.second (λ i in' watches. (r.covers i id (omega arith) watches).true_in);
}

pub back_length : (a b : Trace) (lev : ℕ) → (back : IsBack a b lev) → length b.steps ≡ back.kept
back_length a b lev back = let w = back.within in ap length back.steps ∙ length-take-le back.kept a.steps w

pub back_step_of : (a b : Trace) (lev : ℕ) → (back : IsBack a b lev) → (i : ℕ) → i < back.kept → step b.steps i ≡ step a.steps i
back_step_of a b lev back i below = ap (λ z. step z i) back.steps ∙ step_take a.steps back.kept i below

-- Back on the trail: what was covered low stays covered.
pub follows_back : (s : List (Option Stored)) (ps : List Pair) (a b : Trace) (lev head head' : ℕ) → (back : IsBack a b lev) → FollowsOn s ps a.steps head → head' ≤ head → head' ≤ length b.steps → FollowsOn s ps b.steps head'
follows_back s ps a b lev head head' back f le in' =
    let kept : length b.steps ≡ back.kept = back_length a b lev back in
    record {
      within = in';
      covers = λ i id below watches.
          let same = back_step_of a b lev back i (omega arith) in
          let c = f.covers i id (omega arith) (subst (λ z. WatchesIt (pair ps id) (neg z.lit)) same watches) in
          let low : (step a.steps c.true_in.place).level ≤ (step a.steps i).level = c.low (omega arith) in
          let high : c.true_in.place < back.kept =
          elim (cases_lt c.true_in.place back.kept) [
            | inl x ↦ x
            | inr x ↦
                let u = back.high c.true_in.place x c.true_in.within in
                let v = back.low i (omega arith) in
                absurd (omega arith)
          ] in
          let same' = back_step_of a b lev back c.true_in.place high in
          record {
            true_in = record { place = c.true_in.place; within = subst (λ z. c.true_in.place < z) (sym kept) high; holds = subst (λ (z : Step). has (slot_lits (slot s id)) z.lit ≡ true) (sym same') c.true_in.holds };
            low = λ _. subst (λ (z : Step). z.level ≤ (step b.steps i).level) (sym same') (subst (λ (z : Step). (step a.steps c.true_in.place).level ≤ z.level) (sym same) low);
          };
    }

pub fallen_here : (t : List Step) (place f l : ℕ) → place < length t → l ≡ (step t place).lit → f ≡ neg l → true_on t (neg f) ≡ true
fallen_here t place f l in' is e = true_at_place t place (neg f) in' (sym (ap neg (e ∙ ap neg is) ∙ neg-neg (step t place).lit))

pub answer_from : {E : Type 0} (P Q : Type 0) (C : ℕ → Type 0) (r : Result (Option ℕ) E) → IfOk r (λ o. MatchOption o P C) → (P → Q) → IfOk r (λ o. MatchOption o Q C)
answer_from P Q C (Ok None) h f = f h
answer_from P Q C (Ok (Some x)) h f = h
answer_from P Q C (Err e) h f = h

pub step_later : (ids : List ℕ) (s : List (Option Stored)) (a b : Trace) (i f l : ℕ) → Grown ids s a b → i < length a.steps → l ≡ (step a.steps i).lit → f ≡ neg l → neg (step b.steps i).lit ≡ f
step_later ids s a b i f l g in' is e = ap (λ z. neg (step z i).lit) g.steps ∙ ap (λ (z : Step). neg z.lit) (get_or_append_left a.steps g.tail no_step i in') ∙ sym (e ∙ ap neg is)
