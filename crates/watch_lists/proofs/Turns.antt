-- Visits to the watches of a literal.
use Rattle.std.proofs.Common.{◌≡◌, ◌≢◌, ℕ, ◌+◌, ◌<◌, ◌≤◌, true, false, eqb, List, [], ◌∷◌, ◌++◌, length, get_or, set, take, drop, inl, inr, refl, sym, ap, ◌∙◌, subst, arith, append_assoc, Option}
use Rattle.std.proofs.lemmas.Bool.{false≢true, or_cases, or_left, or_right}
use Rattle.sat_terms.specs.Literal.{has, neg, var_of}
use Rattle.clause_store.specs.Stored.{Stored, slot, slot_lits}
use Rattle.trail_state.specs.declared.trail.Step.{Step}
use Rattle.trail_state.specs.Trail.{Trace, step, no_step, true_on}
use Rattle.watch_lists.specs.declared.lists.Watch.{Watch}
use Rattle.watch_lists.specs.Propagation.{AllReady, Grown, TrueAtRoot}
use Rattle.watch_lists.specs.Watching.{Pair, pair, at, put_at, WatchesIt, HoldsPair, Blocks, Kept, TrueIn, Covered, CoverStays}
use Rattle.watch_lists.specs.Visiting.{OtherOf, AllTrueIn}
use Rattle.std.proofs.lemmas.List.{get_or-set_same, get_or-set_other, take_more_set, drop-set-lt, drop_more, drop_all, append-nil, get_or_append_left, length-append, get_or_default}
use Rattle.watch_lists.proofs.Tallies.{watched_known, read_watched, read_blocks, kept_stays}
use Rattle.watch_lists.proofs.Growing.{grown_none, grown_more}
use Rattle.watch_lists.proofs.Watched.{other_held}
use Rattle.watch_lists.proofs.Looks.{declared_at}
use Rattle.watch_lists.proofs.Moves.{Moving, kept_moves, covers_moves}

-- lists that are closed up from the front
pub read_split : (ws : List Watch) (i j : ℕ) (w : Watch) → i < length ws → w ≡ get_or ws i w → take j ws ++ drop i ws ≡ take j ws ++ w ∷ drop (i + 1) ws
read_split ws i j w in' is = ap (λ z. take j ws ++ z) (drop_more ws i w in' ∙ ap (λ z. z ∷ drop (i + 1) ws) (sym is))

pub write_split : (ws : List Watch) (i j : ℕ) (w : Watch) → j ≤ i → i < length ws → take (j + 1) (set ws j w) ++ drop (i + 1) (set ws j w) ≡ take j ws ++ w ∷ drop (i + 1) ws
write_split ws i j w le in' =
    let a = take_more_set ws j w (omega arith) in
    let b = drop-set-lt (i + 1) ws j w (omega arith) in
    rw (a, b, append_assoc) refl

-- a longer trail
pub true_grown : (c : List ℕ) (ids : List ℕ) (s : List (Option Stored)) (a b : Trace) → Grown ids s a b → TrueIn c a.steps → TrueIn c b.steps
true_grown c ids s a b g h =
    let e = get_or_append_left a.steps g.tail no_step h.place h.within in
    record {
      place = h.place;
      within = rw (g.steps, length-append) (let w = h.within in omega arith);
      holds = rw (g.steps, e) h.holds;
    }

pub root_grown : (c : List ℕ) (ids : List ℕ) (s : List (Option Stored)) (a b : Trace) → Grown ids s a b → TrueAtRoot c a.steps → TrueAtRoot c b.steps
unfolding true_grown
root_grown c ids s a b g h = record {
  true_in = true_grown c ids s a b g h.true_in;
  root = ap (λ z. (step z h.true_in.place).level) g.steps ∙ ap (λ (x : Step). x.level) (get_or_append_left a.steps g.tail no_step h.true_in.place h.true_in.within) ∙ h.root;
}

pub trues_grown : (ids : List ℕ) (s : List (Option Stored)) (ws : List Watch) (a b : Trace) → Grown ids s a b → AllTrueIn s ws a.steps → AllTrueIn s ws b.steps
trues_grown ids s [] a b g h = tt
trues_grown ids s (w ∷ ws) a b g h = (true_grown (slot_lits (slot s w.id)) ids s a b g h.0, trues_grown ids s ws a b g h.1)

pub trues_join : (s : List (Option Stored)) (p q : List Watch) (t : List Step) → AllTrueIn s p t → AllTrueIn s q t → AllTrueIn s (p ++ q) t
trues_join s [] q t h k = k
trues_join s (w ∷ p) q t h k = (h.0, trues_join s p q t h.1 k)

step_grown : (ids : List ℕ) (s : List (Option Stored)) (a b : Trace) (i : ℕ) → Grown ids s a b → i < length a.steps → step b.steps i ≡ step a.steps i
step_grown ids s a b i g in' = ap (λ z. step z i) g.steps ∙ get_or_append_left a.steps g.tail no_step i in'

pub covered_grown : (ids : List ℕ) (s : List (Option Stored)) (c : List ℕ) (a b : Trace) (i sure : ℕ) → Grown ids s a b → i < length a.steps → Covered c a.steps i sure → Covered c b.steps i sure
unfolding true_grown
covered_grown ids s c a b i sure g in' h = record {
  true_in = true_grown c ids s a b g h.true_in;
  low = λ lt. rw (step_grown ids s a b h.true_in.place g h.true_in.within, step_grown ids s a b i g in') (h.low lt);
}

pub covers_grown : (ids : List ℕ) (s : List (Option Stored)) (ps : List Pair) (a b : Trace) → Grown ids s a b → CoverStays s ps ps a.steps b.steps
covers_grown ids s ps a b g = record {
  covers = λ m sure most c i id below watches.
      let in' : i < length a.steps = omega arith in
      covered_grown ids s (slot_lits (slot s id)) a b i sure g in' (c i id below (subst (λ z. WatchesIt (pair ps id) (neg z.lit)) (step_grown ids s a b i g in') watches));
}

longer : (ids : List ℕ) (s : List (Option Stored)) (a b : Trace) → Grown ids s a b → length a.steps ≤ length b.steps
longer ids s a b g = rw (g.steps, length-append) (omega arith)

pub covers_then : (s : List (Option Stored)) (p q r : List Pair) (a b c : List Step) → length a ≤ length b → CoverStays s p q a b → CoverStays s q r b c → CoverStays s p r a c
covers_then s p q r a b c le x y = record { covers = λ m sure most h. y.covers m sure (omega arith) (x.covers m sure most h) }

-- What holds in a visit: `ws` is closed up to j, and read up to i.
pub record Visiting (ids : List ℕ) (s : List (Option Stored)) (n f : ℕ) (ws : List Watch) (ls : List (List Watch)) (ps0 ps : List Pair) (t0 t : Trace) (i j : ℕ) : Type 0 where
  pub within : f < n
  pub sized : length ls ≡ n
  pub order : j ≤ i
  pub kept : Kept ids s n (put_at (at ls) f (take j ws ++ drop i ws)) ps
  pub grown : Grown ids s t0 t
  pub stays : CoverStays s ps0 ps t0.steps t.steps
  pub trues : AllTrueIn s (take j ws) t.steps
  pub fallen : true_on t.steps (neg f) ≡ true

module _ (ids : List ℕ) (s : List (Option Stored)) (n f : ℕ) (ws : List Watch) (ls : List (List Watch)) (ps0 ps : List Pair) (t0 t : Trace) (i j : ℕ) (w : Watch) where
  pub reading : Visiting ids s n f ws ls ps0 ps t0 t i j → i < length ws → w ≡ get_or ws i w → Kept ids s n (put_at (at ls) f (take j ws ++ w ∷ drop (i + 1) ws)) ps
  reading v in' is = subst (λ z. Kept ids s n (put_at (at ls) f z) ps) (read_split ws i j w in' is) v.kept

  pub reads_watched : Visiting ids s n f ws ls ps0 ps t0 t i j → i < length ws → w ≡ get_or ws i w → WatchesIt (pair ps w.id) f
  reads_watched v in' is = read_watched ids s n f (at ls) ps (take j ws) (drop (i + 1) ws) w v.within (reading v in' is)

  pub reads_blocks : Visiting ids s n f ws ls ps0 ps t0 t i j → i < length ws → w ≡ get_or ws i w → Blocks (slot_lits (slot s w.id)) f w
  reads_blocks v in' is = read_blocks ids s n f (at ls) ps (take j ws) (drop (i + 1) ws) w v.within (reading v in' is)

  pub reads_held : Visiting ids s n f ws ls ps0 ps t0 t i j → i < length ws → w ≡ get_or ws i w → HoldsPair ids w.id (slot s w.id) (length ls) (pair ps w.id)
  reads_held v in' is = rw v.sized (v.kept.held w.id (reads_watched v in' is).differ)

  pub reads_declared : Visiting ids s n f ws ls ps0 ps t0 t i j → i < length ws → w ≡ get_or ws i w → AllReady ids s t0.declared → var_of w.blocker ≤ t.declared
  reads_declared v in' is ready = rw v.grown.declared (declared_at t0.declared (slot_lits (slot s w.id)) w.blocker (ready w.id (reads_held v in' is).attached).1 (reads_blocks v in' is).holds)

  -- the watch stays
  pub visit_stays : (w' : Watch) (t' : Trace) → Visiting ids s n f ws ls ps0 ps t0 t i j → i < length ws → w ≡ get_or ws i w → w'.id ≡ w.id → Blocks (slot_lits (slot s w.id)) f w'
      → TrueIn (slot_lits (slot s w.id)) t'.steps → Grown ids s t t' → true_on t'.steps (neg f) ≡ true → Visiting ids s n f (set ws j w') ls ps0 ps t0 t' (i + 1) (j + 1)
  visit_stays w' t' v in' is same blocks true_in g fallen =
      let order = v.order in
      record {
        within = v.within;
        sized = v.sized;
        order = omega arith;
        kept = subst (λ z. Kept ids s n (put_at (at ls) f z) ps) (sym (write_split ws i j w' order in'))
            (kept_stays ids s n f (at ls) ps (take j ws) (drop (i + 1) ws) w w' v.within same blocks (reading v in' is));
        grown = grown_more ids s t0 t t' v.grown g;
        stays = covers_then s ps0 ps ps t0.steps t.steps t'.steps (longer ids s t0 t v.grown) v.stays (covers_grown ids s ps t t' g);
        trues = subst (λ z. AllTrueIn s z t'.steps) (sym (take_more_set ws j w' (omega arith)))
            (trues_join s (take j ws) (w' ∷ []) t'.steps (trues_grown ids s (take j ws) t t' g v.trues) (rw same true_in, tt));
        fallen = fallen;
      }

  -- the watch moves
  pub visit_moves : (ls' : List (List Watch)) (ps' : List Pair) (other next : ℕ) → Visiting ids s n f ws ls ps0 ps t0 t i j → i < length ws → w ≡ get_or ws i w → OtherOf (pair ps w.id) f other → has (slot_lits (slot s w.id)) next ≡ true → next ≢ other → true_on t.steps (neg next) ≡ false
      → ls' ≡ set ls next (at ls next ++ record { id = w.id; blocker = other; binary = false } ∷ []) → ps' ≡ set ps w.id (record { first = other; second = next }) → length ls' ≡ n
      → Visiting ids s n f ws ls' ps0 ps' t0 t (i + 1) j
  visit_moves ls' ps' other next v in' is one holds apart open_yet lists-is pairs-is sized =
      let order = v.order in
      let watched = reads_watched v in' is in
      let held = v.kept.held w.id watched.differ in
      let x_new : next ≢ f = λ e. false≢true (sym open_yet ∙ subst (λ z. true_on t.steps (neg z) ≡ true) (sym e) v.fallen) in
      let x_in : next < length ls = rw v.sized (held.within next holds) in
      let moving : Moving ids s n f (at ls) (at ls') ps (take j ws) (drop (i + 1) ws) w other next = record {
        within = v.within;
        kept = reading v in' is;
        known = watched_known ps w.id f watched;
        one = one;
        differ = watched.differ;
        next_apart = apart;
        next_new = x_new;
        holds = holds;
        holds_other = other_held ids w.id (slot s w.id) n (pair ps w.id) f other held one;
        here = ap (λ z. at z next) lists-is ∙ get_or-set_same ls next (at ls next ++ record { id = w.id; blocker = other; binary = false } ∷ []) [] x_in;
        elsewhere = λ l ne. ap (λ z. at z l) lists-is ∙ get_or-set_other ls next l (at ls next ++ record { id = w.id; blocker = other; binary = false } ∷ []) [] ne;
      } in
      record {
        within = v.within;
        sized = sized;
        order = omega arith;
        kept = rw pairs-is (kept_moves ids s n f (at ls) (at ls') ps (take j ws) (drop (i + 1) ws) w other next moving);
        grown = v.grown;
        stays = rw pairs-is
            (covers_then s ps0 ps (set ps w.id (record { first = other; second = next })) t0.steps t.steps t.steps (longer ids s t0 t v.grown) v.stays
            (covers_moves ids s n f (at ls) (at ls') ps (take j ws) (drop (i + 1) ws) w other next moving t.steps open_yet));
        trues = v.trues;
        fallen = v.fallen;
      }

-- the start and the end of a visit
pub visit_starts : (ids : List ℕ) (s : List (Option Stored)) (n f : ℕ) (ws : List Watch) (ls : List (List Watch)) (ps : List Pair) (t : Trace) → f < n → length ls ≡ n → Kept ids s n (put_at (at ls) f ws) ps → true_on t.steps (neg f) ≡ true
    → Visiting ids s n f ws ls ps ps t t 0 0
visit_starts ids s n f ws ls ps t in' sized kept fallen = record {
  within = in';
  sized = sized;
  order = omega arith;
  kept = kept;
  grown = grown_none ids s t;
  stays = record { covers = λ m sure most c. c };
  trues = tt;
  fallen = fallen;
}

pub visit_ends : (ids : List ℕ) (s : List (Option Stored)) (n f : ℕ) (ws : List Watch) (ls : List (List Watch)) (ps0 ps : List Pair) (t0 t : Trace) (i j : ℕ) → Visiting ids s n f ws ls ps0 ps t0 t i j → length ws ≤ i → Kept ids s n (put_at (at ls) f (take j ws)) ps
visit_ends ids s n f ws ls ps0 ps t0 t i j v past =
    subst (λ z. Kept ids s n (put_at (at ls) f z) ps) (ap (λ z. take j ws ++ z) (drop_all i ws past) ∙ append-nil (take j ws)) v.kept

-- the false literal stays false
pub fallen_grown : (ids : List ℕ) (s : List (Option Stored)) (a b : Trace) (l : ℕ) → Grown ids s a b → true_on a.steps l ≡ true → true_on b.steps l ≡ true
fallen_grown ids s a b l g h = rw g.steps (more a.steps g.tail l h) where
  more : (x y : List Step) (l : ℕ) → true_on x l ≡ true → true_on (x ++ y) l ≡ true
  more [] y l h = absurd (false≢true h)
  more (z ∷ x) y l h =
      elim (or_cases (eqb z.lit l) (true_on x l) h) [
        | inl e ↦ or_left (eqb z.lit l) (true_on (x ++ y) l) e
        | inr k ↦ or_right (eqb z.lit l) (true_on (x ++ y) l) (more x y l k)
      ]

pub both_read : (ws : List Watch) (i : ℕ) (a b : Watch) → i < length ws → a ≡ get_or ws i a → b ≡ get_or ws i b → b ≡ a
both_read ws i a b in' x y = y ∙ get_or_default ws i b a in' ∙ sym x

pub covers_more : (ids : List ℕ) (s : List (Option Stored)) (n f : ℕ) (ws : List Watch) (ls : List (List Watch)) (ps0 ps : List Pair) (t0 t t' : Trace) (i j : ℕ) → Visiting ids s n f ws ls ps0 ps t0 t i j → Grown ids s t t' → CoverStays s ps0 ps t0.steps t'.steps
covers_more ids s n f ws ls ps0 ps t0 t t' i j v g = covers_then s ps0 ps ps t0.steps t.steps t'.steps (longer ids s t0 t v.grown) v.stays (covers_grown ids s ps t t' g)
