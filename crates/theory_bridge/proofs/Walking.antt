-- Parts of the walk along the trail compose.
use Rattle.std.proofs.Common.{◌≡◌, ℕ, ◌+◌, ◌<◌, ◌≤◌, inl, inr, Bool, true, false, List, length, refl, sym, ap, ◌∙◌, subst, arith, Option, Some, None}
use Rattle.std.proofs.lemmas.Bool.{cases_lt, false≢true}
use Rattle.trail_state.specs.declared.trail.Step.{Step}
use Rattle.trail_state.specs.Trail.{Trace, step, IsTrail, IsStart}
use Rattle.trail_state.specs.Table.{is_decision}
use Rattle.trail_state.proofs.Levels.{rising, below_top}
use Rattle.user_propagator.specs.Board.{Board, trail_value, IsSeenTrail}
use Rattle.user_propagator.specs.Meaning.{InStep}
use Rattle.theory_bridge.specs.Shown.{Shown}
use Rattle.theory_bridge.specs.Following.{Follows, AreTold, AreFlagged, IsCaughtUp, IsTold, is_watched}
use Rattle.std.specs.Prelude.{max, ◌&&◌, is_none, is_some, []}
use Rattle.sat_terms.specs.Literal.{has, var_of}
use Rattle.theory_bridge.specs.Telling.{TellsLevel, TellsLit, Told, Walks, WalksOn, AreToldBelow, WasTold}
use Rattle.theory_bridge.proofs.Following.{follows_level, follows_put, told_put, told_skip, told_value, flagged_put, flagged_none}
use Rattle.theory_bridge.proofs.Rows.{tells_on, tells_none, tells_level, tells_lit, told_tells}
use Rattle.theory_bridge.specs.Standing.{Stands}
use Rattle.theory_bridge.proofs.Standing.{stands_told}

spent_as : (s u : Shown) (b : Bool) → u ≡ record s { spent = b } → u ≡ record s { spent = u.spent }
spent_as s u b is = is ∙ ap (λ (x : Bool). record s { spent = x }) (sym (ap (λ (x : Shown). x.spent) is))

pub walks_on : (t : Trace) (a b c : Shown) → WalksOn t a b → WalksOn t b c → WalksOn t a c
walks_on t a b c h k = record { tells = tells_on a b c h.tells k.tells; flags = λ from f. k.flags from (h.flags from f); in_step = k.in_step; follows = k.follows }

-- nothing was told
pub walks_none : (t : Trace) (s u : Shown) (b : Bool) → u ≡ record s { spent = b } → InStep s.means s.board → Follows s.board t → WalksOn t s u
walks_none t s u b is step f = record {
  tells = tells_none s u (spent_as s u b is);
  flags = λ from h. subst (λ (x : Shown). AreFlagged t.steps from x.board.seen) (sym is) h;
  in_step = subst (λ (x : Shown). InStep x.means x.board) (sym is) step;
  follows = subst (λ (x : Shown). Follows x.board t) (sym is) f;
}

pub walks_same : (t : Trace) (s : Shown) → InStep s.means s.board → Follows s.board t → WalksOn t s s
walks_same t s step f = walks_none t s s s.spent refl step f

-- a level was told below which all was told
pub walks_level : (t : Trace) (s u : Shown) (level : ℕ) → Follows s.board t → s.board.level < level → level ≤ t.level → AreToldBelow s.board t level → TellsLevel s u → WalksOn t s u
walks_level t s u level f less within below n = record {
  tells = tells_level s u n;
  flags = λ from h. subst (λ (x : Board). AreFlagged t.steps from x.seen) (sym n.board) h;
  in_step = n.in_step;
  follows = subst (λ (x : Board). Follows x t) (sym n.board) (follows_level s.board t (s.board.level + 1) f (omega arith) (λ j in' low w. below.each j in' (omega arith) w));
}

-- levels alone were told so far
pub record IsRaising (t : Trace) (level : ℕ) (s u : Shown) : Type 0 where
  pub on : WalksOn t s u
  pub desk : u.board ≡ record s.board { level = u.board.level }
  pub low : s.board.level ≤ u.board.level
  pub high : u.board.level ≤ max s.board.level level
  pub below : AreToldBelow u.board t level
  pub spent : u.spent ≡ s.spent

pub raising_start : (t : Trace) (level : ℕ) (s : Shown) → InStep s.means s.board → Follows s.board t → AreToldBelow s.board t level → IsRaising t level s s
raising_start t level s step f below = record { on = walks_same t s step f; desk = refl; low = omega arith; high = omega arith; below = below; spent = refl }

pub raising_on : (t : Trace) (level : ℕ) (s u v : Shown) → IsRaising t level s u → u.board.level < level → level ≤ t.level → TellsLevel u v → v.spent ≡ u.spent → IsRaising t level s v
raising_on t level s u v h less within n same = record {
  on = walks_on t s u v h.on (walks_level t u v level h.on.follows less within h.below n);
  desk = subst (λ (b : Board). b ≡ record s.board { level = b.level }) (sym n.board) (ap (λ (b : Board). record b { level = u.board.level + 1 }) h.desk);
  low = (let a = h.low in let q = ap (λ (b : Board). b.level) n.board in omega arith);
  high = (let q = ap (λ (b : Board). b.level) n.board in omega arith);
  below = subst (λ (b : Board). AreToldBelow b t level) (sym n.board) record { each = h.below.each };
  spent = same ∙ h.spent;
}

pub raising_out : (t : Trace) (level : ℕ) (s u v : Shown) → IsRaising t level s u → v ≡ record u { spent = true } → WalksOn t s v
raising_out t level s u v h is = walks_on t s u v h.on (walks_none t u v true is h.on.in_step h.on.follows)

pub raising_desk : (t : Trace) (level : ℕ) (s u v : Shown) → IsRaising t level s u → v ≡ record u { spent = true } → v.board ≡ record s.board { level = v.board.level }
raising_desk t level s u v h is = subst (λ (x : Shown). x.board ≡ record s.board { level = x.board.level }) (sym is) h.desk

-- the walk comes to a place, whose level was told
pub told_below : (t : Trace) (place : ℕ) (s : Shown) → IsTrail t.steps t.level → Walks t place s → place < length t.steps → AreToldBelow s.board t (step t.steps place).level
told_below t place s shape w in' = record {
  each = λ i lt low watched. elim (cases_lt i place) [
    | inl before ↦ w.told.each i before watched
    | inr ge ↦ (let up = rising 0 t.steps t.level shape.levels place i ge lt in absurd (omega arith))
  ];
}

pub level_within : (t : Trace) (place : ℕ) → IsTrail t.steps t.level → place < length t.steps → (step t.steps place).level ≤ t.level
level_within t place shape in' = below_top 0 t.steps t.level shape.levels place in'

pub walks_raised : (t : Trace) (place : ℕ) (s u : Shown) → IsTrail t.steps t.level → Walks t place s → place < length t.steps → WalksOn t s u
    → u.board ≡ record s.board { level = u.board.level } → u.board.level ≤ max s.board.level (step t.steps place).level → Walks t place u
walks_raised t place s u shape w in' on is high = record {
  in_step = on.in_step;
  follows = on.follows;
  told = subst (λ (b : Board). AreTold b t.steps place) (sym is) record { each = w.told.each };
  rest = λ j ge lt. (let low = w.rest place (omega arith) in' in let up = rising 0 t.steps t.level shape.levels place j ge lt in omega arith);
}

-- the same for the place's level as the code reads it
pub raised_as : (t : Trace) (place : ℕ) (s u : Shown) (level : ℕ) → level ≡ (step t.steps place).level → IsTrail t.steps t.level → Walks t place s → place < length t.steps → WalksOn t s u
    → u.board ≡ record s.board { level = u.board.level } → u.board.level ≤ max s.board.level level → Walks t place u
raised_as t place s u level is shape w in' on desk high = walks_raised t place s u shape w in' on desk (let e = is in omega arith)

pub level_reached : (t : Trace) (place : ℕ) (s u : Shown) → Walks t place s → place < length t.steps → u.board.level ≤ max s.board.level (step t.steps place).level → (step t.steps place).level ≤ u.board.level
    → (step t.steps place).level ≡ u.board.level
level_reached t place s u w in' high low = let less = w.rest place (omega arith) in' in omega arith

both_true : (a b : Bool) → (a && b) ≡ true → (a ≡ true) × (b ≡ true)
both_true true b h = (refl, h)
both_true false b h = absurd (false≢true h)

none_is : (v : Option Bool) → is_none v ≡ true → v ≡ None
none_is None h = refl
none_is (Some b) h = absurd (false≢true h)

-- whether the literal at a place is due
abbrev pub is_due_at : Board → List Step → ℕ → Bool
is_due_at b t place = is_watched b (step t place) && is_none (trail_value b.seen (step t place).lit)

module _ (t : Trace) (place : ℕ) (s : Shown) (shape : IsTrail t.steps t.level) (sound : IsSeenTrail s.board.observed s.board.seen s.board.level)
    (w : Walks t place s) (in' : place < length t.steps) (at : (step t.steps place).level ≡ s.board.level) where
  rest_on : (j : ℕ) → place + 1 ≤ j → j < length t.steps → s.board.level ≤ (step t.steps j).level
  rest_on j ge lt = w.rest j (omega arith) lt

  module _ (d : Bool) (u : Shown) (due : is_due_at s.board t.steps place ≡ true) (flag : d ≡ is_decision (step t.steps place).reason) (n : TellsLit (step t.steps place).lit d s u) where
    facts : (is_watched s.board (step t.steps place) ≡ true) × (is_none (trail_value s.board.seen (step t.steps place).lit) ≡ true)
    facts = both_true (is_watched s.board (step t.steps place)) (is_none (trail_value s.board.seen (step t.steps place).lit)) due

    follows_here : Follows u.board t
    follows_here = subst (λ (b : Board). Follows b t) (sym n.notice.board)
        (follows_put s.board t place d shape sound w.follows in' at w.told facts.0 (none_is (trail_value s.board.seen (step t.steps place).lit) facts.1))

    pub walks_told : WalksOn t s u
    walks_told = record {
      tells = tells_lit s u (step t.steps place).lit d n;
      flags = λ from h. subst (λ (b : Board). AreFlagged t.steps from b.seen) (sym n.notice.board)
          (flagged_put t.steps from s.board.seen (record { lit = (step t.steps place).lit; level = s.board.level; decision = d }) place shape.apart in' refl flag h);
      in_step = n.notice.in_step;
      follows = follows_here;
    }

    pub walks_next : Walks t (place + 1) u
    walks_next = record {
      in_step = n.notice.in_step;
      follows = follows_here;
      told = subst (λ (b : Board). AreTold b t.steps (place + 1)) (sym n.notice.board)
          (told_put s.board t place d shape sound w.follows in' at w.told facts.0 (none_is (trail_value s.board.seen (step t.steps place).lit) facts.1));
      rest = λ j ge lt. (let q = ap (λ (b : Board). b.level) n.notice.board in let r = rest_on j ge lt in omega arith);
    }

  here_told : (a : Bool) (v : Option Bool) → (a && is_none v) ≡ false → v ≡ trail_value s.board.seen (step t.steps place).lit → a ≡ true → IsTold s.board.seen (step t.steps place).lit
  here_told true None h is e = absurd (false≢true (sym h))
  here_told false None h is e = absurd (false≢true e)
  here_told a (Some b) h is e = told_value s.board.seen t.steps place w.follows.mirrors shape.apart in' b (sym is)

  pub walks_skip : is_due_at s.board t.steps place ≡ false → Walks t (place + 1) s
  walks_skip h = record {
    in_step = w.in_step;
    follows = w.follows;
    told = told_skip s.board t place false shape sound w.follows in' at w.told (here_told (is_watched s.board (step t.steps place)) (trail_value s.board.seen (step t.steps place).lit) h refl);
    rest = rest_on;
  }

-- the walk begins where the desk's level does
pub walks_from_start : (t : Trace) (s : Shown) (start : ℕ) → InStep s.means s.board → Follows s.board t → IsStart t.steps s.board.level start → Walks t start s
walks_from_start t s start step' f h = record {
  in_step = step';
  follows = f;
  told = record { each = λ i lt watched. f.below i (let e = h.within in omega arith) (h.below i lt) watched };
  rest = h.rest;
}

-- or behind a literal of that level that was told
pub walks_from_last : (t : Trace) (s : Shown) (start place : ℕ) → IsTrail t.steps t.level → InStep s.means s.board → Follows s.board t → IsStart t.steps s.board.level start → WasTold s.board t start place → Walks t (place + 1) s
walks_from_last t s start place shape step' f h was = record {
  in_step = step';
  follows = f;
  told = record {
    each = λ i lt watched. elim (cases_lt i start) [
      | inl low ↦ f.below i (let e = h.within in omega arith) (h.below i low) watched
      | inr ge ↦ elim (cases_lt i place) [
        | inl before ↦ (let in'' = was.inside in let lev = h.rest i ge (omega arith) in let up = was.above in f.unbroken i place before was.inside (omega arith) watched here)
        | inr ge' ↦ (let same : i ≡ place = omega arith in subst (λ (q : ℕ). IsTold s.board.seen (step t.steps q).lit) (sym same) here)
      ]
    ];
  };
  rest = λ j ge lt. h.rest j (let e = was.after in omega arith) lt;
} where
  valued : (v : Option Bool) → trail_value s.board.seen (step t.steps place).lit ≡ v → is_some v ≡ true → IsTold s.board.seen (step t.steps place).lit
  valued None is e = absurd (false≢true e)
  valued (Some b) is e = told_value s.board.seen t.steps place f.mirrors shape.apart was.inside b is

  here : IsTold s.board.seen (step t.steps place).lit
  here = valued (trail_value s.board.seen (step t.steps place).lit) refl was.valued

-- all was told, and the levels are
pub caught_up : (t : Trace) (s u : Shown) → AreTold s.board t.steps (length t.steps) → WalksOn t s u → u.board ≡ record s.board { level = u.board.level } → t.level ≤ u.board.level → IsCaughtUp u.board t
caught_up t s u told on is reached = record {
  level = (let f = on.follows.level in omega arith);
  lits = subst (λ (b : Board). AreTold b t.steps (length t.steps)) (sym is) record { each = told.each };
}

pub told_below_all : (t : Trace) (b : Board) (level : ℕ) → AreTold b t.steps (length t.steps) → AreToldBelow b t level
told_below_all t b level told = record { each = λ i lt low watched. told.each i lt watched }

-- nothing is observed
pub told_idle : (t : Trace) (b : Board) → b.observed ≡ [] → AreTold b t.steps (length t.steps)
told_idle t b none = record { each = λ i lt watched. absurd (false≢true (subst (λ (xs : List ℕ). has xs (var_of (step t.steps i).lit) ≡ true) none watched)) }

pub flagged_all : (t : Trace) (s u : Shown) → WalksOn t s u → AreFlagged t.steps (length s.board.seen) u.board.seen
flagged_all t s u h = h.flags (length s.board.seen) (flagged_none t.steps s.board.seen)

pub told_on : (t : Trace) (s u : Shown) → WalksOn t s u → Told s u
told_on t s u h = told_tells s u h.tells

pub stands_on : (t : Trace) (s u : Shown) → Stands s.means s.board → WalksOn t s u → Stands u.means u.board
stands_on t s u h on =
    let m = told_tells s u on.tells in
    stands_told s.means u.means s.board u.board h on.in_step m.admits (ap (λ (b : Board). b.observed) m.board) (ap (λ (b : Board). b.wanted) m.board) (ap (λ (b : Board). b.handed) m.board)

-- the walk stands at a place
pub record IsWalking (t : Trace) (place : ℕ) (s u : Shown) : Type 0 where
  pub walks : Walks t place u
  pub on : WalksOn t s u
  pub spent : u.spent ≡ s.spent

pub walking_start : (t : Trace) (place : ℕ) (s : Shown) → InStep s.means s.board → Follows s.board t → Walks t place s → IsWalking t place s s
walking_start t place s step' f w = record { walks = w; on = walks_same t s step' f; spent = refl }

pub walking_on : (t : Trace) (place : ℕ) (s u v : Shown) → IsWalking t place s u → WalksOn t u v → Walks t (place + 1) v → v.spent ≡ u.spent → IsWalking t (place + 1) s v
walking_on t place s u v h on w same = record { walks = w; on = walks_on t s u v h.on on; spent = same ∙ h.spent }

pub walking_out : (t : Trace) (place : ℕ) (s u v : Shown) → IsWalking t place s u → WalksOn t u v → WalksOn t s v
walking_out t place s u v h on = walks_on t s u v h.on on

-- the same as the code reads it: the step at the place is x
module _ (t : Trace) (place : ℕ) (s : Shown) (shape : IsTrail t.steps t.level) (sound : IsSeenTrail s.board.observed s.board.seen s.board.level)
    (w : Walks t place s) (in' : place < length t.steps) (at : (step t.steps place).level ≡ s.board.level) (x : Step) (is : x ≡ step t.steps place) where
  abbrev due_of : Step → Bool
  due_of y = has s.board.observed (var_of y.lit) && is_none (trail_value s.board.seen y.lit)

  pub told_as : (d : Bool) (u : Shown) → due_of x ≡ true → d ≡ is_decision x.reason → TellsLit x.lit d s u → WalksOn t s u × Walks t (place + 1) u
  told_as d u =
      let P : Step → Type 0 = λ y. due_of y ≡ true → d ≡ is_decision y.reason → TellsLit y.lit d s u → WalksOn t s u × Walks t (place + 1) u in
      subst P (sym is) (λ due flag n. (walks_told t place s shape sound w in' at d u due flag n, walks_next t place s shape sound w in' at d u due flag n))

  pub skip_as : due_of x ≡ false → Walks t (place + 1) s
  skip_as = subst (λ (y : Step). due_of y ≡ false → Walks t (place + 1) s) (sym is) (walks_skip t place s shape sound w in' at)
