-- Which variable is tested next.
use Rattle.std.proofs.Common.{◌≡◌, ◌≢◌, ℕ, ◌+◌, ◌<◌, ◌≤◌, Bool, true, false, not, ◌||◌, ◌&&◌, eqb, cond, List, [], ◌∷◌, ◌++◌, length, get_or, take, ◌⊎◌, inl, inr, refl, sym, ap, ◌∙◌, subst, arith, Option, nat_lt}
use Rattle.std.proofs.lemmas.Bool.{cases_Bool, cases_eq, cases_lt, false≢true, or_cases, or_left, or_right, and_parts, and_from, and_right, eq-eqb, ne_eqb, eqb-true, not_from_false, lt-leb, le-leb}
use Rattle.sat_terms.specs.Literal.{has, var_of, pos_lit, neg_lit}
use Rattle.sat_terms.proofs.Literals.{var_of-pos_lit, var_of-neg_lit, neg-pos_lit}
use Rattle.sat_terms.proofs.Members.{has_item, has_at, has_more, has-append_left, has-append_right, has-append_cases, same_tests}
use Rattle.clause_store.specs.Stored.{Stored, slot, slot_lits}
use Rattle.clause_store.specs.Listing.{HasEachOnce, holds_at}
use Rattle.firm_terms.specs.Firm.{mentions, firm, stands, Holds}
use Rattle.firm_terms.specs.Resolving.{holding, candidate, candidate_of}
use Rattle.firm_terms.proofs.Standing.{stands_from, mentions_lit}
use Rattle.rule_kernel.specs.State.{State}
use Rattle.rule_kernel.specs.Rules.{SameButMarks}
use Rattle.var_elim.specs.Testing.{candidate_at}
use Rattle.std.specs.List.Sorted.{IsPermutation}
use Rattle.std.proofs.lemmas.List.{take_all}
use Rattle.std.proofs.lemmas.List.Folds.{list_any-append, list_any_more}
use Rattle.std.proofs.lemmas.List.Sorted.{list_any-IsPermutation}
use Rattle.var_elim.specs.declared.order.Ranked.{Ranked}
use Rattle.var_elim.specs.Pass.{Queued, AllQueued, TakenOut, Unmarks, Picked, NoneStands, Chosen, AllFrozen, NoneLeft, ranks, Ranks}
use Rattle.var_elim.proofs.Occurring.{all_hold, hold_all}
use Rattle.var_elim.proofs.Eliminating.{stands_gone}

-- whether a variable stands in a firm clause
pub there_yes : (s : List (Option Stored)) (ids : List ℕ) (l v : ℕ) → HasEachOnce (holds_at s l) ids → 0 < length ids → var_of l ≡ v → stands (firm s) v ≡ true
there_yes s ids l v each some e =
    let h = all_hold s l ids each (get_or ids 0 0) (has_item ids 0 0 some) in
    subst (λ (z : ℕ). stands (firm s) z ≡ true) e (stands_from s (var_of l) (get_or ids 0 0) h.firm (mentions_lit (slot_lits (slot s (get_or ids 0 0))) l h.has))

none_hold : (s : List (Option Stored)) (ids : List ℕ) (l : ℕ) → HasEachOnce (holds_at s l) ids → length ids ≤ 0 → (k : ℕ) → Holds s k l → ⊥
none_hold s [] l each none k h = false≢true (hold_all s l [] k each h)
none_hold s (i ∷ ids) l each none k h = absurd (omega arith)

pub there_no : (s : List (Option Stored)) (ids ids' : List ℕ) (v : ℕ) → HasEachOnce (holds_at s (pos_lit v)) ids → HasEachOnce (holds_at s (neg_lit v)) ids' → length ids ≤ 0 → nat_lt 0 (length ids') ≡ stands (firm s) v
there_no s ids ids' v each each' none =
    elim (cases_lt 0 (length ids')) [
      | inl some ↦ (let a : nat_lt 0 (length ids') ≡ true = le-leb 1 (length ids') (omega arith) in a ∙ sym (there_yes s ids' (neg_lit v) v each' some (var_of-neg_lit v)))
      | inr none' ↦
          (let a : nat_lt 0 (length ids') ≡ false = lt-leb 1 (length ids') (omega arith) in
          let p = none_hold s ids (pos_lit v) each none in
          let n = none_hold s ids' (neg_lit v) each' none' in
          a ∙ sym (subst (λ (z : ℕ). stands (firm s) z ≡ false) (var_of-pos_lit v) (stands_gone s (pos_lit v) p (rw (neg-pos_lit v) n))))
    ]

-- a variable that stands in no clause is no candidate
holding_none : (cs : List (List ℕ)) (v l : ℕ) → var_of l ≡ v → stands cs v ≡ false → holding l cs ≡ []
holding_none [] v l e h = refl
holding_none (c ∷ cs) v l e h =
    elim (cases_Bool (has c l)) [
      | inl y ↦ absurd (false≢true (sym h ∙ or_left (mentions c v) (stands cs v) (subst (λ (z : ℕ). mentions c z ≡ true) e (mentions_lit c l y))))
      | inr n ↦ rw n (holding_none cs v l e (rest (mentions c v) (stands cs v) h))
    ] where
      rest : (a b : Bool) → (a || b) ≡ false → b ≡ false
      rest true b h = absurd (false≢true (sym h))
      rest false b h = h

candidate_of_none : (x : ℕ) → candidate_of x [] [] ≡ false
unfolding candidate_of
candidate_of_none x = refl

pub candidate_none : (cs : List (List ℕ)) (v : ℕ) → stands cs v ≡ false → candidate cs v ≡ false
candidate_none cs v h = rw (holding_none cs v (pos_lit v) (var_of-pos_lit v) h, holding_none cs v (neg_lit v) (var_of-neg_lit v) h) (candidate_of_none (pos_lit v))

pub candidate_is : (cs : List (List ℕ)) (v : ℕ) → candidate_at cs (pos_lit v) ≡ candidate cs v
candidate_is cs v = rw (neg-pos_lit v) refl

-- marks are taken off
pub unmarks_none : (s : State) → Unmarks s s
unmarks_none s = record {
  same = record { store = refl; rest = record { stack = refl; removals = refl; restores = refl } };
  fewer = λ v m. m;
  kept = λ v m st. m;
}

pub unmarks_both : (s t u : State) → Unmarks s t → Unmarks t u → Unmarks s u
unmarks_both s t u a b = record {
  same = record {
    store = b.same.store ∙ a.same.store;
    rest = record {
      stack = b.same.rest.stack ∙ a.same.rest.stack;
      removals = b.same.rest.removals ∙ a.same.rest.removals;
      restores = b.same.rest.restores ∙ a.same.rest.restores;
    };
  };
  fewer = λ v m. a.fewer v (b.fewer v m);
  kept = λ v m st. b.kept v (a.kept v m st) (ap (λ z. stands (firm z) v) a.same.store ∙ st);
}

unmarks_one : (s t : State) (v : ℕ) → SameButMarks s t → ((u : ℕ) → has t.marked.vars u ≡ (has s.marked.vars u && not (eqb v u))) → stands (firm s.store) v ≡ false → Unmarks s t
unmarks_one s t v same marks off = record {
  same = same;
  fewer = λ u m. (and_parts (has s.marked.vars u) (not (eqb v u)) (sym (marks u) ∙ m)).0;
  kept = λ u m st. marks u ∙ and_from (has s.marked.vars u) (not (eqb v u)) m (not_from_false (eqb v u) (ne_eqb v u (λ e. false≢true (sym off ∙ ap (stands (firm s.store)) e ∙ st))));
}

-- variables are taken out of a queue
pub record Popping (s t : State) (queue left : List ℕ) : Type 0 where
  pub unmarks : Unmarks s t
  pub within : (v : ℕ) → has left v ≡ true → has queue v ≡ true
  pub marked : (v : ℕ) → has left v ≡ true → has s.marked.vars v ≡ true → has t.marked.vars v ≡ true
  pub popped : (v : ℕ) → has queue v ≡ true → (has left v ≡ true) ⊎ (stands (firm s.store) v ≡ false)
  pub idle : queue ≡ [] → (left ≡ []) × (t ≡ s)

pub popping_none : (s : State) (queue : List ℕ) → Popping s s queue queue
popping_none s queue = record { unmarks = unmarks_none s; within = λ v h. h; marked = λ v h m. m; popped = λ v h. inl h; idle = λ e. (e, refl) }

module _ (s t : State) (queue left left' : List ℕ) (v : ℕ) (h : Popping s t queue left) (out : TakenOut left left' v) where
  still : (u : ℕ) → has left' u ≡ true → (has left u ≡ true) × (v ≢ u)
  still u i =
      let p = and_parts (has left u) (not (eqb v u)) (sym (out.others u) ∙ i) in
      (p.0, λ e. false≢true (sym (ap not (eq-eqb v u e)) ∙ p.1))

  pub never : queue ≡ [] → ⊥
  never e = false≢true (ap (λ (z : List ℕ). has z v) (sym (h.idle e).0) ∙ out.from)

  pub picked : stands (firm t.store) v ≡ true → Picked s t queue left' v
  picked st = record {
    from = h.within v out.from;
    out = out.others v ∙ rw (eq-eqb v v refl) (and_right (has left v) false refl);
    stands = ap (λ z. stands (firm z) v) (sym h.unmarks.same.store) ∙ st;
    within = λ u i. h.within u (still u i).0;
    marked = λ u i m. h.marked u (still u i).0 m;
  }

  pub popping_more : (u : State) → stands (firm t.store) v ≡ false → SameButMarks t u → ((w : ℕ) → has u.marked.vars w ≡ (has t.marked.vars w && not (eqb v w))) → Popping s u queue left'
  popping_more u off same marks = record {
    unmarks = unmarks_both s t u h.unmarks (unmarks_one t u v same marks off);
    within = λ w i. h.within w (still w i).0;
    marked = λ w i m. (let p = still w i in marks w ∙ and_from (has t.marked.vars w) (not (eqb v w)) (h.marked w p.0 m) (not_from_false (eqb v w) (ne_eqb v w p.1)));
    popped = λ w i.
        elim (h.popped w i) [
          | inl a ↦
              elim (cases_eq v w) [
                | inl e ↦ inr (ap (stands (firm s.store)) (sym e) ∙ ap (λ z. stands (firm z) v) (sym h.unmarks.same.store) ∙ off)
                | inr n ↦ inl (out.others w ∙ and_from (has left w) (not (eqb v w)) a (not_from_false (eqb v w) (ne_eqb v w n)))
              ]
          | inr b ↦ inr b
        ];
    idle = λ e. absurd (never e);
  }

pub popping_end : (s t : State) (queue left : List ℕ) → Popping s t queue left → left ≡ [] → NoneStands s queue
popping_end s t queue left h e v i =
    elim (h.popped v i) [
      | inl a ↦ absurd (false≢true (ap (λ (z : List ℕ). has z v) (sym e) ∙ a))
      | inr b ↦ b
    ]

-- marked variables are ranked
pub record Ranking (frozen : ℕ → Bool) (marked : List ℕ) (all : List Ranked) (i : ℕ) : Type 0 where
  pub queued : (v : ℕ) → ranks all v ≡ true → (has marked v ≡ true) × (frozen v ≡ false)
  pub every : (v : ℕ) → has (take i marked) v ≡ true → frozen v ≡ false → ranks all v ≡ true

pub ranking_none : (frozen : ℕ → Bool) (marked : List ℕ) (all : List Ranked) → all ≡ [] → Ranking frozen marked all 0
ranking_none frozen marked all e = record {
  queued = λ v h. absurd (false≢true (ap (λ (z : List Ranked). ranks z v) (sym e) ∙ h));
  every = λ v h free. absurd (false≢true h);
}

ranks_end : (all : List Ranked) (r : Ranked) (v : ℕ) → ranks (all ++ r ∷ []) v ≡ (ranks all v || eqb r.var v)
ranks_end all r v = list_any-append (λ (z : Ranked). eqb z.var v) all (r ∷ []) ∙ ap (λ (z : Bool). ranks all v || z) (or_none (eqb r.var v)) where
  or_none : (b : Bool) → (b || false) ≡ b
  or_none true = refl
  or_none false = refl

module _ (frozen : ℕ → Bool) (marked : List ℕ) (all : List Ranked) (i v : ℕ) (h : Ranking frozen marked all i) (in' : i < length marked) (is : v ≡ get_or marked i v) where
  pub ranking_frozen : frozen v ≡ true → Ranking frozen marked all (i + 1)
  ranking_frozen y = record {
    queued = h.queued;
    every = λ u m free.
        elim (has_more marked i v u in' is m) [
          | inl a ↦ h.every u a free
          | inr e ↦ absurd (false≢true (sym free ∙ ap frozen (sym e) ∙ y))
        ];
  }

  pub ranking_more : (all' : List Ranked) (r : Ranked) → all' ≡ all ++ r ∷ [] → r.var ≡ v → frozen v ≡ false → Ranking frozen marked all' (i + 1)
  ranking_more all' r e q n =
      let is' : (u : ℕ) → ranks all' u ≡ (ranks all u || eqb v u) = λ u. ap (λ (z : List Ranked). ranks z u) e ∙ ranks_end all r u ∙ ap (λ (z : ℕ). ranks all u || eqb z u) q in
      record {
        queued = λ u m.
            elim (or_cases (ranks all u) (eqb v u) (sym (is' u) ∙ m)) [
              | inl a ↦ h.queued u a
              | inr b ↦ (let f = eqb-true v u b in (subst (λ (z : ℕ). has marked z ≡ true) f (has_at marked i v in' is), ap frozen (sym f) ∙ n))
            ];
        every = λ u m free.
            is' u ∙ elim (has_more marked i v u in' is m) [
              | inl a ↦ or_left (ranks all u) (eqb v u) (h.every u a free)
              | inr f ↦ or_right (ranks all u) (eqb v u) (eq-eqb v u f)
            ];
      }

pub ranking_end : (frozen : ℕ → Bool) (marked : List ℕ) (all : List Ranked) (i : ℕ) → Ranking frozen marked all i → length marked ≤ i → Ranks frozen marked all
ranking_end frozen marked all i h le = record { queued = h.queued; every = λ v m free. h.every v (ap (λ (z : List ℕ). has z v) (take_all i marked le) ∙ m) free }

-- in another order they are ranked as well
pub ranks_sorted : (frozen : ℕ → Bool) (marked : List ℕ) (all sorted : List Ranked) → Ranks frozen marked all → IsPermutation all sorted → Ranks frozen marked sorted
ranks_sorted frozen marked all sorted h p =
    let same : (v : ℕ) → ranks all v ≡ ranks sorted v = λ v. list_any-IsPermutation (λ (z : Ranked). eqb z.var v) all sorted p in
    record {
      queued = λ v m. h.queued v (same v ∙ m);
      every = λ v m free. sym (same v) ∙ h.every v m free;
    }

-- the ranked variables come into a queue
pub record Filling (all : List Ranked) (queue : List ℕ) (i : ℕ) : Type 0 where
  pub filled : (v : ℕ) → has queue v ≡ ranks (take i all) v

pub filling_none : (all : List Ranked) (queue : List ℕ) → queue ≡ [] → Filling all queue 0
filling_none all queue e = record { filled = λ v. ap (λ (z : List ℕ). has z v) e }

pub filling_more : (all : List Ranked) (queue queue' : List ℕ) (i : ℕ) (r : Ranked) → Filling all queue i → i < length all → r ≡ get_or all i r → ((v : ℕ) → has queue' v ≡ (has queue v || eqb r.var v)) → Filling all queue' (i + 1)
filling_more all queue queue' i r h in' is more = record {
  filled = λ v. more v ∙ ap (λ (z : Bool). z || eqb r.var v) (h.filled v) ∙ sym (list_any_more (λ (z : Ranked). eqb z.var v) all i r in' ∙ ap (λ (z : Ranked). ranks (take i all) v || eqb z.var v) (sym is));
}

module _ (frozen : ℕ → Bool) (s : State) (all : List Ranked) (queue : List ℕ) (i : ℕ) (r : Ranks frozen s.marked.vars all) (h : Filling all queue i) (le : length all ≤ i) where
  filled : (v : ℕ) → has queue v ≡ ranks all v
  filled v = h.filled v ∙ ap (λ (z : List Ranked). ranks z v) (take_all i all le)

  pub filling_queued : Queued frozen s queue
  filling_queued v m = r.queued v (sym (filled v) ∙ m)

  pub filling_all : AllQueued frozen s queue
  filling_all v m free = filled v ∙ r.every v m free

-- one member more
pub put_has : (queue : List ℕ) (v u : ℕ) → has (cond (has queue v) queue (queue ++ v ∷ [])) u ≡ (has queue u || eqb v u)
put_has queue v u =
    elim (cases_Bool (has queue v)) [
      | inl y ↦
          rw y
          (same_tests (has queue u) (has queue u || eqb v u) (λ a. or_left (has queue u) (eqb v u) a)
          (λ a. elim (or_cases (has queue u) (eqb v u) a) [ inl b ↦ b | inr b ↦ subst (λ (z : ℕ). has queue z ≡ true) (eqb-true v u b) y ]))
      | inr n ↦
          rw n
          (same_tests (has (queue ++ v ∷ []) u) (has queue u || eqb v u)
          (λ a. elim (has-append_cases queue (v ∷ []) u a) [
            | inl b ↦ or_left (has queue u) (eqb v u) b
            | inr b ↦ elim (or_cases (eqb v u) false b) [ inl d ↦ or_right (has queue u) (eqb v u) d | inr d ↦ absurd (false≢true d) ]
          ])
          (λ a. elim (or_cases (has queue u) (eqb v u) a) [
            | inl b ↦ has-append_left queue (v ∷ []) u b
            | inr b ↦ has-append_right queue (v ∷ []) u (or_left (eqb v u) false b)
          ]))
    ]

-- the choice
pub chosen : (frozen : ℕ → Bool) (s t : State) (queue queue' : List ℕ) (v : ℕ) → Queued frozen s queue → Unmarks s t → Picked s t queue queue' v → Chosen frozen t queue' v
chosen frozen s t queue queue' v q a p =
    let m = q v p.from in
    record {
      marked = a.kept v m.0 p.stands;
      free = m.1;
      stands = ap (λ z. stands (firm z) v) a.same.store ∙ p.stands;
      out = p.out;
      queued = λ u i. (let w = q u (p.within u i) in (p.marked u i w.0, w.1));
    }

pub none_left : (frozen : ℕ → Bool) (s t : State) (queue : List ℕ) → AllQueued frozen s queue → Unmarks s t → NoneStands s queue → NoneLeft frozen t
none_left frozen s t queue all a none v m free = ap (λ z. stands (firm z) v) a.same.store ∙ none v (all v (a.fewer v m) free)

-- where every marked variable is frozen none is queued
no_members : (queue : List ℕ) → ((v : ℕ) → has queue v ≡ true → ⊥) → queue ≡ []
no_members [] h = refl
no_members (x ∷ queue) h = absurd (h x (or_left (eqb x x) (has queue x) (eq-eqb x x refl)))

pub none_queued : (frozen : ℕ → Bool) (s : State) (queue : List ℕ) → AllFrozen frozen s → Queued frozen s queue → queue ≡ []
none_queued frozen s queue all q = no_members queue (λ v h. (let m = q v h in false≢true (sym m.1 ∙ all v m.0)))

pub idle_both : (frozen : ℕ → Bool) (s t u : State) (queue queue' : List ℕ) → (queue ≡ [] → t ≡ s) → Queued frozen t queue' → (queue' ≡ [] → u ≡ t) → AllFrozen frozen s → queue ≡ [] → u ≡ s
idle_both frozen s t u queue queue' first q second all e =
    let a = first e in
    second (none_queued frozen t queue' (subst (AllFrozen frozen) (sym a) all) q) ∙ a
