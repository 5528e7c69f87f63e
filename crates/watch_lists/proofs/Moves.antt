-- A watch that moves to the list of another literal.
use Rattle.std.proofs.Common.{◌≡◌, ◌≢◌, ℕ, ◌+◌, ◌<◌, true, false, List, [], ◌∷◌, ◌++◌, length, set, inl, inr, sym, ap, ◌∙◌, subst, arith, Option}
use Rattle.std.proofs.lemmas.Bool.{false≢true, cases_eq}
use Rattle.sat_terms.specs.Literal.{has, neg}
use Rattle.sat_terms.proofs.Literals.{neg-neg}
use Rattle.clause_store.specs.Stored.{Stored, slot, slot_lits}
use Rattle.trail_state.specs.declared.trail.Step.{Step}
use Rattle.trail_state.specs.Trail.{step, true_on}
use Rattle.trail_state.proofs.Places.{true_at_place}
use Rattle.watch_lists.specs.declared.lists.Watch.{Watch}
use Rattle.watch_lists.specs.Watching.{Pair, pair, put_at, tally, expects, WatchesIt, HoldsPair, AllBlock, Kept, CoverStays}
use Rattle.watch_lists.specs.Visiting.{OtherOf}
use Rattle.std.proofs.lemmas.List.{get_or-set_same, get_or-set_other}
use Rattle.watch_lists.proofs.Tallies.{tally-append, tally_here, tally_apart, expects_one, expects_none, put_here, put_apart, block_parts, block_join, read_watched}

-- a pair that was written, and the others
pub pair_new : (ps : List Pair) (id : ℕ) (p : Pair) → id < length ps → pair (set ps id p) id ≡ p
pair_new ps id p in' = get_or-set_same ps id p (record { first = 0; second = 0 }) in'

pub pair_old : (ps : List Pair) (id k : ℕ) (p : Pair) → k ≢ id → pair (set ps id p) k ≡ pair ps k
pair_old ps id k p n = get_or-set_other ps id k p (record { first = 0; second = 0 }) n

-- the two literals of a pair, by the one that is false
pub other_differs : (p : Pair) (f o : ℕ) → p.first ≢ p.second → OtherOf p f o → o ≢ f
other_differs p f o n (inl e) q = n (e.0 ∙ sym q ∙ sym e.1)
other_differs p f o n (inr e) q = n (e.1 ∙ q ∙ sym e.0)

pub other_watched : (p : Pair) (f o : ℕ) → p.first ≢ p.second → OtherOf p f o → WatchesIt p o
other_watched p f o n (inl e) = record { differ = n; one = inr e.1 }
other_watched p f o n (inr e) = record { differ = n; one = inl e.1 }

pub other_apart : (p : Pair) (f o l : ℕ) → OtherOf p f o → f ≢ l → o ≢ l → expects p l ≡ 0
other_apart p f o l (inl e) a b = expects_none p l (λ q. a (sym e.0 ∙ q)) (λ q. b (sym e.1 ∙ q))
other_apart p f o l (inr e) a b = expects_none p l (λ q. b (sym e.1 ∙ q)) (λ q. a (sym e.0 ∙ q))

-- A watch leaves the list of f for that of another literal. `A` are the lists before, `B` those after.
module _ (ids : List ℕ) (s : List (Option Stored)) (n f : ℕ) (A : ℕ → List Watch) (B : ℕ → List Watch) (ps : List Pair) (p q : List Watch) (w : Watch) (o x : ℕ) where
  abbrev pub new_pair : Pair
  new_pair = record { first = o; second = x }

  abbrev pub new_watch : Watch
  new_watch = record { id = w.id; blocker = o; binary = false }

  -- what the move is
  pub record Moving : Type 0 where
    pub within : f < n
    pub kept : Kept ids s n (put_at A f (p ++ w ∷ q)) ps
    pub known : w.id < length ps
    pub one : OtherOf (pair ps w.id) f o
    pub differ : (pair ps w.id).first ≢ (pair ps w.id).second
    pub next_apart : x ≢ o
    pub next_new : x ≢ f
    pub holds : has (slot_lits (slot s w.id)) x ≡ true
    pub holds_other : has (slot_lits (slot s w.id)) o ≡ true
    pub here : B x ≡ A x ++ new_watch ∷ []
    pub elsewhere : (l : ℕ) → l ≢ x → B l ≡ A l

  tally_moved : Moving → (l id : ℕ) → l < n → tally id (put_at B f (p ++ q) l) ≡ expects (pair (set ps w.id new_pair) id) l
  tally_moved m l id below =
      let old = m.kept.tallied l id below in
      let odd : o ≢ f = other_differs (pair ps w.id) f o m.differ m.one in
      elim (cases_eq f l) [
        | inl h ↦
            let a = ap (tally id) (put_here A f l (p ++ w ∷ q) h) in
            let b = ap (tally id) (put_here B f l (p ++ q) h) in
            elim (cases_eq id w.id) [
              | inl e ↦
                  let c = tally_here id p q w (sym e) in
                  let one : expects (pair ps id) l ≡ 1 = rw (e, ← h) (expects_one (pair ps w.id) f (watched_f m)) in
                  let z : expects new_pair l ≡ 0 = expects_none new_pair l (λ y. odd (y ∙ sym h)) (λ y. m.next_new (y ∙ sym h)) in
                  let g : expects (pair (set ps w.id new_pair) id) l ≡ 0 = rw (e, pair_new ps w.id new_pair m.known) z in
                  omega arith
              | inr ne ↦
                  let c = tally_apart id p q w (λ y. ne (sym y)) in
                  b ∙ sym c ∙ sym a ∙ old ∙ sym (ap (λ z. expects z l) (pair_old ps w.id id new_pair ne))
            ]
        | inr h ↦
            let a = ap (tally id) (put_apart A f l (p ++ w ∷ q) h) in
            let b = ap (tally id) (put_apart B f l (p ++ q) h) in
            elim (cases_eq id w.id) [
              | inl e ↦
                  elim (cases_eq l x) [
                    | inl y ↦
                        let c : tally id (B l) ≡ tally id (A l) + tally id (new_watch ∷ []) = rw (y, m.here) (tally-append id (A x) (new_watch ∷ [])) in
                        let c' : tally id (new_watch ∷ []) ≡ 1 = tally_here id [] [] new_watch (sym e) in
                        let zero' : expects (pair ps id) l ≡ 0 = rw e (other_apart (pair ps w.id) f o l m.one h (λ z. m.next_apart (sym y ∙ sym z))) in
                        let g : expects (pair (set ps w.id new_pair) id) l ≡ 1 = rw (e, pair_new ps w.id new_pair m.known) (expects_one new_pair l (record { differ = λ z. m.next_apart (sym z); one = inr (sym y) })) in
                        omega arith
                    | inr y ↦
                        let c = ap (tally id) (m.elsewhere l y) in
                        elim (cases_eq o l) [
                          | inl z ↦
                              let one : expects (pair ps id) l ≡ 1 = rw (e, ← z) (expects_one (pair ps w.id) o (other_watched (pair ps w.id) f o m.differ m.one)) in
                              let g : expects (pair (set ps w.id new_pair) id) l ≡ 1 = rw (e, pair_new ps w.id new_pair m.known) (expects_one new_pair l (record { differ = λ t. m.next_apart (sym t); one = inl z })) in
                              omega arith
                          | inr z ↦
                              let none : expects (pair ps id) l ≡ 0 = rw e (other_apart (pair ps w.id) f o l m.one h z) in
                              let g : expects (pair (set ps w.id new_pair) id) l ≡ 0 = rw (e, pair_new ps w.id new_pair m.known) (expects_none new_pair l z (λ t. y (sym t))) in
                              omega arith
                        ]
                  ]
              | inr ne ↦
                  let g = ap (λ z. expects z l) (pair_old ps w.id id new_pair ne) in
                  elim (cases_eq l x) [
                    | inl y ↦
                        let c : tally id (B l) ≡ tally id (A l) + tally id (new_watch ∷ []) = rw (y, m.here) (tally-append id (A x) (new_watch ∷ [])) in
                        let c' : tally id (new_watch ∷ []) ≡ 0 = tally_apart id [] [] new_watch (λ t. ne (sym t)) in
                        omega arith
                    | inr y ↦ b ∙ ap (tally id) (m.elsewhere l y) ∙ sym a ∙ old ∙ sym g
                  ]
            ]
      ]
    where
      watched_f : Moving → WatchesIt (pair ps w.id) f
      watched_f m = read_watched ids s n f A ps p q w m.within m.kept

  pub kept_moves : Moving → Kept ids s n (put_at B f (p ++ q)) (set ps w.id new_pair)
  kept_moves m = record {
    tallied = tally_moved m;
    held = λ id differ.
        elim (cases_eq id w.id) [
          | inl e ↦
              let h = m.kept.held w.id m.differ in
              rw (e, pair_new ps w.id new_pair m.known) (record { attached = h.attached; first = m.holds_other; second = m.holds; within = h.within })
          | inr ne ↦ subst (HoldsPair ids id (slot s id) n) (sym (pair_old ps w.id id new_pair ne)) (m.kept.held id (subst (λ (z : Pair). z.first ≢ z.second) (pair_old ps w.id id new_pair ne) differ))
        ];
    blocking = λ l below.
        elim (cases_eq f l) [
          | inl h ↦
              let old = block_parts s l p (w ∷ q) (subst (AllBlock s l) (put_here A f l (p ++ w ∷ q) h) (m.kept.blocking l below)) in
              subst (AllBlock s l) (sym (put_here B f l (p ++ q) h)) (block_join s l p q old.0 old.1.1)
          | inr h ↦
              let old : AllBlock s l (A l) = subst (AllBlock s l) (put_apart A f l (p ++ w ∷ q) h) (m.kept.blocking l below) in
              subst (AllBlock s l) (sym (put_apart B f l (p ++ q) h))
              (elim (cases_eq l x) [
                | inl y ↦ subst (AllBlock s l) (sym (ap B y ∙ m.here ∙ ap (λ z. A z ++ new_watch ∷ []) (sym y))) (block_join s l (A l) (new_watch ∷ []) old (record { holds = m.holds_other; both = λ e. absurd (false≢true e) }, tt))
                | inr y ↦ subst (AllBlock s l) (sym (m.elsewhere l y)) old
              ])
        ];
  }

  -- what was covered stays so
  pub covers_moves : Moving → (t : List Step) → true_on t (neg x) ≡ false → CoverStays s ps (set ps w.id new_pair) t t
  covers_moves m t open_yet = record {
    covers = λ k sure most c i id below watches.
        elim (cases_eq id w.id) [
          | inl e ↦
              let h : WatchesIt new_pair (neg (step t i).lit) = subst (λ z. WatchesIt z (neg (step t i).lit)) (ap (pair (set ps w.id new_pair)) e ∙ pair_new ps w.id new_pair m.known) watches in
              elim h.one [
                | inl a ↦ rw e (c i w.id below (subst (WatchesIt (pair ps w.id)) a (other_watched (pair ps w.id) f o m.differ m.one)))
                | inr a ↦
                    let on : true_on t (neg x) ≡ true = true_at_place t i (neg x) (omega arith) (sym (ap neg a ∙ neg-neg (step t i).lit)) in
                    absurd (false≢true (sym open_yet ∙ on))
              ]
          | inr ne ↦ c i id below (subst (λ z. WatchesIt z (neg (step t i).lit)) (pair_old ps w.id id new_pair ne) watches)
        ];
  }
