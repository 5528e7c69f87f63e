-- A clause gets its two watches.
use Rattle.std.proofs.Common.{◌≡◌, ◌≢◌, ℕ, ◌+◌, ◌<◌, ◌≤◌, Bool, true, List, [], ◌∷◌, ◌++◌, length, set, ◌⊎◌, inl, inr, refl, sym, ap, ◌∙◌, subst, arith, Option}
use Rattle.std.proofs.lemmas.Bool.{cases_eq, eq-eqb}
use Rattle.sat_terms.specs.Literal.{has, neg}
use Rattle.clause_store.specs.Stored.{Stored, slot, slot_lits}
use Rattle.trail_state.specs.declared.trail.Step.{Step}
use Rattle.trail_state.specs.Trail.{step}
use Rattle.watch_lists.specs.declared.lists.Watch.{Watch}
use Rattle.watch_lists.specs.Watching.{Pair, pair, tally, expects, WatchesIt, HoldsPair, Blocks, AllBlock, Kept, Covered, FollowsOn}
use Rattle.watch_lists.proofs.Tallies.{tally-append, tally_here, tally_apart, expects_one, expects_none, block_join}
use Rattle.watch_lists.proofs.Moves.{pair_new, pair_old}

-- A clause is attached: the lists B are the lists A with a watch more at each literal of the pair p.
pub record Attaching (ids : List ℕ) (s : List (Option Stored)) (n : ℕ) (A B : ℕ → List Watch) (ps : List Pair) (id : ℕ) (p : Pair) (b : Bool) : Type 0 where
  pub known : id < length ps
  pub unwatched : (pair ps id).first ≡ (pair ps id).second
  pub differ : p.first ≢ p.second
  pub held : HoldsPair ids id (slot s id) n p
  pub both : b ≡ true → (k : ℕ) → has (slot_lits (slot s id)) k ≡ true → (k ≡ p.first) ⊎ (k ≡ p.second)
  pub at_first : B p.first ≡ A p.first ++ record { id = id; blocker = p.second; binary = b } ∷ []
  pub at_second : B p.second ≡ A p.second ++ record { id = id; blocker = p.first; binary = b } ∷ []
  pub elsewhere : (l : ℕ) → l ≢ p.first → l ≢ p.second → B l ≡ A l

module _ (ids : List ℕ) (s : List (Option Stored)) (n : ℕ) (A B : ℕ → List Watch) (ps : List Pair) (id : ℕ) (p : Pair) (b : Bool) where
  tally_more : (l k : ℕ) (w : Watch) → w.id ≡ id → B l ≡ A l ++ w ∷ [] → tally k (B l) ≡ tally k (A l) + tally k (w ∷ [])
  tally_more l k w e h = ap (tally k) h ∙ tally-append k (A l) (w ∷ [])

  none_before : (q : Pair) (l : ℕ) → q.first ≡ q.second → expects q l ≡ 0
  none_before q l e = rw (eq-eqb q.first q.second e) refl

  attached_tally : Attaching ids s n A B ps id p b → Kept ids s n A ps → (l k : ℕ) → l < n → tally k (B l) ≡ expects (pair (set ps id p) k) l
  attached_tally a kept l k below =
      let old = kept.tallied l k below in
      elim (cases_eq k id) [
        | inl e ↦
            let z : expects (pair ps k) l ≡ 0 = rw e (none_before (pair ps id) l a.unwatched) in
            let new = ap (λ x. expects (pair (set ps id p) x) l) e ∙ ap (λ x. expects x l) (pair_new ps id p a.known) in
            elim (cases_eq l p.first) [
              | inl f ↦
                  let c = tally_more l k (record { id = id; blocker = p.second; binary = b }) refl (ap B f ∙ a.at_first ∙ ap (λ x. A x ++ record { id = id; blocker = p.second; binary = b } ∷ []) (sym f)) in
                  let c' = tally_here k [] [] (record { id = id; blocker = p.second; binary = b }) (sym e) in
                  let o = expects_one p l (record { differ = a.differ; one = inl (sym f) }) in
                  let z' : tally k [] ≡ 0 = refl in
                  omega arith
              | inr nf ↦
                  elim (cases_eq l p.second) [
                    | inl g ↦
                        let c = tally_more l k (record { id = id; blocker = p.first; binary = b }) refl (ap B g ∙ a.at_second ∙ ap (λ x. A x ++ record { id = id; blocker = p.first; binary = b } ∷ []) (sym g)) in
                        let c' = tally_here k [] [] (record { id = id; blocker = p.first; binary = b }) (sym e) in
                        let o = expects_one p l (record { differ = a.differ; one = inr (sym g) }) in
                        let z' : tally k [] ≡ 0 = refl in
                        omega arith
                    | inr ng ↦
                        let c = ap (tally k) (a.elsewhere l nf ng) in
                        let o = expects_none p l (λ q. nf (sym q)) (λ q. ng (sym q)) in
                        omega arith
                  ]
            ]
        | inr ne ↦
            let new = ap (λ x. expects x l) (pair_old ps id k p ne) in
            elim (cases_eq l p.first) [
              | inl f ↦
                  let c = tally_more l k (record { id = id; blocker = p.second; binary = b }) refl (ap B f ∙ a.at_first ∙ ap (λ x. A x ++ record { id = id; blocker = p.second; binary = b } ∷ []) (sym f)) in
                  let c' = tally_apart k [] [] (record { id = id; blocker = p.second; binary = b }) (λ q. ne (sym q)) in
                  let z' : tally k [] ≡ 0 = refl in
                  omega arith
              | inr nf ↦
                  elim (cases_eq l p.second) [
                    | inl g ↦
                        let c = tally_more l k (record { id = id; blocker = p.first; binary = b }) refl (ap B g ∙ a.at_second ∙ ap (λ x. A x ++ record { id = id; blocker = p.first; binary = b } ∷ []) (sym g)) in
                        let c' = tally_apart k [] [] (record { id = id; blocker = p.first; binary = b }) (λ q. ne (sym q)) in
                        let z' : tally k [] ≡ 0 = refl in
                        omega arith
                    | inr ng ↦
                        let c = ap (tally k) (a.elsewhere l nf ng) in
                        omega arith
                  ]
            ]
      ]

  pub kept_attached : Attaching ids s n A B ps id p b → Kept ids s n A ps → Kept ids s n B (set ps id p)
  kept_attached a kept = record {
    tallied = attached_tally a kept;
    held = λ k differ.
        elim (cases_eq k id) [
          | inl e ↦ rw (e, pair_new ps id p a.known) a.held
          | inr ne ↦ subst (HoldsPair ids k (slot s k) n) (sym (pair_old ps id k p ne)) (kept.held k (subst (λ (z : Pair). z.first ≢ z.second) (pair_old ps id k p ne) differ))
        ];
    blocking = λ l below.
        elim (cases_eq l p.first) [
          | inl f ↦ subst (AllBlock s l) (sym (ap B f ∙ a.at_first ∙ ap (λ x. A x ++ record { id = id; blocker = p.second; binary = b } ∷ []) (sym f))) (block_join s l (A l) (record { id = id; blocker = p.second; binary = b } ∷ []) (kept.blocking l below) (subst (λ z. Blocks (slot_lits (slot s id)) z (record { id = id; blocker = p.second; binary = b })) (sym f) (record { holds = a.held.second; both = a.both }), tt))
          | inr nf ↦
              elim (cases_eq l p.second) [
                | inl g ↦ subst (AllBlock s l) (sym (ap B g ∙ a.at_second ∙ ap (λ x. A x ++ record { id = id; blocker = p.first; binary = b } ∷ []) (sym g))) (block_join s l (A l) (record { id = id; blocker = p.first; binary = b } ∷ []) (kept.blocking l below) (subst (λ z. Blocks (slot_lits (slot s id)) z (record { id = id; blocker = p.first; binary = b })) (sym g) (record { holds = a.held.first; both = λ e k h. elim (a.both e k h) [ inl x ↦ inr x | inr x ↦ inl x ] }), tt))
                | inr ng ↦ subst (AllBlock s l) (sym (a.elsewhere l nf ng)) (kept.blocking l below)
              ]
        ];
  }

  -- the lists follow the trail up to a place before which the new clause is covered
  pub follows_attached : (t : List Step) (head head' : ℕ) → id < length ps → FollowsOn s ps t head → head' ≤ head
      → ((i : ℕ) → i < head' → WatchesIt p (neg (step t i).lit) → Covered (slot_lits (slot s id)) t i head') → FollowsOn s (set ps id p) t head'
  follows_attached t head head' known f le new =
      let in' = f.within in
      record {
        within = omega arith;
        covers = λ i k below watches.
            elim (cases_eq k id) [
              | inl e ↦
                  let w : WatchesIt p (neg (step t i).lit) = subst (λ z. WatchesIt z (neg (step t i).lit)) (ap (pair (set ps id p)) e ∙ pair_new ps id p known) watches in
                  subst (λ z. Covered (slot_lits (slot s z)) t i head') (sym e) (new i below w)
              | inr ne ↦
                  let c = f.covers i k (omega arith) (subst (λ z. WatchesIt z (neg (step t i).lit)) (pair_old ps id k p ne) watches) in
                  record { true_in = c.true_in; low = λ lt. c.low (omega arith) }
            ];
      }
