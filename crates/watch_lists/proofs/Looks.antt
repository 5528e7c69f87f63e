-- Looks at the literals of a copy, and at a watch.
use Rattle.std.proofs.Common.{◌≡◌, ◌≢◌, ℕ, suc, zero, ◌+◌, ◌<◌, ◌≤◌, Bool, true, false, not, List, [], ◌∷◌, ◌++◌, length, get_or, set, inl, inr, refl, sym, ap, ◌∙◌, subst, arith, Option}
use Rattle.std.proofs.lemmas.Bool.{false≢true, cases_eq}
use Rattle.std.proofs.lemmas.List.{get_or_default, map-set, length-map, get_or-set_same, get_or-set_other}
use Rattle.sat_terms.specs.Literal.{has, neg, var_of}
use Rattle.sat_terms.specs.Answer.{Within}
use Rattle.sat_terms.proofs.Members.{All-has}
use Rattle.clause_store.specs.Stored.{Stored, slot, slot_lits}
use Rattle.trail_state.specs.declared.trail.Step.{Step}
use Rattle.trail_state.specs.Trail.{Trace, true_on}
use Rattle.watch_lists.specs.declared.lists.Watch.{Watch}
use Rattle.watch_lists.specs.declared.visits.Settled.{Settled}
use Rattle.watch_lists.specs.declared.visits.Settled.TheVariants.{Stays, Moves as Moved, False}
use Rattle.watch_lists.specs.Watching.{Pair, copy, front, pairs, pair, at, turned, Blocks, SameLits, IsOnce, IsCopy, AllCopied, CopiesKeep}
use Rattle.watch_lists.specs.Visiting.{AllDeclared, OtherOf, IsNextAt, NoneFrom, MovesTo, ConcludedIs, Stayed, SettledIs}
use Rattle.watch_lists.proofs.Fronts.{has_turned, front_turned, two_long, has_here, front_read}
use Rattle.watch_lists.proofs.Once.{once_turned}
use Rattle.watch_lists.proofs.Watched.{true_in_from}

-- a literal that may be watched, as the code reads it
not_true : (x : Bool) → not x ≡ true → x ≡ false
not_true true e = absurd (false≢true e)
not_true false e = refl

not_false : (x : Bool) → not x ≡ false → x ≡ true
not_false true e = refl
not_false false e = absurd (false≢true (sym e))

pub next_found : (t : List Step) (c : List ℕ) (k lit : ℕ) (b : Bool) → 2 ≤ k → k < length c → lit ≡ get_or c k lit → b ≡ not (true_on t (neg lit)) → b ≡ true → IsNextAt t c k
next_found t c k lit b late in' is said yes' =
    let here : get_or c k 0 ≡ lit = sym (is ∙ get_or_default c k lit 0 in') in
    record { late = late; within = in'; open_yet = ap (λ z. true_on t (neg z)) here ∙ not_true (true_on t (neg lit)) (sym said ∙ yes') }

pub none_more : (t : List Step) (c : List ℕ) (k lit : ℕ) (b : Bool) → k < length c → lit ≡ get_or c k lit → b ≡ not (true_on t (neg lit)) → b ≡ false → NoneFrom t c k → NoneFrom t c (k + 1)
none_more t c k lit b in' is said no' before j late lt within =
    elim (cases_eq j k) [
      | inl e ↦
          let here : get_or c j 0 ≡ lit = ap (λ z. get_or c z 0) e ∙ sym (is ∙ get_or_default c k lit 0 in') in
          ap (λ z. true_on t (neg z)) here ∙ not_false (true_on t (neg lit)) (sym said ∙ no')
      | inr m ↦ before j late (omega arith) within
    ]

-- pairs and copies
pub pair_front : (cs : List (List ℕ)) (id : ℕ) → pair (pairs cs) id ≡ front (copy cs id)
pair_front [] id = refl
pair_front (c ∷ cs) zero = refl
pair_front (c ∷ cs) (suc id) = pair_front cs id

pub pairs_long : (cs : List (List ℕ)) → length (pairs cs) ≡ length cs
pairs_long cs = length-map cs front

pub pairs_set : (cs : List (List ℕ)) (id : ℕ) (c : List ℕ) (p : Pair) → front c ≡ p → pairs (set cs id c) ≡ set (pairs cs) id p
pairs_set cs id c p e = map-set front cs id c ∙ ap (set (pairs cs) id) e

-- the list of the literal that is watched now
pub moved_list : (ls : List (List Watch)) (code next : ℕ) (d new : List Watch) (w : Watch) → code ≡ next → next < length ls → new ≡ get_or ls code d ++ w ∷ [] → set ls code new ≡ set ls next (at ls next ++ w ∷ [])
moved_list ls code next d new w e in' is =
    ap (set ls code) (is ∙ ap (λ z. z ++ w ∷ []) (get_or_default ls code d [] (rw e in'))) ∙ ap (λ z. set ls z (at ls z ++ w ∷ [])) e

-- a watch moves
pub moves : (id f other k next code : ℕ) (ls ls' : List (List Watch)) (cs cs' : List (List ℕ)) (d new : List Watch) → OtherOf (front (copy cs id)) f other → 2 ≤ k → k < length (copy cs id) → get_or (copy cs id) k 0 < length ls → next ≡ get_or (copy cs id) k 0 → code ≡ next
    → new ≡ get_or ls code d ++ record { id = id; blocker = other; binary = false } ∷ [] → ls' ≡ set ls code new → cs' ≡ set cs id (turned (copy cs id) other next k f) → MovesTo id f other k ls ls' cs cs'
moves id f other k next code ls ls' cs cs' d new one late within listed next-is code-is pushed lists-is copies-is = record {
  lists = lists-is ∙ moved_list ls code (get_or (copy cs id) k 0) d new (record { id = id; blocker = other; binary = false }) (code-is ∙ next-is) listed pushed;
  now = turned (copy cs id) other next k f;
  copies = copies-is;
  fronted = front_turned (copy cs id) other next k f late within ∙ ap (λ z. record { first = other; second = z }) next-is;
  same = λ l. has_turned (copy cs id) other next k f l late within one (sym next-is);
  once = once_turned (copy cs id) other next k f late within one (sym next-is);
}

-- what became of a watch
pub stays_met : (c : List ℕ) (f : ℕ) (w : Watch) (ls : List (List Watch)) (cs : List (List ℕ)) (t : List Step) → Blocks c f w → true_on t w.blocker ≡ true → Stayed c f w ls ls cs cs t
stays_met c f w ls cs t blocks on = record { lists = refl; copies = refl; blocks = blocks; true_in = true_in_from t c w.blocker blocks.holds on }

pub wide_blocks : (c : List ℕ) (f id other : ℕ) (b : Bool) → b ≡ false → has c other ≡ true → Blocks c f (record { id = id; blocker = other; binary = b })
wide_blocks c f id other b off holds = record { holds = holds; both = λ on. absurd (false≢true (sym off ∙ on)) }

pub concluded : (r : Settled) (id f other : ℕ) (b : Bool) (s : List (Option Stored)) (ls : List (List Watch)) (cs : List (List ℕ)) (t t' : Trace) → ConcludedIs r other (slot_lits (slot s id)) t'.steps → Blocks (slot_lits (slot s id)) f (record { id = id; blocker = other; binary = b })
    → SettledIs r id b f s ls ls cs cs t t'
concluded (Stays x) id f other b s ls cs t t' h blocks = subst (λ z. Stayed (slot_lits (slot s id)) f (record { id = id; blocker = z; binary = b }) ls ls cs cs t'.steps) (sym h.0) (stays_met (slot_lits (slot s id)) f (record { id = id; blocker = other; binary = b }) ls cs t'.steps blocks h.1)
concluded Moved id f other b s ls cs t t' h blocks = absurd h
concluded False id f other b s ls cs t t' h blocks = record { lists = refl; copies = refl; all_false = h }

-- the copies after a move
pub copied_moves : (s : List (Option Stored)) (cs cs' : List (List ℕ)) (id : ℕ) (now : List ℕ) → id < length cs → AllCopied s cs → (front (copy cs id)).first ≢ (front (copy cs id)).second → cs' ≡ set cs id now
    → ((l : ℕ) → has now l ≡ has (copy cs id) l) → (IsOnce (copy cs id) → IsOnce now) → AllCopied s cs'
copied_moves s cs cs' id now known all differ e same once k n =
    elim (cases_eq k id) [
      | inl q ↦
          let here : copy cs' k ≡ now = ap (copy cs') q ∙ ap (λ z. copy z id) e ∙ get_or-set_same cs id now [] known in
          let old = all id differ in
          let new : IsCopy now (slot_lits (slot s id)) = record { same = λ l. same l ∙ old.same l; once = once old.once } in
          subst (λ z. IsCopy z (slot_lits (slot s k))) (sym here) (subst (λ z. IsCopy now (slot_lits (slot s z))) (sym q) new)
      | inr m ↦
          let there : copy cs' k ≡ copy cs k = ap (λ z. copy z k) e ∙ get_or-set_other cs id k now [] m in
          subst (λ z. IsCopy z (slot_lits (slot s k))) (sym there) (all k (subst (λ z. (front z).first ≢ (front z).second) there n))
    ]

-- the other literal, as the code reads the copy
pub other_here : (c : List ℕ) (x y f o : ℕ) → (front c).first ≢ (front c).second → x ≡ get_or c 0 x → y ≡ get_or c 1 y → OtherOf (record { first = x; second = y }) f o → OtherOf (front c) f o
other_here c x y f o differ a b h = subst (λ z. OtherOf z f o) (sym (front_read c x y (two_long c differ) a b)) h

-- a literal of the copy is one of the clause
pub held_at : (c d : List ℕ) (k : ℕ) → SameLits c d → k < length c → has d (get_or c k 0) ≡ true
held_at c d k same in' = sym (same (get_or c k 0)) ∙ has_here c k (get_or c k 0) in' refl

-- copies that keep
pub keeps_same : (cs : List (List ℕ)) → CopiesKeep cs cs
keeps_same cs = record { none = λ id e. e; differ = λ id n. n }

pub keeps_then : (a b c : List (List ℕ)) → CopiesKeep a b → CopiesKeep b c → CopiesKeep a c
keeps_then a b c f g = record { none = λ id e. g.none id (f.none id e); differ = λ id n. g.differ id (f.differ id n) }

pub keeps_moved : (cs cs' : List (List ℕ)) (id other next : ℕ) (now : List ℕ) → id < length cs → (front (copy cs id)).first ≢ (front (copy cs id)).second → cs' ≡ set cs id now → front now ≡ record { first = other; second = next } → next ≢ other → CopiesKeep cs cs'
keeps_moved cs cs' id other next now known differ e fronted apart = record {
  none = λ k q.
      elim (cases_eq k id) [
        | inl y ↦ absurd (differ (let z : copy cs id ≡ [] = subst (λ x. copy cs x ≡ []) y q in ap (λ c. (front c).first) z ∙ sym (ap (λ c. (front c).second) z)))
        | inr m ↦ there k m ∙ q
      ];
  differ = λ k n.
      elim (cases_eq k id) [
        | inl y ↦ subst (λ x. (front (copy cs' x)).first ≢ (front (copy cs' x)).second) (sym y) (subst (λ (p : Pair). p.first ≢ p.second) (sym (ap front here ∙ fronted)) (λ q. apart (sym q)))
        | inr m ↦ subst (λ c. (front c).first ≢ (front c).second) (sym (there k m)) n
      ];
}
  where
    here : copy cs' id ≡ now
    here = ap (λ z. copy z id) e ∙ get_or-set_same cs id now [] known

    there : (k : ℕ) → k ≢ id → copy cs' k ≡ copy cs k
    there k m = ap (λ z. copy z k) e ∙ get_or-set_other cs id k now [] m

-- the literals of a copy are declared as those of the clause are
pub declared_at : (n : ℕ) (c : List ℕ) (l : ℕ) → Within n c → has c l ≡ true → var_of l ≤ n
declared_at n c l h m = let both : (1 ≤ var_of l) × (var_of l ≤ n) = All-has (λ x. (1 ≤ var_of x) × (var_of x ≤ n)) c l h m in both.1

pub declared_within : (n : ℕ) (c d : List ℕ) → Within n d → SameLits c d → AllDeclared n c
declared_within n c d h same l m = declared_at n d l h (sym (same l) ∙ m)
