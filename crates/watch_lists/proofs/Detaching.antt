-- A clause is detached.
use Rattle.std.proofs.Common.{◌≡◌, ◌≢◌, ℕ, ◌<◌, ◌≤◌, Bool, true, false, not, ◌&&◌, eqb, List, [], ◌∷◌, length, get_or, set, ◌⊎◌, inl, inr, refl, sym, ap, ◌∙◌, subst, arith, Option}
use Rattle.std.specs.Prelude.{IsTrue, ◌↔◌}
use Rattle.std.proofs.lemmas.Bool.{cases_eq, cases_lt, false≢true, eq-eqb, ne_eqb, and_parts}
use Rattle.std.proofs.lemmas.List.{get_or-set_same, get_or-set_other, get_or_past}
use Rattle.sat_terms.specs.Literal.{has, neg}
use Rattle.clause_store.specs.Stored.{Stored, slot, slot_lits}
use Rattle.trail_state.specs.declared.trail.Step.{Step}
use Rattle.trail_state.specs.Trail.{Trace, step}
use Rattle.watch_lists.specs.declared.lists.Watch.{Watch}
use Rattle.watch_lists.specs.Placing.{without, IsTakenOut}
use Rattle.watch_lists.specs.Propagation.{Watching, Stands, Fits, Follows}
use Rattle.watch_lists.specs.Watching.{Pair, copy, front, pairs, pair, at, tally, expects, WatchesIt, HoldsPair, AllBlock, Kept, FollowsOn, IsCopy}
use Rattle.watch_lists.proofs.Tallies.{expects_none}
use Rattle.watch_lists.proofs.Moves.{pair_new, pair_old}
use Rattle.watch_lists.proofs.Fronts.{front_read}
use Rattle.watch_lists.proofs.Looks.{pair_front, pairs_long, pairs_set}
use Rattle.watch_lists.proofs.Following.{kept_more}
use Rattle.watch_lists.proofs.Ending.{two_has}
use Rattle.watch_lists.proofs.Placings.{no_copy}

-- lists without the watches of a clause
tally_none : (id : ℕ) (ws : List Watch) → tally id (without id ws) ≡ 0
tally_none id [] = refl
tally_none id (w ∷ ws) =
    elim (cases_eq w.id id) [
      | inl e ↦ rw (eq-eqb w.id id e) (tally_none id ws)
      | inr n ↦ let r = tally_none id ws in rw (ne_eqb w.id id n) (rw (ne_eqb w.id id n) (omega arith))
    ]

tally_kept : (id k : ℕ) (ws : List Watch) → k ≢ id → tally k (without id ws) ≡ tally k ws
tally_kept id k [] n = refl
tally_kept id k (w ∷ ws) n =
    elim (cases_eq w.id id) [
      | inl e ↦ let r = tally_kept id k ws n in rw (eq-eqb w.id id e, ne_eqb w.id k (λ q. n (sym q ∙ e))) (omega arith)
      | inr m ↦ let r = tally_kept id k ws n in rw (ne_eqb w.id id m) (omega arith)
    ]

block_kept : (s : List (Option Stored)) (l id : ℕ) (ws : List Watch) → AllBlock s l ws → AllBlock s l (without id ws)
block_kept s l id [] h = tt
block_kept s l id (w ∷ ws) h = go (eqb w.id id) refl (block_kept s l id ws h.1) where
  go : (b : Bool) → eqb w.id id ≡ b → AllBlock s l (without id ws) → AllBlock s l (without id (w ∷ ws))
  go true e rest = rw e rest
  go false e rest = rw e (h.0, rest)

-- what a list that was taken from says
taken_other : (id l0 k l : ℕ) (ls ls' : List (List Watch)) → IsTakenOut id l0 ls ls' → k ≢ id → tally k (at ls' l) ≡ tally k (at ls l)
taken_other id l0 k l ls ls' h n =
    elim (cases_eq l l0) [
      | inl e ↦ ap (λ z. tally k (at ls' z)) e ∙ ap (tally k) h.here ∙ tally_kept id k (at ls l0) n ∙ ap (λ z. tally k (at ls z)) (sym e)
      | inr m ↦ ap (tally k) (h.others l m)
    ]

taken_here : (id l0 : ℕ) (ls ls' : List (List Watch)) → IsTakenOut id l0 ls ls' → tally id (at ls' l0) ≡ 0
taken_here id l0 ls ls' h = ap (tally id) h.here ∙ tally_none id (at ls l0)

taken_none : (id l0 l : ℕ) (ls ls' : List (List Watch)) → IsTakenOut id l0 ls ls' → tally id (at ls l) ≡ 0 → tally id (at ls' l) ≡ 0
taken_none id l0 l ls ls' h z =
    elim (cases_eq l l0) [
      | inl e ↦ ap (λ x. tally id (at ls' x)) e ∙ taken_here id l0 ls ls' h
      | inr m ↦ ap (tally id) (h.others l m) ∙ z
    ]

taken_block : (s : List (Option Stored)) (id l0 l : ℕ) (ls ls' : List (List Watch)) → IsTakenOut id l0 ls ls' → AllBlock s l (at ls l) → AllBlock s l (at ls' l)
taken_block s id l0 l ls ls' h b =
    elim (cases_eq l l0) [
      | inl e ↦ subst (AllBlock s l) (sym (ap (at ls') e ∙ h.here)) (block_kept s l id (at ls l0) (subst (λ z. AllBlock s l (at ls z)) e b))
      | inr m ↦ subst (AllBlock s l) (sym (h.others l m)) b
    ]

and_both : (a b : Bool) → a ≡ true → b ≡ true → (a && b) ≡ true
and_both true true x y = refl
and_both true false x y = y
and_both false b x y = x

module _ (ids ids' waiting waiting' short : List ℕ) (ls ls1 ls2 : List (List Watch)) (cs : List (List ℕ)) (s : List (Option Stored)) (id first second : ℕ)
    (less : (k : ℕ) → has ids' k ≡ (has ids k && not (eqb k id))) (fewer : (k : ℕ) → has waiting' k ≡ (has waiting k && not (eqb k id))) (f : Fits ids waiting short ls cs s) where
  -- an id that is left
  left : (k : ℕ) → has ids' k ≡ true → (has ids k ≡ true) × (k ≢ id)
  left k h =
      let p = and_parts (has ids k) (not (eqb k id)) (sym (less k) ∙ h) in
      (p.0, λ e. false≢true (ap not (sym (eq-eqb k id e)) ∙ p.1))

  stays : (k : ℕ) → k ≢ id → has ids k ≡ true → has ids' k ≡ true
  stays k n h = less k ∙ and_both (has ids k) (not (eqb k id)) h (ap not (ne_eqb k id n))

  waits_on : (k : ℕ) → k ≢ id → has waiting k ≡ true → has waiting' k ≡ true
  waits_on k n h = fewer k ∙ and_both (has waiting k) (not (eqb k id)) h (ap not (ne_eqb k id n))

  waits_left : (k : ℕ) → has waiting' k ≡ true → has ids' k ≡ true
  waits_left k h =
      let p = and_parts (has waiting k) (not (eqb k id)) (sym (fewer k) ∙ h) in
      stays k (λ e. false≢true (ap not (sym (eq-eqb k id e)) ∙ p.1)) (f.waits k p.0)

  -- a clause that is in no list
  pub fits_unlisted : (short' : List ℕ) → ((k : ℕ) → has short' k ≡ (has short k && not (eqb k id))) → copy cs id ≡ [] → Fits ids' waiting' short' ls cs s
  fits_unlisted short' shorter empty = record {
    kept = kept_more ids ids' s (length ls) (at ls) (pairs cs) (λ k n h. stays k (λ e. n (let z = pair_front cs k ∙ ap front (ap (copy cs) e ∙ empty) in ap (λ (p : Pair). p.first) z ∙ sym (ap (λ (p : Pair). p.second) z))) h) f.kept;
    copied = f.copied;
    bare = f.bare;
    waits = waits_left;
    shorts = λ k h.
        let p = and_parts (has short k) (not (eqb k id)) (sym (shorter k) ∙ h) in
        let g = f.shorts k p.0 in
        (stays k (λ e. false≢true (ap not (sym (eq-eqb k id e)) ∙ p.1)) g.0, g.1);
    stands = λ k h. let p = left k h in go k p.1 (f.stands k p.0);
  }
    where
      go : (k : ℕ) → k ≢ id → Stands cs waiting short k → Stands cs waiting' short' k
      go k n (inl m) = inl m
      go k n (inr (inl h)) = inr (inl (waits_on k n h))
      go k n (inr (inr h)) = inr (inr (shorter k ∙ and_both (has short k) (not (eqb k id)) h (ap not (ne_eqb k id n))))

  -- a clause that watches two literals
  module _ (known : id < length cs) (fronted : front (copy cs id) ≡ record { first = first; second = second }) (differ : (front (copy cs id)).first ≢ (front (copy cs id)).second) (one : IsTakenOut id first ls ls1) (two : IsTakenOut id second ls1 ls2) where
    pairs_now : pairs (set cs id []) ≡ set (pairs cs) id (record { first = 0; second = 0 })
    pairs_now = pairs_set cs id [] (record { first = 0; second = 0 }) refl

    pair_here : pair (pairs (set cs id [])) id ≡ record { first = 0; second = 0 }
    pair_here = ap (λ z. pair z id) pairs_now ∙ pair_new (pairs cs) id (record { first = 0; second = 0 }) (let l = pairs_long cs in omega arith)

    pair_there : (k : ℕ) → k ≢ id → pair (pairs (set cs id [])) k ≡ pair (pairs cs) k
    pair_there k n = ap (λ z. pair z k) pairs_now ∙ pair_old (pairs cs) id k (record { first = 0; second = 0 }) n

    was : pair (pairs cs) id ≡ record { first = first; second = second }
    was = pair_front cs id ∙ fronted

    sized : length ls2 ≡ length ls
    sized = two.sized ∙ one.sized

    none_left : (l : ℕ) → l < length ls → tally id (at ls2 l) ≡ 0
    none_left l below =
        elim (cases_eq l second) [
          | inl e ↦ ap (λ z. tally id (at ls2 z)) e ∙ taken_here id second ls1 ls2 two
          | inr n ↦
              taken_none id second l ls1 ls2 two
              (elim (cases_eq l first) [
                | inl e ↦ ap (λ z. tally id (at ls1 z)) e ∙ taken_here id first ls ls1 one
                | inr m ↦ taken_none id first l ls ls1 one (f.kept.tallied l id below ∙ ap (λ p. expects p l) was ∙ expects_none (record { first = first; second = second }) l (λ q. m (sym q)) (λ q. n (sym q)))
              ])
        ]

    kept_taken : Kept ids' s (length ls2) (at ls2) (pairs (set cs id []))
    kept_taken = record {
      tallied = λ l k below.
          let in' : l < length ls = (let z = sized in omega arith) in
          elim (cases_eq k id) [
            | inl e ↦ ap (λ z. tally z (at ls2 l)) e ∙ none_left l in' ∙ sym (ap (λ z. expects (pair (pairs (set cs id [])) z) l) e ∙ ap (λ p. expects p l) pair_here)
            | inr n ↦ taken_other id second k l ls1 ls2 two n ∙ taken_other id first k l ls ls1 one n ∙ f.kept.tallied l k in' ∙ ap (λ p. expects p l) (sym (pair_there k n))
          ];
      held = λ k m.
          elim (cases_eq k id) [
            | inl e ↦ absurd (m (let z = ap (pair (pairs (set cs id []))) e ∙ pair_here in ap (λ (p : Pair). p.first) z ∙ sym (ap (λ (p : Pair). p.second) z)))
            | inr n ↦
                let h = f.kept.held k (subst (λ (p : Pair). p.first ≢ p.second) (pair_there k n) m) in
                subst (HoldsPair ids' k (slot s k) (length ls2)) (sym (pair_there k n)) (record { attached = stays k n h.attached; first = h.first; second = h.second; within = λ l x. let w = h.within l x in let z = sized in omega arith })
          ];
      blocking = λ l below. taken_block s id second l ls1 ls2 two (taken_block s id first l ls ls1 one (f.kept.blocking l (let z = sized in omega arith)));
    }

    copy_here : copy (set cs id []) id ≡ []
    copy_here = get_or-set_same cs id [] [] known

    copy_there : (k : ℕ) → k ≢ id → copy (set cs id []) k ≡ copy cs k
    copy_there k n = get_or-set_other cs id k [] [] n

    pub fits_taken : Fits ids' waiting' short ls2 (set cs id []) s
    fits_taken = record {
      kept = kept_taken;
      copied = λ k m.
          elim (cases_eq k id) [
            | inl e ↦ absurd (m (let z = ap (copy (set cs id [])) e ∙ copy_here in ap (λ c. (front c).first) z ∙ sym (ap (λ c. (front c).second) z)))
            | inr n ↦ subst (λ z. IsCopy z (slot_lits (slot s k))) (sym (copy_there k n)) (f.copied k (subst (λ c. (front c).first ≢ (front c).second) (copy_there k n) m))
          ];
      bare = λ k.
          elim (cases_eq k id) [
            | inl e ↦ inl (ap (copy (set cs id [])) e ∙ copy_here)
            | inr n ↦ elim (f.bare k) [ inl e ↦ inl (copy_there k n ∙ e) | inr m ↦ inr (subst (λ c. (front c).first ≢ (front c).second) (sym (copy_there k n)) m) ]
          ];
      waits = waits_left;
      shorts = λ k h.
          let g = f.shorts k h in (
            stays k (λ e. absurd (
                let w = f.kept.held id (subst (λ (p : Pair). p.first ≢ p.second) (sym (pair_front cs id)) differ) in
                let long = two_has (slot_lits (slot s id)) (pair (pairs cs) id).first (pair (pairs cs) id).second w.first w.second (subst (λ (p : Pair). p.first ≢ p.second) (sym (pair_front cs id)) differ) in
                let few = subst (λ z. length (slot_lits (slot s z)) < 2) e g.1 in
                omega arith)) g.0,
            g.1,
          );
      stands = λ k h. let p = left k h in go k p.1 (f.stands k p.0);
    }
      where
        go : (k : ℕ) → k ≢ id → Stands cs waiting short k → Stands (set cs id []) waiting' short k
        go k n (inl m) = inl (subst (λ c. (front c).first ≢ (front c).second) (sym (copy_there k n)) m)
        go k n (inr (inl h)) = inr (inl (waits_on k n h))
        go k n (inr (inr h)) = inr (inr h)

    pub on_taken : (t : List Step) (head : ℕ) → FollowsOn s (pairs cs) t head → FollowsOn s (pairs (set cs id [])) t head
    on_taken t head on = record {
      within = on.within;
      covers = λ i k below w.
          elim (cases_eq k id) [
            | inl e ↦ absurd (w.differ (let z = ap (pair (pairs (set cs id []))) e ∙ pair_here in ap (λ (p : Pair). p.first) z ∙ sym (ap (λ (p : Pair). p.second) z)))
            | inr n ↦ on.covers i k below (subst (λ p. WatchesIt p (neg (step t i).lit)) (pair_there k n) w)
          ];
    }

pub listed_known : (cs : List (List ℕ)) (id : ℕ) → 2 ≤ length (copy cs id) → id < length cs
listed_known cs id two =
    elim (cases_lt id (length cs)) [
      | inl lt ↦ lt
      | inr ge ↦ absurd (let e = ap length (get_or_past cs id [] ge) in omega arith)
    ]

pub listed_differ : (cs : List (List ℕ)) (id : ℕ) → (copy cs id ≡ []) ⊎ ((front (copy cs id)).first ≢ (front (copy cs id)).second) → 2 ≤ length (copy cs id) → (front (copy cs id)).first ≢ (front (copy cs id)).second
listed_differ cs id (inl e) two = absurd (let z = ap length e in omega arith)
listed_differ cs id (inr n) two = n

pub held_true : (b : Bool) (n : ℕ) → IsTrue b ↔ (2 ≤ n) → b ≡ true → 2 ≤ n
held_true b n h e = h.0 e

pub follows_taken : (w w' : Watching) (ls1 : List (List Watch)) (s : List (Option Stored)) (t : Trace) (id first second : ℕ) → ((k : ℕ) → has w'.attached k ≡ (has w.attached k && not (eqb k id))) → ((k : ℕ) → has w'.waiting k ≡ (has w.waiting k && not (eqb k id)))
    → 2 ≤ length (copy w.copies id) → first ≡ get_or (copy w.copies id) 0 first → second ≡ get_or (copy w.copies id) 1 second → IsTakenOut id first w.lists ls1 → IsTakenOut id second ls1 w'.lists → w'.copies ≡ set w.copies id [] → w'.short ≡ w.short → w'.fixed ≡ w.fixed → w'.head ≡ w.head
    → Follows w s t → Follows w' s t
follows_taken w w' ls1 s t id first second less fewer two first-is second-is one other copies-is a b c f =
    let known = listed_known w.copies id two in
    let fronted = front_read (copy w.copies id) first second two first-is second-is in
    let differ = listed_differ w.copies id (f.fits.bare id) two in
    record {
      fits = rw (a, copies-is) (fits_taken w.attached w'.attached w.waiting w'.waiting w.short w.lists ls1 w'.lists w.copies s id first second less fewer f.fits known fronted differ one other);
      fixed = rw (a, b) f.fixed;
      on = rw (copies-is, c) (on_taken w.attached w'.attached w.waiting w'.waiting w.short w.lists ls1 w'.lists w.copies s id first second less fewer f.fits known fronted differ one other t.steps w.head f.on);
    }

pub follows_unlisted : (w w' : Watching) (s : List (Option Stored)) (t : Trace) (id : ℕ) → ((k : ℕ) → has w'.attached k ≡ (has w.attached k && not (eqb k id))) → ((k : ℕ) → has w'.waiting k ≡ (has w.waiting k && not (eqb k id))) → ((k : ℕ) → has w'.short k ≡ (has w.short k && not (eqb k id)))
    → length (copy w.copies id) < 2 → w'.lists ≡ w.lists → w'.copies ≡ w.copies → w'.fixed ≡ 0 → w'.head ≡ w.head → Follows w s t → Follows w' s t
follows_unlisted w w' s t id less fewer shorter few a b c d f =
    let empty = no_copy w.copies id (f.fits.bare id) few in
    record {
      fits = rw (a, b) (fits_unlisted w.attached w'.attached w.waiting w'.waiting w.short w.lists w.lists w.lists w.copies s id 0 0 less fewer f.fits w'.short shorter empty);
      fixed = rw c (record { few = omega arith; at_root = λ k lt. absurd (omega arith) });
      on = rw (b, d) f.on;
    }
