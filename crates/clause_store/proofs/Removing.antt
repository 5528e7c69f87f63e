-- Taking an id out of the lists of its literals, as the code reads it.
use Rattle.std.proofs.Common.{◌≡◌, ◌≢◌, ℕ, ◌+◌, ◌-◌, ◌<◌, ◌≤◌, true, List, [], length, get_or, set, take, Option, inl, inr, refl, sym, ap, ◌∙◌, subst, arith}
use Rattle.std.specs.Prelude.{IsSome}
use Rattle.std.specs.List.{swap_remove, AllPairs}
use Rattle.std.proofs.lemmas.Bool.{cases_eq}
use Rattle.std.proofs.lemmas.List.{get_or_read, get_or-set_same, get_or-set_other}
use Rattle.sat_terms.specs.Literal.{has}
use Rattle.sat_terms.specs.Normal.{IsNormal}
use Rattle.clause_store.specs.Stored.{Stored, slot, slot_lits}
use Rattle.clause_store.specs.Listing.{times}
use Rattle.clause_store.specs.Lists.{Gains, occ_at}
use Rattle.clause_store.specs.Spots.{listed_lits, listed_lit, spots_of, spot, StandsAt, StandIn, AllListed}
use Rattle.clause_store.proofs.Counts.{gains_removed, times_at}
use Rattle.clause_store.proofs.Placing.{get_or-swap_remove_at}
use Rattle.clause_store.proofs.Table.{gains_less}
use Rattle.clause_store.proofs.Standing.{lit_once, listed_some, listed_same, listed_rising, cells_known, shorter, stands_kept, stands_moved}

-- the id at a place of the list of a literal is taken out
module _ (table : List (List ℕ)) (lit code place : ℕ) (old new : List ℕ) (same : code ≡ lit) (in' : place < length (occ_at table lit)) (read : old ≡ get_or table code old) (removed : (d : ℕ) → new ≡ swap_remove old place d) where
  code_in : code < length table
  code_in = let k = cells_known table lit place in' in omega (arith, k, same)

  old_is : old ≡ occ_at table lit
  old_is = get_or_read table code old code_in read [] ∙ ap (occ_at table) same

  taken_new : occ_at (set table code new) lit ≡ new
  taken_new = ap (occ_at (set table code new)) (sym same) ∙ get_or-set_same table code new [] code_in

  taken_here : occ_at (set table code new) lit ≡ swap_remove (occ_at table lit) place 0
  taken_here = taken_new ∙ removed 0 ∙ ap (λ z. swap_remove z place 0) old_is

  taken_others : (l : ℕ) → l ≢ lit → occ_at (set table code new) l ≡ occ_at table l
  taken_others l n = get_or-set_other table code l new [] (λ e. n (e ∙ same))

  long : length new ≡ length (occ_at table lit) - 1
  long = ap length (sym taken_new) ∙ shorter table (set table code new) lit place in' taken_here taken_others

  pub taken_gains : Gains (occ_at (set table code new) lit) (occ_at table lit) (get_or (occ_at table lit) place 0) 1
  taken_gains = rw taken_here (gains_removed (occ_at table lit) place (get_or (occ_at table lit) place 0) 0 in' refl 0)

  pub taken_kept : (spots : List (List ℕ)) (k i l : ℕ) → length new ≤ place → (l ≡ lit → k ≢ get_or (occ_at table lit) place 0) → StandsAt table spots k i l → StandsAt (set table code new) spots k i l
  taken_kept spots k i l last n h =
      stands_kept table (set table code new) lit place in' taken_here taken_others spots k i l (omega (arith, long, last)) n h

  -- the last id came there
  module _ (s : List (Option Stored)) (spots : List (List ℕ)) (normal : (k : ℕ) → IsNormal (slot_lits (slot s k))) (listed : AllListed s (occ_at table lit) lit) (stand : StandIn s table spots lit) (m : ℕ) (front : place < length new) (moved : m ≡ get_or new place 0) where
    ahead : place + 1 < length (occ_at table lit)
    ahead = omega (arith, long, front)

    moved_is : m ≡ get_or (occ_at (set table code new) lit) place 0
    moved_is = moved ∙ ap (λ z. get_or z place 0) (sym taken_new)

    from_last : m ≡ get_or (occ_at table lit) (length (occ_at table lit) - 1) 0
    from_last = moved_is ∙ ap (λ z. get_or z place 0) taken_here ∙ get_or-swap_remove_at (occ_at table lit) place 0 ahead

    held : has (listed_lits (slot s m)) lit ≡ true
    held =
        let last : length (occ_at table lit) - 1 < length (occ_at table lit) = omega (arith, ahead) in
        listed.listed m (subst (λ z. 0 < times (occ_at table lit) z) (sym from_last) (times_at (occ_at table lit) (length (occ_at table lit) - 1) last))

    pub moved_some : IsSome (slot s m)
    moved_some = listed_some (slot s m) lit held

    pub moved_rising : AllPairs (λ a b. a < b) (slot_lits (slot s m))
    moved_rising = (normal m).rising

    own : listed_lits (slot s m) ≡ slot_lits (slot s m)
    own = listed_same (slot s m) lit held

    pub moved_holds : has (slot_lits (slot s m)) lit ≡ true
    moved_holds = ap (λ z. has z lit) (sym own) ∙ held

    module _ (j : ℕ) (in-j : j < length (slot_lits (slot s m))) (at-j : get_or (slot_lits (slot s m)) j 0 ≡ lit) where
      in-listed : j < length (listed_lits (slot s m))
      in-listed = subst (λ z. j < length z) (sym own) in-j

      at-listed : listed_lit (slot s m) j ≡ lit
      at-listed = ap (λ z. get_or z j 0) own ∙ at-j

      pub moved_known : j < length (spots_of spots m)
      moved_known = (stand.stands m j in-listed at-listed).known

      pub moved_stands : (k i : ℕ) → i < length (listed_lits (slot s k)) → (listed_lit (slot s k) i ≡ lit → k ≢ get_or (occ_at table lit) place 0) → StandsAt table spots k i (listed_lit (slot s k) i)
          → StandsAt (set table code new) (set spots m (set (spots_of spots m) j place)) k i (listed_lit (slot s k) i)
      moved_stands = stands_moved table (set table code new) lit place in' taken_here taken_others s spots (set spots m (set (spots_of spots m) j place)) m j normal ahead moved_is in-listed at-listed moved_known refl

-- the id of a firm clause is taken out of the lists of its first i literals
module _ (s : List (Option Stored)) (table0 table spots : List (List ℕ)) (id i lit : ℕ) (lits : List ℕ) (lits-is : lits ≡ slot_lits (slot s id)) (firm : listed_lits (slot s id) ≡ slot_lits (slot s id))
    (normal : (k : ℕ) → IsNormal (slot_lits (slot s k))) (in' : i < length lits) (read : lit ≡ get_or lits i lit)
    (gone : (l : ℕ) → Gains (occ_at table l) (occ_at table0 l) id (times (take i lits) l))
    (stands : (k j : ℕ) → j < length (listed_lits (slot s k)) → (k ≡ id → i ≤ j) → StandsAt table spots k j (listed_lit (slot s k) j)) where
  text : listed_lits (slot s id) ≡ lits
  text = firm ∙ sym lits-is

  in-own : i < length (listed_lits (slot s id))
  in-own = subst (λ z. i < length z) (sym text) in'

  at-own : listed_lit (slot s id) i ≡ lit
  at-own = ap (λ z. get_or z i 0) text ∙ sym (get_or_read lits i lit in' read 0)

  pub next_stands : StandsAt table spots id i lit
  next_stands = subst (StandsAt table spots id i) at-own (stands id i in-own (λ e. omega arith))

  pub next_listed : AllListed s (occ_at table0 lit) lit → AllListed s (occ_at table lit) lit
  next_listed h = record {
    listed = λ k more. h.listed k (elim (cases_eq k id) [
      | inl e ↦ rw e (let m : 0 < times (occ_at table lit) id = rw e at more in omega (arith, (gone lit).here, m))
      | inr n ↦ omega (arith, (gone lit).others k n, more)
    ]);
  }

  -- the literal is at one place of the clause
  once : (j : ℕ) → j < length (listed_lits (slot s id)) → listed_lit (slot s id) j ≡ lit → i ≡ j
  once j in-j e = lit_once (listed_lits (slot s id)) i j (listed_rising (slot s id) (normal id)) in-own in-j (at-own ∙ sym e)

  pub next_stand : StandIn s table spots lit
  next_stand = record {
    stands = λ k j in-j e. subst (StandsAt table spots k j) e (stands k j in-j (λ q. let f = once j (subst (λ z. j < length (listed_lits (slot s z))) q in-j) (ap (λ z. listed_lit (slot s z) j) (sym q) ∙ e) in omega (arith, f)));
  }

  module _ (table' spots' : List (List ℕ)) (place : ℕ) (place-is : place ≡ spot spots id i) (here : Gains (occ_at table' lit) (occ_at table lit) (get_or (occ_at table lit) place 0) 1) (others : (l : ℕ) → l ≢ lit → occ_at table' l ≡ occ_at table l)
      (kept : (k j : ℕ) → j < length (listed_lits (slot s k)) → (listed_lit (slot s k) j ≡ lit → k ≢ get_or (occ_at table lit) place 0) → StandsAt table spots k j (listed_lit (slot s k) j) → StandsAt table' spots' k j (listed_lit (slot s k) j)) where
    there : get_or (occ_at table lit) place 0 ≡ id
    there = ap (λ z. get_or (occ_at table lit) z 0) place-is ∙ next_stands.there

    pub more_gone : (l : ℕ) → Gains (occ_at table' l) (occ_at table0 l) id (times (take (i + 1) lits) l)
    more_gone = gains_less table0 table table' lits i lit id in' read gone (rw there at here) others

    pub more_stand : (k j : ℕ) → j < length (listed_lits (slot s k)) → (k ≡ id → i + 1 ≤ j) → StandsAt table' spots' k j (listed_lit (slot s k) j)
    more_stand k j in-j later =
        kept k j in-j (λ e q. let k-is : k ≡ id = q ∙ there in let f = once j (subst (λ z. j < length (listed_lits (slot s z))) k-is in-j) (ap (λ z. listed_lit (slot s z) j) (sym k-is) ∙ e) in absurd (omega (arith, f, later k-is)))
        (stands k j in-j (λ e. omega (arith, later e)))

-- the cells of another clause were dropped
pub stands_same : (table spots spots' : List (List ℕ)) (k i l : ℕ) → spots_of spots' k ≡ spots_of spots k → StandsAt table spots k i l → StandsAt table spots' k i l
stands_same table spots spots' k i l e h = record { known = rw e h.known; within = rw e h.within; there = rw e h.there }
