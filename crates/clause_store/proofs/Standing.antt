-- Laws of ids that stand in the lists of literals.
use Rattle.std.proofs.Common.{◌≡◌, ◌≢◌, ℕ, ◌+◌, ◌-◌, ◌<◌, ◌≤◌, Bool, true, false, cond, List, [], length, length-set, get_or, set, Option, Some, None, inl, inr, refl, sym, ap, ◌∙◌, subst, arith}
use Rattle.std.specs.Prelude.{IsSome}
use Rattle.std.specs.List.{swap_remove, AllPairs}
use Rattle.std.proofs.lemmas.Bool.{cases_eq, cases_lt, false≢true}
use Rattle.std.proofs.lemmas.List.{get_or_past, get_or-set_same, get_or-set_other, length-take-le}
use Rattle.sat_terms.specs.Literal.{has}
use Rattle.sat_terms.specs.Normal.{IsNormal}
use Rattle.clause_store.specs.Stored.{Stored, slot, slot_lits, is_firm}
use Rattle.clause_store.specs.Listing.{times}
use Rattle.clause_store.specs.Lists.{occ_at}
use Rattle.clause_store.specs.Spots.{listed_lits, listed_lit, spots_of, spot, StandsAt}
use Rattle.clause_store.proofs.Counts.{times_place, times-rising}
use Rattle.clause_store.proofs.Placing.{get_or-swap_remove, get_or-swap_remove_at}

-- in a clause that rises a literal stands at one place
pub lit_once : (c : List ℕ) (i j : ℕ) → AllPairs (λ a b. a < b) c → i < length c → j < length c → get_or c i 0 ≡ get_or c j 0 → i ≡ j
lit_once c i j h in-i in-j e =
    elim (cases_lt i j) [
      | inl lt ↦ absurd (omega (arith, h i j 0 lt in-j, e))
      | inr ge ↦ elim (cases_lt j i) [ inl lt ↦ absurd (omega (arith, h j i 0 lt in-i, e)) | inr le ↦ omega arith ]
    ]

pub record PlaceOf (c : List ℕ) (l : ℕ) : Type 0 where
  pub place : ℕ
  pub within : place < length c
  pub there : get_or c place 0 ≡ l

pub lit_place : (c : List ℕ) (l : ℕ) → AllPairs (λ a b. a < b) c → has c l ≡ true → PlaceOf c l
lit_place c l h held =
    let one : times c l ≡ 1 = times-rising c l h ∙ ap (λ b. cond b 1 0) held in
    let at = times_place c l (omega (arith, one)) in
    record { place = at.0; within = at.1; there = at.2 }

-- the place that a search by halves ends at
pub found_low : (c : List ℕ) (l low : ℕ) → AllPairs (λ a b. a < b) c → has c l ≡ true → ((k : ℕ) → k < low → get_or c k 0 < l) → ((k : ℕ) → low ≤ k → k < length c → l ≤ get_or c k 0) → (low < length c) × (get_or c low 0 ≡ l)
found_low c l low h held below above =
    let at = lit_place c l h held in
    elim (cases_lt at.place low) [
      | inl lt ↦ absurd (omega (arith, below at.place lt, at.there))
      | inr ge ↦
          let in' : low < length c = omega (arith, ge, at.within) in (
            in',
            elim (cases_eq low at.place) [
              | inl e ↦ ap (λ k. get_or c k 0) e ∙ at.there
              | inr n ↦ absurd (omega (arith, h low at.place 0 (omega (arith, ge, n)) at.within, above low (omega arith) in', at.there))
            ],
          )
    ]

-- the literals of a clause that stands in a list
pub listed_some : (x : Option Stored) (l : ℕ) → has (listed_lits x) l ≡ true → IsSome x
listed_some None l h = absurd (false≢true h)
listed_some (Some c) l h = refl

pub listed_same : (x : Option Stored) (l : ℕ) → has (listed_lits x) l ≡ true → listed_lits x ≡ slot_lits x
listed_same x l h = go (is_firm x) (slot_lits x) h where
  go : (b : Bool) (c : List ℕ) → has (cond b c []) l ≡ true → cond b c [] ≡ c
  go true c h = refl
  go false c h = absurd (false≢true h)

pub listed_rising : (x : Option Stored) → IsNormal (slot_lits x) → AllPairs (λ a b. a < b) (listed_lits x)
listed_rising x h = go (is_firm x) (slot_lits x) h.rising where
  go : (b : Bool) (c : List ℕ) → AllPairs (λ a b. a < b) c → AllPairs (λ a b. a < b) (cond b c [])
  go true c h = h
  go false c h = λ i j d lt in'. absurd (omega arith)

-- a clause that has a cell is in the table
pub cells_known : (spots : List (List ℕ)) (m j : ℕ) → j < length (spots_of spots m) → m < length spots
cells_known spots m j in' =
    elim (cases_lt m (length spots)) [
      | inl lt ↦ lt
      | inr ge ↦ let none : spots_of spots m ≡ [] = get_or_past spots m [] ge in absurd (omega (arith, rw none at in'))
    ]

-- the id at a place of the list of a literal was taken out, and the last one came there
module _ (table table' : List (List ℕ)) (lit place : ℕ) (in' : place < length (occ_at table lit)) (here : occ_at table' lit ≡ swap_remove (occ_at table lit) place 0)
    (others : (l : ℕ) → l ≢ lit → occ_at table' l ≡ occ_at table l) where
  abbrev pub gone_from : ℕ
  gone_from = get_or (occ_at table lit) place 0

  pub shorter : length (occ_at table' lit) ≡ length (occ_at table lit) - 1
  shorter =
      let xs = occ_at table lit in
      let full : length (set xs place (get_or xs (length xs - 1) 0)) ≡ length xs = length-set xs place (get_or xs (length xs - 1) 0) in
      ap length here ∙ length-take-le (length xs - 1) (set xs place (get_or xs (length xs - 1) 0)) (omega (arith, full))

  -- an id that stands neither there nor at the end
  stays : (spots spots' : List (List ℕ)) (k i : ℕ) → StandsAt table spots k i lit → length (spots_of spots' k) ≡ length (spots_of spots k) → spot spots' k i ≡ spot spots k i → spot spots k i ≢ place → spot spots k i + 1 ≢ length (occ_at table lit) → StandsAt table' spots' k i lit
  stays spots spots' k i h long same apart front = record {
    known = rw long h.known;
    within = rw same (omega (arith, shorter, h.within, front));
    there = rw same (ap (λ z. get_or z (spot spots k i) 0) here ∙ get_or-swap_remove (occ_at table lit) place (spot spots k i) 0 in' (omega (arith, h.within, front)) apart ∙ h.there);
  }

  not_there : (spots : List (List ℕ)) (k i : ℕ) → StandsAt table spots k i lit → k ≢ gone_from → spot spots k i ≢ place
  not_there spots k i h n = λ e. n (sym h.there ∙ ap (λ q. get_or (occ_at table lit) q 0) e)

  -- one that stands in another list
  elsewhere : (spots spots' : List (List ℕ)) (k i l : ℕ) → l ≢ lit → StandsAt table spots k i l → length (spots_of spots' k) ≡ length (spots_of spots k) → spot spots' k i ≡ spot spots k i → StandsAt table' spots' k i l
  elsewhere spots spots' k i l n h long same = record {
    known = rw long h.known;
    within = rw (same, others l n) h.within;
    there = rw (same, others l n) h.there;
  }

  -- it was the last one: all others stand where they did
  pub stands_kept : (spots : List (List ℕ)) (k i l : ℕ) → place + 1 ≡ length (occ_at table lit) → (l ≡ lit → k ≢ gone_from) → StandsAt table spots k i l → StandsAt table' spots k i l
  stands_kept spots k i l last n h =
      elim (cases_eq l lit) [
        | inl e ↦
            let h' = subst (StandsAt table spots k i) e h in
            let apart = not_there spots k i h' (n e) in
            subst (StandsAt table' spots k i) (sym e) (stays spots spots k i h' refl refl apart (λ q. apart (omega (arith, q, last))))
        | inr ne ↦ elsewhere spots spots k i l ne h refl refl
      ]

  -- the last one came there, and its cell says so
  module _ (s : List (Option Stored)) (spots spots' : List (List ℕ)) (m j : ℕ) (normal : (k : ℕ) → IsNormal (slot_lits (slot s k))) (front : place + 1 < length (occ_at table lit)) (moved : m ≡ get_or (occ_at table' lit) place 0)
      (in-j : j < length (listed_lits (slot s m))) (at-j : listed_lit (slot s m) j ≡ lit) (known : j < length (spots_of spots m)) (mended : spots' ≡ set spots m (set (spots_of spots m) j place)) where
    mine : spots_of spots' m ≡ set (spots_of spots m) j place
    mine = ap (λ z. spots_of z m) mended ∙ get_or-set_same spots m (set (spots_of spots m) j place) [] (cells_known spots m j known)

    theirs : (k : ℕ) → k ≢ m → spots_of spots' k ≡ spots_of spots k
    theirs k n = ap (λ z. spots_of z k) mended ∙ get_or-set_other spots m k (set (spots_of spots m) j place) [] n

    from_last : m ≡ get_or (occ_at table lit) (length (occ_at table lit) - 1) 0
    from_last = moved ∙ ap (λ z. get_or z place 0) here ∙ get_or-swap_remove_at (occ_at table lit) place 0 front

    arrives : StandsAt table' spots' m j lit
    arrives =
        let long : length (set (spots_of spots m) j place) ≡ length (spots_of spots m) = length-set (spots_of spots m) j place in
        let at : spot spots' m j ≡ place = ap (λ z. get_or z j 0) mine ∙ get_or-set_same (spots_of spots m) j place 0 known in
        record {
          known = rw (mine, long) known;
          within = rw at (omega (arith, shorter, front));
          there = rw at (sym moved);
        }

    pub stands_moved : (k i : ℕ) → i < length (listed_lits (slot s k)) → (listed_lit (slot s k) i ≡ lit → k ≢ gone_from) → StandsAt table spots k i (listed_lit (slot s k) i) → StandsAt table' spots' k i (listed_lit (slot s k) i)
    stands_moved k i in-i n h =
        elim (cases_eq k m) [
          | inl e ↦ subst (λ z. i < length (listed_lits (slot s z)) → StandsAt table spots z i (listed_lit (slot s z) i) → StandsAt table' spots' z i (listed_lit (slot s z) i)) (sym e) same in-i h
          | inr ne ↦
              let long = ap length (theirs k ne) in
              let at = ap (λ z. get_or z i 0) (theirs k ne) in
              elim (cases_eq (listed_lit (slot s k) i) lit) [
                | inl e ↦
                    let h' = subst (StandsAt table spots k i) e h in
                    subst (StandsAt table' spots' k i) (sym e) (stays spots spots' k i h' long at (not_there spots k i h' (n e)) (λ q. ne (sym h'.there ∙ ap (λ z. get_or (occ_at table lit) z 0) (let z : spot spots k i ≡ length (occ_at table lit) - 1 = omega (arith, q) in z) ∙ sym from_last)))
                | inr e ↦ elsewhere spots spots' k i (listed_lit (slot s k) i) e h long at
              ]
        ]
      where
        same : i < length (listed_lits (slot s m)) → StandsAt table spots m i (listed_lit (slot s m) i) → StandsAt table' spots' m i (listed_lit (slot s m) i)
        same in-m h =
            elim (cases_eq i j) [
              | inl e ↦ rw (e, at-j) arrives
              | inr ne ↦
                  let other : listed_lit (slot s m) i ≢ lit = λ q. ne (lit_once (listed_lits (slot s m)) i j (listed_rising (slot s m) (normal m)) in-m in-j (q ∙ sym at-j)) in
                  elsewhere spots spots' m i (listed_lit (slot s m) i) other h (ap length mine ∙ length-set (spots_of spots m) j place) (ap (λ z. get_or z i 0) mine ∙ get_or-set_other (spots_of spots m) j i place 0 ne)
            ]
