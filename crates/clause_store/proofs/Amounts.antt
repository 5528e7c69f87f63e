-- How many literals the clauses of an arena have, and that its array has room for them.
use Rattle.std.proofs.Common.{◌≡◌, ℕ, ◌+◌, ◌<◌, ◌≤◌, ◌^◌, List, [], ◌∷◌, ◌++◌, length, length-append, get_or, set, take, Option, Some, None, sym, ap, ◌∙◌, arith, false}
use Rattle.std.proofs.lemmas.List.Sums.{sum_by_push, sum_by_more, sum_by-take-le, sum_by-set}
use Rattle.clause_store.specs.declared.arena.Place.{Place}
use Rattle.clause_store.specs.declared.stored.Keep.{Keep}
use Rattle.clause_store.specs.declared.stored.Keep.TheVariants.{Redundant}
use Rattle.clause_store.specs.Stored.{Stored, slot_lits}
use Rattle.clause_store.specs.Placing.{slot_at, slots, literal_count, IsArranged}
use Rattle.clause_store.proofs.Arrays.{slots_length, slot_read, slots_set, slots_push, slots_grown, within_set, within_grown, known_within, new_within, appended_slots, new_place, new_slot}

-- the place of an id that names no clause
abbrev pub free_place : Place
free_place = record { start = 0; len = 0; glue = 0; keep = Redundant; live = false }

-- one clause more of those that are counted
pub amount_more : (w : List ℕ) (ps : List Place) (i : ℕ) (p : Place) → i < length ps → p ≡ get_or ps i p → literal_count (take (i + 1) (slots w ps)) ≡ literal_count (take i (slots w ps)) + length (slot_lits (slot_at w p))
amount_more w ps i p in' is =
    sum_by_more (λ x. length (slot_lits x)) (slots w ps) i None (rw slots_length in')
    ∙ ap (λ x. literal_count (take i (slots w ps)) + length (slot_lits x)) (slot_read w ps i p in' ∙ ap (slot_at w) (sym is))

pub amount_next : (w : List ℕ) (ps : List Place) (i : ℕ) (p : Place) → i < length ps → p ≡ get_or ps i p → literal_count (take i (slots w ps)) + length (slot_lits (slot_at w p)) ≤ literal_count (slots w ps)
amount_next w ps i p in' is =
    let more = amount_more w ps i p in' is in
    let le = sum_by-take-le (λ x. length (slot_lits x)) (slots w ps) (i + 1) in
    omega (arith, more, le)

-- a clause is taken out
pub amount_freed : (s : List (Option Stored)) (id : ℕ) → id < length s → literal_count (set s id None) ≤ literal_count s
amount_freed s id in' =
    let e = sum_by-set (λ x. length (slot_lits x)) s id None None in' in
    omega (arith, e)

pub arranged_freed : (w : List ℕ) (ps : List Place) (id : ℕ) → IsArranged w ps → id < length ps → IsArranged w (set ps id free_place)
arranged_freed w ps id h in' =
    let fewer = amount_freed (slots w ps) id (rw slots_length in') in
    record {
      within = within_set w ps id free_place (omega arith) h.within;
      room = rw (slots_set w ps id free_place) (omega (arith, fewer, h.room));
      short = h.short;
    }

-- the array has become longer
pub arranged_grown : (w l v : List ℕ) (ps : List Place) → v ≡ w ++ l → IsArranged w ps → length v < 2 ^ 32 → IsArranged v ps
arranged_grown w l v ps e h short =
    let more : length v ≡ length w + length l = ap length e ∙ length-append w l in
    record {
      within = rw e (within_grown w l ps h.within);
      room = rw (e, slots_grown w l ps h.within) (omega (arith, ap length (sym e), more, h.room));
      short = short;
    }

-- a clause was appended to the array, and its place put into the table or behind it
module _ (w l v : List ℕ) (ps : List Place) (n id : ℕ) (k : Keep) (g : ℕ) (appended : v ≡ w ++ l) (start : n ≡ length w) (h : IsArranged w ps) (short : length v < 2 ^ 32) where
  abbrev place : Place
  place = new_place w l v ps n id k g appended start h.within

  abbrev clause : Option Stored
  clause = Some (record { lits = l; keep = k; glue = g })

  more : length v ≡ length w + length l
  more = ap length appended ∙ length-append w l

  at : slot_at v place ≡ clause
  at = new_slot w l v ps n id k g appended start h.within

  before : slots v ps ≡ slots w ps
  before = appended_slots w l v ps n id k g appended start h.within

  pub arranged_known : id < length ps → IsArranged v (set ps id place)
  arranged_known in' =
      let sum = sum_by-set (λ x. length (slot_lits x)) (slots w ps) id clause None (rw slots_length in') in
      record {
        within = known_within w l v ps n id k g appended start h.within;
        room = rw (slots_set v ps id place, before, at) (omega (arith, sum, more, h.room));
        short = short;
      }

  pub arranged_new : IsArranged v (ps ++ place ∷ [])
  arranged_new =
      let sum = sum_by_push (λ x. length (slot_lits x)) (slots w ps) clause in
      record {
        within = new_within w l v ps n id k g appended start h.within;
        room = rw (slots_push v ps place, before, at) (omega (arith, sum, more, h.room));
        short = short;
      }
