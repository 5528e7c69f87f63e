-- Laws of clauses that lie in one array.
use Rattle.std.proofs.Common.{◌≡◌, ℕ, suc, zero, ◌+◌, ◌-◌, ◌<◌, ◌≤◌, Bool, true, false, cond, List, [], ◌∷◌, ◌++◌, length, get_or, set, take, drop, inl, inr, refl, sym, ap, ◌∙◌, subst, arith, Option, Some, None}
use Rattle.std.specs.Prelude.{IsSome, is_some}
use Rattle.std.proofs.lemmas.Bool.{false≢true, cases_lt}
use Rattle.std.proofs.lemmas.List.{get_or_append_left, get_or_push, get_or-set_same, get_or-set_other, length_push, get_or_past, take_all, take-append-le, drop-append-le, length-drop, length-append, take_more, length-take-le}
use Rattle.clause_store.specs.declared.arena.Place.{Place}
use Rattle.clause_store.specs.declared.stored.Keep.{Keep}
use Rattle.clause_store.specs.declared.stored.Keep.TheVariants.{Redundant}
use Rattle.clause_store.specs.Stored.{Stored, slot, slot_lits, slot_keep, slot_glue, Fills, Frees}
use Rattle.clause_store.specs.Placing.{clause_at, slot_at, slots, IsWithin, AllWithin}

pub slots_length : (w : List ℕ) (ps : List Place) → length (slots w ps) ≡ length ps
slots_length w [] = refl
slots_length w (p ∷ ps) = let r = slots_length w ps in omega arith

pub slot_read : (w : List ℕ) (ps : List Place) (i : ℕ) (d : Place) → i < length ps → slot (slots w ps) i ≡ slot_at w (get_or ps i d)
slot_read w [] i d in' = absurd (omega arith)
slot_read w (p ∷ ps) zero d in' = refl
slot_read w (p ∷ ps) (suc i) d in' = slot_read w ps i d (omega arith)

pub slot_known : (w : List ℕ) (ps : List Place) (i : ℕ) → IsSome (slot (slots w ps) i) → i < length ps
slot_known w [] i h = absurd (false≢true h)
slot_known w (p ∷ ps) zero h = omega arith
slot_known w (p ∷ ps) (suc i) h = let r = slot_known w ps i h in omega arith

pub slot_past : (w : List ℕ) (ps : List Place) (i : ℕ) → length ps ≤ i → slot (slots w ps) i ≡ None
slot_past w ps i past = get_or_past (slots w ps) i None (rw slots_length past)

live_from : (w : List ℕ) (p : Place) → IsSome (slot_at w p) → p.live ≡ true
live_from w p h = go p.live (clause_at w p) h where
  go : (b : Bool) (c : Stored) → IsSome (cond b (Some c) None) → b ≡ true
  go true c h = refl
  go false c h = absurd (false≢true h)

-- what an id names, by the place that the code reads
pub named : (w : List ℕ) (ps : List Place) (i : ℕ) (p : Place) → p ≡ get_or ps i p → IsSome (slot (slots w ps) i) → slot (slots w ps) i ≡ Some (clause_at w p)
named w ps i p is h =
    let in' = slot_known w ps i h in
    let e : slot (slots w ps) i ≡ slot_at w p = slot_read w ps i p in' ∙ ap (slot_at w) (sym is) in
    let l = live_from w p (subst (λ z. IsSome z) e h) in
    e ∙ rw l refl

pub lits_read : (w : List ℕ) (ps : List Place) (i : ℕ) (p : Place) → p ≡ get_or ps i p → IsSome (slot (slots w ps) i) → take p.len (drop p.start w) ≡ slot_lits (slot (slots w ps) i)
lits_read w ps i p is h = rw (named w ps i p is h) refl

pub keep_read : (w : List ℕ) (ps : List Place) (i : ℕ) (p : Place) → p ≡ get_or ps i p → IsSome (slot (slots w ps) i) → p.keep ≡ slot_keep (slot (slots w ps) i)
keep_read w ps i p is h = rw (named w ps i p is h) refl

pub glue_read : (w : List ℕ) (ps : List Place) (i : ℕ) (p : Place) → p ≡ get_or ps i p → IsSome (slot (slots w ps) i) → p.glue ≡ slot_glue (slot (slots w ps) i)
glue_read w ps i p is h = rw (named w ps i p is h) refl

pub live_read : (w : List ℕ) (ps : List Place) (i : ℕ) (p : Place) → i < length ps → p ≡ get_or ps i p → p.live ≡ is_some (slot (slots w ps) i)
live_read w ps i p in' is = sym (ap is_some (slot_read w ps i p in' ∙ ap (slot_at w) (sym is)) ∙ go p.live (clause_at w p)) where
  go : (b : Bool) (c : Stored) → is_some (cond b (Some c) None) ≡ b
  go true c = refl
  go false c = refl

pub dead_slot : (w : List ℕ) (ps : List Place) (i : ℕ) (p : Place) → i < length ps → p ≡ get_or ps i p → p.live ≡ false → slot (slots w ps) i ≡ None
dead_slot w ps i p in' is dead = slot_read w ps i p in' ∙ ap (slot_at w) (sym is) ∙ rw dead refl

pub within_read : (w : List ℕ) (ps : List Place) (i : ℕ) (p : Place) → AllWithin w ps → i < length ps → p ≡ get_or ps i p → p.start + p.len ≤ length w
within_read w ps i p all in' is = subst (λ (z : Place). z.start + z.len ≤ length w) (sym is) (go ps i all in') where
  go : (ps : List Place) (i : ℕ) → AllWithin w ps → i < length ps → (get_or ps i p).start + (get_or ps i p).len ≤ length w
  go [] i all in' = absurd (omega arith)
  go (q ∷ ps) zero all in' = all.0
  go (q ∷ ps) (suc i) all in' = go ps i all.1 (omega arith)

pub slots_set : (w : List ℕ) (ps : List Place) (i : ℕ) (p : Place) → slots w (set ps i p) ≡ set (slots w ps) i (slot_at w p)
slots_set w [] i p = refl
slots_set w (q ∷ ps) zero p = refl
slots_set w (q ∷ ps) (suc i) p = ap (λ z. slot_at w q ∷ z) (slots_set w ps i p)

pub within_set : (w : List ℕ) (ps : List Place) (i : ℕ) (p : Place) → IsWithin w p → AllWithin w ps → AllWithin w (set ps i p)
within_set w [] i p h all = all
within_set w (q ∷ ps) zero p h all = (h, all.1)
within_set w (q ∷ ps) (suc i) p h all = (all.0, within_set w ps i p h all.1)

-- a longer array
grown_at : (w l : List ℕ) (p : Place) → IsWithin w p → slot_at (w ++ l) p ≡ slot_at w p
grown_at w l p h =
    let a = drop-append-le p.start w l (omega arith) in
    let b = take-append-le p.len (drop p.start w) l (let d = length-drop p.start w in omega arith) in
    ap (λ c. cond p.live (Some c) None) (ap (λ z. record { lits = z; keep = p.keep; glue = p.glue }) (ap (take p.len) a ∙ b))

pub slots_grown : (w l : List ℕ) (ps : List Place) → AllWithin w ps → slots (w ++ l) ps ≡ slots w ps
slots_grown w l [] all = refl
slots_grown w l (p ∷ ps) all = rw (grown_at w l p all.0, slots_grown w l ps all.1) refl

pub within_grown : (w l : List ℕ) (ps : List Place) → AllWithin w ps → AllWithin (w ++ l) ps
within_grown w l [] all = tt
within_grown w l (p ∷ ps) all = let h = all.0 in (rw length-append (omega arith), within_grown w l ps all.1)

-- the clause that was appended
pub new_at : (w l : List ℕ) (k : Keep) (g : ℕ) → slot_at (w ++ l) (record { start = length w; len = length l; glue = g; keep = k; live = true }) ≡ Some (record { lits = l; keep = k; glue = g })
new_at w l k g = ap (λ z. Some (record { lits = z; keep = k; glue = g })) (ap (take (length l)) (go w l) ∙ take_all (length l) l (omega arith)) where
  go : (w l : List ℕ) → drop (length w) (w ++ l) ≡ l
  go [] l = refl
  go (x ∷ w) l = go w l

pub slots_push : (w : List ℕ) (ps : List Place) (p : Place) → slots w (ps ++ p ∷ []) ≡ slots w ps ++ slot_at w p ∷ []
slots_push w [] p = refl
slots_push w (q ∷ ps) p = ap (λ z. slot_at w q ∷ z) (slots_push w ps p)

pub within_push : (w : List ℕ) (ps : List Place) (p : Place) → IsWithin w p → AllWithin w ps → AllWithin w (ps ++ p ∷ [])
within_push w [] p h all = (h, tt)
within_push w (q ∷ ps) p h all = (all.0, within_push w ps p h all.1)

-- a clause at an id that named nothing, in the table and next to it
filled_set : (s : List (Option Stored)) (id : ℕ) (c : Stored) → slot s id ≡ None → id < length s → Fills s (set s id (Some c)) id c
filled_set s id c free in' = record {
  free = free;
  filled = get_or-set_same s id (Some c) None in';
  others = λ j n. get_or-set_other s id j (Some c) None n;
}

filled_end : (s : List (Option Stored)) (id : ℕ) (c : Stored) → slot s id ≡ None → id ≡ length s → Fills s (s ++ Some c ∷ []) id c
filled_end s id c free end = record {
  free = free;
  filled = get_or_push s (Some c) None id (sym end);
  others = λ j n.
      elim (cases_lt j (length s)) [
        | inl lt ↦ get_or_append_left s (Some c ∷ []) None j lt
        | inr ge ↦
            let a = get_or_past s j None ge in
            let l : length (s ++ Some c ∷ []) ≡ length s + 1 = length_push s (Some c) in
            let b = get_or_past (s ++ Some c ∷ []) j None (omega (arith, l, end, n)) in
            b ∙ sym a
      ];
}

pub freed_set : (s : List (Option Stored)) (id : ℕ) → id < length s → Frees s (set s id None) id
freed_set s id in' = record {
  freed = get_or-set_same s id None None in';
  others = λ j n. get_or-set_other s id j None None n;
}

pub part_read : (xs w : List ℕ) (from len : ℕ) → xs ≡ w → take (from + len - from) (drop from xs) ≡ take len (drop from w)
part_read xs w from len e =
    let n : from + len - from ≡ len = omega arith in
    ap (λ z. take z (drop from xs)) n ∙ ap (λ z. take len (drop from z)) e

-- as the code reads it: the array `v` after the clause was appended, and the place that starts at n
module _ (w l v : List ℕ) (ps : List Place) (n id : ℕ) (k : Keep) (g : ℕ) (appended : v ≡ w ++ l) (start : n ≡ length w) (all : AllWithin w ps) where
  abbrev pub new_place : Place
  new_place = record { start = n; len = length l; glue = g; keep = k; live = true }

  abbrev pub new_clause : Stored
  new_clause = record { lits = l; keep = k; glue = g }

  pub appended_within : AllWithin v ps
  appended_within = rw appended (within_grown w l ps all)

  pub appended_slots : slots v ps ≡ slots w ps
  appended_slots = rw appended (slots_grown w l ps all)

  place_within : IsWithin v new_place
  place_within = let e = ap length appended in let f = length-append w l in omega arith

  pub new_slot : slot_at v new_place ≡ Some new_clause
  new_slot = rw (appended, start) (new_at w l k g)

  pub known_within : AllWithin v (set ps id new_place)
  known_within = within_set v ps id new_place place_within appended_within

  pub new_within : AllWithin v (ps ++ new_place ∷ [])
  new_within = within_push v ps new_place place_within appended_within

  pub known_fills : id < length ps → slot (slots w ps) id ≡ None → Fills (slots w ps) (slots v (set ps id new_place)) id new_clause
  known_fills in' free =
      rw (slots_set v ps id new_place, appended_slots, new_slot) (filled_set (slots w ps) id new_clause free (rw slots_length in'))

  pub new_fills : id ≡ length ps → slot (slots w ps) id ≡ None → Fills (slots w ps) (slots v (ps ++ new_place ∷ [])) id new_clause
  new_fills e free =
      rw (slots_push v ps new_place, appended_slots, new_slot) (filled_end (slots w ps) id new_clause free (e ∙ sym (slots_length w ps)))

pub copied_dead : (w from : List ℕ) (ps ps' : List Place) (p : Place) → p.live ≡ false → ps' ≡ ps ++ record { start = 0; len = 0; glue = 0; keep = Redundant; live = false } ∷ [] → slots w ps' ≡ slots w ps ++ slot_at from p ∷ []
copied_dead w from ps ps' p dead e = ap (slots w) e ∙ slots_push w ps (record { start = 0; len = 0; glue = 0; keep = Redundant; live = false }) ∙ rw dead refl

module _ (w v from : List ℕ) (ps ps' : List Place) (p : Place) (n : ℕ) (live : p.live ≡ true) (fits : IsWithin from p) (copied : v ≡ w ++ take (p.start + p.len - p.start) (drop p.start from)) (start : n ≡ length w)
    (pushed : ps' ≡ ps ++ record { start = n; len = p.len; glue = p.glue; keep = p.keep; live = true } ∷ []) (all : AllWithin w ps) where
  clause_is : take (p.start + p.len - p.start) (drop p.start from) ≡ take p.len (drop p.start from)
  clause_is = part_read from from p.start p.len refl

  clause_length : length (take (p.start + p.len - p.start) (drop p.start from)) ≡ p.len
  clause_length = ap length clause_is ∙ length-take-le p.len (drop p.start from) (let d = length-drop p.start from in let f : p.start + p.len ≤ length from = fits in omega arith)

  pub copied_within : AllWithin v ps'
  copied_within = let a = ap length copied in let b = length-append w (take (p.start + p.len - p.start) (drop p.start from)) in let c = clause_length in
      rw pushed (within_push v ps (record { start = n; len = p.len; glue = p.glue; keep = p.keep; live = true }) (omega arith) (rw copied (within_grown w (take (p.start + p.len - p.start) (drop p.start from)) ps all)))

  pub copied_live : slots v ps' ≡ slots w ps ++ slot_at from p ∷ []
  copied_live =
      let c = take (p.start + p.len - p.start) (drop p.start from) in
      ap (slots v) pushed ∙ slots_push v ps (record { start = n; len = p.len; glue = p.glue; keep = p.keep; live = true })
      ∙ ap (λ z. z ++ slot_at v (record { start = n; len = p.len; glue = p.glue; keep = p.keep; live = true }) ∷ []) (ap (λ z. slots z ps) copied ∙ slots_grown w c ps all)
      ∙ ap (λ z. slots w ps ++ z ∷ []) (ap (λ z. slot_at z (record { start = n; len = p.len; glue = p.glue; keep = p.keep; live = true })) copied ∙ ap (λ z. slot_at (w ++ c) (record { start = z; len = p.len; glue = p.glue; keep = p.keep; live = true })) start
      ∙ ap (λ z. slot_at (w ++ c) (record { start = length w; len = z; glue = p.glue; keep = p.keep; live = true })) (sym clause_length) ∙ new_at w c p.keep p.glue ∙ ap (λ z. Some (record { lits = z; keep = p.keep; glue = p.glue })) clause_is ∙ sym (rw live refl))

-- one place more is copied
pub copied_more : (w v from : List ℕ) (ps qs qs' : List Place) (i : ℕ) (p : Place) → i < length ps → p ≡ get_or ps i p → slots w qs ≡ take i (slots from ps) → slots v qs' ≡ slots w qs ++ slot_at from p ∷ [] → slots v qs' ≡ take (i + 1) (slots from ps)
copied_more w v from ps qs qs' i p in' is before more =
    more ∙ ap (λ z. z ++ slot_at from p ∷ []) before
    ∙ ap (λ z. take i (slots from ps) ++ z ∷ []) (sym (slot_read from ps i p in' ∙ ap (slot_at from) (sym is)))
    ∙ sym (take_more (slots from ps) i None (rw slots_length in'))
