-- Laws of the table of places beside the seen trail.
use Rattle.std.proofs.Common.{◌≡◌, ◌≢◌, ℕ, ◌+◌, ◌<◌, ◌≤◌, Bool, true, false, ◌||◌, eqb, List, [], ◌∷◌, ◌++◌, length, get_or, take, set, Some, None, inl, inr, refl, sym, ap, ◌∙◌, arith}
use Rattle.std.proofs.lemmas.Bool.{eqb-true, eqb-false, cases_eq, or_cases, or_left}
use Rattle.std.proofs.lemmas.List.{get_or_read, get_or_append_left, get_or_push, get_or-take, length-append, length-take-le, length-set}
use Rattle.sat_terms.specs.Limits.{max_var}
use Rattle.sat_terms.specs.Literal.{has}
use Rattle.flag_set.specs.Listed.{lists}
use Rattle.flag_set.specs.Work.{IsPlaced, number_at}
use Rattle.flag_set.proofs.Placing.{number_read, one_place, placed_push, lists_with, there}
use Rattle.user_propagator.specs.declared.seen.Seen.{Seen}
use Rattle.user_propagator.specs.Board.{entry, no_entry, seen_var, with_var, trail_place, IsSeenTrail}
use Rattle.user_propagator.specs.Noticing.{IsFront, AreNoticed}
use Rattle.user_propagator.proofs.Seeing.{place_some, place_none}

-- the entries of a list with one more, and of the front of one
entry_old : (seen : List Seen) (e : Seen) (k : ℕ) → k < length seen → entry (seen ++ e ∷ []) k ≡ entry seen k
entry_old seen e k in' = get_or_append_left seen (e ∷ []) no_entry k in'

entry_new : (seen : List Seen) (e : Seen) (k : ℕ) → k ≡ length seen → entry (seen ++ e ∷ []) k ≡ e
entry_new seen e k is = get_or_push seen e no_entry k (sym is)

longer : (seen : List Seen) (e : Seen) → length (seen ++ e ∷ []) ≡ length seen + 1
longer seen e = length-append seen (e ∷ [])

entry_front : (seen : List Seen) (n k : ℕ) → k < n → entry (take n seen) k ≡ entry seen k
entry_front seen n k lt = get_or-take n seen k no_entry lt

-- a variable's number by its entry
var_at : (seen : List Seen) (k : ℕ) → k < length seen → number_at seen_var seen k ≡ seen_var (entry seen k)
var_at seen k in' = number_read seen_var seen k no_entry in'

-- the observed variables with one more
pub has_with : (observed : List ℕ) (v x : ℕ) → has (with_var observed v) x ≡ (has observed x || eqb v x)
has_with observed v x = lists_with (λ n. n) observed v x

module _ (observed : List ℕ) (seen : List Seen) (places : List ℕ) (most level : ℕ) (h : AreNoticed observed seen places most level) where
  -- the shape of the seen trail
  pub shape_of : IsSeenTrail observed seen level
  shape_of = record {
    known = h.known;
    apart = λ i j a b e. one_place seen_var seen places most h.placed i j a b (var_at seen i a ∙ e ∙ sym (var_at seen j b));
    rising = h.rises.each;
    below = h.below;
    room = h.room;
  }

  -- the place that the table has, where a literal of the variable stands there
  pub place_here : (v p : ℕ) → p < length seen → seen_var (entry seen p) ≡ v → trail_place seen v ≡ Some p
  place_here v p in' is =
      place_some seen p v in' is (λ j lt e. absurd (
      let b : j < length seen = omega arith in
      let same = one_place seen_var seen places most h.placed j p b in' (var_at seen j b ∙ e ∙ sym is ∙ sym (var_at seen p in')) in
      omega arith))

  -- where another one stands there, the variable was not told
  pub place_nowhere : (v p : ℕ) → p ≡ get_or places v 0 → p < length seen → seen_var (entry seen p) ≢ v → trail_place seen v ≡ None
  place_nowhere v p read in' other =
      place_none seen v (sym (there seen_var seen places most h.placed v p read in') ∙ no (eqb (number_at seen_var seen p) v) (λ y. other (sym (var_at seen p in') ∙ eqb-true (number_at seen_var seen p) v y))) where
        no : (b : Bool) → (b ≡ true → ⊥) → b ≡ false
        no true f = absurd (f refl)
        no false f = refl

  -- both as the code reads them
  pub place_yes : (v p u : ℕ) (x : Seen) (b : Bool) → p < length seen → x ≡ get_or seen p x → u ≡ seen_var x → b ≡ eqb u v → b ≡ true → trail_place seen v ≡ Some p
  place_yes v p u x b in' read is test y =
      place_here v p in' (ap seen_var (sym (get_or_read seen p x in' read no_entry)) ∙ sym is ∙ eqb-true u v (sym test ∙ y))

  pub place_no : (v p u : ℕ) (x : Seen) (b : Bool) → p ≡ get_or places v 0 → p < length seen → x ≡ get_or seen p x → u ≡ seen_var x → b ≡ eqb u v → b ≡ false → trail_place seen v ≡ None
  place_no v p u x b table in' read is test n =
      place_nowhere v p table in' (λ e. eqb-false u v (sym test ∙ n) (is ∙ ap seen_var (get_or_read seen p x in' read no_entry) ∙ e))

  -- more room
  pub noticed_room : (places' : List ℕ) (most' : ℕ) → IsPlaced seen_var seen places' most' → length places ≤ length places' → AreNoticed observed seen places' most' level
  noticed_room places' most' placed more = record {
    placed = placed;
    rises = h.rises;
    below = h.below;
    known = h.known;
    wide = λ v y. let w = h.wide v y in omega arith;
    room = h.room;
  }

  -- one more variable
  pub noticed_watch : (v : ℕ) → v < length places → AreNoticed (with_var observed v) seen places most level
  noticed_watch v in' = record {
    placed = h.placed;
    rises = h.rises;
    below = h.below;
    known = λ k a. has_with observed v (seen_var (entry seen k)) ∙ or_left (has observed (seen_var (entry seen k))) (eqb v (seen_var (entry seen k))) (h.known k a);
    wide = λ x y. elim (or_cases (has observed x) (eqb v x) (sym (has_with observed v x) ∙ y)) [ inl a ↦ h.wide x a | inr b ↦ (let e = eqb-true v x b in omega arith) ];
    room = h.room;
  }

  -- one more literal
  pub noticed_put : (e : Seen) (n len most' : ℕ) → e.level ≡ level → has observed (seen_var e) ≡ true → lists seen_var seen n ≡ false → n ≡ seen_var e → len ≡ length seen → most ≤ most' → AreNoticed observed (seen ++ e ∷ []) (set places n len) most' level
  noticed_put e n len most' at known out same size more =
      let long = longer seen e in
      let below : (k : ℕ) → k < length (seen ++ e ∷ []) → (entry (seen ++ e ∷ []) k).level ≤ level =
      λ k a. elim (cases_eq k (length seen)) [
        | inl q ↦ rw (entry_new seen e k q) (omega arith)
        | inr d ↦ rw (entry_old seen e k (omega arith)) (h.below k (omega arith))
      ] in
      record {
        placed = placed_push seen_var seen places most h.placed e n len most' same size (let w = h.wide (seen_var e) known in omega arith) out more;
        rises = record {
          each = λ i j le a. elim (cases_eq j (length seen)) [
            | inl q ↦ (let z = below i (omega arith) in rw (entry_new seen e j q) (omega arith))
            | inr d ↦ rw (entry_old seen e j (omega arith), entry_old seen e i (omega arith)) (h.rises.each i j le (omega arith))
          ];
        };
        below = below;
        known = λ k a. elim (cases_eq k (length seen)) [
          | inl q ↦ rw (entry_new seen e k q) known
          | inr d ↦ rw (entry_old seen e k (omega arith)) (h.known k (omega arith))
        ];
        wide = λ v y. rw (length-set places n len) (h.wide v y);
        room = h.room;
      }

  -- a level is opened
  pub noticed_raise : level < max_var → AreNoticed observed seen places most (level + 1)
  noticed_raise lt = record {
    placed = h.placed;
    rises = h.rises;
    below = λ k a. let b = h.below k a in omega arith;
    known = h.known;
    wide = h.wide;
    room = omega arith;
  }

  -- the trail is cut back
  pub noticed_cut : (to n most' : ℕ) → to ≤ level → IsFront seen to n → most ≤ most' → AreNoticed observed (take n seen) places most' to
  noticed_cut to n most' le front more =
      let size : length (take n seen) ≡ n = length-take-le n seen front.within in
      let w = front.within in
      let there' : (k : ℕ) → k < n → number_at seen_var (take n seen) k ≡ number_at seen_var seen k =
      λ k a. var_at (take n seen) k (omega arith) ∙ ap seen_var (entry_front seen n k a) ∙ sym (var_at seen k (omega arith)) in
      record {
        placed = record {
          known = λ k a. rw (there' k (omega arith)) (h.placed.known k (omega arith));
          placed = λ k a. rw (there' k (omega arith)) (h.placed.placed k (omega arith));
          room = omega (arith, h.placed.room);
          few = h.placed.few;
        };
        rises = record { each = λ i j lt a. rw (entry_front seen n i (omega arith), entry_front seen n j (omega arith)) (h.rises.each i j lt (omega arith)) };
        below = λ k a. rw (entry_front seen n k (omega arith)) (front.low k (omega arith));
        known = λ k a. rw (entry_front seen n k (omega arith)) (h.known k (omega arith));
        wide = h.wide;
        room = omega (arith, h.room);
      }
