-- How what the propagator remembers keeps step with the seen trail, and what it may then say.
use Rattle.std.proofs.Common.{ℕ, ◌≡◌, ◌≤◌, ◌&&◌, Bool, true, false, not, eqb, leb, List, [], ◌∷◌, ◌++◌, take, Option, Some, None, inl, inr, refl, sym, ap, arith}
use Rattle.std.specs.Prelude.{is_some}
use Rattle.std.specs.List.{list_all}
use Rattle.std.proofs.lemmas.Bool.{and_parts, and_from, or_cases, or_left, or_right, cases_Bool, eq-eqb, eqb-true, leb-true, le-leb, leb-false, false≢true}
use Rattle.sat_terms.specs.Literal.{pos_lit}
use Rattle.user_propagator.specs.declared.seen.Seen.{Seen}
use Rattle.user_propagator.specs.Board.{Board, SeenTrail, trail_of, trail_value}
use Rattle.user_propagator.specs.Meaning.{put_on, cut_to, CanPut}
use Rattle.user_propagator.proofs.Lawful.{value_stays}
use Rattle.group_propagator.specs.Group.{is_true_member, is_false, none_true, leads, is_settled, follows, kept_at}
use Rattle.group_propagator.proofs.Leading.{chosen_put, chosen_stays, chosen_gone, chosen_kept, none_put, all_filter}

pub is_false_some : (r : Option Bool) → is_false r ≡ true → r ≡ Some false
is_false_some None h = absurd (false≢true h)
is_false_some (Some true) h = absurd (false≢true h)
is_false_some (Some false) h = refl

-- what the propagator remembers, as facts
pub record IsFree (group : List ℕ) (level : ℕ) (t : SeenTrail) : Type 0 where
  pub at : t.level ≡ level
  pub none : none_true group t.seen ≡ true

pub record IsLed (group : List ℕ) (c : Seen) (passed level : ℕ) (t : SeenTrail) : Type 0 where
  pub at : t.level ≡ level
  pub low : c.level ≤ level
  pub leads : leads group c t.seen ≡ true
  pub settled : list_all (is_settled t.seen c.lit) (take passed group) ≡ true

module _ (group : List ℕ) where
  pub is_free : (passed level : ℕ) (t : SeenTrail) → follows group None passed level t ≡ true → IsFree group level t
  is_free passed level t h =
      let a = and_parts (eqb t.level level) (none_true group t.seen) h in
      record { at = eqb-true t.level level a.0; none = a.1 }

  pub from_free : (passed level : ℕ) (t : SeenTrail) → IsFree group level t → follows group None passed level t ≡ true
  from_free passed level t h = rw (eq-eqb t.level level h.at) h.none

  pub is_led : (c : Seen) (passed level : ℕ) (t : SeenTrail) → follows group (Some c) passed level t ≡ true → IsLed group c passed level t
  is_led c passed level t h =
      let settled : Bool = list_all (is_settled t.seen c.lit) (take passed group) in
      let a = and_parts (eqb t.level level && leb c.level level) (leads group c t.seen && settled) h in
      let b = and_parts (eqb t.level level) (leb c.level level) a.0 in
      let d = and_parts (leads group c t.seen) settled a.1 in
      record { at = eqb-true t.level level b.0; low = leb-true c.level level b.1; leads = d.0; settled = d.1 }

  pub from_led : (c : Seen) (passed level : ℕ) (t : SeenTrail) → IsLed group c passed level t → follows group (Some c) passed level t ≡ true
  from_led c passed level t h = rw (eq-eqb t.level level h.at, le-leb c.level level h.low, h.leads) h.settled

  pub led_follows : (chosen : Option Seen) (c : Seen) (passed level : ℕ) (t : SeenTrail) → chosen ≡ Some c → IsLed group c passed level t → follows group chosen passed level t ≡ true
  led_follows chosen c passed level t is h = rw is (from_led c passed level t h)

  -- what is settled stays so
  settled_stays : (c : Seen) (seen more : List Seen) (xs : List ℕ) → list_all (is_settled seen c.lit) xs ≡ true → list_all (is_settled (seen ++ more) c.lit) xs ≡ true
  settled_stays c seen more [] h = refl
  settled_stays c seen more (v ∷ xs) h =
      let a = and_parts (is_settled seen c.lit v) (list_all (is_settled seen c.lit) xs) h in
      and_from (is_settled (seen ++ more) c.lit v) (list_all (is_settled (seen ++ more) c.lit) xs)
      (elim (or_cases (eqb (pos_lit v) c.lit) (is_false (trail_value seen (pos_lit v))) a.0) [
        | inl e ↦ or_left (eqb (pos_lit v) c.lit) (is_false (trail_value (seen ++ more) (pos_lit v))) e
        | inr f ↦ or_right (eqb (pos_lit v) c.lit) (is_false (trail_value (seen ++ more) (pos_lit v))) (ap is_false (value_stays seen more (pos_lit v) false (is_false_some (trail_value seen (pos_lit v)) f)))
      ])
      (settled_stays c seen more xs a.1)

  -- a literal was told
  told_led : (c : Seen) (passed level : ℕ) (b : Board) (l : ℕ) (d : Bool) → IsLed group c passed level (trail_of b) → IsLed group c passed level (trail_of (put_on b l d))
  told_led c passed level b l d h =
      let e : Seen = record { lit = l; level = b.level; decision = d } in
      let same = h.at in
      let low = h.low in
      record { at = same; low = low; leads = chosen_stays group c e b.seen h.leads (omega arith); settled = settled_stays c b.seen (e ∷ []) (take passed group) h.settled }

  pub told_more : (chosen : Option Seen) (passed level : ℕ) (b : Board) (l : ℕ) (d : Bool) → is_some chosen ≡ true → follows group chosen passed level (trail_of b) ≡ true → follows group chosen passed level (trail_of (put_on b l d)) ≡ true
  told_more None passed level b l d some h = absurd (false≢true some)
  told_more (Some c) passed level b l d some h = from_led c passed level (trail_of (put_on b l d)) (told_led c passed level b l d (is_led c passed level (trail_of b) h))

  pub told_other : (chosen : Option Seen) (passed level : ℕ) (b : Board) (l : ℕ) (d : Bool) → is_true_member group l ≡ false → follows group chosen passed level (trail_of b) ≡ true → follows group chosen passed level (trail_of (put_on b l d)) ≡ true
  told_other None passed level b l d n h =
      let f = is_free passed level (trail_of b) h in
      from_free passed level (trail_of (put_on b l d)) (record { at = f.at; none = none_put group b.seen (record { lit = l; level = b.level; decision = d }) f.none n })
  told_other (Some c) passed level b l d n h = told_more (Some c) passed level b l d refl h

  pub told_first : (chosen : Option Seen) (passed level : ℕ) (b : Board) (l : ℕ) (d : Bool) → is_some chosen ≡ false → is_true_member group l ≡ true → follows group chosen passed level (trail_of b) ≡ true → CanPut b l → follows group (Some (record { lit = l; level = level; decision = d })) 0 level (trail_of (put_on b l d)) ≡ true
  told_first (Some c) passed level b l d none y h free = absurd (false≢true (sym none))
  told_first None passed level b l d none y h free =
      let f = is_free passed level (trail_of b) h in
      let c : Seen = record { lit = l; level = level; decision = d } in
      from_led c 0 level (trail_of (put_on b l d)) (record { at = f.at; low = omega arith; leads = chosen_put group c (record { lit = l; level = b.level; decision = d }) b.seen f.none y refl f.at free.1; settled = refl })

  -- levels were taken back
  pub gone_back : (chosen kept : Option Seen) (passed level : ℕ) (b : Board) (to : ℕ) → kept ≡ kept_at to chosen → follows group chosen passed level (trail_of b) ≡ true → follows group kept 0 to (trail_of (cut_to b to)) ≡ true
  gone_back None kept passed level b to is h =
      let f = is_free passed level (trail_of b) h in
      rw is (from_free 0 to (trail_of (cut_to b to)) (record { at = refl; none = all_filter (λ e. not (is_true_member group e.lit)) (λ e. leb e.level to) b.seen f.none }))
  gone_back (Some c) kept passed level b to is h =
      let f = is_led c passed level (trail_of b) h in
      elim (cases_Bool (leb c.level to)) [
        | inl y ↦
            let low = leb-true c.level to y in
            rw (is, y) (from_led c 0 to (trail_of (cut_to b to)) (record { at = refl; low = low; leads = chosen_kept group c to b.seen f.leads low; settled = refl }))
        | inr n ↦ rw (is, n) (from_free 0 to (trail_of (cut_to b to)) (record { at = refl; none = chosen_gone group c to b.seen f.leads (leb-false c.level to n) }))
      ]
