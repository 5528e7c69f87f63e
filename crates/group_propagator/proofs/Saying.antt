-- What a propagator in step with the seen trail may say: a literal with its reason, a clause, or
-- that nothing is left to say.
use Rattle.std.proofs.Common.{ℕ, ◌+◌, ◌*◌, ◌%◌, ◌≡◌, ◌≢◌, ◌≤◌, ◌&&◌, Bool, true, false, not, eqb, List, [], ◌∷◌, take, length, Option, Some, None, inl, inr, refl, sym, ap, ◌∙◌, subst, arith}
use Rattle.std.specs.Prelude.{find, is_some, option_map}
use Rattle.std.specs.List.{list_all}
use Rattle.std.proofs.Math.Seq.{drop-append_seam}
use Rattle.std.proofs.lemmas.Bool.{and_parts, or_cases, or_parts, or_left, not-true, false_from_ne_true, eq-eqb, ne_eqb, eqb-true, eqb-false, false≢true}
use Rattle.std.proofs.lemmas.List.{take_all}
use Rattle.sat_terms.specs.Literal.{has, neg, pos_lit, neg_lit, var_of}
use Rattle.sat_terms.specs.Truth.{Assignment, values, lit_true, clause_true}
use Rattle.sat_terms.proofs.Literals.{var_of-pos_lit, var_of-neg_lit, neg-pos_lit}
use Rattle.user_propagator.specs.declared.seen.Seen.{Seen}
use Rattle.user_propagator.specs.Board.{Board, Handed, IsSeenTrail, trail_of, trail_value, entry, with_handed}
use Rattle.user_propagator.specs.Meaning.{Meaning, CalledBack, IsImplied, IsReasonGiven, StandsAt, IsRefuted, next_count}
use Rattle.user_propagator.proofs.Lawful.{called_handing, called_stepped, each_of_two, value_neg, value_known, value_holds}
use Rattle.group_propagator.specs.Group.{is_true_member, is_false_member, is_false, is_settled, is_explained_by, explains_group, group_meaning, follows, IsSettled, IsNewFor, HandsTwo, AreTwo}
use Rattle.group_propagator.proofs.Admitting.{all_has, no_two_says, no_two_from, neg_true, one_false, two_false}
use Rattle.group_propagator.proofs.Leading.{chosen_member, chosen_value, found_is, chosen_found, none_found, none_holds}
use Rattle.group_propagator.proofs.Following.{IsLed, is_free, is_led, is_false_some}

-- a literal that makes a member true, or false, is one of the two of that member
lit_of_true : (group : List ℕ) (l : ℕ) → is_true_member group l ≡ true → (l ≡ pos_lit (var_of l)) × (has group (var_of l) ≡ true)
unfolding pos_lit var_of
lit_of_true group l h =
    let a = and_parts (eqb (l % 2) 0) (has group (var_of l)) h in
    let even = eqb-true (l % 2) 0 a.0 in
    (omega arith, a.1)

lit_of_false : (group : List ℕ) (l : ℕ) → is_false_member group l ≡ true → (l ≡ neg_lit (var_of l)) × (has group (var_of l) ≡ true)
unfolding neg_lit var_of
lit_of_false group l h =
    let a = and_parts (not (eqb (l % 2) 0)) (has group (var_of l)) h in
    let odd = eqb-false (l % 2) 0 (not-true (eqb (l % 2) 0) a.0) in
    (omega arith, a.1)

pub neg_member : (group : List ℕ) (v : ℕ) → has group v ≡ true → is_false_member group (neg_lit v) ≡ true
unfolding neg_lit
neg_member group v m =
    rw (ne_eqb ((2 * v + 1) % 2) 0 (λ e. omega arith)) (rw (var_of-neg_lit v) m)

module _ (group : List ℕ) (c : Seen) (passed level : ℕ) (b : Board) (led : IsLed group c passed level (trail_of b)) where
  -- the member that the chosen literal makes true
  abbrev first : ℕ
  first = var_of c.lit

  first_in : has group first ≡ true
  first_in = (lit_of_true group c.lit (chosen_member group c b.seen led.leads)).1

  first_is : c.lit ≡ pos_lit first
  first_is = (lit_of_true group c.lit (chosen_member group c b.seen led.leads)).0

  first_neg : neg c.lit ≡ neg_lit first
  first_neg = ap neg first_is ∙ neg-pos_lit first

  first_true : trail_value b.seen (pos_lit first) ≡ Some true
  first_true = ap (trail_value b.seen) (sym first_is) ∙ chosen_value group c b.seen led.leads

  against_first : trail_value b.seen (neg c.lit) ≡ Some false
  against_first = value_neg b.seen c.lit ∙ ap (option_map not) (chosen_value group c b.seen led.leads)

  -- another member is false
  pub implied : (chosen : Option Seen) (v asked : ℕ) → has group v ≡ true → has b.observed v ≡ true → is_some (trail_value b.seen (neg_lit v)) ≡ false → IsImplied (group_meaning group chosen passed level asked) b (neg_lit v)
  implied chosen v asked m known none =
      let free = not_some (trail_value b.seen (neg_lit v)) none in
      let apart : neg_lit v ≢ neg c.lit = λ e. (let z : None ≡ Some false = sym free ∙ ap (trail_value b.seen) e ∙ against_first in cc) in
      let found = chosen_found group c b.seen led.leads in
      record {
        free = (subst (λ u. has b.observed u ≡ true) (sym (var_of-neg_lit v)) known, free);
        implied = λ f adm made.
            let holds : lit_true f (neg c.lit) ≡ false = value_holds f b.seen (neg c.lit) false made against_first in
            let holds_first : f first ≡ true = turned (f first) (sym (neg_true f first) ∙ ap (lit_true f) (sym first_neg) ∙ holds) in
            neg_true f v ∙ ap not (false_from_ne_true (f v) (λ y. apart (ap neg_lit ((no_two_says f group adm).same v first m first_in y holds_first) ∙ sym first_neg)));
        explained = rw (found.1, found.2, neg_member group v m, ne_eqb (neg_lit v) (neg c.lit) apart, against_first) refl;
      } where
        not_some : (r : Option Bool) → is_some r ≡ false → r ≡ None
        not_some None h = refl
        not_some (Some x) h = absurd (false≢true (sym h))

        turned : (x : Bool) → not x ≡ false → x ≡ true
        turned true q = refl
        turned false q = absurd (false≢true (sym q))

  -- why it is false
  pub given : (chosen : Option Seen) (k l asked next : ℕ) (out : List ℕ) → StandsAt (group_meaning group chosen passed level asked) b.seen k l → out ≡ l ∷ neg c.lit ∷ [] → IsReasonGiven (group_meaning group chosen passed level next) b.seen k l out
  given chosen k l asked next out stands is =
      let said = explained_says group (take k b.seen) l (find (λ e. is_true_member group e.lit) (take k b.seen)) (subst (λ x. explains_group group (take k b.seen) x ≡ true) stands.place stands.explained) in
      let same : said.0.lit ≡ c.lit = found_is group c said.0 k b.seen led.leads said.1 in
      let u = lit_of_false group l said.2 in
      rw is (record {
        holds = or_left (eqb l l) (has (neg c.lit ∷ []) l) (eq-eqb l l refl);
        others = λ x m ne. each_of_two (λ y. y ≢ l → trail_value (take k b.seen) y ≡ Some false) l (neg c.lit) x (λ n. absurd (n refl)) (λ n. subst (λ y. trail_value (take k b.seen) (neg y) ≡ Some false) same said.4) m ne;
        implied = λ f adm.
            subst (λ x. clause_true f (x ∷ neg c.lit ∷ []) ≡ true) (sym u.0)
            (subst (λ x. clause_true f (neg_lit (var_of l) ∷ x ∷ []) ≡ true) (sym first_neg)
            (one_false f group (var_of l) first adm u.1 first_in (λ e. said.3 (u.0 ∙ ap neg_lit e ∙ sym first_neg ∙ ap neg (sym same)))));
      }) where
        explained_says : (members : List ℕ) (seen : List Seen) (x : ℕ) (r : Option Seen) → is_explained_by members seen x r ≡ true → (e : Seen) × (r ≡ Some e) × (is_false_member members x ≡ true) × (x ≢ neg e.lit) × (trail_value seen (neg e.lit) ≡ Some false)
        explained_says members seen x None h = absurd (false≢true h)
        explained_says members seen x (Some e) h =
            let p = and_parts (is_false_member members x && not (eqb x (neg e.lit))) (is_false (trail_value seen (neg e.lit))) h in
            let q = and_parts (is_false_member members x) (not (eqb x (neg e.lit))) p.0 in
            (e, refl, q.0, eqb-false x (neg e.lit) (not-true (eqb x (neg e.lit)) q.1), is_false_some (trail_value seen (neg e.lit)) p.1)

-- the walk keeps step
pub walked : (group : List ℕ) (chosen : Option Seen) (c : Seen) (passed now level : ℕ) (b : Board) → chosen ≡ Some c → follows group chosen passed level (trail_of b) ≡ true →
    (list_all (is_settled b.seen c.lit) (take passed group) ≡ true → list_all (is_settled b.seen c.lit) (take now group) ≡ true) → IsLed group c now level (trail_of b)
walked group chosen c passed now level b is h moved =
    let led = is_led group c passed level (trail_of b) (rw is at h) in
    record { at = led.at; low = led.low; leads = led.leads; settled = moved led.settled }

-- where no member is true, nothing is left to say
pub settled_free : (group : List ℕ) (chosen : Option Seen) (passed level : ℕ) (b : Board) → chosen ≡ None → follows group chosen passed level (trail_of b) ≡ true → IsSettled b group
settled_free group chosen passed level b is h = record { others = λ known u v mu mv ne value. absurd (none_holds group u b.seen (is_free group passed level (trail_of b) (rw is at h)).none mu value) }

-- nor where all members are settled
pub settled_led : (group : List ℕ) (c : Seen) (passed level : ℕ) (b : Board) → IsLed group c passed level (trail_of b) → length group ≤ passed → IsSettled b group
settled_led group c passed level b led le = record {
  others = λ known u v mu mv ne value.
      let whole : list_all (is_settled b.seen c.lit) group ≡ true = subst (λ xs. list_all (is_settled b.seen c.lit) xs ≡ true) (take_all passed group le) led.settled in
      let pu = all_has (is_settled b.seen c.lit) group u whole mu in
      let pv = all_has (is_settled b.seen c.lit) group v whole mv in
      elim (or_cases (eqb (pos_lit v) c.lit) (is_false (trail_value b.seen (pos_lit v))) pv) [
        | inr f ↦ is_false_some (trail_value b.seen (pos_lit v)) f
        | inl e ↦
            elim (or_cases (eqb (pos_lit u) c.lit) (is_false (trail_value b.seen (pos_lit u))) pu) [
              | inr f ↦ absurd (let z : Some true ≡ Some false = sym value ∙ is_false_some (trail_value b.seen (pos_lit u)) f in cc)
              | inl d ↦ absurd (ne (sym (var_of-pos_lit u) ∙ ap var_of (eqb-true (pos_lit u) c.lit d ∙ sym (eqb-true (pos_lit v) c.lit e)) ∙ var_of-pos_lit v))
            ]
      ];
}

-- two members that are true may be handed as a clause
pub handed : (group : List ℕ) (chosen : Option Seen) (passed now level asked next : ℕ) (b after : Board) (u v : ℕ) → next ≡ next_count asked → follows group chosen now level (trail_of b) ≡ true → IsSeenTrail b.observed b.seen b.level → HandsTwo group b after u v →
    CalledBack (group_meaning group chosen passed level asked) (group_meaning group chosen now level next) b after
handed group chosen passed now level asked next b after u v counted step shape two =
    let old : Meaning = group_meaning group chosen now level asked in
    let new : Meaning = group_meaning group chosen now level next in
    let against : (x : ℕ) → trail_value b.seen (pos_lit x) ≡ Some true → trail_value b.seen (neg_lit x) ≡ Some false =
    λ x h. ap (trail_value b.seen) (sym (neg-pos_lit x)) ∙ value_neg b.seen (pos_lit x) ∙ ap (option_map not) h in
    let known : (x : ℕ) → trail_value b.seen (pos_lit x) ≡ Some true → has b.observed (var_of (neg_lit x)) ≡ true =
    λ x h. value_known b.observed b.seen b.level (neg_lit x) false shape (against x h) in
    rw two.handed (called_stepped (group_meaning group chosen passed level asked) new (follows group chosen now level) b (with_handed b (neg_lit u ∷ neg_lit v ∷ []) false)
    (called_handing old new b (neg_lit u ∷ neg_lit v ∷ []) false (record { same = rw counted refl }) step
    (λ l m. each_of_two (λ x. has b.observed (var_of x) ≡ true) (neg_lit u) (neg_lit v) l (known u two.holds) (known v two.holds_too) m)
    (λ f adm. one_false f group u v adm two.first two.second two.apart)
    (inl (λ l m. each_of_two (λ x. trail_value b.seen x ≡ Some false) (neg_lit u) (neg_lit v) l (against u two.holds) (against v two.holds_too) m))))

-- and the clause refutes a model in which both are true
pub refuted : (model : List Bool) (group : List ℕ) (was after : Board) (u v : ℕ) → values model u ≡ true → values model v ≡ true → HandsTwo group was after u v → IsRefuted model was after
refuted model group was after u v fu fv two =
    let clause : Handed = record { clause = neg_lit u ∷ neg_lit v ∷ []; forgettable = false } in
    rw two.handed (rw (drop-append_seam was.handed (clause ∷ [])) (0, clause, omega arith, refl, two_false (values model) u v fu fv))

-- the two members that a check found are handed
pub hands_two : (group : List ℕ) (f : Assignment) (b after : Board) (u v : ℕ) → AreTwo f group (u, v) → trail_value b.seen (pos_lit u) ≡ Some true → trail_value b.seen (pos_lit v) ≡ Some true → after ≡ with_handed b (neg_lit u ∷ neg_lit v ∷ []) false → HandsTwo group b after u v
hands_two group f b after u v two tu tv hands = record { first = two.first; second = two.second; apart = two.apart; holds = tu; holds_too = tv; handed = hands }

-- what a new propagator means
pub new_for : (group members : List ℕ) → ((v : ℕ) → has members v ≡ has group v) → IsNewFor group (group_meaning members None 0 0 0)
new_for group members same = record {
  admits = λ f. (
    λ h. (let n = no_two_says f members h in record { same = λ u v mu mv. n.same u v (same u ∙ mu) (same v ∙ mv) }),
    λ n. no_two_from f members (record { same = λ u v mu mv. n.same u v (sym (same u) ∙ mu) (sym (same v) ∙ mv) }),
  );
  scope = same;
  in_step = refl;
  steady = refl;
  kinds = refl;
  asked = refl;
  accepted = refl;
}

-- a member that is not settled and has a value is true beside the chosen one
pub other_true : (group : List ℕ) (c : Seen) (passed level : ℕ) (b after : Board) (v : ℕ) → IsLed group c passed level (trail_of b) → has group v ≡ true → is_settled b.seen c.lit v ≡ false → is_some (trail_value b.seen (neg_lit v)) ≡ true →
    after ≡ with_handed b (neg_lit v ∷ neg c.lit ∷ []) false → HandsTwo group b after v (var_of c.lit)
other_true group c passed level b after v led m left some hands =
    let o = or_parts (eqb (pos_lit v) c.lit) (is_false (trail_value b.seen (pos_lit v))) left in
    record {
      first = m;
      second = first_in group c passed level b led;
      apart = λ e. eqb-false (pos_lit v) c.lit o.0 (ap pos_lit e ∙ sym (first_is group c passed level b led));
      holds = not_false (trail_value b.seen (pos_lit v)) o.1 (sym (ap is_some (ap (trail_value b.seen) (sym (neg-pos_lit v)) ∙ value_neg b.seen (pos_lit v))) ∙ some);
      holds_too = first_true group c passed level b led;
      handed = subst (λ l. after ≡ with_handed b (neg_lit v ∷ l ∷ []) false) (first_neg group c passed level b led) hands;
    } where
      not_false : (r : Option Bool) → is_false r ≡ false → is_some (option_map not r) ≡ true → r ≡ Some true
      not_false None f i = absurd (false≢true i)
      not_false (Some true) f i = refl
      not_false (Some false) f i = absurd (false≢true (sym f))

-- a literal that is to be explained has a chosen one before it
pub some_chosen : (group : List ℕ) (chosen : Option Seen) (passed level asked : ℕ) (b : Board) (k l : ℕ) → chosen ≡ None → follows group chosen passed level (trail_of b) ≡ true → StandsAt (group_meaning group chosen passed level asked) b.seen k l → ⊥
some_chosen group chosen passed level asked b k l is h stands =
    go (find (λ e. is_true_member group e.lit) (take k b.seen)) refl stands.explained where
      go : (r : Option Seen) → find (λ e. is_true_member group e.lit) (take k b.seen) ≡ r → is_explained_by group (take k b.seen) (entry b.seen k).lit r ≡ true → ⊥
      go None e said = false≢true said
      go (Some s) e said = none_found group s k b.seen (is_free group passed level (trail_of b) (rw is at h)).none e
