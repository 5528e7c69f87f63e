-- What a counter keeps, when its table grows and when a rule comes in.
use Rattle.std.proofs.Common.{◌≡◌, ◌≢◌, ◌⊎◌, ℕ, zero, suc, ◌+◌, ◌-◌, ◌*◌, ◌<◌, ◌≤◌, ◌^◌, Bool, true, false, ◌||◌, cond, eqb, List, [], ◌∷◌, ◌++◌, length, get_or, set, Option, Some, None, Result, Ok, Err, OnOk, inl, inr, refl, sym, ap, ◌∙◌, subst, arith, append_assoc}
use Rattle.std.specs.List.{count_by}
use Rattle.std.specs.Prelude.{replicate, max}
use Rattle.std.proofs.lemmas.Bool.{cases_eq, cases_lt, eq-eqb, ne_eqb, eqb-true, or_cases, or_parts, true≢false}
use Rattle.std.proofs.lemmas.List.{append-nil, get_or-set_same, get_or-set_other, get_or_past, length-set, length-append}
use Rattle.std.proofs.lemmas.List.Sums.{sum_by-cons, sum_by-append}
use Rattle.sat_terms.specs.Literal.{has, var_of}
use Rattle.flag_set.specs.Work.{Work}
use Rattle.sat_model.specs.Constraint.{kind_of}
use Rattle.user_propagator.specs.Meaning.{counted_lits}
use Rattle.sat_model.specs.declared.constraint.Constraint.{Constraint}
use Rattle.sat_model.specs.declared.constraint.Kind.TheVariants.{Card}
use Rattle.user_propagator.specs.Board.{SeenTrail}
use Rattle.user_propagator.specs.declared.seen.Seen.{Seen}
use Rattle.card_propagator.specs.declared.told.Told.{Told}
use Rattle.clause_store.specs.Listing.{times}
use Rattle.clause_store.specs.Lists.{occ_at, Gains}
use Rattle.card_propagator.specs.Values.{told, told_value, value, trues, falses, is_true, is_false}
use Rattle.card_propagator.specs.Following.{first_told, told_at_root, IsWider, Follows, are_within}
use Rattle.card_propagator.specs.Counting.{rule, no_rule, lits_at, bound_at, bound_of, height, is_told, AreHeld, AreCounted, AreStacked, AreSettled, AreHeavy, IsSettled, IsKept}
use Rattle.clause_store.proofs.Counts.{times-cons, times_at, times_place, gains_replicate}
use Rattle.card_propagator.proofs.Valuing.{entry_own, entry_low, entry_at}

-- counts by tests that agree on the list
pub count_same : (p q : ℕ → Bool) (c : List ℕ) → ((l : ℕ) → 0 < times c l → p l ≡ q l) → count_by p c ≡ count_by q c
count_same p q [] h = refl
count_same p q (x ∷ c) h =
    let here : p x ≡ q x = h x (let e = times-cons x c x in let one : ◌≡◌ {A = ℕ} (cond {A = ℕ} (eqb x x) 1 0) 1 = ap (λ b. cond {A = ℕ} b 1 0) (eq-eqb x x refl) in omega (arith, e, one)) in
    let rest = count_same p q c (λ l pos. h l (let e = times-cons x c l in omega (arith, e))) in
    let a = sum_by-cons (λ y. cond {A = ℕ} (p y) 1 0) x c in
    let b = sum_by-cons (λ y. cond {A = ℕ} (q y) 1 0) x c in
    a ∙ ap (λ t. cond {A = ℕ} t 1 0 + count_by p c) here ∙ ap (λ n. cond {A = ℕ} (q x) 1 0 + n) rest ∙ sym b

-- lists with one more at the end
push_new : {A : Type 0} (xs : List A) (x d : A) (i : ℕ) → i ≡ length xs → get_or (xs ++ x ∷ []) i d ≡ x
push_new [] x d zero e = refl
push_new [] x d (suc i) e = absurd (omega arith)
push_new (y ∷ xs) x d zero e = absurd (omega arith)
push_new (y ∷ xs) x d (suc i) e = push_new xs x d i (omega arith)

push_other : {A : Type 0} (xs : List A) (x d : A) (i : ℕ) → i ≢ length xs → get_or (xs ++ x ∷ []) i d ≡ get_or xs i d
push_other [] x d zero n = absurd (n refl)
push_other [] x d (suc i) n = refl
push_other (y ∷ xs) x d zero n = refl
push_other (y ∷ xs) x d (suc i) n = push_other xs x d i (λ e. n (omega arith))

-- a longer table
append_old : (t more : List (Option Told)) (v : ℕ) → v < length t → told (t ++ more) v ≡ told t v
append_old [] more v lt = absurd (omega arith)
append_old (x ∷ t) more zero lt = refl
append_old (x ∷ t) more (suc v) lt = append_old t more v (omega arith)

pub wider_old : (t t' : List (Option Told)) (seen : List Seen) (v : ℕ) → IsWider t t' seen → v < length t → told t' v ≡ told t v
wider_old t t' seen v w lt = ap (λ x. told x v) w.is ∙ append_old t w.more v lt

pub wider-le : (t t' : List (Option Told)) (seen : List Seen) → IsWider t t' seen → length t ≤ length t'
wider-le t t' seen w = let e = ap length w.is in let f = length-append t w.more in omega (arith, e, f)

no_height : (o : Option Told) → ((e : Told) → o ≡ Some e → e.level ≡ 0) → height o ≡ 0
no_height None h = refl
no_height (Some e) h = h e refl

wider_height : (t t' : List (Option Told)) (seen : List Seen) (v : ℕ) → IsWider t t' seen → are_within 0 seen ≡ true → height (told t' v) ≡ height (told t v)
wider_height t t' seen v w low =
    elim (cases_lt v (length t)) [
      | inl lt ↦ ap height (wider_old t t' seen v w lt)
      | inr le ↦
          let z : height (told t v) ≡ 0 = ap height (get_or_past t v None le) in
          elim (cases_lt v (length t')) [
            | inl in' ↦ ap height (w.each v le in') ∙ no_height (told_at_root seen v) (λ e q. entry_low seen v e low q) ∙ sym z
            | inr out ↦ ap height (get_or_past t' v None out) ∙ sym z
          ]
    ]

pub kept_wider : (rules : List Constraint) (holders : List (List ℕ)) (t t' : List (Option Told)) (true_counts false_counts heavy starts : List ℕ) (q : Work ℕ) (s : List ℕ) (level space space' : ℕ) (seen : List Seen)
    → IsKept rules holders t true_counts false_counts heavy starts q s level space → IsWider t t' seen → are_within 0 seen ≡ true → length t' ≤ space' → IsKept rules holders t' true_counts false_counts heavy starts q s level space'
kept_wider rules holders t t' true_counts false_counts heavy starts q s level space space' seen h w low room =
    let le = wider-le t t' seen w in
    let same : ((k l : ℕ) → 0 < times (lits_at rules k) l → told t' (var_of l) ≡ told t (var_of l)) = λ k l pos. wider_old t t' seen (var_of l) w (h.held.known k l pos).1 in
    let down : ((k : ℕ) → falses t' (lits_at rules k) ≡ falses t (lits_at rules k)) = λ k. count_same (λ l. is_false (value t' l)) (λ l. is_false (value t l)) (lits_at rules k) (λ l pos. ap (λ o. is_false (told_value o l)) (same k l pos)) in
    let up : ((k : ℕ) → trues t' (lits_at rules k) ≡ trues t (lits_at rules k)) = λ k. count_same (λ l. is_true (value t' l)) (λ l. is_true (value t l)) (lits_at rules k) (λ l pos. ap (λ o. is_true (told_value o l)) (same k l pos)) in
    let high : ((v : ℕ) → height (told t' v) ≡ height (told t v)) = λ v. wider_height t t' seen v w low in
    record {
      held = record { known = λ k l pos. ((h.held.known k l pos).0, omega (arith, (h.held.known k l pos).1)); held = h.held.held; fits = h.held.fits; cards = h.held.cards };
      counted = record { up_size = h.counted.up_size; down_size = h.counted.down_size; up = λ k. h.counted.up k ∙ sym (up k); down = λ k. h.counted.down k ∙ sym (down k) };
      stacked = record {
        stands = λ v. h.stacked.stands v ∙ ap (λ n. cond {A = ℕ} (eqb n 0) 0 1) (sym (high v));
        rising = λ i j a b. rw (high (get_or s i 0), high (get_or s j 0)) (h.stacked.rising i j a b);
        below = λ v. rw (high v) (h.stacked.below v);
        room = let a = ap (count_by is_told) w.is in let b = sum_by-append (λ o. cond {A = ℕ} (is_told o) 1 0) t w.more in omega (arith, a, b, h.stacked.room);
        own = λ v e q. elim (cases_lt v (length t)) [
          | inl lt ↦ h.stacked.own v e (sym (wider_old t t' seen v w lt) ∙ q)
          | inr past ↦ elim (cases_lt v (length t')) [
            | inl in' ↦ entry_own seen v e (sym (w.each v past in') ∙ q)
            | inr out ↦ let k : None ≡ Some e = sym (get_or_past t' v None out) ∙ q in cc
          ]
        ];
      };
      settled = record {
        within = h.settled.within;
        room = h.settled.room;
        settled = λ k lt off.
            let s = h.settled.settled k lt off in
            record {
              holds = rw (down k) s.holds;
              spare = λ l free. rw (down k) (s.spare l (elim (cases_lt (var_of l) (length t)) [
                | inl old ↦ ap (λ o. told_value o l) (sym (wider_old t t' seen (var_of l) w old)) ∙ free
                | inr past ↦ ap (λ o. told_value o l) (get_or_past t (var_of l) None past)
              ]));
            };
      };
      heavy_rules = h.heavy_rules;
      passed = record {
        size = h.passed.size;
        passed = λ k i below in'. ap is_told (same k (get_or (lits_at rules k) i 0) (times_at (lits_at rules k) i in')) ∙ h.passed.passed k i below in';
      };
      room = room;
    }

pub follows_wider : (t t' : List (Option Told)) (level : ℕ) (trail : SeenTrail) → Follows t level trail → IsWider t t' trail.seen → Follows t' level trail
follows_wider t t' level trail f w = record {
  level = f.level;
  table = λ v pos lt. elim (cases_lt v (length t)) [
    | inl old ↦ wider_old t t' trail.seen v w old ∙ f.table v pos old
    | inr past ↦ w.each v past lt ∙ entry_at trail.seen v (λ z. absurd (omega arith))
  ];
  apart = f.apart;
  within = f.within;
}

pub wider_none : (t : List (Option Told)) (seen : List Seen) → IsWider t t seen
wider_none t seen = record { more = []; is = sym (append-nil t); each = λ v le lt. absurd (omega arith) }

pub wider_more : (t now new : List (Option Told)) (seen : List Seen) (o : Option Told) (n : ℕ) → IsWider t now seen → n ≡ length now → o ≡ told_at_root seen n → new ≡ now ++ o ∷ [] → IsWider t new seen
wider_more t now new seen o n w size e is = record {
  more = w.more ++ o ∷ [];
  is = is ∙ ap (λ x. x ++ o ∷ []) w.is ∙ append_assoc t w.more (o ∷ []);
  each = λ v le lt.
      let long : length new ≡ length now + 1 = ap length is ∙ simp length-append in
      elim (cases_lt v (length now)) [
        | inl old ↦ ap (λ x. told x v) is ∙ append_old now (o ∷ []) v old ∙ w.each v le old
        | inr past ↦ let q : v ≡ n = omega arith in ap (λ x. told x v) is ∙ push_new now o None v (q ∙ size) ∙ e ∙ ap (told_at_root seen) (sym q)
      ];
}

-- what holds of the old rules and of the new one
each_rule : (rules : List Constraint) (r : Constraint) (P : ℕ → Constraint → Type 0) → ((k : ℕ) → k ≢ length rules → P k (rule rules k)) → P (length rules) r → (k : ℕ) → P k (rule (rules ++ r ∷ []) k)
each_rule rules r P old new k =
    elim (cases_eq k (length rules)) [
      | inl e ↦ let q : rule (rules ++ r ∷ []) k ≡ r = push_new rules r no_rule k e in subst (λ x. P k x) (sym q) (subst (λ n. P n r) (sym e) new)
      | inr n ↦ let q : rule (rules ++ r ∷ []) k ≡ rule rules k = push_other rules r no_rule k n in subst (λ x. P k x) (sym q) (old k n)
    ]

pub kept_enter : (rules rules' : List Constraint) (holders holders' : List (List ℕ)) (t : List (Option Told)) (true_counts false_counts heavy starts true_counts' false_counts' heavy' starts' : List ℕ) (q q' : Work ℕ) (s : List ℕ) (level space id up down most : ℕ) (r : Constraint)
    → IsKept rules holders t true_counts false_counts heavy starts q s level space
    → id ≡ length rules
    → ((l : ℕ) → 0 < times (counted_lits r) l → (0 < var_of l) × (var_of l < length t))
    → kind_of r ≡ Card → length (counted_lits r) < 2 ^ 63
    → ((l : ℕ) → Gains (occ_at holders l) (occ_at holders' l) id (times (counted_lits r) l))
    → rules' ≡ rules ++ r ∷ [] → true_counts' ≡ true_counts ++ up ∷ [] → false_counts' ≡ false_counts ++ down ∷ [] → heavy' ≡ heavy ++ most ∷ [] → starts' ≡ starts ++ 0 ∷ []
    → up ≡ trues t (counted_lits r) → down ≡ falses t (counted_lits r) → ((l : ℕ) → times (counted_lits r) l ≤ most)
    → id < q'.room → q.room ≤ q'.room → ((k : ℕ) → has q'.members k ≡ (has q.members k || eqb id k))
    → IsKept rules' holders' t true_counts' false_counts' heavy' starts' q' s level space
kept_enter rules rules' holders holders' t true_counts false_counts heavy starts true_counts' false_counts' heavy' starts' q q' s level space id up down most r h here known card fits gains er eu ed eh ef up_is down_is most_is wide room waits =
    let us : length true_counts ≡ length rules = h.counted.up_size in
    let ds : length false_counts ≡ length rules = h.counted.down_size in
    let hs : length heavy ≡ length rules = h.heavy_rules.size in
    let fs : length starts ≡ length rules = h.passed.size in
    rw (er, eu, ed, eh, ef) record {
      held = record {
        known = each_rule rules r (λ k x. (l : ℕ) → 0 < times (counted_lits x) l → (0 < var_of l) × (var_of l < length t)) (λ k n. h.held.known k) known;
        held = each_rule rules r (λ k x. (l : ℕ) → times (occ_at holders' l) k ≡ times (counted_lits x) l)
            (λ k n l. (gains l).others k (λ e. n (e ∙ here)) ∙ h.held.held k l)
            (λ l. let none : times (lits_at rules id) l ≡ 0 = rw (get_or_past rules id no_rule (omega arith)) refl in rw (← here) ((gains l).here ∙ ap (λ n. n + times (counted_lits r) l) (h.held.held id l ∙ none) ∙ omega arith));
        fits = each_rule rules r (λ k x. length (counted_lits x) < 2 ^ 63) (λ k n. h.held.fits k) fits;
        cards = each_rule rules r (λ k x. kind_of x ≡ Card) (λ k n. h.held.cards k) card;
      };
      counted = record {
        up_size = simp length-append (omega arith);
        down_size = simp length-append (omega arith);
        up = each_rule rules r (λ k x. get_or (true_counts ++ up ∷ []) k 0 ≡ trues t (counted_lits x)) (λ k n. push_other true_counts up 0 k (λ e. n (e ∙ us)) ∙ h.counted.up k) (push_new true_counts up 0 (length rules) (sym us) ∙ up_is);
        down = each_rule rules r (λ k x. get_or (false_counts ++ down ∷ []) k 0 ≡ falses t (counted_lits x)) (λ k n. push_other false_counts down 0 k (λ e. n (e ∙ ds)) ∙ h.counted.down k) (push_new false_counts down 0 (length rules) (sym ds) ∙ down_is);
      };
      stacked = h.stacked;
      settled = record {
        within = λ k w.
            let long : length (rules ++ r ∷ []) ≡ length rules + 1 = simp length-append in
            elim (or_cases (has q.members k) (eqb id k) (sym (waits k) ∙ w)) [
              | inl old ↦ let lt = h.settled.within k old in omega arith
              | inr new ↦ let e = eqb-true id k new in omega arith
            ];
        room = let long : length (rules ++ r ∷ []) ≡ length rules + 1 = simp length-append in omega arith;
        settled = each_rule rules r (λ k x. k < length (rules ++ r ∷ []) → has q'.members k ≡ false → IsSettled t (bound_of x) (counted_lits x))
            (λ k n lt w.
            let long : length (rules ++ r ∷ []) ≡ length rules + 1 = simp length-append in
            h.settled.settled k (omega arith) (or_parts (has q.members k) (eqb id k) (sym (waits k) ∙ w)).0)
            (λ lt w.
            let off : eqb id (length rules) ≡ false = (or_parts (has q.members (length rules)) (eqb id (length rules)) (sym (waits (length rules)) ∙ w)).1 in
            absurd (true≢false (sym (eq-eqb id (length rules) here) ∙ off)));
      };
      heavy_rules = record {
        size = simp length-append (omega arith);
        weighs = each_rule rules r (λ k x. (l : ℕ) → times (counted_lits x) l ≤ get_or (heavy ++ most ∷ []) k 0)
            (λ k n l. rw (push_other heavy most 0 k (λ e. n (e ∙ hs))) (h.heavy_rules.weighs k l))
            (λ l. rw (push_new heavy most 0 (length rules) (sym hs)) (most_is l));
      };
      passed = record {
        size = simp length-append (omega arith);
        passed = each_rule rules r (λ k x. (i : ℕ) → i < get_or (starts ++ 0 ∷ []) k 0 → i < length (counted_lits x) → is_told (told t (var_of (get_or (counted_lits x) i 0))) ≡ true)
            (λ k n i below in'. h.passed.passed k i (rw (← push_other starts 0 0 k (λ e. n (e ∙ fs))) below) in')
            (λ i below in'. let z = push_new starts 0 0 (length rules) (sym fs) in absurd (omega (arith, z)));
      };
      room = h.room;
    }

-- room for more that may wait
pub kept_roomier : (rules : List Constraint) (holders : List (List ℕ)) (t : List (Option Told)) (true_counts false_counts heavy starts : List ℕ) (q q' : Work ℕ) (s : List ℕ) (level space : ℕ)
    → IsKept rules holders t true_counts false_counts heavy starts q s level space → q'.members ≡ q.members → q.room ≤ q'.room → IsKept rules holders t true_counts false_counts heavy starts q' s level space
kept_roomier rules holders t true_counts false_counts heavy starts q q' s level space h same room = record {
  held = h.held;
  counted = h.counted;
  stacked = h.stacked;
  settled = record { within = rw same h.settled.within; room = omega (arith, h.settled.room, room); settled = rw same h.settled.settled };
  heavy_rules = h.heavy_rules;
  passed = h.passed;
  room = h.room;
}

-- the lists of the literals say the same
pub kept_relisted : (rules : List Constraint) (holders holders' : List (List ℕ)) (t : List (Option Told)) (true_counts false_counts heavy starts : List ℕ) (q : Work ℕ) (s : List ℕ) (level space : ℕ)
    → IsKept rules holders t true_counts false_counts heavy starts q s level space → ((l : ℕ) → occ_at holders' l ≡ occ_at holders l) → IsKept rules holders' t true_counts false_counts heavy starts q s level space
kept_relisted rules holders holders' t true_counts false_counts heavy starts q s level space h same =
    record { held = record { known = h.held.known; held = λ k l. ap (λ x. times x k) (same l) ∙ h.held.held k l; fits = h.held.fits; cards = h.held.cards }; counted = h.counted; stacked = h.stacked; settled = h.settled; heavy_rules = h.heavy_rules; passed = h.passed; room = h.room }

-- an id that was appended to the lists of some literals stands there so much oftener
pub gains_appended : (holders holders' : List (List ℕ)) (c : List ℕ) (id : ℕ) → ((l : ℕ) → occ_at holders' l ≡ occ_at holders l ++ replicate (times c l) id) → (l : ℕ) → Gains (occ_at holders l) (occ_at holders' l) id (times c l)
gains_appended holders holders' c id h l = rw (h l) (gains_replicate (occ_at holders l) id (times c l))

-- what is listed is within
pub most_of : (c : List ℕ) (most : ℕ) → ((i : ℕ) → i < length c → times c (get_or c i 0) ≤ most) → (l : ℕ) → times c l ≤ most
most_of c most h l =
    elim (cases_lt 0 (times c l)) [
      | inl pos ↦ let p = times_place c l pos in rw p.2 at (h p.0 p.1)
      | inr le ↦ omega arith
    ]

pub known_of : (c : List ℕ) (need n : ℕ) → ((i : ℕ) → i < length c → (0 < var_of (get_or c i 0)) × (var_of (get_or c i 0) < need)) → need ≤ n → (l : ℕ) → 0 < times c l → (0 < var_of l) × (var_of l < n)
known_of c need n h le l pos =
    let p = times_place c l pos in
    let q = h p.0 p.1 in
    let e : var_of (get_or c p.0 0) ≡ var_of l = ap var_of p.2 in
    (omega (arith, e, q.0), omega (arith, e, q.1))

pub on_ok_map : {A E : Type 0} (r : Result A E) (P Q : Type 0) → OnOk r P → (P → Q) → OnOk r Q
on_ok_map (Ok a) P Q h k = k h
on_ok_map (Err e) P Q h k = h
