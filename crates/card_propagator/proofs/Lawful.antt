-- How the laws of a propagator follow for cardinalities.
use Rattle.std.proofs.Common.{◌≡◌, ◌≢◌, ◌⊎◌, ℕ, zero, suc, ◌+◌, ◌-◌, ◌*◌, ◌<◌, ◌≤◌, Bool, true, false, not, ◌&&◌, ◌||◌, cond, eqb, leb, ltb, List, [], ◌∷◌, ◌++◌, length, map, take, get_or, set, Result, Ok, Err, OnOk, OnErr, IfSome, Option, Some, None, All, Any, Contains, inl, inr, refl, sym, ap, ◌∙◌, subst, arith}
use Rattle.std.specs.List.{count_by, list_any, list_all, flat_map, filter}
use Rattle.std.proofs.lemmas.Bool.{cases_eq, cases_lt, cases_Bool, eq-eqb, ne_eqb, lt-ltb, ltb-true, leb-true, le-leb, and_parts, and_from, or_cases, or_left, or_right, or_from, eqb-true, false≢true, false_from_ne_true}
use Rattle.std.proofs.lemmas.List.{take_more, get_or-set_same, get_or-set_other, get_or_past, length-set, append-nil}
use Rattle.std.proofs.lemmas.List.Elements.{All-head, All-tail, All-cons, All-nil, All-append, All-weaker, All-contains_itself}
use Rattle.std.proofs.lemmas.List.Sums.{sum_by-cons, sum_by-le-sum_by}
use Rattle.std.proofs.lemmas.List.Folds.{list_all-append}
use Rattle.std.proofs.lemmas.Grind.{flat_map-append}
use Rattle.sat_terms.specs.Limits.{max_var}
use Rattle.sat_terms.specs.Literal.{has, var_of, neg}
use Rattle.sat_terms.specs.Truth.{Assignment, values, lit_true, clause_true}
use Rattle.sat_terms.proofs.Members.{has-append_cases}
use Rattle.sat_terms.proofs.Truths.{clause_true-some}
use Rattle.sat_model.specs.Constraint.{constraint_true, kind_of}
use Rattle.user_propagator.specs.Meaning.{counted_lits}
use Rattle.sat_model.specs.declared.constraint.Constraint.{Constraint}
use Rattle.sat_model.specs.declared.constraint.Constraint.TheVariants.{AtLeast, Parity}
use Rattle.sat_model.specs.declared.constraint.Kind.TheVariants.{Card}
use Rattle.user_propagator.specs.Board.{Board, Handed, SeenTrail, entry, trail_of, trail_value, with_handed, within, empty_trail, trail_place, IsSeenTrail}
use Rattle.user_propagator.specs.declared.seen.Seen.{Seen}
use Rattle.user_propagator.proofs.Lawful.{called_idle, called_handing, value_holds}
use Rattle.user_propagator.specs.Meaning.{Meaning, Counted, Notified, CanPut, CanRaise, CanCut, put_on, raise_on, cut_to, InStep, KeepsExplained, IsExplainedAt, CalledBack, IsImplied, IsReasonGiven, StandsAt, Admitted, Refused, KeptByAdmit, AreObserved, IsFalseSeen, IsRefuted, MakesTrue, next_count, handed_now}
use Rattle.card_propagator.specs.declared.told.Told.{Told}
use Rattle.clause_store.specs.Listing.{times}
use Rattle.card_propagator.specs.Values.{told, told_value, value, trues, falses, is_true, is_false, keep, true_count, false_count, open_count, open_but}
use Rattle.card_propagator.specs.Following.{first_told, are_apart, are_within, is_followed, Follows}
use Rattle.card_propagator.specs.Counting.{Counting, rule, no_rule, lits_at, bound_at, bound_of, IsSettled, AreHeld, IsProper}
use Rattle.card_propagator.specs.Due.{IsBroken, IsForced, AllSettled}
use Rattle.card_propagator.specs.Cards.{are_kept, vars_of, is_forced, can_explain, card_meaning, fallen, IsFresh, IsQuiet, AreQuiet, HandsFalse}
use Rattle.clause_store.proofs.Counts.{times-cons, times_at, times_place}
use Rattle.card_propagator.proofs.Valuing.{seen_value, untold_seen, seen_untold, first_put, apart_put, first_cut, apart_cut, within_put, within_raise, within_cut, follows, followed}
use Rattle.card_propagator.proofs.Admitting.{count_same}
use Rattle.card_propagator.proofs.Semantics.{explain_more, explain_from, explain_find, broken_true, reason_true, forced_true, fallen_same, fallen_false, falses_seen, trues_seen, value_seen, open_false, but_false, settled_quiet, card_count, kept_at}
use Rattle.card_propagator.proofs.Placed.{place_is, no_place}
use Rattle.card_propagator.proofs.Knowing.{card_known}
use Rattle.std.proofs.Math.Seq.{drop-append_seam, drop-length}

-- notifications

-- what is told
abbrev seen_of : Board → ℕ → Bool → Seen
seen_of b l d = record { lit = l; level = b.level; decision = d }

pub put_free : (c : Counting) (b : Board) (l : ℕ) → is_followed c.table c.level (trail_of b) ≡ true → trail_value b.seen l ≡ None → 0 < var_of l → told c.table (var_of l) ≡ None
put_free c b l h free pos =
    let f = follows c.table c.level (trail_of b) h in
    elim (cases_lt (var_of l) (length c.table)) [
      | inl lt ↦ f.table (var_of l) pos lt ∙ untold_seen b.seen l free
      | inr le ↦ get_or_past c.table (var_of l) None le
    ]

put_table : (c : Counting) (b : Board) (l : ℕ) (d : Bool) → Follows c.table c.level (trail_of b) → first_told b.seen (var_of l) ≡ None
    → (v : ℕ) → 0 < v → v < length (set c.table (var_of l) (Some (record { lit = l; level = c.level }))) → told (set c.table (var_of l) (Some (record { lit = l; level = c.level }))) v ≡ first_told (b.seen ++ seen_of b l d ∷ []) v
put_table c b l d f none v pos lt =
    let e : Told = record { lit = l; level = c.level } in
    let within : v < length c.table = rw length-set at lt in
    let right = first_put b.seen (seen_of b l d) v none in
    elim (cases_eq v (var_of l)) [
      | inl s ↦
          let here : var_of l < length c.table = omega arith in
          let left : told (set c.table (var_of l) (Some e)) v ≡ Some e = ap (told (set c.table (var_of l) (Some e))) s ∙ get_or-set_same c.table (var_of l) (Some e) None here in
          left ∙ ap (λ (n : ℕ). Some (record e { level = n })) f.level ∙ sym (right ∙ ap (λ t. cond {A = Option Told} t (Some (record { lit = l; level = b.level })) (first_told b.seen v)) (eq-eqb (var_of l) v (sym s)))
      | inr n ↦
          get_or-set_other c.table (var_of l) v (Some e) None n ∙ f.table v pos within ∙ sym (right ∙ ap (λ t. cond {A = Option Told} t (Some (record { lit = l; level = b.level })) (first_told b.seen v)) (ne_eqb (var_of l) v (λ q. n (sym q))))
    ]

pub step_put : (c d : Counting) (a k n : ℕ) (b : Board) (l : ℕ) (decision : Bool) → d ≡ record c { table = set c.table (var_of l) (Some (record { lit = l; level = c.level })) } → InStep (card_meaning c a n) b → CanPut b l → InStep (card_meaning d k n) (put_on b l decision)
step_put c d a k n b l decision same h can =
    let f = follows c.table c.level (trail_of b) h in
    let none = untold_seen b.seen l can.1 in
    subst (λ (x : Counting). is_followed x.table x.level (trail_of (put_on b l decision)) ≡ true) (sym same)
    (followed (set c.table (var_of l) (Some (record { lit = l; level = c.level }))) c.level (trail_of (put_on b l decision)) record {
      level = f.level;
      table = put_table c b l decision f none;
      apart = apart_put b.seen (seen_of b l decision) none f.apart;
      within = within_put b.level b.seen (seen_of b l decision) (omega arith) f.within;
    })

pub step_raise : (c d : Counting) (a k n : ℕ) (b : Board) → d ≡ record c { level = c.level + 1 } → InStep (card_meaning c a n) b → InStep (card_meaning d k n) (raise_on b)
step_raise c d a k n b same h =
    let f = follows c.table c.level (trail_of b) h in
    subst (λ (x : Counting). is_followed x.table x.level (trail_of (raise_on b)) ≡ true) (sym same)
    (followed c.table (c.level + 1) (trail_of (raise_on b)) record {
      level = ap (λ x. x + 1) f.level;
      table = f.table;
      apart = f.apart;
      within = within_raise b.level (b.level + 1) b.seen (omega arith) f.within;
    })

pub step_cut : (c d : Counting) (a k n : ℕ) (b : Board) (level : ℕ) → ((v : ℕ) → told d.table v ≡ keep level (told c.table v)) → length d.table ≡ length c.table → d.level ≡ level → InStep (card_meaning c a n) b → InStep (card_meaning d k n) (cut_to b level)
step_cut c d a k n b level table size lev h =
    let f = follows c.table c.level (trail_of b) h in
    followed d.table d.level (trail_of (cut_to b level)) record {
      level = lev;
      table = λ v pos lt. table v ∙ ap (keep level) (f.table v pos (omega arith)) ∙ sym (first_cut level b.seen v f.apart);
      apart = apart_cut level b.seen f.apart;
      within = within_cut level b.seen;
    }

pub card_notified : (c d : Counting) (a k n : ℕ) → d.rules ≡ c.rules → k ≡ next_count a → Notified (card_meaning c a n) (card_meaning d k n)
card_notified c d a k n same h = record {
  counted = record { kinds = refl; steady = refl; accepted = refl; asked = h };
  admits = ap (λ r. λ m. are_kept m r) same;
  scope = ap (λ r. flat_map vars_of r) same;
}

pub card_explained : (c d : Counting) (a k n j : ℕ) (seen : List Seen) → d.rules ≡ c.rules → KeepsExplained (card_meaning c a n) (card_meaning d k j) seen
card_explained c d a k n j seen same = subst (λ r. KeepsExplained (card_meaning c a n) (card_meaning (record d { rules = r }) k j) seen) (sym same) (λ i lt p. p)

pub card_explains : (c d : Counting) (seen : List Seen) (l : ℕ) → d.rules ≡ c.rules → can_explain c.rules seen l ≡ true → can_explain d.rules seen l ≡ true
card_explains c d seen l same h = ap (λ r. can_explain r seen l) same ∙ h

-- callbacks
pub card_idle : (c d : Counting) (asked accepted k : ℕ) (b : Board) → d ≡ c → k ≡ next_count asked → InStep (card_meaning c asked accepted) b → CalledBack (card_meaning c asked accepted) (card_meaning d k accepted) b b
card_idle c d asked accepted k b e h step = called_idle (card_meaning c asked accepted) (card_meaning d k accepted) b (record { same = rw (e, h) refl }) step

pub kept_more : (m : Assignment) (rules : List Constraint) (k : ℕ) → k < length rules → are_kept m (take k rules) ≡ true → constraint_true m (rule rules k) ≡ true → are_kept m (take (k + 1) rules) ≡ true
kept_more m rules k lt h t = ap (are_kept m) (take_more rules k no_rule lt) ∙ list_all-append (constraint_true m) (take k rules) (rule rules k ∷ []) ∙ and_from (are_kept m (take k rules)) (are_kept m (rule rules k ∷ [])) h (and_from (constraint_true m (rule rules k)) true t refl)

pub ok_anyway : {A E : Type 0} (r : Result A E) (P : Type 0) → P → OnOk r P
ok_anyway (Ok a) P h = h
ok_anyway (Err e) P h = tt

pub err_anyway : {A E : Type 0} (r : Result A E) (P : Type 0) → P → OnErr r P
err_anyway (Ok a) P h = tt
err_anyway (Err e) P h = h

pub held_rule : (rules : List Constraint) (k l : ℕ) → 0 < times (lits_at rules k) l → k < length rules
held_rule rules k l pos = elim (cases_lt k (length rules)) [
  | inl lt ↦ lt
  | inr le ↦ let z : times (lits_at rules k) l ≡ 0 = rw (get_or_past rules k no_rule le) refl in absurd (omega arith)
]

pub holds_at : (ids : List ℕ) (rules : List Constraint) (i l : ℕ) → i < length ids → ((k : ℕ) → times ids k ≡ times (lits_at rules k) l) → 0 < times (lits_at rules (get_or ids i 0)) l
holds_at ids rules i l lt h = rw (← h (get_or ids i 0)) (times_at ids i lt)

pub card_fresh : (c : Counting) → c ≡ record { rules = []; table = []; level = 0 } → IsFresh (card_meaning c 0 0)
card_fresh c e = rw e record {
  in_step = followed [] 0 empty_trail record { level = refl; table = λ v pos lt. absurd (omega arith); apart = refl; within = refl };
  steady = refl;
  card = (0, omega arith, refl);
  scope = refl;
  everything = λ m. refl;
}

and_true : (x : Bool) → (x && true) ≡ x
and_true true = refl
and_true false = refl

pub card_admitted : (c d : Counting) (asked accepted k : ℕ) (r : Constraint) → d.rules ≡ c.rules ++ r ∷ [] → k ≡ next_count accepted → Admitted (card_meaning c asked accepted) (card_meaning d asked k) r
card_admitted c d asked accepted k r e h =
    let rules = c.rules in
    record {
      admits = λ m. ap (are_kept m) e ∙ list_all-append (constraint_true m) rules (r ∷ []) ∙ ap (λ x. are_kept m rules && x) (and_true (constraint_true m r));
      scope = λ v k. elim (has-append_cases (flat_map vars_of rules) (vars_of r) v
          (subst (λ (x : List ℕ). has x v ≡ true) (ap (flat_map vars_of) e ∙ flat_map-append vars_of rules (r ∷ []) ∙ ap (λ x. flat_map vars_of rules ++ x) (append-nil (vars_of r))) k)) [
            | inl old ↦ or_left (has (flat_map vars_of rules) v) (has (vars_of r) v) old
            | inr new ↦ or_right (has (flat_map vars_of rules) v) (has (vars_of r) v) new
          ];
      accepted = h;
    }

pub card_refused : (c d : Counting) (asked accepted : ℕ) → d.rules ≡ c.rules → Refused (card_meaning c asked accepted) (card_meaning d asked accepted)
card_refused c d asked accepted e = record { admits = ap (λ r. λ m. are_kept m r) e; scope = ap (λ r. flat_map vars_of r) e; accepted = refl }

explained_more : (c d : Counting) (a n k j : ℕ) (r : Constraint) (seen : List Seen) → d.rules ≡ c.rules ++ r ∷ [] → KeepsExplained (card_meaning c a n) (card_meaning d k j) seen
explained_more c d a n k j r seen e i lt h = ap (λ q. can_explain q (take i seen) (entry seen i).lit) e ∙ explain_more c.rules r (take i seen) (entry seen i).lit h

pub card_kept_ok : (c d : Counting) (asked accepted k : ℕ) (r : Constraint) (b : Board) → d.rules ≡ c.rules ++ r ∷ [] → Follows d.table d.level (trail_of b) → KeptByAdmit (card_meaning c asked accepted) (card_meaning d asked k) b
card_kept_ok c d asked accepted k r b e f = record { kinds = refl; steady = refl; asked = refl; in_step = followed d.table d.level (trail_of b) f; explained = explained_more c d asked accepted asked k r b.seen e }

pub card_kept_err : (c d : Counting) (asked accepted : ℕ) (b : Board) → d.rules ≡ c.rules → Follows d.table d.level (trail_of b) → KeptByAdmit (card_meaning c asked accepted) (card_meaning d asked accepted) b
card_kept_err c d asked accepted b e f = record { kinds = refl; steady = refl; asked = refl; in_step = followed d.table d.level (trail_of b) f; explained = card_explained c d asked asked accepted accepted b.seen e }

pub level_room : (c : Counting) (b : Board) → is_followed c.table c.level (trail_of b) ≡ true → CanRaise b → c.level < max_var
level_room c b h can = let f = follows c.table c.level (trail_of b) h in omega (arith, f.level, can.room)

pub level_below : (c : Counting) (b : Board) (level : ℕ) → is_followed c.table c.level (trail_of b) ≡ true → CanCut b level → level ≤ c.level
level_below c b level h can = let f = follows c.table c.level (trail_of b) h in omega (arith, f.level, can.below)

pub level_root : (c : Counting) (b : Board) → is_followed c.table c.level (trail_of b) ≡ true → b.level ≡ 0 → c.level ≡ 0
level_root c b h z = let f = follows c.table c.level (trail_of b) h in f.level ∙ z

pub ok_map : {A E : Type 0} (r : Result A E) (P Q : Type 0) → (P → Q) → OnOk r P → OnOk r Q
ok_map (Ok a) P Q k h = k h
ok_map (Err e) P Q k h = h

-- what is handed where a rule is broken
pub card_handed : (c d : Counting) (asked accepted n k : ℕ) (b now : Board) → d ≡ c → n ≡ next_count asked → IsProper c → InStep (card_meaning c asked accepted) b → k < length c.rules → IsBroken c.table (bound_at c.rules k) (lits_at c.rules k)
    → now ≡ with_handed b (filter (λ x. is_false (value d.table x)) (lits_at d.rules k)) false
    → IsSeenTrail b.observed b.seen b.level
    → CalledBack (card_meaning c asked accepted) (card_meaning d n accepted) b now
card_handed c d asked accepted n k b now e en proper step lt broken is shape =
    let f = follows c.table c.level (trail_of b) step in
    let lits = lits_at c.rules k in
    let clause = filter (λ x. is_false (value c.table x)) lits in
    let same : clause ≡ fallen b.seen lits = fallen_same c.table c.level (trail_of b) lits f (proper.known k) in
    let down = falses_seen c.table c.level (trail_of b) lits f (proper.known k) in
    let is' : now ≡ with_handed b clause false = subst (λ (x : Counting). now ≡ with_handed b (filter (λ y. is_false (value x.table y)) (lits_at x.rules k)) false) e is in
    let observed' = card_known c asked accepted k b proper step shape in
    subst (λ x. CalledBack (card_meaning c asked accepted) (card_meaning d n accepted) b x) (sym is')
    (called_handing (card_meaning c asked accepted) (card_meaning d n accepted) b clause false (record { same = rw (e, en) refl }) step
    observed'.each
    (λ m adm. subst (λ x. clause_true m x ≡ true) (sym same) (broken_true m b.seen (bound_at c.rules k) lits (card_count m (rule c.rules k) (proper.cards k) (kept_at m c.rules k adm lt)) (omega (arith, broken.short, down, open_false b.seen lits))))
    (inl (subst (IsFalseSeen b.seen) (sym same) (fallen_false b.seen lits))))

-- what is propagated
pub card_implied : (c d : Counting) (asked accepted n k l : ℕ) (b : Board) → d ≡ c → IsProper c → InStep (card_meaning c asked accepted) b → k < length c.rules → IsForced c.table (bound_at c.rules k) (lits_at c.rules k) l → has b.observed (var_of l) ≡ true → IsImplied (card_meaning d n accepted) b l
card_implied c d asked accepted n k l b e proper step lt forced observed =
    let f = follows c.table c.level (trail_of b) step in
    let lits = lits_at c.rules k in
    let kn = proper.known k l forced.holds in
    let down = falses_seen c.table c.level (trail_of b) lits f (proper.known k) in
    let free : trail_value b.seen l ≡ None = sym (value_seen c.table c.level (trail_of b) l f kn.0 kn.1) ∙ forced.free in
    let short : open_but b.seen l lits < bound_at c.rules k = omega (arith, forced.short, down, but_false b.seen l lits free) in
    let yes : is_forced b.seen l (rule c.rules k) ≡ true = and_from (ltb 0 (times lits l)) (ltb (open_but b.seen l lits) (bound_at c.rules k)) (lt-ltb 0 (times lits l) forced.holds) (lt-ltb (open_but b.seen l lits) (bound_at c.rules k) short) in
    subst (λ (x : Counting). IsImplied (card_meaning x n accepted) b l) (sym e) record {
      free = (observed, free);
      implied = λ m adm made. forced_true m b.seen (bound_at c.rules k) l lits made (card_count m (rule c.rules k) (proper.cards k) (kept_at m c.rules k adm lt)) short;
      explained = explain_from c.rules b.seen l k lt yes;
    }

pub card_quiet : (c : Counting) (asked accepted : ℕ) (b : Board) → IsProper c → InStep (card_meaning c asked accepted) b → AllSettled c.rules c.table → AreQuiet c.rules b.seen
card_quiet c asked accepted b proper step all =
    let f = follows c.table c.level (trail_of b) step in
    record { each = λ k lt. settled_quiet c.table c.level (trail_of b) (bound_at c.rules k) (lits_at c.rules k) f (proper.known k) (all.each k lt) }

-- a lazy reason
pub card_reason : (c d : Counting) (asked accepted n k place j l : ℕ) (b : Board) (out : List ℕ) → d ≡ c → IsProper c → InStep (card_meaning c asked accepted) b
    → trail_place b.seen (var_of l) ≡ Some place → k < length d.rules → is_forced (take place b.seen) l (rule d.rules k) ≡ true
    → out ≡ l ∷ fallen (take place b.seen) (lits_at d.rules k)
    → StandsAt (card_meaning c asked accepted) b.seen j l → IsReasonGiven (card_meaning d n accepted) b.seen j l out
card_reason c d asked accepted n k place j l b out e proper step at lt forced is stands =
    let f = follows c.table c.level (trail_of b) step in
    let same : place ≡ j = place_is b.seen j l place f.apart stands.inside stands.place at in
    let lits = lits_at d.rules k in
    let short = ltb-true (open_but (take place b.seen) l lits) (bound_at d.rules k) (and_parts (ltb 0 (times lits l)) (ltb (open_but (take place b.seen) l lits) (bound_at d.rules k)) forced).1 in
    let proper' : IsProper d = subst IsProper (sym e) proper in
    let out' : out ≡ l ∷ fallen (take j b.seen) lits = is ∙ ap (λ p. l ∷ fallen (take p b.seen) lits) same in
    let short' : open_but (take j b.seen) l lits < bound_at d.rules k = subst (λ (p : ℕ). open_but (take p b.seen) l lits < bound_at d.rules k) same short in
    rw out' record {
      holds = or_left (eqb l l) (has (fallen (take j b.seen) lits) l) (eq-eqb l l refl);
      others = λ x h n. elim (or_cases (eqb l x) (has (fallen (take j b.seen) lits) x) h) [
        | inl y ↦ absurd (n (sym (eqb-true l x y)))
        | inr more ↦ fallen_false (take j b.seen) lits x more
      ];
      implied = λ m adm. reason_true m (take j b.seen) (bound_at d.rules k) l lits (card_count m (rule d.rules k) (proper'.cards k) (kept_at m d.rules k adm lt)) short';
    }

-- a clause that is false on the trail is false where the trail is true
all_false : (m : Assignment) (seen : List Seen) (c : List ℕ) → MakesTrue m seen → IsFalseSeen seen c → clause_true m c ≡ false
all_false m seen c made h = false_from_ne_true (clause_true m c) (λ y.
    let s = clause_true-some m c y in
    false≢true (sym (value_holds m seen s.0 false made (h s.0 s.1)) ∙ s.2))

-- a handed clause that the model makes false
pub card_said_no : (c : Counting) (asked accepted k : ℕ) (b now : Board) (model : List Bool) → IsProper c → InStep (card_meaning c asked accepted) b → MakesTrue (values model) b.seen
    → now ≡ with_handed b (filter (λ x. is_false (value c.table x)) (lits_at c.rules k)) false
    → IsRefuted model b now
card_said_no c asked accepted k b now model proper step made is =
    let f = follows c.table c.level (trail_of b) step in
    let lits = lits_at c.rules k in
    let clause = filter (λ x. is_false (value c.table x)) lits in
    let h : Handed = record { clause = clause; forgettable = false } in
    let same : clause ≡ fallen b.seen lits = fallen_same c.table c.level (trail_of b) lits f (proper.known k) in
    let no' : clause_true (values model) clause ≡ false = ap (clause_true (values model)) same ∙ all_false (values model) b.seen (fallen b.seen lits) made (fallen_false b.seen lits) in
    rw is (rw (drop-append_seam b.handed (h ∷ [])) (0, h, omega arith, refl, no'))

pub handed_nothing : (b now : Board) (c : List ℕ) (forgettable : Bool) → now ≡ with_handed b c forgettable → handed_now b now ≡ [] → ⊥
handed_nothing b now c forgettable is none =
    let h : Handed = record { clause = c; forgettable = forgettable } in
    let k : h ∷ [] ≡ [] = sym (ap (handed_now b) is ∙ drop-append_seam b.handed (h ∷ [])) ∙ none in cc

pub card_stays : (c d : Counting) (asked accepted k : ℕ) (b now : Board) → now ≡ b → d ≡ c → k ≡ next_count asked → InStep (card_meaning c asked accepted) b → CalledBack (card_meaning c asked accepted) (card_meaning d k accepted) b now
card_stays c d asked accepted k b now same e h step = subst (λ x. CalledBack (card_meaning c asked accepted) (card_meaning d k accepted) b x) (sym same) (card_idle c d asked accepted k b e h step)

pub hands_none : (b now : Board) → now ≡ b → HandsFalse b now
hands_none b now e = rw e (rw (drop-length b.handed) (All-nil _))

pub hands_one : (c d : Counting) (asked accepted k : ℕ) (b now : Board) → d ≡ c → IsProper c → InStep (card_meaning c asked accepted) b
    → now ≡ with_handed b (filter (λ x. is_false (value d.table x)) (lits_at d.rules k)) false → HandsFalse b now
hands_one c d asked accepted k b now e proper step is =
    let f = follows c.table c.level (trail_of b) step in
    let lits = lits_at c.rules k in
    let clause = filter (λ x. is_false (value c.table x)) lits in
    let h : Handed = record { clause = clause; forgettable = false } in
    let is' : now ≡ with_handed b clause false = subst (λ (x : Counting). now ≡ with_handed b (filter (λ y. is_false (value x.table y)) (lits_at x.rules k)) false) e is in
    let same : clause ≡ fallen b.seen lits = fallen_same c.table c.level (trail_of b) lits f (proper.known k) in
    let P : Handed → Type 0 = λ x. IsFalseSeen b.seen x.clause in
    let p : P h = subst (IsFalseSeen b.seen) (sym same) (fallen_false b.seen lits) in
    rw is' (rw (drop-append_seam b.handed (h ∷ [])) (All-cons P h [] p (All-nil P)))

pub counts_exact : (c : Counting) (asked accepted k up down : ℕ) (b : Board) → IsProper c → InStep (card_meaning c asked accepted) b → up ≡ trues c.table (lits_at c.rules k) → down ≡ falses c.table (lits_at c.rules k)
    → (up ≡ true_count b.seen (lits_at c.rules k)) × (down ≡ false_count b.seen (lits_at c.rules k))
counts_exact c asked accepted k up down b proper step u d =
    let f = follows c.table c.level (trail_of b) step in
    (u ∙ trues_seen c.table c.level (trail_of b) (lits_at c.rules k) f (proper.known k), d ∙ falses_seen c.table c.level (trail_of b) (lits_at c.rules k) f (proper.known k))

-- where no holder forces the literal, nothing explains it
pub none_explains : (rules : List Constraint) (ids : List ℕ) (seen : List Seen) (l : ℕ) → ((k : ℕ) → times ids k ≡ times (lits_at rules k) l) → ((j : ℕ) → j < length ids → is_forced seen l (rule rules (get_or ids j 0)) ≡ false) → can_explain rules seen l ≡ false
none_explains rules ids seen l held none = false_from_ne_true (can_explain rules seen l) (λ y.
    let f = explain_find rules seen l y in
    let pos = ltb-true 0 (times (lits_at rules f.0) l) (and_parts (ltb 0 (times (lits_at rules f.0) l)) (ltb (open_but seen l (lits_at rules f.0)) (bound_at rules f.0)) f.2).0 in
    let at = times_place ids f.0 (omega (arith, held f.0, pos)) in
    let z : is_forced seen l (rule rules f.0) ≡ false = ap (λ k. is_forced seen l (rule rules k)) (sym at.2) ∙ none at.0 at.1 in
    let k : true ≡ false = sym f.2 ∙ z in cc)

-- an explained literal has a place, and a rule that forced it
pub has_place : (t : Meaning) (seen : List Seen) (k l : ℕ) → are_apart seen ≡ true → StandsAt t seen k l → trail_place seen (var_of l) ≡ None → ⊥
has_place t seen k l apart s none = no_place seen k l apart s.inside s.place none

pub has_reason : (c : Counting) (asked accepted k place l : ℕ) (b : Board) → InStep (card_meaning c asked accepted) b → StandsAt (card_meaning c asked accepted) b.seen k l → trail_place b.seen (var_of l) ≡ Some place → can_explain c.rules (take place b.seen) l ≡ false → ⊥
has_reason c asked accepted k place l b step s at none =
    let f = follows c.table c.level (trail_of b) step in
    let same : place ≡ k = place_is b.seen k l place f.apart s.inside s.place at in
    let y : can_explain c.rules (take place b.seen) l ≡ true = ap (λ p. can_explain c.rules (take p b.seen) l) same ∙ ap (can_explain c.rules (take k b.seen)) (sym s.place) ∙ s.explained in
    let q : true ≡ false = sym y ∙ none in cc
