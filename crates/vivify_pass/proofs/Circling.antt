-- Laws of clauses that are tried in turn, and once round.
use Rattle.firm_terms.proofs.Dividing.{div_below}
use Rattle.std.proofs.Common.{◌≡◌, ◌≢◌, ℕ, suc, zero, ◌+◌, ◌-◌, ◌*◌, ◌<◌, ◌≤◌, true, false, cond, eqb, List, length, length-set, get_or, take, drop, set, Option, Result, Ok, Err, IfOk, inl, inr, refl, sym, ap, ◌∙◌, subst, arith}
use Rattle.std.proofs.lemmas.Bool.{false≢true, cases_eq, cases_lt, eq-eqb, ne_eqb}
use Rattle.std.proofs.lemmas.List.{get_or_default, get_or-drop, get_or-take, length-take-le, length-drop, take_all}
use Rattle.std.proofs.lemmas.List.Sums.{sum_by-take-drop, sum_by-set, sum_by_more, sum_by_more_le, sum_by-take-le}
use Rattle.std.proofs.Math.Nat.{mul-le-mul_left}
use Rattle.clause_store.specs.Stored.{Stored, slot, slot_lits, is_firm}
use Rattle.clause_store.specs.Listing.{times, HasEachOnce, firm_at}
use Rattle.rule_kernel.specs.State.{State}
use Rattle.pass_terms.specs.Ruled.{Ruled, always}
use Rattle.pass_terms.specs.Ruled.Ruled.{none}
use Rattle.pass_terms.proofs.Ruling.{ruled_trans}
use Rattle.trail_state.specs.Trail.{Trace}
use Rattle.watch_lists.specs.Propagation.{Watching}
use Rattle.vivify_pass.specs.declared.turn.Round.{Round}
use Rattle.vivify_pass.specs.declared.turn.Round.TheVariants.{Unchanged, Changed, Stopped}
use Rattle.firm_terms.specs.Firm.{firm_size, lits_sum}
use Rattle.firm_terms.specs.Vivifying.{Calm, AllCalm}
use Rattle.vivify_pass.specs.Trailing.{Ready}
use Rattle.vivify_pass.specs.Turning.{StaysSame, Shortens, GetsShorter, ComesFull, AreFirm, literals, CalmAt, AllStay, OneShortens, RunsOut, Tried, ReachesLimit}
use Rattle.firm_terms.proofs.Counting.{listed, place_of}
use Rattle.firm_terms.proofs.Summing.{firm_size_is, sum_ids}

-- the id at a place
at_id : (ids : List ℕ) (i id : ℕ) → i < length ids → id ≡ get_or ids i id → get_or ids i 0 ≡ id
at_id ids i id in' read = sym (read ∙ get_or_default ids i id 0 in')

size_at : (s : List (Option Stored)) (ids : List ℕ) (i id : ℕ) → AreFirm s ids → i < length ids → get_or ids i 0 ≡ id → firm_size (slot s (get_or ids i 0)) ≡ length (slot_lits (slot s id))
size_at s ids i id firm' in' e = firm_size_is (slot s (get_or ids i 0)) (firm' i in') ∙ ap (λ (z : ℕ). length (slot_lits (slot s z))) e

-- what holds before the clause at a place is tried
pub record Trying (s t : State) (w : Watching) (trail : Trace) (ids : List ℕ) (i a b limit : ℕ) : Type 0 where
  pub same : t ≡ s
  pub calm : (k : ℕ) → k < i → CalmAt s.store ids k
  pub ready : Ready t.store w trail
  pub spent : b ≤ a + literals s.store (take i ids)
  pub rest : b ≤ limit

pub trying_none : (s : State) (w : Watching) (trail : Trace) (ids : List ℕ) (a limit : ℕ) → Ready s.store w trail → a ≤ limit → Trying s s w trail ids 0 a a limit
trying_none s w trail ids a limit h le = record { same = refl; calm = λ k lt. absurd (omega arith); ready = h; spent = omega arith; rest = le }

pub still_firm : (s t : State) (w : Watching) (trail : Trace) (ids : List ℕ) (i id a b limit : ℕ) → AreFirm s.store ids → i < length ids → id ≡ get_or ids i id → Trying s t w trail ids i a b limit → is_firm (slot t.store id) ≡ true
still_firm s t w trail ids i id a b limit firm' in' read h =
    let e = at_id ids i id in' read in
    let same = h.same in
    rw same (subst (λ (z : ℕ). is_firm (slot s.store z) ≡ true) e (firm' i in'))

pub trying_ruled : (s t u : State) (w : Watching) (trail : Trace) (ids : List ℕ) (i a b limit : ℕ) → Trying s t w trail ids i a b limit → Ruled always t u → Ruled always s u
trying_ruled s t u w trail ids i a b limit h r = subst (λ (z : State). Ruled always z u) h.same r

pub trying_more : (s t u : State) (w v : Watching) (trail trail' : Trace) (ids : List ℕ) (i id a b c limit : ℕ) → AreFirm s.store ids → i < length ids → id ≡ get_or ids i id → Trying s t w trail ids i a b limit → StaysSame t u v trail' id b c limit
    → Trying s u v trail' ids (i + 1) a c limit
trying_more s t u w v trail trail' ids i id a b c limit firm' in' read h tried =
    let k : StaysSame s u v trail' id b c limit = subst (λ (z : State). StaysSame z u v trail' id b c limit) h.same tried in
    let e = at_id ids i id in' read in
    let m = sum_by_more (λ j. firm_size (slot s.store j)) ids i 0 in' in
    let z = size_at s.store ids i id firm' in' e in
    let sp = h.spent in
    let sp' = k.spent in
    record {
      same = k.same;
      calm = λ j lt.
          elim (cases_lt j i) [
            | inl less ↦ h.calm j less
            | inr ge ↦
                (let is : get_or ids j 0 ≡ id = ap (λ (x : ℕ). get_or ids x 0) (let q : j ≡ i = omega arith in q) ∙ e in
                subst (λ (x : ℕ). Calm s.store x (slot_lits (slot s.store x))) (sym is) k.calm)
          ];
      ready = k.ready;
      spent = omega (arith, m, z, sp, sp');
      rest = k.rest;
    }

pub trying_shorter : (s t u : State) (w v : Watching) (trail trail' : Trace) (ids : List ℕ) (i id next a b c limit : ℕ) → AreFirm s.store ids → i < length ids → id ≡ get_or ids i id → Trying s t w trail ids i a b limit → GetsShorter t u v trail' id next b c limit
    → OneShortens s u v trail' ids i next a c limit
trying_shorter s t u w v trail trail' ids i id next a b c limit firm' in' read h tried =
    let k : GetsShorter s u v trail' id next b c limit = subst (λ (z : State). GetsShorter z u v trail' id next b c limit) h.same tried in
    let e = at_id ids i id in' read in
    let m = sum_by_more_le (λ j. firm_size (slot s.store j)) ids i 0 in' in
    let z = size_at s.store ids i id firm' in' e in
    let sp = h.spent in
    let sp' = k.spent in
    record {
      within = in';
      shorter = subst (λ (x : ℕ). Shortens s.store u.store x next) (sym e) k.shorter;
      ready = k.ready;
      spent = omega (arith, m, z, sp, sp');
      rest = k.rest;
    }

pub trying_full : (s t u : State) (w : Watching) (trail : Trace) (ids : List ℕ) (i id a b c limit : ℕ) → AreFirm s.store ids → i < length ids → id ≡ get_or ids i id → Trying s t w trail ids i a b limit → ComesFull t u id b c limit → RunsOut s u ids a c limit
trying_full s t u w trail ids i id a b c limit firm' in' read h tried =
    let k : ComesFull s u id b c limit = subst (λ (z : State). ComesFull z u id b c limit) h.same tried in
    let e = at_id ids i id in' read in
    let m = sum_by_more_le (λ j. firm_size (slot s.store j)) ids i 0 in' in
    let z = size_at s.store ids i id firm' in' e in
    let sp = h.spent in
    let so = k.some in
    record { same = k.same; full = k.full; some = omega (arith, m, z, sp, so) }

pub trying_end : (s t : State) (w : Watching) (trail : Trace) (ids : List ℕ) (i a b limit : ℕ) → length ids ≤ i → Trying s t w trail ids i a b limit → AllStay s t w trail ids a b limit
trying_end s t w trail ids i a b limit past h =
    let sp = h.spent in
    let m = sum_by-take-le (λ j. firm_size (slot s.store j)) ids i in
    record { same = h.same; calm = λ k lt. h.calm k (omega arith); ready = h.ready; spent = omega (arith, sp, m); rest = h.rest }

-- two parts of the ids, from a place on and before it
pub rest_of : (ids : List ℕ) (start : ℕ) → take (length ids - start) (drop start ids) ≡ drop start ids
rest_of ids start = let l = length-drop start ids in take_all (length ids - start) (drop start ids) (omega (arith, l))

rest_at : (ids first : List ℕ) (start k : ℕ) → first ≡ drop start ids → get_or first k 0 ≡ get_or ids (start + k) 0
rest_at ids first start k e = ap (λ (z : List ℕ). get_or z k 0) e ∙ get_or-drop start ids k 0

rest_length : (ids first : List ℕ) (start : ℕ) → first ≡ drop start ids → length first ≡ length ids - start
rest_length ids first start e = ap length e ∙ length-drop start ids

front_at : (ids front : List ℕ) (start k : ℕ) → front ≡ take start ids → k < start → get_or front k 0 ≡ get_or ids k 0
front_at ids front start k e lt = ap (λ (z : List ℕ). get_or z k 0) e ∙ get_or-take start ids k 0 lt

front_length : (ids front : List ℕ) (start : ℕ) → start ≤ length ids → front ≡ take start ids → length front ≡ start
front_length ids front start le e = ap length e ∙ length-take-le start ids le

both_parts : (s : List (Option Stored)) (ids first front : List ℕ) (start : ℕ) → first ≡ drop start ids → front ≡ take start ids → literals s front + literals s first ≡ literals s ids
both_parts s ids first front start e f = rw (e, f) (sum_by-take-drop (λ j. firm_size (slot s j)) ids start)

rest_less : (s : List (Option Stored)) (ids first : List ℕ) (start : ℕ) → first ≡ drop start ids → literals s first ≤ literals s ids
rest_less s ids first start e = let b = both_parts s ids first (take start ids) start e refl in omega (arith, b)

pub firm_rest : (s : List (Option Stored)) (ids first : List ℕ) (start : ℕ) → AreFirm s ids → first ≡ drop start ids → AreFirm s first
firm_rest s ids first start h e k lt =
    let l = rest_length ids first start e in
    subst (λ (z : ℕ). is_firm (slot s z) ≡ true) (sym (rest_at ids first start k e)) (h (start + k) (omega arith))

pub firm_front : (s t : State) (ids front : List ℕ) (start : ℕ) → start ≤ length ids → AreFirm s.store ids → front ≡ take start ids → t ≡ s → AreFirm t.store front
firm_front s t ids front start le h e same k lt =
    let l = front_length ids front start le e in
    rw same (subst (λ (z : ℕ). is_firm (slot s.store z) ≡ true) (sym (front_at ids front start k e (omega arith))) (h k (omega arith)))

pub round_first : (s t : State) (w : Watching) (trail : Trace) (ids first : List ℕ) (start place next a b limit : ℕ) → first ≡ drop start ids → OneShortens s t w trail first place next a b limit → OneShortens s t w trail ids (start + place) next a b limit
round_first s t w trail ids first start place next a b limit e h =
    let l = rest_length ids first start e in
    let m = rest_less s.store ids first start e in
    let i = h.within in
    let sp = h.spent in
    record {
      within = omega (arith, l, i);
      shorter = subst (λ (z : ℕ). Shortens s.store t.store z next) (rest_at ids first start place e) h.shorter;
      ready = h.ready;
      spent = omega (arith, m, sp);
      rest = h.rest;
    }

pub round_stopped : (s t : State) (ids first : List ℕ) (start a b limit : ℕ) → first ≡ drop start ids → RunsOut s t first a b limit → RunsOut s t ids a b limit
round_stopped s t ids first start a b limit e h =
    let m = rest_less s.store ids first start e in
    let so = h.some in
    record { same = h.same; full = h.full; some = omega (arith, m, so) }

-- the clauses before the place, after none from the place on got shorter
pub round_on : (s t u : State) (w v : Watching) (trail trail' : Trace) (ids first front : List ℕ) (start a b c limit : ℕ) → start ≤ length ids → first ≡ drop start ids → front ≡ take start ids → AllStay s t w trail first a b limit
    → (round : Round) → Tried t u v trail' front b c limit round → Tried s u v trail' ids a c limit round
round_on s t u w v trail trail' ids first front start a b c limit le e f h Unchanged tried =
    let k : AllStay s u v trail' front b c limit = subst (λ (z : State). AllStay z u v trail' front b c limit) h.same tried in
    let both = both_parts s.store ids first front start e f in
    let lr = rest_length ids first start e in
    let lf = front_length ids front start le f in
    let sp = h.spent in
    let sp' = k.spent in
    record {
      same = k.same;
      calm = λ j lt.
          elim (cases_lt j start) [
            | inl less ↦ subst (λ (x : ℕ). Calm s.store x (slot_lits (slot s.store x))) (front_at ids front start j f less) (k.calm j (omega (arith, lf, less)))
            | inr ge ↦
                (let z : start + (j - start) ≡ j = omega arith in
                let is : get_or first (j - start) 0 ≡ get_or ids j 0 = rest_at ids first start (j - start) e ∙ ap (λ (x : ℕ). get_or ids x 0) z in
                subst (λ (x : ℕ). Calm s.store x (slot_lits (slot s.store x))) is (h.calm (j - start) (omega (arith, lr, ge, lt))))
          ];
      ready = k.ready;
      spent = omega (arith, both, sp, sp');
      rest = k.rest;
    }
round_on s t u w v trail trail' ids first front start a b c limit le e f h (Changed place next) tried =
    let k : OneShortens s u v trail' front place next b c limit = subst (λ (z : State). OneShortens z u v trail' front place next b c limit) h.same tried in
    let both = both_parts s.store ids first front start e f in
    let lf = front_length ids front start le f in
    let i = k.within in
    let sp = h.spent in
    let sp' = k.spent in
    record {
      within = omega (arith, lf, i);
      shorter = subst (λ (z : ℕ). Shortens s.store u.store z next) (front_at ids front start place f (omega (arith, lf, i))) k.shorter;
      ready = k.ready;
      spent = omega (arith, both, sp, sp');
      rest = k.rest;
    }
round_on s t u w v trail trail' ids first front start a b c limit le e f h Stopped tried =
    let k : RunsOut s u front b c limit = subst (λ (z : State). RunsOut z u front b c limit) h.same tried in
    let both = both_parts s.store ids first front start e f in
    let sp = h.spent in
    let so = k.some in
    record { same = k.same; full = k.full; some = omega (arith, both, sp, so) }

pub if_ok_map : {A E : Type 0} (r : Result A E) (P Q : A → Type 0) → IfOk r P → ((x : A) → P x → Q x) → IfOk r Q
if_ok_map (Ok x) P Q h f = f x h
if_ok_map (Err e) P Q h f = h

-- the ids of the firm clauses, after one got shorter
pub once_set : (s t : List (Option Stored)) (ids : List ℕ) (place next : ℕ) → HasEachOnce (firm_at s) ids → place < length ids → Shortens s t (get_or ids place 0) next → HasEachOnce (firm_at t) (set ids place next)
once_set s t ids place next each lt h = record {
  once = λ k.
      let old : ℕ = get_or ids place 0 in
      let firm' : is_firm (slot s old) ≡ true = listed (firm_at s) ids place each lt in
      let free : is_firm (slot s next) ≡ false = ap is_firm h.fresh in
      let apart : old ≢ next = λ e. false≢true (sym free ∙ ap (λ (z : ℕ). is_firm (slot s z)) (sym e) ∙ firm') in
      let sum : times (set ids place next) k + cond (eqb old k) 1 0 ≡ times ids k + cond (eqb next k) 1 0 = sum_by-set (λ y. cond (eqb y k) 1 0) ids place next 0 lt in
      let was = each.once k in
      elim (cases_eq k old) [
        | inl e ↦
            (let a : ◌≡◌ {A = ℕ} (cond (eqb old k) 1 0) 1 = rw (eq-eqb old k (sym e)) refl in
            let b : ◌≡◌ {A = ℕ} (cond (eqb next k) 1 0) 0 = rw (ne_eqb next k (λ z. apart (sym (z ∙ e)))) refl in
            let c : times ids k ≡ 1 = was ∙ rw (ap (λ (z : ℕ). is_firm (slot s z)) e ∙ firm') refl in
            let d : is_firm (slot t k) ≡ false = ap is_firm (ap (slot t) e ∙ h.gone) in
            rw d (omega (arith, sum, a, b, c)))
        | inr n ↦
            elim (cases_eq k next) [
              | inl e ↦
                  (let a : ◌≡◌ {A = ℕ} (cond (eqb old k) 1 0) 0 = rw (ne_eqb old k (λ z. n (sym z))) refl in
                  let b : ◌≡◌ {A = ℕ} (cond (eqb next k) 1 0) 1 = rw (eq-eqb next k (sym e)) refl in
                  let c : times ids k ≡ 0 = was ∙ rw (ap (λ (z : ℕ). is_firm (slot s z)) e ∙ free) refl in
                  let d : is_firm (slot t k) ≡ true = ap (λ (z : ℕ). is_firm (slot t z)) e ∙ h.here in
                  rw d (omega (arith, sum, a, b, c)))
              | inr m ↦
                  (let a : ◌≡◌ {A = ℕ} (cond (eqb old k) 1 0) 0 = rw (ne_eqb old k (λ z. n (sym z))) refl in
                  let b : ◌≡◌ {A = ℕ} (cond (eqb next k) 1 0) 0 = rw (ne_eqb next k (λ z. m (sym z))) refl in
                  let d : is_firm (slot t k) ≡ is_firm (slot s k) = ap is_firm (h.others k n m) in
                  let z : times (set ids place next) k ≡ times ids k = omega (arith, sum, a, b) in
                  rw d (z ∙ was))
            ]
      ];
}

-- what holds between rounds
pub record Circling (s t : State) (w : Watching) (trail : Trace) (ids : List ℕ) (start b limit : ℕ) : Type 0 where
  pub ruled : Ruled always s t
  pub ready : Ready t.store w trail
  pub each : HasEachOnce (firm_at t.store) ids
  pub within : start ≤ length ids
  pub no_more : lits_sum t.store ≤ lits_sum s.store
  pub spent : b ≤ lits_sum s.store * (lits_sum s.store - lits_sum t.store)
  pub rest : b ≤ limit

pub circling_none : (s : State) (w : Watching) (trail : Trace) (ids : List ℕ) (limit : ℕ) → Ready s.store w trail → HasEachOnce (firm_at s.store) ids → Circling s s w trail ids 0 0 limit
circling_none s w trail ids limit h each = record { ruled = none; ready = h; each = each; within = omega arith; no_more = omega arith; spent = omega arith; rest = omega arith }

pub firm_all : (s : List (Option Stored)) (ids : List ℕ) → HasEachOnce (firm_at s) ids → AreFirm s ids
firm_all s ids each k lt = listed (firm_at s) ids k each lt

pub circling_more : (s t u : State) (w v : Watching) (trail trail' : Trace) (ids : List ℕ) (start place next b c limit : ℕ) → Circling s t w trail ids start b limit → Ruled always t u → OneShortens t u v trail' ids place next b c limit
    → Circling s u v trail' (set ids place next) (place + 1) c limit
circling_more s t u w v trail trail' ids start place next b c limit h ruled k =
    let less = h.no_more in
    let fell = k.shorter.fallen in
    let whole = sum_ids t.store ids h.each in
    let f : (lits_sum s.store - lits_sum t.store) + 1 ≤ lits_sum s.store - lits_sum u.store = omega (arith, less, fell) in
    let mul : lits_sum s.store * ((lits_sum s.store - lits_sum t.store) + 1) ≤ lits_sum s.store * (lits_sum s.store - lits_sum u.store) = mul-le-mul_left (lits_sum s.store) f in
    let sp = h.spent in
    let sp' = k.spent in
    let i = k.within in
    let len = length-set ids place next in
    record {
      ruled = ruled_trans always s t u h.ruled ruled;
      ready = k.ready;
      each = once_set t.store u.store ids place next h.each k.within k.shorter;
      within = omega (arith, i, len);
      no_more = omega (arith, less, fell);
      spent = omega (arith, mul, sp, sp', whole, less);
      rest = k.rest;
    }

some_literal : (b l g : ℕ) → b < l * (g + 1) → 0 < l
some_literal b zero g h = absurd (omega arith)
some_literal b (suc l) g h = omega arith

reaches_limit : (s t : List (Option Stored)) (limit b : ℕ) → b ≡ limit → b < lits_sum s * ((lits_sum s - lits_sum t) + 1) → ReachesLimit s t limit b
reaches_limit s t limit b full h =
    let l : ℕ = lits_sum s in
    let g : ℕ = lits_sum s - lits_sum t in
    let le : g + 1 ≤ l + 1 = omega arith in
    let mul : l * (g + 1) ≤ l * (l + 1) = mul-le-mul_left l le in
    let pos = some_literal b l g h in
    record { full = full; some = pos; fell = div_below b l g pos h; below = omega (arith, h, mul, full) }

pub circling_full : (s t u : State) (w : Watching) (trail : Trace) (ids : List ℕ) (start b c limit : ℕ) → Circling s t w trail ids start b limit → RunsOut t u ids b c limit → ReachesLimit s.store u.store limit c
circling_full s t u w trail ids start b c limit h k =
    let same : u.store ≡ t.store = ap (λ (z : State). z.store) k.same in
    let whole = sum_ids t.store ids h.each in
    let less = h.no_more in
    let sp = h.spent in
    let so = k.some in
    let e : lits_sum s.store * ((lits_sum s.store - lits_sum t.store) + 1) ≡ lits_sum s.store * (lits_sum s.store - lits_sum t.store) + lits_sum s.store = grind arith in
    subst (λ (z : List (Option Stored)). ReachesLimit s.store z limit c) (sym same) (reaches_limit s.store t.store limit c k.full (omega (arith, whole, less, sp, so, e)))

pub circling_end : (s t u : State) (w v : Watching) (trail trail' : Trace) (ids : List ℕ) (start b c limit : ℕ) → Circling s t w trail ids start b limit → AllStay t u v trail' ids b c limit → AllCalm u.store
circling_end s t u w v trail trail' ids start b c limit h k =
    let same : u.store ≡ t.store = ap (λ (z : State). z.store) k.same in
    subst (λ (z : List (Option Stored)). AllCalm z) (sym same) (λ id f.
    let p = place_of (firm_at t.store) ids id h.each f in
    subst (λ (z : ℕ). Calm t.store z (slot_lits (slot t.store z))) p.2 (k.calm p.0 p.1))
