-- What holds while others are tried on a clause that is fresh, and where that ends.
use Rattle.std.proofs.Common.{◌≡◌, ◌≢◌, ℕ, ◌+◌, ◌<◌, ◌≤◌, Bool, true, false, not, eqb, ◌&&◌, ◌||◌, List, length, get_or, inl, inr, refl, sym, ap, ◌∙◌, subst, arith}
use Rattle.std.proofs.lemmas.Bool.{false≢true, cases_Bool, cases_lt, and_parts, or_cases, eqb-true, eq-eqb, ne_eqb}
use Rattle.std.proofs.lemmas.List.{get_or_default}
use Rattle.sat_terms.specs.Literal.{has}
use Rattle.clause_store.specs.Stored.{slot, slot_lits, is_firm}
use Rattle.firm_terms.specs.Subsuming.{IsFree}
use Rattle.rule_kernel.specs.State.{State, IsPromised}
use Rattle.rule_kernel.specs.Rules.{SameButMarks}
use Rattle.pass_terms.specs.Ruled.{Ruled, always}
use Rattle.pass_terms.specs.Ruled.Ruled.{none}
use Rattle.pass_terms.proofs.Ruling.{ruled_trans}
use Rattle.firm_terms.specs.Firm.{firm}
use Rattle.subsume_pass.specs.Choosing.{AreSources}
use Rattle.subsume_pass.specs.Changing.{Cut, Drops}
use Rattle.subsume_pass.specs.Trying.{waits, different, StaysFree, GoesOut, GetsCut, Halts, Settles, Advances, Stops}
use Rattle.sat_terms.proofs.Members.{has_place}
use Rattle.subsume_pass.proofs.Trying.{falls_same}
use Rattle.subsume_pass.proofs.Waiting.{different_less, different_swap, different_some}

-- while the clauses of ids are compared with one
pub record Seeking (s t : State) (id : ℕ) (ids : List ℕ) (k a b limit : ℕ) : Type 0 where
  pub ruled : Ruled always s t
  pub same : t ≡ s
  pub free : (m : ℕ) → m < k → is_firm (slot s.store (get_or ids m 0)) ≡ true → id ≢ get_or ids m 0 → IsFree (slot_lits (slot s.store (get_or ids m 0))) (slot_lits (slot s.store id))
  pub spent : b ≤ a + k
  pub rest : b ≤ limit

pub seeking_none : (s : State) (id : ℕ) (ids : List ℕ) (a limit : ℕ) → a ≤ limit → Seeking s s id ids 0 a a limit
seeking_none s id ids a limit le = record { ruled = none; same = refl; free = λ m lt. absurd (omega arith); spent = omega arith; rest = le }

pub seeking_skip : (s t : State) (id : ℕ) (ids : List ℕ) (k by a b limit : ℕ) → k < length ids → by ≡ get_or ids k by → (not (eqb id by) && is_firm (slot t.store by)) ≡ false → Seeking s t id ids k a b limit → Seeking s t id ids (k + 1) a b limit
seeking_skip s t id ids k by a b limit in' read no' h =
    let sp = h.spent in
    record {
      ruled = h.ruled;
      same = h.same;
      free = λ m lt f ne. elim (cases_lt m k) [
        | inl less ↦ h.free m less f ne
        | inr ge ↦
            (let e : get_or ids m 0 ≡ by = ap (λ (z : ℕ). get_or ids z 0) (let q : m ≡ k = omega arith in q) ∙ sym (read ∙ get_or_default ids k by 0 in') in
            let g : is_firm (slot t.store by) ≡ true = subst (λ (z : State). is_firm (slot z.store by) ≡ true) (sym h.same) (subst (λ (z : ℕ). is_firm (slot s.store z) ≡ true) e f) in
            let u : eqb id by ≡ false = ne_eqb id by (λ z. ne (z ∙ sym e)) in
            absurd (false≢true (sym no' ∙ rw (u, g) refl)))
      ];
      spent = omega arith;
      rest = h.rest;
    }

pub seeking_kept : (s t u : State) (id : ℕ) (ids : List ℕ) (k by a b c limit : ℕ) → k < length ids → by ≡ get_or ids k by → Seeking s t id ids k a b limit → Ruled always t u → (u ≡ t) × IsFree (slot_lits (slot t.store by)) (slot_lits (slot t.store id)) → c ≡ b + 1 → b < limit → Seeking s u id ids (k + 1) a c limit
seeking_kept s t u id ids k by a b c limit in' read h ruled kept one lt =
    let sp = h.spent in
    record {
      ruled = ruled_trans always s t u h.ruled ruled;
      same = kept.0 ∙ h.same;
      free = λ m lt' f ne. elim (cases_lt m k) [
        | inl less ↦ h.free m less f ne
        | inr ge ↦
            (let e : by ≡ get_or ids m 0 = read ∙ get_or_default ids k by 0 in' ∙ ap (λ (z : ℕ). get_or ids z 0) (let q : k ≡ m = omega arith in q) in
            let x : IsFree (slot_lits (slot s.store by)) (slot_lits (slot s.store id)) = subst (λ (z : State). IsFree (slot_lits (slot z.store by)) (slot_lits (slot z.store id))) h.same kept.1 in
            subst (λ (z : ℕ). IsFree (slot_lits (slot s.store z)) (slot_lits (slot s.store id))) e x)
      ];
      spent = omega arith;
      rest = omega arith;
    }

pub seek_free : (s t : State) (id : ℕ) (ids : List ℕ) (k a b limit : ℕ) → length ids ≤ k → k ≤ length ids → Seeking s t id ids k a b limit → StaysFree s t id ids a b limit
seek_free s t id ids k a b limit past upto h =
    let sp = h.spent in
    record {
      same = h.same;
      free = λ i f ne y. let p = has_place ids i 0 y in let lt = p.1 in subst (λ (z : ℕ). IsFree (slot_lits (slot s.store z)) (slot_lits (slot s.store id))) p.2 (h.free p.0 (omega arith) (subst (λ (z : ℕ). is_firm (slot s.store z) ≡ true) (sym p.2) f) (λ z. ne (z ∙ p.2)));
      spent = omega arith;
      rest = h.rest;
    }

pub seek_went : (s t u : State) (id : ℕ) (ids : List ℕ) (k a b c limit : ℕ) → k < length ids → Seeking s t id ids k a b limit → Drops t u id → c ≡ b + 1 → b < limit → GoesOut s u id (length ids) a c limit
seek_went s t u id ids k a b c limit in' h d one lt =
    let sp = h.spent in
    record { drops = subst (λ (z : State). Drops z u id) h.same d; spent = omega arith; rest = omega arith }

pub seek_shrank : (s t u : State) (id by next : ℕ) (ids : List ℕ) (k a b c limit : ℕ) → k < length ids → Seeking s t id ids k a b limit → Cut t u by id next → c ≡ b + 1 → b < limit → GetsCut s u id next (length ids) a c limit
seek_shrank s t u id by next ids k a b c limit in' h d one lt =
    let sp = h.spent in
    record { by = by; cut = subst (λ (z : State). Cut z u by id next) h.same d; spent = omega arith; rest = omega arith }

pub seek_halted : (s t : State) (id : ℕ) (ids : List ℕ) (k a b limit : ℕ) → k < length ids → limit ≤ b → Seeking s t id ids k a b limit → Halts s t (length ids) a b limit
seek_halted s t id ids k a b limit in' le h =
    let sp = h.spent in
    let r = h.rest in
    record { same = h.same; full = omega arith; some = omega arith }

pub seek_failed : (s t u : State) (id : ℕ) (ids : List ℕ) (k a b limit : ℕ) → Seeking s t id ids k a b limit → u ≡ t → u ≡ s
seek_failed s t u id ids k a b limit h e = e ∙ h.same

-- what the kernel wants before the clause is fresh no longer
pub all_free : (s t : State) (id : ℕ) (ids : List ℕ) (a b limit : ℕ) → AreSources s.store id ids → StaysFree s t id ids a b limit
    → (other : ℕ) → other ≢ id → is_firm (slot t.store other) ≡ true → 0 < length (slot_lits (slot t.store other)) → has t.waiting.due other ≡ false → IsFree (slot_lits (slot t.store other)) (slot_lits (slot t.store id))
all_free s t id ids a b limit h k = rw k.same (λ other ne f some n. elim (cases_Bool (has ids other)) [ inl y ↦ k.free other f (λ z. ne (sym z)) y | inr o ↦ h.whole other f some o ])

-- what a turn costs
first_of : (a b : Bool) → (a && b) ≡ true → a ≡ true
first_of a b h = (and_parts a b h).0

and_false : (z : Bool) → (z && false) ≡ false
and_false true = refl
and_false false = refl

itself_gone : (z : Bool) (id : ℕ) → (z && not (eqb id id)) ≡ false
itself_gone z id = rw (eq-eqb id id refl) (and_false z)

pub passed_free : (s t u : State) (id : ℕ) (ids : List ℕ) (a b limit : ℕ) → has s.waiting.fresh id ≡ true → AreSources s.store id ids → StaysFree s t id ids a b limit
    → u.waiting.due ≡ t.waiting.due → ((k : ℕ) → has u.waiting.fresh k ≡ (has t.waiting.fresh k && not (eqb id k))) → SameButMarks t u → Settles s u a b limit
passed_free s t u id ids a b limit there h k due fresh same =
    let sp = k.spent in
    let few = h.few in
    let d : different u.waiting.due ≡ different s.waiting.due = ap different due ∙ ap (λ (z : State). different z.waiting.due) k.same in
    let fresh' : (x : ℕ) → has u.waiting.fresh x ≡ (has s.waiting.fresh x && not (eqb id x)) = λ x. fresh x ∙ ap (λ (z : State). has z.waiting.fresh x && not (eqb id x)) k.same in
    let f = different_less u.waiting.fresh s.waiting.fresh id there (fresh' id ∙ itself_gone (has s.waiting.fresh id) id) (λ x y. first_of (has s.waiting.fresh x) (not (eqb id x)) (sym (fresh' x) ∙ y)) in
    record {
      same = same.store ∙ ap (λ (z : State). z.store) k.same;
      fell = omega arith;
      spent = omega arith;
      rest = k.rest;
    }

pub passed_went : (s t : State) (id : ℕ) (ids : List ℕ) (a b limit : ℕ) → has s.waiting.fresh id ≡ true → IsPromised s → waits s.waiting ≤ length (firm s.store) → AreSources s.store id ids → GoesOut s t id (length ids) a b limit → Advances s t a b limit
passed_went s t id ids a b limit there p most h k =
    let sp = k.spent in
    let few = h.few in
    let count = k.drops.count in
    let l = k.drops.leaves in
    let d = different_less t.waiting.due s.waiting.due id (p.within id there) (l.due id ∙ itself_gone (has s.waiting.due id) id) (λ x y. first_of (has s.waiting.due x) (not (eqb id x)) (sym (l.due x) ∙ y)) in
    let f = different_less t.waiting.fresh s.waiting.fresh id there (l.fresh id ∙ itself_gone (has s.waiting.fresh id) id) (λ x y. first_of (has s.waiting.fresh x) (not (eqb id x)) (sym (l.fresh x) ∙ y)) in
    record { falls = k.drops.falls; less = k.drops.less; few = omega arith; spent = omega arith; rest = k.rest }

was_there : (a : Bool) (id next x : ℕ) → x ≢ next → ((a || eqb next x) && not (eqb id x)) ≡ true → a ≡ true
was_there a id next x ne y =
    elim (or_cases a (eqb next x) (first_of (a || eqb next x) (not (eqb id x)) y)) [ inl i ↦ i | inr e ↦ absurd (ne (sym (eqb-true next x e))) ]

pub passed_shrank : (s t : State) (id next : ℕ) (ids : List ℕ) (a b limit : ℕ) → has s.waiting.fresh id ≡ true → IsPromised s → waits s.waiting ≤ length (firm s.store) → AreSources s.store id ids → GetsCut s t id next (length ids) a b limit → Advances s t a b limit
passed_shrank s t id next ids a b limit there p most h k =
    let sp = k.spent in
    let few = h.few in
    let count = k.cut.count in
    let w = k.cut.waits in
    let d = different_swap t.waiting.due s.waiting.due id next (p.within id there) (w.due id ∙ itself_gone (has s.waiting.due id || eqb next id) id) (λ x y ne. was_there (has s.waiting.due x) id next x ne (sym (w.due x) ∙ y)) in
    let f = different_swap t.waiting.fresh s.waiting.fresh id next there (w.fresh id ∙ itself_gone (has s.waiting.fresh id || eqb next id) id) (λ x y ne. was_there (has s.waiting.fresh x) id next x ne (sym (w.fresh x) ∙ y)) in
    record { falls = k.cut.falls; less = k.cut.less; few = omega arith; spent = omega arith; rest = k.rest }

pub halted : (s t : State) (id : ℕ) (ids : List ℕ) (a b limit : ℕ) → 0 < length s.waiting.fresh → AreSources s.store id ids → Halts s t (length ids) a b limit → Stops s t a b limit
halted s t id ids a b limit some h k =
    let few = h.few in
    let so = k.some in
    let x = different_some s.waiting.fresh some in
    record { falls = falls_same s.store t.store (ap (λ (z : State). z.store) k.same); some_waits = omega arith; full = k.full; some = omega arith }
