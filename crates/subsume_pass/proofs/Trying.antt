-- What holds while a clause is tried on others, and where that ends.
use Rattle.std.proofs.Common.{◌≡◌, ◌≢◌, ℕ, suc, zero, ◌+◌, ◌<◌, ◌≤◌, Bool, true, false, not, eqb, ◌&&◌, ◌||◌, List, [], ◌∷◌, length, get_or, Option, None, inl, inr, ◌⊎◌, refl, sym, ap, ◌∙◌, subst, arith}
use Rattle.std.proofs.lemmas.Bool.{false≢true, cases_Bool, cases_eq, cases_lt, and_parts, eq-eqb, ne_eqb, false_from_ne_true}
use Rattle.std.proofs.lemmas.List.{get_or_default}
use Rattle.sat_terms.specs.Literal.{has}
use Rattle.clause_store.specs.Stored.{Stored, slot, slot_lits, is_firm}
use Rattle.firm_terms.specs.Firm.{firm, has_empty}
use Rattle.firm_terms.specs.Subsuming.{IsFree}
use Rattle.rule_kernel.specs.State.{State, IsPromised}
use Rattle.rule_kernel.specs.Rules.{SameButMarks}
use Rattle.pass_terms.specs.Ruled.{Ruled, always}
use Rattle.pass_terms.specs.Ruled.Uses.{unmarked}
use Rattle.pass_terms.specs.Ruled.Ruled.{none, more}
use Rattle.pass_terms.proofs.Ruling.{ruled_trans}
use Rattle.subsume_pass.specs.declared.turn.Turn.{Turn}
use Rattle.subsume_pass.specs.declared.turn.Turn.TheVariants.{Done, Changed, Refuted, Full}
use Rattle.subsume_pass.specs.Choosing.{AreCandidates}
use Rattle.subsume_pass.specs.Changing.{size, Falls, Cut, Drops}
use Rattle.subsume_pass.specs.Trying.{different, Keeps, Met, Leaves, Alters, Tested, TestedIdly, TestedWell, CameFull, Refutes, Turned, Settles, Advances, Stops}
use Rattle.sat_terms.proofs.Members.{has_place}
use Rattle.subsume_pass.proofs.Changing.{free_shrunk, free_slots}
use Rattle.pass_terms.proofs.Shortening.{firm_none}
use Rattle.subsume_pass.proofs.Waiting.{different_less, different_some, different_firm, nil_where_none}

-- an id stands at a place from i on
abbrev pub Ahead : List ℕ → ℕ → ℕ → Type 0
Ahead ids i id = (k : ℕ) × (i ≤ k) × (k < length ids) × (get_or ids k 0 ≡ id)

ahead_next : (ids : List ℕ) (i id x : ℕ) → i < length ids → x ≡ get_or ids i x → id ≢ x → Ahead ids i id → Ahead ids (i + 1) id
ahead_next ids i id x in' read ne a =
    elim (cases_eq i a.0) [
      | inl e ↦ absurd (ne (sym a.3 ∙ ap (λ (z : ℕ). get_or ids z 0) (sym e) ∙ sym (read ∙ get_or_default ids i x 0 in')))
      | inr n ↦ (let le = a.1 in (a.0, omega arith, a.2, a.3))
    ]

-- nothing changed
pub falls_none : (s : List (Option Stored)) → Falls s s
falls_none s = record { small = omega arith; few = omega arith; two = λ lt. absurd (omega arith) }

pub falls_same : (s t : List (Option Stored)) → t ≡ s → Falls s t
falls_same s t e = rw e (falls_none s)

pub falls_both : (s t u : List (Option Stored)) → Falls s t → Falls t u → Falls s u
falls_both s t u h g =
    let c = h.small in
    let d = g.small in
    let e = h.few in
    let f = g.few in
    record { small = omega arith; few = omega arith; two = λ lt. elim (cases_lt (size t) (size s)) [ inl l ↦ h.two l | inr ge ↦ (let k = g.two (omega arith) in omega arith) ] }

pub keeps_none : (s t : State) (by : ℕ) → s.waiting.fresh ≡ [] → t ≡ s → Keeps s t by
keeps_none s t by nil e = rw e (record { kept = refl; due = λ y. y; fresh = nil; falls = falls_none s.store })

pub keeps_both : (s t u : State) (by : ℕ) → Keeps s t by → Keeps t u by → Keeps s u by
keeps_both s t u by h g = record {
  kept = g.kept ∙ h.kept;
  due = λ y. g.due (h.due y);
  fresh = g.fresh;
  falls = falls_both s.store t.store u.store h.falls g.falls;
}

-- the other one went
pub gone_other : (t : List (Option Stored)) (id k : ℕ) → slot t id ≡ None → is_firm (slot t k) ≡ true → k ≢ id
gone_other t id k w f e = firm_none (slot t k) f (ap (slot t) e ∙ w)

kept_where : (a : Bool) (id k : ℕ) → id ≢ k → a ≡ true → (a && not (eqb id k)) ≡ true
kept_where a id k ne y = rw (y, ne_eqb id k ne) refl

first_of : (a b : Bool) → (a && b) ≡ true → a ≡ true
first_of a b h = (and_parts a b h).0

-- of the ids in an empty list none is left
nil_left : (old new : List ℕ) (id : ℕ) → old ≡ [] → ((k : ℕ) → has new k ≡ (has old k && not (eqb id k))) → new ≡ []
nil_left old new id nil h = nil_where_none new (λ k. h k ∙ ap (λ (z : List ℕ). has z k && not (eqb id k)) nil)

pub keeps_gone : (s t : State) (by id : ℕ) → by ≢ id → s.waiting.fresh ≡ [] → Drops s t id → Keeps s t by
keeps_gone s t by id ne nil h =
    let l = h.leaves in
    record {
      kept = h.others by ne;
      due = λ y. l.due by ∙ kept_where (has s.waiting.due by) id by (λ e. ne (sym e)) y;
      fresh = nil_left s.waiting.fresh t.waiting.fresh id nil l.fresh;
      falls = h.falls;
    }

-- A shorter one came in its place, and is taken from the fresh ones.
pub record TakenOff (t u : State) (next : ℕ) : Type 0 where
  pub same : SameButMarks t u
  pub due : u.waiting.due ≡ t.waiting.due
  pub fresh : (k : ℕ) → has u.waiting.fresh k ≡ (has t.waiting.fresh k && not (eqb next k))

-- it may be: no other that is not due lies within it or shortens it
pub free_of_next : (s t : State) (by id next : ℕ) → is_firm (slot s.store id) ≡ true → s.waiting.fresh ≡ [] → IsPromised s → Cut s t by id next
    → (other : ℕ) → other ≢ next → is_firm (slot t.store other) ≡ true → 0 < length (slot_lits (slot t.store other)) → has t.waiting.due other ≡ false → IsFree (slot_lits (slot t.store other)) (slot_lits (slot t.store next))
free_of_next s t by id next fid nil p h other ne f some n =
    let gone = gone_other t.store id other h.went f in
    let e = h.others other gone ne in
    let f' : is_firm (slot s.store other) ≡ true = subst (λ (z : Option Stored). is_firm z ≡ true) e f in
    let some' : 0 < length (slot_lits (slot s.store other)) = subst (λ (z : Option Stored). 0 < length (slot_lits z)) e some in
    let n' : has s.waiting.due other ≡ false = false_from_ne_true (has s.waiting.due other) (λ y.
    false≢true (sym n ∙ h.waits.due other ∙ kept_where (has s.waiting.due other || eqb next other) id other (λ z. gone (sym z)) (rw y refl))) in
    let fr : has s.waiting.fresh id ≡ false = ap (λ (z : List ℕ). has z id) nil in
    let x = p.tried other id f' fid (λ z. gone (sym z)) some' n' fr in
    free_slots (slot t.store other) (slot t.store next) (slot s.store other) (slot t.store next) e refl
    (free_shrunk (slot_lits (slot s.store other)) (slot_lits (slot s.store id)) (slot_lits (slot t.store next)) h.shorter x)

two_gone : (a b : Bool) (id k : ℕ) → a ≡ false → ((((a || b) && not (eqb id k))) && not b) ≡ false
two_gone a b id k e = rw e (elim (cases_Bool b) [ inl y ↦ rw y (end (eqb id k)) | inr n ↦ rw n refl ]) where
  end : (c : Bool) → ((true && not c) && false) ≡ false
  end true = refl
  end false = refl

pub keeps_came : (s t u : State) (by id next : ℕ) → by ≢ id → is_firm (slot s.store by) ≡ true → s.waiting.fresh ≡ [] → Cut s t by id next → TakenOff t u next → Keeps s u by
keeps_came s t u by id next ne fby nil h g =
    let same = g.same.store in
    let w = h.waits in
    record {
      kept = ap (λ (z : List (Option Stored)). slot z by) same ∙ h.others by ne (λ e. firm_none (slot s.store by) fby (ap (slot s.store) e ∙ h.unused));
      due = λ y. ap (λ (v : List ℕ). has v by) g.due ∙ w.due by ∙ kept_where (has s.waiting.due by || eqb next by) id by (λ e. ne (sym e)) (rw y refl);
      fresh = nil_where_none u.waiting.fresh (λ k. g.fresh k ∙ ap (λ (z : Bool). z && not (eqb next k)) (w.fresh k) ∙ two_gone (has s.waiting.fresh k) (eqb next k) id k (ap (λ (z : List ℕ). has z k) nil));
      falls = falls_both s.store t.store u.store h.falls (falls_same t.store u.store same);
    }

-- a clause met another one
pub met_none : (s t : State) (by id : ℕ) → s.waiting.fresh ≡ [] → (t ≡ s) × IsFree (slot_lits (slot s.store by)) (slot_lits (slot s.store id)) → Met s t by id
met_none s t by id nil h = record {
  keeps = keeps_none s t by nil h.0;
  free = rw h.0 (λ k ne f. elim (cases_eq k id) [ inl i ↦ inr (subst (λ (z : ℕ). IsFree (slot_lits (slot s.store by)) (slot_lits (slot s.store z))) (sym i) h.1) | inr n ↦ inl (refl, n) ]);
}

pub met_gone : (s t : State) (by id : ℕ) → by ≢ id → s.waiting.fresh ≡ [] → Drops s t id → Met s t by id
met_gone s t by id ne nil h = record { keeps = keeps_gone s t by id ne nil h; free = λ k no f. (let n = gone_other t.store id k h.went f in inl (h.others k n, n)) }

pub met_came : (s t u : State) (by id next : ℕ) → by ≢ id → is_firm (slot s.store by) ≡ true → s.waiting.fresh ≡ [] → Cut s t by id next → TakenOff t u next → Met s u by id
met_came s t u by id next ne fby nil h g =
    let k = keeps_came s t u by id next ne fby nil h g in
    let same = g.same.store in
    let still : (j : ℕ) → slot u.store j ≡ slot t.store j = λ j. ap (λ (z : List (Option Stored)). slot z j) same in
    record {
      keeps = k;
      free = λ j no f. elim (cases_eq j next) [
        | inl is ↦ inr (free_slots (slot u.store by) (slot u.store j) (slot s.store by) (slot t.store next) k.kept (still j ∙ ap (slot t.store) is) h.free)
        | inr no' ↦ (let n = gone_other t.store id j h.went (subst (λ (z : Option Stored). is_firm z ≡ true) (still j) f) in inl (still j ∙ h.others j n no', n))
      ];
    }

-- what a comparison did
pub leaves_none : (s t : State) (by id : ℕ) → s.waiting.fresh ≡ [] → (t ≡ s) × IsFree (slot_lits (slot s.store by)) (slot_lits (slot s.store id)) → Leaves s t by id
leaves_none s t by id nil h = record { same = h.0; met = met_none s t by id nil h }

pub alters_gone : (s t : State) (by id : ℕ) → by ≢ id → s.waiting.fresh ≡ [] → Drops s t id → Alters s t by id
alters_gone s t by id ne nil h = record { less = h.less; met = met_gone s t by id ne nil h }

pub alters_came : (s t u : State) (by id next : ℕ) → by ≢ id → is_firm (slot s.store by) ≡ true → s.waiting.fresh ≡ [] → Cut s t by id next → TakenOff t u next → Alters s u by id
alters_came s t u by id next ne fby nil h g = record {
  less = (let e : size u.store ≡ size t.store = ap size g.same.store in let l = h.less in omega arith);
  met = met_came s t u by id next ne fby nil h g;
}

-- the rules of it
pub ruled_settled : (s t u : State) → Ruled always s t → SameButMarks t u → Ruled always s u
ruled_settled s t u r same = more t u r (unmarked same)

-- what holds while a clause is tried
pub record Testing (s t : State) (by : ℕ) (ids : List ℕ) (i a b limit : ℕ) : Type 0 where
  pub ruled : Ruled always s t
  pub keeps : Keeps s t by
  pub free : (j : ℕ) → j ≢ by → is_firm (slot t.store j) ≡ true → IsFree (slot_lits (slot t.store by)) (slot_lits (slot t.store j)) ⊎ Ahead ids i j
  pub spent : b ≤ a + i
  pub rest : b ≤ limit

-- whether anything changed
pub record Flagged (s t : State) (changed : Bool) : Type 0 where
  pub idle : changed ≡ false → t ≡ s
  pub less : changed ≡ true → size t.store < size s.store

pub flagged_none : (s : State) → Flagged s s false
flagged_none s = record { idle = λ e. refl; less = λ e. absurd (false≢true e) }

pub flagged_same : (s t u : State) (changed : Bool) → Flagged s t changed → u ≡ t → Flagged s u changed
flagged_same s t u changed h e = rw e h

pub flagged_less : (s t u : State) → Falls s.store t.store → size u.store < size t.store → Flagged s u true
flagged_less s t u f less = record { idle = λ e. absurd (false≢true (sym e)); less = λ e. (let a = f.small in omega arith) }

pub testing_none : (s : State) (by : ℕ) (ids : List ℕ) (a limit : ℕ) → s.waiting.fresh ≡ [] → AreCandidates s.store by ids → a ≤ limit → Testing s s by ids 0 a a limit
testing_none s by ids a limit nil h le = record {
  ruled = none;
  keeps = keeps_none s s by nil refl;
  free = λ j ne f. elim (cases_Bool (has ids j)) [ inl y ↦ (let p = has_place ids j 0 y in inr (p.0, omega arith, p.1, p.2)) | inr n ↦ inl (h.whole j f n) ];
  spent = omega arith;
  rest = le;
}

-- an id that names no other firm clause is passed over
pub testing_skip : (s t : State) (by : ℕ) (ids : List ℕ) (i id a b limit : ℕ) → i < length ids → id ≡ get_or ids i id → (not (eqb by id) && is_firm (slot t.store id)) ≡ false → Testing s t by ids i a b limit → Testing s t by ids (i + 1) a b limit
testing_skip s t by ids i id a b limit in' read no' h =
    let sp = h.spent in
    record {
      ruled = h.ruled;
      keeps = h.keeps;
      free = λ j ne f. elim (h.free j ne f) [
        | inl x ↦ inl x
        | inr x ↦ inr (ahead_next ids i j id in' read (λ e.
            let g : is_firm (slot t.store id) ≡ true = subst (λ (z : ℕ). is_firm (slot t.store z) ≡ true) e f in
            let m : eqb by id ≡ false = ne_eqb by id (λ z. ne (e ∙ sym z)) in
            false≢true (sym no' ∙ rw (m, g) refl)) x)
      ];
      spent = omega arith;
      rest = h.rest;
    }

pub other_of : (by id : ℕ) (x : Option Stored) → (not (eqb by id) && is_firm x) ≡ true → (by ≢ id) × (is_firm x ≡ true)
other_of by id x h = let p = and_parts (not (eqb by id)) (is_firm x) h in ((λ e. false≢true (sym (ap not (eq-eqb by id e)) ∙ p.0)), p.1)

-- the clause met another one
pub testing_met : (s t u : State) (by : ℕ) (ids : List ℕ) (i id a b c limit : ℕ) → i < length ids → id ≡ get_or ids i id → Testing s t by ids i a b limit → Ruled always t u → Met t u by id → c ≡ b + 1 → b < limit
    → Testing s u by ids (i + 1) a c limit
testing_met s t u by ids i id a b c limit in' read h ruled m one lt =
    let sp = h.spent in
    record {
      ruled = ruled_trans always s t u h.ruled ruled;
      keeps = keeps_both s t u by h.keeps m.keeps;
      free = λ j ne f. elim (m.free j ne f) [
        | inl k ↦
            elim (h.free j ne (subst (λ (z : Option Stored). is_firm z ≡ true) k.0 f)) [
              | inl y ↦ inl (free_slots (slot u.store by) (slot u.store j) (slot t.store by) (slot t.store j) m.keeps.kept k.0 y)
              | inr y ↦ inr (ahead_next ids i j id in' read k.1 y)
            ]
        | inr y ↦ inl y
      ];
      spent = omega arith;
      rest = omega arith;
    }

pub still_firm : (s t : State) (by : ℕ) (ids : List ℕ) (i a b limit : ℕ) → is_firm (slot s.store by) ≡ true → Testing s t by ids i a b limit → is_firm (slot t.store by) ≡ true
still_firm s t by ids i a b limit f h = subst (λ (z : Option Stored). is_firm z ≡ true) (sym h.keeps.kept) f

-- the end
pub tested : (s t : State) (by : ℕ) (ids : List ℕ) (i a b limit : ℕ) → length ids ≤ i → i ≤ length ids → Testing s t by ids i a b limit → Tested t.store by (length ids) a b limit
tested s t by ids i a b limit past upto h =
    let sp = h.spent in
    record {
      done = λ _ j ne f. elim (h.free j ne f) [ inl x ↦ x | inr x ↦ absurd (let p = x.1 in let q = x.2 in omega arith) ];
      spent = omega arith;
      rest = h.rest;
    }

pub tested_idly : (s t : State) (by : ℕ) (ids : List ℕ) (i a b limit : ℕ) (changed : Bool) → changed ≡ false → length ids ≤ i → i ≤ length ids → Testing s t by ids i a b limit → Flagged s t changed → TestedIdly s t by (length ids) a b limit
tested_idly s t by ids i a b limit changed e past upto h f = record { same = f.idle e; tested = tested s t by ids i a b limit past upto h }

pub tested_well : (s t : State) (by : ℕ) (ids : List ℕ) (i a b limit : ℕ) (changed : Bool) → changed ≡ true → length ids ≤ i → i ≤ length ids → Testing s t by ids i a b limit → Flagged s t changed → TestedWell s t by (length ids) a b limit
tested_well s t by ids i a b limit changed e past upto h f = record { less = f.less e; tested = tested s t by ids i a b limit past upto h }

pub tested_empty : (s t u : State) (by : ℕ) (ids : List ℕ) (i a b c limit : ℕ) → i < length ids → c ≡ b + 1 → has_empty (firm u.store) ≡ true → Testing s t by ids i a b limit → Refutes u.store (length ids) a c
tested_empty s t u by ids i a b c limit in' one e h = record { empty = e; spent = (let sp = h.spent in omega arith) }

pub came_full : (s t : State) (by : ℕ) (ids : List ℕ) (i a b limit : ℕ) → i < length ids → limit ≤ b → Testing s t by ids i a b limit → CameFull (length ids) a b limit
came_full s t by ids i a b limit in' le h =
    let sp = h.spent in
    let r = h.rest in
    record { full = omega arith; some = omega arith }

tested_more : (t : List (Option Stored)) (by m n a b limit : ℕ) → m ≤ n → Tested t by m a b limit → Tested t by n a b limit
tested_more t by m n a b limit le h = let sp = h.spent in record { done = h.done; spent = omega arith; rest = h.rest }

pub turned_more : (s t : State) (by m n a b limit : ℕ) (turn : Turn) → m ≤ n → Turned s t by m a b limit turn → Turned s t by n a b limit turn
turned_more s t by m n a b limit Done le h = record { same = h.same; tested = tested_more t.store by m n a b limit le h.tested }
turned_more s t by m n a b limit Changed le h = record { less = h.less; tested = tested_more t.store by m n a b limit le h.tested }
turned_more s t by m n a b limit Refuted le h = let sp = h.spent in record { empty = h.empty; spent = omega arith }
turned_more s t by m n a b limit Full le h = let so = h.some in record { full = h.full; some = omega arith }

-- the last id of a list
pub last_read : (ids : List ℕ) (at id : ℕ) → at < length ids → id ≡ get_or ids at id → has ids id ≡ true
last_read [] at id in' read = absurd (omega arith)
last_read (x ∷ ids) zero id in' read = rw (eq-eqb x id (sym read)) refl
last_read (x ∷ ids) (suc at) id in' read = rw (last_read ids at id (omega arith) read) (elim (cases_Bool (eqb x id)) [ inl y ↦ rw y refl | inr n ↦ rw n refl ])

-- what was tried is due no longer
pub settles : (s t u : State) (by a b limit : ℕ) → has s.waiting.due by ≡ true → TestedIdly s t by (length (firm s.store)) a b limit
    → ((k : ℕ) → has u.waiting.due k ≡ (has t.waiting.due k && not (eqb by k))) → u.waiting.fresh ≡ t.waiting.fresh → SameButMarks t u → Settles s u a b limit
settles s t u by a b limit there h due fresh same =
    let f : different u.waiting.fresh ≡ different s.waiting.fresh = ap different fresh ∙ ap (λ (z : State). different z.waiting.fresh) h.same in
    let due' : (x : ℕ) → has u.waiting.due x ≡ (has s.waiting.due x && not (eqb by x)) = λ x. due x ∙ ap (λ (z : State). has z.waiting.due x && not (eqb by x)) h.same in
    let gone : has u.waiting.due by ≡ false = due' by ∙ rw (eq-eqb by by refl) (none_left (has s.waiting.due by)) in
    let d = different_less u.waiting.due s.waiting.due by there gone (λ x y. first_of (has s.waiting.due x) (not (eqb by x)) (sym (due' x) ∙ y)) in
    record {
      same = same.store ∙ ap (λ (z : State). z.store) h.same;
      fell = omega arith;
      spent = h.tested.spent;
      rest = h.tested.rest;
    } where
      none_left : (z : Bool) → (z && false) ≡ false
      none_left true = refl
      none_left false = refl

-- where clauses changed, those that are due are firm, and none is fresh
pub advances : (s t u : State) (by a b limit : ℕ) → Keeps s t by → TestedWell s t by (length (firm s.store)) a b limit → u.waiting.fresh ≡ t.waiting.fresh → SameButMarks t u → IsPromised u → Advances s u a b limit
advances s t u by a b limit h k fresh same p =
    let e : size u.store ≡ size t.store = ap size same.store in
    let f : different u.waiting.fresh ≡ 0 = ap different (fresh ∙ h.fresh) in
    let d = different_firm u.store u.waiting.due p.due in
    let less = k.less in
    record {
      falls = falls_both s.store t.store u.store h.falls (falls_same t.store u.store same.store);
      less = omega arith;
      few = omega arith;
      spent = k.tested.spent;
      rest = k.tested.rest;
    }

pub stops : (s t : State) (by a b limit : ℕ) → 0 < length s.waiting.due → Keeps s t by → CameFull (length (firm s.store)) a b limit → Stops s t a b limit
stops s t by a b limit some h k =
    let x = different_some s.waiting.due some in
    record { falls = h.falls; some_waits = omega arith; full = k.full; some = k.some }
