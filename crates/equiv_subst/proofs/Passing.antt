-- What the pass keeps from round to round.
use Rattle.firm_terms.proofs.Dividing.{div_below}
use Rattle.std.proofs.Common.{◌≡◌, ◌≢◌, ℕ, suc, zero, ◌+◌, ◌-◌, ◌*◌, ◌<◌, ◌≤◌, Bool, true, false, not, eqb, List, [], ◌∷◌, length, get_or, Option, inl, inr, refl, sym, ap, ◌∙◌, subst, arith, count_by}
use Rattle.std.proofs.lemmas.Bool.{false≢true, cases_Bool, cases_eq, false_from_ne_true, or_cases, eqb-true, ne_eqb}
use Rattle.std.proofs.lemmas.List.{get_or_default}
use Rattle.std.proofs.Math.Nat.{mul-le-mul_left}
use Rattle.sat_terms.specs.Literal.{has, neg, var_of, pos_lit}
use Rattle.sat_terms.proofs.Literals.{var_of-neg, same_var, var_of-pos_lit}
use Rattle.sat_terms.specs.Truth.{lit_true, Implies}
use Rattle.sat_terms.proofs.Truths.{lit_true-neg}
use Rattle.clause_store.specs.Stored.{Stored, slot, slot_lits, is_firm, FirmTrue}
use Rattle.rule_kernel.specs.State.{State}
use Rattle.rule_kernel.specs.Rules.{AddsImplied}
use Rattle.firm_terms.specs.Firm.{firm, stands, vars, gone, Holds}
use Rattle.pass_terms.specs.Ruled.{Ruled}
use Rattle.pass_terms.specs.Ruled.Uses.{implied}
use Rattle.pass_terms.specs.Ruled.Ruled.{none, more}
use Rattle.firm_terms.proofs.Standing.{stands_of, stands_from, mentions_lit, lit_of, some_from}
use Rattle.clause_store.specs.Listing.{HasEachOnce, holds_at}
use Rattle.firm_terms.proofs.Counting.{count_firm, place_of, listed}
use Rattle.pass_terms.proofs.Ruling.{ruled_trans, ruled_weaken, ruled_stands, ruled_gone}
use Rattle.equiv_subst.proofs.Backward.{still_implied}
use Rattle.firm_terms.proofs.Leaving.{has_vars, gone_le, gone_less, gone_most}
use Rattle.equiv_subst.specs.declared.pairs.Pair.{Pair}
use Rattle.equiv_subst.specs.Implications.{Arc, size, IsGraphOf}
use Rattle.firm_terms.specs.Implying.{Joined, Implication}
use Rattle.equiv_subst.specs.Walk.{pair, no_pair, Found, Halted}
use Rattle.equiv_subst.specs.Replacing.{all_but}
use Rattle.equiv_subst.specs.Pass.{IsFixpoint, AreEquivalent, Equivalences, Tried, Covers, Advanced, Exhausted, WentOn, CameFull, ReachesLimit}
use Rattle.equiv_subst.specs.Pass.Tried.{left, done}
use Rattle.equiv_subst.proofs.Leading.{leads_map}
use Rattle.equiv_subst.proofs.Finding.{arc_into}
use Rattle.equiv_subst.proofs.Occurring.{holds_of, of_holds}
use Rattle.equiv_subst.proofs.Replacing.{leads_implies, two_says}

-- what the walk found, said of the store
arc_stands : (s : List (Option Stored)) (a b : ℕ) → Implication s a b → stands (firm s) (var_of b) ≡ true
arc_stands s a b h = stands_from s (var_of b) h.0 h.1.firm (mentions_lit (slot_lits (slot s h.0)) b h.1.by.to)

pub equivalent : (frozen : ℕ → Bool) (s : List (Option Stored)) (g : List (List ℕ)) (ps : List Pair) (a b limit : ℕ) → IsGraphOf s g → Found g frozen ps a b limit → Equivalences frozen s ps a b limit
equivalent frozen s g ps a b limit graph h = record {
  are = λ k lt.
      let j = h.joined k lt in
      let f = h.fit k lt in
      let to = arc_into g (pair ps k).lit (pair ps k).to f.apart j.0 in
      let from = arc_into g (pair ps k).to (pair ps k).lit (λ e. f.apart (sym e)) j.1 in
      record {
        forth = leads_implies s (pair ps k).lit (pair ps k).to (leads_map (Arc g) (Implication s) (pair ps k).lit (pair ps k).to graph.sound j.0);
        back = leads_implies s (pair ps k).to (pair ps k).lit (leads_map (Arc g) (Implication s) (pair ps k).to (pair ps k).lit graph.sound j.1);
        from = arc_stands s from.0 (pair ps k).lit (graph.sound from.0 (pair ps k).lit from.1);
        to = arc_stands s to.0 (pair ps k).to (graph.sound to.0 (pair ps k).to to.1);
        free = f.free;
        apart = f.apart;
      };
  settled = λ nil v l free ne j.
      let j' : Joined (Arc g) (pos_lit v) l = (leads_map (Implication s) (Arc g) (pos_lit v) l graph.whole j.0, leads_map (Implication s) (Arc g) l (pos_lit v) graph.whole j.1) in
      let apart : pos_lit v ≢ l = λ e. ne (ap var_of (sym e) ∙ var_of-pos_lit v) in
      false≢true (sym free ∙ ap frozen (sym (var_of-pos_lit v)) ∙ h.settled nil (pos_lit v) l apart j');
  spent = let x = h.spent in let y = graph.small in omega arith;
  rest = h.rest;
}

pub halted_small : (s : List (Option Stored)) (g : List (List ℕ)) (a b limit : ℕ) → IsGraphOf s g → Halted a b (size g) limit → Halted a b (2 * length (firm s)) limit
halted_small s g a b limit graph h = record { full = h.full; some = let x = h.some in let y = graph.small in omega arith }

-- what holds while the pairs are used
pub record Advancing (frozen : ℕ → Bool) (s t : State) (i a b limit : ℕ) : Type 0 where
  pub carried : Ruled (stands (firm t.store)) s t
  pub ruled : Ruled frozen s t
  pub first : i ≡ 0 → t ≡ s
  pub fell : 0 < i → (vs : List ℕ) → Covers vs s.store → gone vs (firm s.store) < gone vs (firm t.store)
  pub few : length (firm t.store) ≤ length (firm s.store)
  pub spent : (vs : List ℕ) (m : ℕ) → Covers vs s.store → length (firm s.store) ≤ m → b + m * gone vs (firm s.store) ≤ a + m * gone vs (firm t.store)
  pub rest : b ≤ limit

pub advancing_none : (frozen : ℕ → Bool) (s : State) (a limit : ℕ) → a ≤ limit → Advancing frozen s s 0 a a limit
advancing_none frozen s a limit le = record {
  carried = none;
  ruled = none;
  first = λ e. refl;
  fell = λ lt. absurd (omega arith);
  few = omega arith;
  spent = λ vs m c l. omega arith;
  rest = le;
}

-- a pair that is equivalent at the start is so where both variables still stand
pub still : (frozen : ℕ → Bool) (s t : State) (i a b limit x y : ℕ) → Advancing frozen s t i a b limit → Implies (FirmTrue s.store) (neg x ∷ y ∷ []) → stands (firm t.store) (var_of x) ≡ true → stands (firm t.store) (var_of y) ≡ true
    → Implies (FirmTrue t.store) (neg x ∷ y ∷ [])
still frozen s t i a b limit x y h imp sx sy =
    still_implied (stands (firm t.store)) s t (neg x ∷ y ∷ []) h.carried
    (λ l e. elim (or_cases (eqb (neg x) l) (has (y ∷ []) l) e) [
      | inl u ↦ (let z : var_of x ≡ var_of l = sym (var_of-neg x) ∙ ap var_of (eqb-true (neg x) l u) in subst (λ (k : ℕ). stands (firm t.store) k ≡ true) z sx)
      | inr u ↦
          elim (or_cases (eqb y l) false u) [
            | inl w ↦ (let z : var_of y ≡ var_of l = ap var_of (eqb-true y l w) in subst (λ (k : ℕ). stands (firm t.store) k ≡ true) z sy)
            | inr w ↦ absurd (false≢true w)
          ]
    ])
    imp

not_the_one : (v u : ℕ) → all_but v u ≡ false → u ≡ v
not_the_one v u h =
    elim (cases_eq u v) [
      | inl e ↦ e
      | inr n ↦ absurd (false≢true (sym h ∙ (rw (ne_eqb u v n) refl)))
    ]

fell_in : (s t u : State) (x : ℕ) → ((v : ℕ) → stands (firm t.store) v ≡ false → stands (firm u.store) v ≡ false) → Ruled (stands (firm t.store)) s t → stands (firm t.store) (var_of x) ≡ true → stands (firm u.store) (var_of x) ≡ false
    → (vs : List ℕ) → Covers vs s.store → gone vs (firm t.store) + 1 ≤ gone vs (firm u.store)
fell_in s t u x mono ruled there gone' vs covers =
    gone_less vs (firm t.store) (firm u.store) (var_of x) mono (covers (var_of x) (ruled_stands (stands (firm t.store)) s t (var_of x) ruled there)) there gone'

pub advancing_more : (frozen : ℕ → Bool) (s t u : State) (i a b c limit x y : ℕ) → frozen (var_of x) ≡ false → (i ≡ 0 → (stands (firm s.store) (var_of x) ≡ true) × (stands (firm s.store) (var_of y) ≡ true)) → Advancing frozen s t i a b limit → Ruled (all_but (var_of x)) t u
    → Tried t u x y b c limit → Advancing frozen s u (i + 1) a c limit
advancing_more frozen s t u i a b c limit x y free start h ruled (left same e off) =
    let more' : 0 < i = elim (cases_eq i 0) [
      | inl z ↦ absurd (let f = h.first z in let st = start z in off (subst (λ (w : State). stands (firm w.store) (var_of x) ≡ true) (sym f) st.0) (subst (λ (w : State). stands (firm w.store) (var_of y) ≡ true) (sym f) st.1))
      | inr n ↦ omega arith
    ] in
    let le = h.rest in
    rw same (record {
      carried = h.carried;
      ruled = h.ruled;
      first = λ z. absurd (omega arith);
      fell = λ lt. h.fell more';
      few = h.few;
      spent = λ vs m c l. (let sp = h.spent vs m c l in omega arith);
      rest = omega arith;
    })
advancing_more frozen s t u i a b c limit x y free start h ruled (done there r) =
    let mono : (v : ℕ) → stands (firm t.store) v ≡ false → stands (firm u.store) v ≡ false = λ v n. ruled_gone (all_but (var_of x)) t u v ruled n in
    let few = h.few in
    let few' = r.few in
    let ct = count_firm t.store in
    let cu = count_firm u.store in
    record {
      carried = ruled_trans (stands (firm u.store)) s t u (ruled_weaken (stands (firm t.store)) (stands (firm u.store)) s t mono h.carried)
          (ruled_weaken (all_but (var_of x)) (stands (firm u.store)) t u (λ v e. subst (λ (z : ℕ). stands (firm u.store) z ≡ false) (sym (not_the_one (var_of x) v e)) r.gone) ruled);
      ruled = ruled_trans frozen s t u h.ruled (ruled_weaken (all_but (var_of x)) frozen t u (λ v e. subst (λ (z : ℕ). frozen z ≡ false) (sym (not_the_one (var_of x) v e)) free) ruled);
      first = λ z. absurd (omega arith);
      fell = λ lt vs covers.
          let f = fell_in s t u x mono h.carried there r.gone vs covers in
          let le = gone_le vs (firm s.store) (firm t.store) (λ v n. ruled_gone (stands (firm t.store)) s t v h.carried n) in
          omega arith;
      few = omega arith;
      spent = λ vs m covers l.
          let sp = h.spent vs m covers l in
          let f = fell_in s t u x mono h.carried there r.gone vs covers in
          let mul : m * (gone vs (firm t.store) + 1) ≤ m * gone vs (firm u.store) = mul-le-mul_left m f in
          let sp' = r.spent in
          omega (arith, mul);
      rest = r.rest;
    }

pub advanced : (frozen : ℕ → Bool) (s t : State) (i a b limit : ℕ) → 0 < i → Advancing frozen s t i a b limit → Advanced s.store t.store a b limit
advanced frozen s t i a b limit lt h = record { few = h.few; fell = h.fell lt; spent = h.spent; rest = h.rest }

pub exhausted : (frozen : ℕ → Bool) (s t u : State) (i a b c limit x : ℕ) → Advancing frozen s t i a b limit → Ruled (all_but (var_of x)) t u → Halted b c (count_by is_firm t.store) limit → Exhausted s.store u.store a c limit
exhausted frozen s t u i a b c limit x h ruled k = record {
  full = k.full;
  spent = λ vs m covers l.
      let sp = h.spent vs m covers l in
      let le = gone_le vs (firm t.store) (firm u.store) (λ v n. ruled_gone (all_but (var_of x)) t u v ruled n) in
      let le' : gone vs (firm t.store) + 1 ≤ gone vs (firm u.store) + 1 = omega arith in
      let mul : m * (gone vs (firm t.store) + 1) ≤ m * (gone vs (firm u.store) + 1) = mul-le-mul_left m le' in
      let ct = count_firm t.store in
      let few = h.few in
      let some = k.some in
      omega (arith, mul);
}

-- a literal that is equivalent to its negation
pub clashes : (frozen : ℕ → Bool) (s : List (Option Stored)) (ps : List Pair) (k : ℕ) → AreEquivalent frozen s ps → k < length ps → var_of (pair ps k).lit ≡ var_of (pair ps k).to → Implies (FirmTrue s) []
clashes frozen s ps k h lt e f m =
    let q = h k lt in
    elim (same_var (pair ps k).lit (pair ps k).to e) [
      | inl z ↦ absurd (q.apart z)
      | inr z ↦
          (let to : lit_true f (pair ps k).lit ≡ true → lit_true f (pair ps k).to ≡ true = two_says f (pair ps k).lit (pair ps k).to (q.forth f m) in
          let back : lit_true f (pair ps k).to ≡ true → lit_true f (pair ps k).lit ≡ true = two_says f (pair ps k).to (pair ps k).lit (q.back f m) in
          let n : lit_true f (pair ps k).lit ≡ not (lit_true f (pair ps k).to) = ap (lit_true f) z ∙ lit_true-neg f (pair ps k).to in
          elim (cases_Bool (lit_true f (pair ps k).to)) [
            | inl t ↦ absurd (false≢true (sym (n ∙ ap not t) ∙ back t))
            | inr u ↦ absurd (false≢true (sym u ∙ to (n ∙ ap not u)))
          ])
    ]

pub refuted_quiet : (frozen : ℕ → Bool) (s t : State) (id : ℕ) → AddsImplied s t [] id → IsFixpoint frozen t.store
refuted_quiet frozen s t id h e =
    absurd (false≢true (sym e ∙ some_from (λ c. eqb (length c) 0) t.store id (ap is_firm h.store.filled) (ap (λ (z : Option Stored). eqb (length (slot_lits z)) 0) h.store.filled)))

pub ruled_empty : (frozen : ℕ → Bool) (s t : State) (id : ℕ) → AddsImplied s t [] id → Ruled frozen s t
ruled_empty frozen s t id h = more s t none (implied [] id (λ v e. absurd (false≢true e)) h)

-- rounds
pub round_on : (s t : List (Option Stored)) (a b c limit : ℕ) → b ≤ a + 2 * length (firm s) → Advanced s t b c limit → WentOn s t a c limit
round_on s t a b c limit le h = record {
  few = h.few;
  fell = h.fell;
  spent = λ vs m covers l.
      let sp = h.spent vs m covers l in
      let f0 = h.fell vs covers in
      let f : gone vs (firm s) + 1 ≤ gone vs (firm t) = omega arith in
      let mul : m * (gone vs (firm s) + 1) ≤ m * gone vs (firm t) = mul-le-mul_left m f in
      omega (arith, mul);
  rest = h.rest;
}

pub round_full : (frozen : ℕ → Bool) (s t : State) (a b c limit : ℕ) → b ≤ a + 2 * length (firm s.store) → Ruled frozen s t → Exhausted s.store t.store b c limit → CameFull s.store t.store a c limit
round_full frozen s t a b c limit le ruled h = record {
  full = h.full;
  spent = λ vs m covers l.
      let sp = h.spent vs m covers l in
      let f = gone_le vs (firm s.store) (firm t.store) (λ v n. ruled_gone frozen s t v ruled n) in
      let f' : gone vs (firm s.store) + 1 ≤ gone vs (firm t.store) + 1 = omega arith in
      let mul : m * (gone vs (firm s.store) + 1) ≤ m * (gone vs (firm t.store) + 1) = mul-le-mul_left m f' in
      omega (arith, mul);
}

pub round_halted : (s : List (Option Stored)) (a b limit : ℕ) → Halted a b (2 * length (firm s)) limit → CameFull s s a b limit
round_halted s a b limit h = record {
  full = h.full;
  spent = λ vs m covers l. (let some = h.some in omega arith);
}

-- what holds between rounds
pub record Passing (frozen : ℕ → Bool) (s t : State) (b limit : ℕ) : Type 0 where
  pub ruled : Ruled frozen s t
  pub few : length (firm t.store) ≤ length (firm s.store)
  pub spent : b ≤ 3 * (length (firm s.store) * gone (vars (firm s.store)) (firm t.store))
  pub rest : b ≤ limit

pub passing_none : (frozen : ℕ → Bool) (s : State) (limit : ℕ) → Passing frozen s s 0 limit
passing_none frozen s limit = record { ruled = none; few = omega arith; spent = omega arith; rest = omega arith }

covers_now : (frozen : ℕ → Bool) (s t : State) → Ruled frozen s t → Covers (vars (firm s.store)) t.store
covers_now frozen s t r v h = has_vars (firm s.store) v (ruled_stands frozen s t v r h)

pub passing_more : (frozen : ℕ → Bool) (s t u : State) (b c limit : ℕ) → Passing frozen s t b limit → Ruled frozen t u → WentOn t.store u.store b c limit → Passing frozen s u c limit
passing_more frozen s t u b c limit h ruled k =
    let sp = h.spent in
    let few = h.few in
    let few' = k.few in
    let sp' = k.spent (vars (firm s.store)) (length (firm s.store)) (covers_now frozen s t h.ruled) few in
    record { ruled = ruled_trans frozen s t u h.ruled ruled; few = omega arith; spent = omega arith; rest = k.rest }

pub passing_falls : (frozen : ℕ → Bool) (s t u : State) (b c limit : ℕ) → Passing frozen s t b limit → WentOn t.store u.store b c limit
    → length (vars (firm s.store)) - gone (vars (firm s.store)) (firm u.store) < length (vars (firm s.store)) - gone (vars (firm s.store)) (firm t.store)
passing_falls frozen s t u b c limit h k =
    let f = k.fell (vars (firm s.store)) (covers_now frozen s t h.ruled) in
    let m = gone_most (vars (firm s.store)) (firm u.store) in
    omega arith

some_clause : (b m g : ℕ) → b < 3 * (m * (g + 1)) → 0 < m
some_clause b zero g h = absurd (omega arith)
some_clause b (suc m) g h = omega arith

reaches_limit : (s t : List (Option Stored)) (limit b : ℕ) → b ≡ limit → b < 3 * (length (firm s) * (gone (vars (firm s)) (firm t) + 1)) → ReachesLimit s t limit b
reaches_limit s t limit b full h =
    let m : ℕ = length (firm s) in
    let g : ℕ = gone (vars (firm s)) (firm t) in
    let n : ℕ = length (vars (firm s)) in
    let pos = some_clause b m g h in
    let le = gone_most (vars (firm s)) (firm t) in
    let le' : g + 1 ≤ n + 1 = omega (arith, le) in
    let mul : 3 * m * (g + 1) ≤ 3 * m * (n + 1) = mul-le-mul_left (3 * m) le' in
    let e : 3 * (m * (g + 1)) ≡ 3 * m * (g + 1) = grind arith in
    record {
      full = full;
      some = pos;
      fell = div_below b (3 * m) g (omega (arith, pos)) (omega (arith, h, e));
      below = omega (arith, h, e, mul, full);
    }

pub passing_full : (frozen : ℕ → Bool) (s t u : State) (b c limit : ℕ) → Passing frozen s t b limit → CameFull t.store u.store b c limit → ReachesLimit s.store u.store limit c
passing_full frozen s t u b c limit h k =
    let sp = h.spent in
    let sp' = k.spent (vars (firm s.store)) (length (firm s.store)) (covers_now frozen s t h.ruled) h.few in
    reaches_limit s.store u.store limit c k.full (omega arith)

pub some_holds : (s : List (Option Stored)) (ids : List ℕ) (l : ℕ) → HasEachOnce (holds_at s l) ids → 0 < length ids → (id : ℕ) × Holds s id l
some_holds s ids l each some = (get_or ids 0 0, holds_of s l (get_or ids 0 0) (listed (holds_at s l) ids 0 each some))

pub none_holds : (s : List (Option Stored)) (ids : List ℕ) (l id : ℕ) → HasEachOnce (holds_at s l) ids → length ids ≡ 0 → Holds s id l → ⊥
none_holds s ids l id each nil h = let k = place_of (holds_at s l) ids id each (of_holds s l id h) in let lt = k.1 in absurd (omega arith)

pub holds_stands : (s : List (Option Stored)) (l id : ℕ) → Holds s id l → stands (firm s) (var_of l) ≡ true
holds_stands s l id h = stands_from s (var_of l) id h.firm (mentions_lit (slot_lits (slot s id)) l h.has)

pub there_other : (s : List (Option Stored)) (l n : ℕ) (r : Bool) → n ≡ neg l → ((id : ℕ) → Holds s id l → ⊥) → (r ≡ true → (id : ℕ) × Holds s id n) → (r ≡ false → (id : ℕ) → Holds s id n → ⊥) → r ≡ stands (firm s) (var_of l)
there_other s l n true e off here off' = let h = here refl in sym (subst (λ (z : ℕ). stands (firm s) z ≡ true) (ap var_of e ∙ var_of-neg l) (holds_stands s n h.0 h.1))
there_other s l n false e off here off' =
    sym (false_from_ne_true (stands (firm s) (var_of l)) (λ y.
    let r = stands_of s (var_of l) y in
    let k = lit_of (slot_lits (slot s r.0)) (var_of l) r.2 in
    elim (same_var k.0 l k.2) [
      | inl z ↦ off r.0 (record { firm = r.1; has = subst (λ (x : ℕ). has (slot_lits (slot s r.0)) x ≡ true) z k.1 })
      | inr z ↦ off' refl r.0 (record { firm = r.1; has = subst (λ (x : ℕ). has (slot_lits (slot s r.0)) x ≡ true) (z ∙ sym e) k.1 })
    ]))

pub pair_read : (ps : List Pair) (i : ℕ) (p : Pair) → i < length ps → p ≡ get_or ps i p → p ≡ pair ps i
pair_read ps i p in' read = read ∙ get_or_default ps i p no_pair in'

pub ruled_on : (frozen : ℕ → Bool) (s t u : State) (ps : List Pair) (i a b limit : ℕ) (p : Pair) → i < length ps → p ≡ pair ps i → AreEquivalent frozen s.store ps → ((k : ℕ) → k < length ps → var_of (pair ps k).lit ≢ var_of (pair ps k).to)
    → Advancing frozen s t i a b limit → Ruled (all_but (var_of p.lit)) t u → Ruled frozen s u
ruled_on frozen s t u ps i a b limit p in' e are apart h ruled =
    let free : frozen (var_of p.lit) ≡ false = subst (λ (z : Pair). frozen (var_of z.lit) ≡ false) (sym e) ((are i in').free (apart i in')) in
    ruled_trans frozen s t u h.ruled (ruled_weaken (all_but (var_of p.lit)) frozen t u (λ v n. subst (λ (z : ℕ). frozen z ≡ false) (sym (not_the_one (var_of p.lit) v n)) free) ruled)
