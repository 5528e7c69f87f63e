-- What holds between the turns of the pass, and how its steps are counted.
use Rattle.firm_terms.proofs.Leaving.{has_vars, count_by_le, count_by_less}
use Rattle.firm_terms.proofs.Dividing.{div_below}
use Rattle.std.proofs.Common.{◌≡◌, ◌≢◌, ℕ, suc, zero, ◌+◌, ◌-◌, ◌*◌, ◌<◌, ◌≤◌, Bool, true, false, not, ◌&&◌, eqb, List, [], length, ◌⊎◌, inl, inr, refl, sym, ap, ◌∙◌, subst, arith, max, count_by}
use Rattle.std.proofs.lemmas.Bool.{cases_Bool, cases_eq, false≢true, and_parts, and_from, eq-eqb, ne_eqb, not-true, not_from_false}
use Rattle.std.proofs.lemmas.List.Sums.{count_by-le-length}
use Rattle.std.proofs.Math.Nat.{mul-le-mul_left}
use Rattle.sat_terms.specs.Literal.{has}
use Rattle.firm_terms.specs.Firm.{firm, stands, vars}
use Rattle.rule_kernel.specs.State.{State, IsPromised}
use Rattle.rule_kernel.specs.Rules.{SameButMarks}
use Rattle.pass_terms.specs.Ruled.{Ruled}
use Rattle.pass_terms.specs.Ruled.Uses.{unmarked}
use Rattle.pass_terms.specs.Ruled.Ruled.{none, more}
use Rattle.pass_terms.proofs.Ruling.{ruled_trans, ruled_weaken, ruled_stands, ruled_gone}
use Rattle.var_elim.specs.Eliminating.{all_but, MarksStay}
use Rattle.var_elim.specs.Pass.{NoCandidates, freed, ReachesLimit, Queued, Unmarks, Chosen, AllFrozen, NoneLeft, WentOn, Stopped}
use Rattle.var_elim.proofs.Choosing.{candidate_none}

-- a mark is taken off
pub ruled_unmarked : (frozen : ℕ → Bool) (s t : State) → SameButMarks s t → Ruled frozen s t
ruled_unmarked frozen s t same = more s t none (unmarked same)

pub ruled_turned : (frozen : ℕ → Bool) (s t u : State) → Ruled frozen s t → SameButMarks t u → Ruled frozen s u
ruled_turned frozen s t u r same = more t u r (unmarked same)

-- a variable was eliminated, and its mark was taken off
module _ (s t u : State) (v a b pairs limit : ℕ) (e : b ≡ a + max pairs 1) (few : pairs ≤ 400) (within : pairs ≤ limit - a) (le : a ≤ limit) (ne : a ≢ limit) where
  pub went_gone : MarksStay s t → stands (firm t.store) v ≡ false → SameButMarks t u → ((w : ℕ) → has u.marked.vars w ≡ (has t.marked.vars w && not (eqb v w))) → WentOn s u v a b limit
  went_gone stay off same marks = record {
    more = omega arith;
    few = omega arith;
    within = omega arith;
    cleared = marks v ∙ rw (eq-eqb v v refl) (none_and (has t.marked.vars v));
    kept = λ w n m. marks w ∙ and_from (has t.marked.vars w) (not (eqb v w)) (stay w m) (not_from_false (eqb v w) (ne_eqb v w (λ q. n (sym q))));
    which = inr (ap (λ z. stands (firm z) v) same.store ∙ off);
  } where
    none_and : (b : Bool) → (b && false) ≡ false
    none_and true = refl
    none_and false = refl

count_some : (p : ℕ → Bool) (xs : List ℕ) (v : ℕ) → has xs v ≡ true → p v ≡ true → 1 ≤ count_by p xs
count_some p xs v in' y = let r = count_by_less (λ _. false) p xs v (λ x i. absurd (false≢true i)) in' refl y in omega (arith, r)

-- The steps that were counted, against the marks that are left and the variables that are gone: each mark may cost 400 yet, and each
-- variable that goes may bring n of them.
abbrev pub Within : ℕ → ℕ → ℕ → ℕ → Type 0
Within n g pending steps = steps + 400 * pending ≤ 400 * (n * (g + 1))

within_fewer : (n g p p' a : ℕ) → Within n g p a → p' ≤ p → Within n g p' a
within_fewer n g p p' a h le = omega (arith, h, le)

within_kept : (n g p p' a b : ℕ) → Within n g p a → p' + 1 ≤ p → b ≤ a + 400 → Within n g p' b
within_kept n g p p' a b h q r = omega (arith, h, q, r)

within_gone : (n g g' p p' a b : ℕ) → Within n g p a → 1 ≤ p → p' ≤ n → g + 1 ≤ g' → b ≤ a + 400 → Within n g' p' b
within_gone n g g' p p' a b h o pn k r =
    let z : g + 1 + 1 ≤ g' + 1 = omega arith in
    let e : n * (g + 1) + n ≤ n * (g' + 1) = omega (arith, mul-le-mul_left n z) in
    omega (arith, h, o, pn, r, e)

within_stop : (n g p a b : ℕ) → Within n g p a → 1 ≤ p → b < a + 400 → b < 400 * (n * (g + 1))
within_stop n g p a b h o r = omega (arith, h, o, r)

some_variable : (s n g : ℕ) → s < 400 * (n * (g + 1)) → 0 < n
some_variable s zero g h = absurd (omega arith)
some_variable s (suc n) g h = omega arith

below_all : (s n g : ℕ) → s < 400 * (n * (g + 1)) → g ≤ n → s < 400 * n * (n + 1)
below_all s n g h le =
    let k : g + 1 ≤ n + 1 = omega arith in
    let m : n * (g + 1) ≤ n * (n + 1) = mul-le-mul_left n k in
    omega (arith, h, m)

-- what holds between two turns
pub record Passing (frozen : ℕ → Bool) (s t : State) (queue : List ℕ) (steps limit : ℕ) : Type 0 where
  pub ruled : Ruled frozen s t
  pub spent : Within (length (vars (firm s.store))) (freed frozen (vars (firm s.store)) (firm t.store)) (count_by (has t.marked.vars) (vars (firm s.store))) steps
  pub within : steps ≤ limit
  pub queued : Queued frozen t queue
  pub idle : AllFrozen frozen s → (t ≡ s) × (queue ≡ [])

-- nothing is chosen where every marked variable is frozen
pub still_idle : (frozen : ℕ → Bool) (s t u : State) (queue : List ℕ) (steps limit : ℕ) → Passing frozen s t queue steps limit → (AllFrozen frozen t → queue ≡ [] → u ≡ t) → AllFrozen frozen s → u ≡ s
still_idle frozen s t u queue steps limit p quiet all =
    let a = p.idle all in
    quiet (subst (AllFrozen frozen) (sym a.0) all) a.1 ∙ a.0

pub never_chosen : (frozen : ℕ → Bool) (s u : State) (queue : List ℕ) (v : ℕ) → Chosen frozen u queue v → (AllFrozen frozen s → u ≡ s) → AllFrozen frozen s → ⊥
never_chosen frozen s u queue v ch same all =
    false≢true (sym ch.free ∙ all v (subst (λ (z : State). has z.marked.vars v ≡ true) (same all) ch.marked))

pub passing_none : (frozen : ℕ → Bool) (s : State) (queue : List ℕ) (limit : ℕ) → queue ≡ [] → Passing frozen s s queue 0 limit
passing_none frozen s queue limit e = record {
  ruled = none;
  spent =
      (let c = count_by-le-length (has s.marked.vars) (vars (firm s.store)) in
      let n = length (vars (firm s.store)) in
      let g = freed frozen (vars (firm s.store)) (firm s.store) in
      let k : n * (0 + 1) ≤ n * (g + 1) = mul-le-mul_left n (omega arith) in
      omega (arith, c, k));
  within = omega arith;
  queued = λ v h. absurd (false≢true (ap (λ (z : List ℕ). has z v) (sym e) ∙ h));
  idle = λ all. (refl, e);
}

pub passing_unmarked : (frozen : ℕ → Bool) (s t u : State) (queue queue' : List ℕ) (v steps limit : ℕ) → Passing frozen s t queue steps limit → Unmarks t u → (AllFrozen frozen t → queue ≡ [] → u ≡ t) → Chosen frozen u queue' v → Passing frozen s u queue' steps limit
passing_unmarked frozen s t u queue queue' v steps limit p m quiet ch = record {
  ruled = ruled_turned frozen s t u p.ruled m.same;
  spent = rw m.same.store (within_fewer (length (vars (firm s.store))) (freed frozen (vars (firm s.store)) (firm t.store)) (count_by (has t.marked.vars) (vars (firm s.store))) (count_by (has u.marked.vars) (vars (firm s.store))) steps p.spent
      (count_by_le (has u.marked.vars) (has t.marked.vars) (vars (firm s.store)) m.fewer));
  within = p.within;
  queued = ch.queued;
  idle = λ all. absurd (never_chosen frozen s u queue' v ch (still_idle frozen s t u queue steps limit p quiet) all);
}

only_that : (frozen : ℕ → Bool) (v u : ℕ) → frozen v ≡ false → all_but v u ≡ false → frozen u ≡ false
only_that frozen v u free h =
    elim (cases_eq u v) [
      | inl e ↦ ap frozen e ∙ free
      | inr n ↦ absurd (false≢true (sym h ∙ rw (ne_eqb u v n) refl))
    ]

module _ (frozen : ℕ → Bool) (s t u : State) (queue : List ℕ) (v a b limit : ℕ) (p : Passing frozen s t queue a limit) (ch : Chosen frozen t queue v) where
  known : has (vars (firm s.store)) v ≡ true
  known = has_vars (firm s.store) v (ruled_stands frozen s t v p.ruled ch.stands)

  one_left : 1 ≤ count_by (has t.marked.vars) (vars (firm s.store))
  one_left = count_some (has t.marked.vars) (vars (firm s.store)) v known ch.marked

  pub busy : AllFrozen frozen s → ⊥
  busy all = never_chosen frozen s t queue v ch (λ a. (p.idle a).0) all

  pub turn_ruled : Ruled (all_but v) t u → Ruled frozen t u
  turn_ruled r = ruled_weaken (all_but v) frozen t u (λ w h. only_that frozen v w ch.free h) r

  pub pass_ruled : Ruled (all_but v) t u → Ruled frozen s u
  pass_ruled r = ruled_trans frozen s t u p.ruled (turn_ruled r)

  still_gone : Ruled frozen t u → (x : ℕ) → (not (frozen x) && not (stands (firm t.store) x)) ≡ true → (not (frozen x) && not (stands (firm u.store) x)) ≡ true
  still_gone r x h =
      let q = and_parts (not (frozen x)) (not (stands (firm t.store) x)) h in
      and_from (not (frozen x)) (not (stands (firm u.store) x)) q.0 (not_from_false (stands (firm u.store) x) (ruled_gone frozen t u x r (not-true (stands (firm t.store) x) q.1)))

  one_more : Ruled frozen t u → stands (firm u.store) v ≡ false → freed frozen (vars (firm s.store)) (firm t.store) + 1 ≤ freed frozen (vars (firm s.store)) (firm u.store)
  one_more r h =
      count_by_less (λ x. not (frozen x) && not (stands (firm t.store) x)) (λ x. not (frozen x) && not (stands (firm u.store) x)) (vars (firm s.store)) v (still_gone r) known
      (rw (ch.stands, ch.free) refl) (rw (h, ch.free) refl)

  spent_more : Ruled frozen t u → WentOn t u v a b limit → ((u.store ≡ t.store) × ((x : ℕ) → has u.marked.vars x ≡ true → has t.marked.vars x ≡ true)) ⊎ (stands (firm u.store) v ≡ false)
      → Within (length (vars (firm s.store))) (freed frozen (vars (firm s.store)) (firm u.store)) (count_by (has u.marked.vars) (vars (firm s.store))) b
  spent_more r w (inl k) =
      rw k.0
      (within_kept (length (vars (firm s.store))) (freed frozen (vars (firm s.store)) (firm t.store)) (count_by (has t.marked.vars) (vars (firm s.store))) (count_by (has u.marked.vars) (vars (firm s.store))) a b p.spent
      (count_by_less (has u.marked.vars) (has t.marked.vars) (vars (firm s.store)) v k.1 known w.cleared ch.marked) w.few)
  spent_more r w (inr h) =
      within_gone (length (vars (firm s.store))) (freed frozen (vars (firm s.store)) (firm t.store)) (freed frozen (vars (firm s.store)) (firm u.store)) (count_by (has t.marked.vars) (vars (firm s.store))) (count_by (has u.marked.vars) (vars (firm s.store))) a b p.spent
      one_left (count_by-le-length (has u.marked.vars) (vars (firm s.store))) (one_more r h) w.few

  pub passing_more : Ruled (all_but v) t u → WentOn t u v a b limit → Passing frozen s u queue b limit
  passing_more r w = record {
    ruled = pass_ruled r;
    spent = spent_more (turn_ruled r) w w.which;
    within = w.within;
    queued = λ x h.
        (let q = ch.queued x h in
        let n : x ≢ v = λ e. false≢true (sym ch.out ∙ ap (has queue) (sym e) ∙ h) in
        (w.kept x n q.0, q.1));
    idle = λ all. absurd (busy all);
  }

  pub limit_reached : Stopped t u a b limit → ReachesLimit frozen s.store u.store limit b
  limit_reached x =
      let n = length (vars (firm s.store)) in
      let g = freed frozen (vars (firm s.store)) (firm t.store) in
      let lt = within_stop (length (vars (firm s.store))) (freed frozen (vars (firm s.store)) (firm t.store)) (count_by (has t.marked.vars) (vars (firm s.store))) a b p.spent one_left x.few in
      let pos = some_variable b (length (vars (firm s.store))) (freed frozen (vars (firm s.store)) (firm t.store)) lt in
      rw x.same (record {
        full = x.spent;
        some = pos;
        fell = div_below b (400 * length (vars (firm s.store))) (freed frozen (vars (firm s.store)) (firm t.store)) (omega arith) (omega arith);
        below =
            (let most = count_by-le-length (λ z. not (frozen z) && not (stands (firm t.store) z)) (vars (firm s.store)) in
            let k = below_all b (length (vars (firm s.store))) (freed frozen (vars (firm s.store)) (firm t.store)) lt most in
            subst (λ (z : ℕ). z < 400 * length (vars (firm s.store)) * (length (vars (firm s.store)) + 1)) x.spent k);
      })

-- Where every marked variable that is not frozen stands in no clause, there is no candidate.
pub fixpoint_reached : (frozen : ℕ → Bool) (t : State) → NoneLeft frozen t → IsPromised t → NoCandidates frozen t.store
fixpoint_reached frozen t left promised v free =
    elim (cases_Bool (has t.marked.vars v)) [
      | inl y ↦ candidate_none (firm t.store) v (left v y free)
      | inr n ↦ promised.vars v n
    ]
