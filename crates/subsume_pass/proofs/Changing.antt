-- What a firm clause does to another one.
use Rattle.std.proofs.Common.{◌≡◌, ◌≢◌, ℕ, ◌<◌, Bool, true, not, eqb, ◌&&◌, List, length, get_or, Option, Some, inl, inr, refl, sym, ap, ◌∙◌, subst, arith}
use Rattle.std.specs.List.{remove}
use Rattle.std.proofs.lemmas.Bool.{false≢true, cases_eq}
use Rattle.std.proofs.lemmas.List.Edits.{length-remove}
use Rattle.sat_terms.specs.Literal.{has, neg}
use Rattle.sat_terms.specs.Normal.{IsNormal}
use Rattle.sat_terms.specs.Truth.{lit_true, Implies}
use Rattle.sat_terms.proofs.Literals.{var_of-neg}
use Rattle.sat_terms.proofs.Truths.{clause_true-from, clause_true-some, lit_true-neg}
use Rattle.clause_store.specs.Stored.{Stored, slot, slot_lits, is_firm, FirmTrue, OthersTrue}
use Rattle.firm_terms.specs.Firm.{firm_size}
use Rattle.firm_terms.specs.Subsuming.{IsWithin, Resolves, IsFree}
use Rattle.firm_terms.proofs.Counting.{one_if, count_firm, count_filled, count_freed, count_two}
use Rattle.firm_terms.proofs.Summing.{sum_filled, sum_freed, firm_size_is}
use Rattle.rule_kernel.specs.State.{State}
use Rattle.rule_kernel.specs.Rules.{firm_clause, AddsImplied, DropsImplied}
use Rattle.pass_terms.specs.Ruled.{Ruled, always}
use Rattle.pass_terms.specs.Ruled.Uses.{dropped}
use Rattle.pass_terms.proofs.Shortening.{id_apart, slot_next}
use Rattle.pass_terms.specs.Ruled.Ruled.{none, more}
use Rattle.subsume_pass.specs.declared.change.Change.TheVariants.{Kept}
use Rattle.subsume_pass.specs.Changing.{Cut, Drops, Changes}
use Rattle.subsume_pass.proofs.Clauses.{has_removed, removed_has, removed_gone}
use Rattle.subsume_pass.proofs.Comparing.{free_missing}

-- what is implied
pub implied_within : (s : List (Option Stored)) (by id : ℕ) → by ≢ id → is_firm (slot s by) ≡ true → IsWithin (slot_lits (slot s by)) (slot_lits (slot s id)) → Implies (OthersTrue s id) (slot_lits (slot s id))
implied_within s by id ne firm' h f others =
    let r = clause_true-some f (slot_lits (slot s by)) (others by ne firm') in
    clause_true-from f (slot_lits (slot s id)) r.0 (h r.0 r.1) r.2

pub implied_cut : (s : List (Option Stored)) (by id at : ℕ) → is_firm (slot s by) ≡ true → is_firm (slot s id) ≡ true → at < length (slot_lits (slot s id)) → Resolves (slot_lits (slot s by)) (slot_lits (slot s id)) (get_or (slot_lits (slot s id)) at 0)
    → Implies (FirmTrue s) (remove (slot_lits (slot s id)) at)
implied_cut s by id at firm' there in' h f all =
    let d = slot_lits (slot s id) in
    let l = get_or d at 0 in
    let r = clause_true-some f (slot_lits (slot s by)) (all by firm') in
    let q = clause_true-some f d (all id there) in
    elim (cases_eq r.0 (neg l)) [
      | inl e ↦
          (let off : lit_true f l ≡ true → ⊥ = λ y. false≢true (sym (lit_true-neg f l ∙ ap not y) ∙ ap (lit_true f) (sym e) ∙ r.2) in
          let ne : q.0 ≢ l = λ z. off (ap (lit_true f) (sym z) ∙ q.2) in
          clause_true-from f (remove d at) q.0 (has_removed d at q.0 in' q.1 ne) q.2)
      | inr ne ↦ (let m = h.rest r.0 r.1 ne in clause_true-from f (remove d at) r.0 (has_removed d at r.0 in' m.0 m.1) r.2)
    ]

pub ruled_drop : (s t : State) (id : ℕ) → DropsImplied s t id → Ruled always s t
ruled_drop s t id d = more s t none (dropped id d)

-- a clause that is free of another one is free of what is within that
pub free_shrunk : (c d new : List ℕ) → ((l : ℕ) → has new l ≡ true → has d l ≡ true) → IsFree c d → IsFree c new
free_shrunk c d new sub h = record {
  outside = λ w. h.outside (λ l i. sub l (w l i));
  uncut = λ x r. h.uncut x (record { here = sub x r.here; opposite = r.opposite; rest = λ m i ne. (let k = r.rest m i ne in (sub m k.0, k.1)) });
}

pub free_slots : (x y u v : Option Stored) → x ≡ u → y ≡ v → IsFree (slot_lits u) (slot_lits v) → IsFree (slot_lits x) (slot_lits y)
free_slots x y u v e f h = rw (e, f) h

-- the other one went
pub drops : (s t : State) (by id : ℕ) → by ≢ id → is_firm (slot s.store by) ≡ true → DropsImplied s t id → Drops s t id
drops s t by id ne fby d =
    let fid = d.firm in
    let n = count_freed is_firm s.store t.store id refl d.store in
    let m = sum_freed s.store t.store id d.store in
    let a = count_firm s.store in
    let b = count_firm t.store in
    let one : one_if (is_firm (slot s.store id)) ≡ 1 = ap one_if fid in
    let two = count_two is_firm s.store by id refl ne fby fid in
    record {
      went = d.store.freed;
      others = d.store.others;
      falls = record { small = omega arith; few = omega arith; two = λ _. omega arith };
      less = omega arith;
      count = omega arith;
      leaves = d.leaves;
    }

-- a shorter one came in its place
pub cuts : (s m t : State) (by id next at : ℕ) → by ≢ id → is_firm (slot s.store by) ≡ true → is_firm (slot s.store id) ≡ true → IsNormal (slot_lits (slot s.store id)) → at < length (slot_lits (slot s.store id))
    → Resolves (slot_lits (slot s.store by)) (slot_lits (slot s.store id)) (get_or (slot_lits (slot s.store id)) at 0) → AddsImplied s m (remove (slot_lits (slot s.store id)) at) next → DropsImplied m t id → Cut s t by id next
cuts s m t by id next at ne fby fid normal in' h came went =
    let fills = came.store in
    let frees = went.store in
    let d = slot_lits (slot s.store id) in
    let new = remove d at in
    let there = slot_next s.store m.store t.store id next new fid fills frees in
    let l2 = length-remove d at in' in
    let n1 = count_filled is_firm s.store m.store next (firm_clause new) refl fills in
    let n2 = count_freed is_firm m.store t.store id refl frees in
    let s1 = sum_filled s.store m.store next (firm_clause new) fills in
    let s2 = sum_freed m.store t.store id frees in
    let a = count_firm s.store in
    let b = count_firm t.store in
    let two = count_two is_firm s.store by id refl ne fby fid in
    let old : slot m.store id ≡ slot s.store id = fills.others id (id_apart s.store m.store id next new fid fills) in
    let one : one_if (is_firm (slot m.store id)) ≡ 1 = ap one_if (ap is_firm old ∙ fid) in
    let one' : one_if (is_firm (Some (firm_clause new))) ≡ 1 = refl in
    let size' : firm_size (slot m.store id) ≡ length d = ap firm_size old ∙ firm_size_is (slot s.store id) fid in
    let size'' : firm_size (Some (firm_clause new)) ≡ length new = refl in
    let l = get_or d at 0 in
    let x = free_missing (slot_lits (slot s.store by)) new (neg l) h.opposite (removed_gone d at (neg l) normal in' (var_of-neg l)) (removed_gone d at (neg (neg l)) normal in' (var_of-neg (neg l) ∙ var_of-neg l)) in
    let first = came.waits in
    let then' = went.leaves in
    record {
      came = ap is_firm there;
      unused = fills.free;
      went = frees.freed;
      others = λ k n n'. frees.others k n ∙ fills.others k n';
      shorter = λ y i. removed_has d at y in' (subst (λ (z : Option Stored). has (slot_lits z) y ≡ true) there i);
      free = free_slots (slot s.store by) (slot t.store next) (slot s.store by) (Some (firm_clause new)) refl there x;
      falls = record { small = omega arith; few = omega arith; two = λ _. omega arith };
      less = omega arith;
      count = omega arith;
      waits = record {
        due = λ k. then'.due k ∙ ap (λ (z : Bool). z && not (eqb id k)) (first.due k);
        fresh = λ k. then'.fresh k ∙ ap (λ (z : Bool). z && not (eqb id k)) (first.fresh k);
      };
    }

pub kept : (s : State) (by id : ℕ) → IsFree (slot_lits (slot s.store by)) (slot_lits (slot s.store id)) → Changes s s by id Kept
kept s by id h = (refl, h)
