-- Laws of the rule on one clause of a kernel.
use Rattle.std.proofs.Common.{◌≡◌, ◌≢◌, ℕ, ◌<◌, ◌≤◌, true, false, not, eqb, ◌&&◌, ◌||◌, List, [], ◌∷◌, ◌++◌, length, get_or, Option, Some, inl, inr, refl, sym, ap, ◌∙◌, subst, arith}
use Rattle.std.proofs.lemmas.Bool.{false≢true, cases_eq, and_parts, and_from, or_cases, or_left, or_right, eqb-true, eq-eqb, ne_eqb, false_from_ne_true}
use Rattle.sat_terms.specs.Literal.{has, neg, var_of}
use Rattle.sat_terms.proofs.Literals.{var_of-neg}
use Rattle.sat_terms.proofs.Members.{has_item, has_place}
use Rattle.sat_terms.specs.Answer.{Within}
use Rattle.clause_store.specs.Stored.{Stored, slot, slot_lits, is_firm, Fills, Frees}
use Rattle.rule_kernel.specs.Rules.{firm_clause}
use Rattle.rule_kernel.proofs.Chained.{live_from_firm}
use Rattle.firm_terms.specs.Firm.{firm_size, lits_sum}
use Rattle.pass_terms.proofs.Shortening.{firm_none, id_apart, slot_next, slot_kept}
use Rattle.trail_state.specs.declared.trail.Step.{Step}
use Rattle.trail_state.specs.Trail.{Trace}
use Rattle.trail_state.specs.Clauses.{IsReason}
use Rattle.watch_lists.specs.Propagation.{Watching, Follows, Grown}
use Rattle.vivify_pass.specs.Trailing.{AreOthers, NoneRests, KeepsRoot, IsSettled, Probes, Ready}
use Rattle.vivify_pass.specs.Turning.{Shortens}
use Rattle.vivify_pass.proofs.Rooting.{rooted_forced, rooted_back, rooted_more, rooted_grown, quiet_fewer}
use Rattle.firm_terms.proofs.Summing.{sum_filled, sum_freed, firm_size_is}

-- the lists without a clause
pub others_of : (s : List (Option Stored)) (w w' : Watching) (t : Trace) (id : ℕ) → Ready s w t → ((k : ℕ) → has w'.attached k ≡ (has w.attached k && not (eqb k id))) → AreOthers s id w'.attached
others_of s w w' t id h e = record {
  sound = λ k i.
      let p = and_parts (has w.attached k) (not (eqb k id)) (sym (e k) ∙ i) in
      ((λ z. false≢true (sym (ap not (eq-eqb k id z)) ∙ p.1)), h.sound k p.0);
  whole = λ k ne f. e k ∙ and_from (has w.attached k) (not (eqb k id)) (h.whole k f) (ap not (ne_eqb k id ne));
}

pub probes_start : (s : List (Option Stored)) (w w' : Watching) (t : Trace) (id : ℕ) → Ready s w t → ((k : ℕ) → has w'.attached k ≡ (has w.attached k && not (eqb k id))) → Follows w' s t → NoneRests (slot_lits (slot s id)) t.steps → Probes s id [] w' t
probes_start s w w' t id h e f rests =
    let o = others_of s w w' t id h e in
    record {
      others = o;
      ready = λ k i. (live_from_firm (slot s k) (o.sound k i).1, h.known k (o.sound k i).1);
      follows = f;
      forced = rooted_forced s id (slot_lits (slot s id)) w.attached w'.attached t.steps o e refl h.rooted rests;
      given_true = λ l i. absurd (false≢true i);
    }

-- propagation at the root
pub ready_settled : (s : List (Option Stored)) (w w' : Watching) (t t' : Trace) → Ready s w t → w'.attached ≡ w.attached → w'.declared ≡ w.declared → Follows w' s t' → Grown w.attached s t t' → Ready s w' t'
ready_settled s w w' t t' h ew dw follows g = record {
  sound = rw ew h.sound;
  whole = rw ew h.whole;
  known = rw g.declared h.known;
  lists = let l = h.lists in let d = g.declared in omega arith;
  follows = follows;
  rooted = rw ew (rooted_grown s w.attached t t' h.rooted g);
}

-- nothing more follows from fewer clauses
pub settled_others : (s : List (Option Stored)) (w w' : Watching) (t : List Step) (id : ℕ) → ((k : ℕ) → has w'.attached k ≡ (has w.attached k && not (eqb k id))) → IsSettled w.attached s t → IsSettled w'.attached s t
settled_others s w w' t id e h l on = quiet_fewer s w.attached w'.attached t (λ k i. (and_parts (has w.attached k) (not (eqb k id)) (sym (e k) ∙ i)).0) (h l on)

pub no_more_id : (w w' : Watching) (id : ℕ) → ((k : ℕ) → has w'.attached k ≡ (has w.attached k && not (eqb k id))) → has w'.attached id ≡ false
no_more_id w w' id e =
    false_from_ne_true (has w'.attached id) (λ y. let p = and_parts (has w.attached id) (not (eqb id id)) (sym (e id) ∙ y) in false≢true (sym (ap not (eq-eqb id id refl)) ∙ p.1))

within_of : (n : ℕ) (c d : List ℕ) → ((l : ℕ) → has c l ≡ true → has d l ≡ true) → Within n d → Within n c
within_of n c d sub h k e lt =
    let x = get_or c k e in
    let i = sub x (has_item c k e lt) in
    let p = has_place d x 0 i in
    subst (λ (z : ℕ). (1 ≤ var_of z) × (var_of z ≤ n)) p.2 (h p.0 0 p.1)

-- the lists with the clause again
pub ready_same : (s : List (Option Stored)) (w w' w'' : Watching) (t u : Trace) (id : ℕ) → Ready s w t → is_firm (slot s id) ≡ true → ((k : ℕ) → has w'.attached k ≡ (has w.attached k && not (eqb k id))) → ((k : ℕ) → has w''.attached k ≡ (has w'.attached k || eqb id k))
    → w''.declared ≡ w.declared → u.declared ≡ t.declared → (tail : List Step) → t.steps ≡ u.steps ++ tail → Follows w'' s u → Ready s w'' u
ready_same s w w' w'' t u id h firm' e f dw dt tail front follows = record {
  sound = λ k i.
      elim (or_cases (has w'.attached k) (eqb id k) (sym (f k) ∙ i)) [
        | inl a ↦ h.sound k (and_parts (has w.attached k) (not (eqb k id)) (sym (e k) ∙ a)).0
        | inr b ↦ subst (λ (z : ℕ). is_firm (slot s z) ≡ true) (eqb-true id k b) firm'
      ];
  whole = λ k i.
      elim (cases_eq id k) [
        | inl z ↦ f k ∙ or_right (has w'.attached k) (eqb id k) (eq-eqb id k z)
        | inr n ↦ f k ∙ or_left (has w'.attached k) (eqb id k) (e k ∙ and_from (has w.attached k) (not (eqb k id)) (h.whole k i) (ap not (ne_eqb k id (λ z. n (sym z)))))
      ];
  known = λ k i. rw dt (h.known k i);
  lists = let l = h.lists in omega arith;
  follows = follows;
  rooted = rooted_more s w.attached w''.attached u.steps
      (λ k i. elim (cases_eq id k) [
        | inl z ↦ f k ∙ or_right (has w'.attached k) (eqb id k) (eq-eqb id k z)
        | inr n ↦ f k ∙ or_left (has w'.attached k) (eqb id k) (e k ∙ and_from (has w.attached k) (not (eqb k id)) i (ap not (ne_eqb k id (λ z. n (sym z)))))
      ])
      (rooted_back s w.attached t.steps u.steps tail front h.rooted);
}

-- the clause that came
pub came_new : (s m : List (Option Stored)) (w w' : Watching) (t : Trace) (id next : ℕ) (new : List ℕ) → Ready s w t → ((k : ℕ) → has w'.attached k ≡ (has w.attached k && not (eqb k id))) → Fills s m next (firm_clause new) → has w'.attached next ≡ false
came_new s m w w' t id next new h e fills =
    false_from_ne_true (has w'.attached next) (λ y. firm_none (slot s next) (h.sound next (and_parts (has w.attached next) (not (eqb next id)) (sym (e next) ∙ y)).0) fills.free)

-- the attached clauses are as they were when one comes, and when one goes that left the lists
pub attached_came : (s m : List (Option Stored)) (w : Watching) (t : Trace) (next : ℕ) (new : List ℕ) → Ready s w t → Fills s m next (firm_clause new) → (k : ℕ) → has w.attached k ≡ true → slot m k ≡ slot s k
attached_came s m w t next new h fills k i = fills.others k (λ z. firm_none (slot s k) (h.sound k i) (ap (slot s) z ∙ fills.free))

pub attached_went : (m u : List (Option Stored)) (w w' : Watching) (id : ℕ) → ((k : ℕ) → has w'.attached k ≡ (has w.attached k && not (eqb k id))) → Frees m u id → (k : ℕ) → has w'.attached k ≡ true → slot u k ≡ slot m k
attached_went m u w w' id e frees k i = frees.others k (λ z. false≢true (sym (ap not (eq-eqb k id z)) ∙ (and_parts (has w.attached k) (not (eqb k id)) (sym (e k) ∙ i)).1))

pub within_next : (s m u : List (Option Stored)) (n : ℕ) (w : Watching) (t : Trace) (id next : ℕ) (new : List ℕ) → Ready s w t → is_firm (slot s id) ≡ true → ((l : ℕ) → has new l ≡ true → has (slot_lits (slot s id)) l ≡ true) → Fills s m next (firm_clause new) → Frees m u id → t.declared ≤ n → Within n (slot_lits (slot u next))
within_next s m u n w t id next new h firm' sub fills frees le =
    let e = slot_next s m u id next new firm' fills frees in
    let c = within_of t.declared new (slot_lits (slot s id)) sub (h.known id firm') in
    subst (λ (z : Option Stored). Within n (slot_lits z)) (sym e) (λ k d lt. (let x = c k d lt in let y = x.1 in (x.0, omega arith)))

pub within_again : (s : List (Option Stored)) (n : ℕ) (w : Watching) (t : Trace) (id : ℕ) → Ready s w t → is_firm (slot s id) ≡ true → t.declared ≤ n → Within n (slot_lits (slot s id))
within_again s n w t id h firm' le k d lt = let x = h.known id firm' k d lt in let y = x.1 in (x.0, omega arith)

pub ready_next : (s m u : List (Option Stored)) (w w' w'' : Watching) (t : Trace) (id next : ℕ) (new : List ℕ) → Ready s w t → is_firm (slot s id) ≡ true → ((l : ℕ) → has new l ≡ true → has (slot_lits (slot s id)) l ≡ true)
    → Fills s m next (firm_clause new) → Frees m u id → ((k : ℕ) → has w'.attached k ≡ (has w.attached k && not (eqb k id))) → ((k : ℕ) → has w''.attached k ≡ (has w'.attached k || eqb next k))
    → w''.declared ≡ w.declared → KeepsRoot (slot_lits (slot s id)) new t.steps → Follows w'' u t → Ready u w'' t
ready_next s m u w w' w'' t id next new h firm' sub fills frees e f dw keeps follows = record {
  sound = λ k i.
      elim (or_cases (has w'.attached k) (eqb next k) (sym (f k) ∙ i)) [
        | inl a ↦
            (let o = (others_of s w w' t id h e).sound k a in
            subst (λ (z : Option Stored). is_firm z ≡ true) (sym (slot_kept s m u id next k new fills frees o.0 o.1)) o.1)
        | inr b ↦ subst (λ (z : ℕ). is_firm (slot u z) ≡ true) (eqb-true next k b) (ap is_firm (slot_next s m u id next new firm' fills frees))
      ];
  whole = λ k i.
      elim (cases_eq next k) [
        | inl z ↦ f k ∙ or_right (has w'.attached k) (eqb next k) (eq-eqb next k z)
        | inr n ↦
            (let ne : k ≢ id = λ z. firm_none (slot u k) i (ap (slot u) z ∙ frees.freed) in
            let same : slot u k ≡ slot s k = frees.others k ne ∙ fills.others k (λ z. n (sym z)) in
            let o = others_of s w w' t id h e in
            f k ∙ or_left (has w'.attached k) (eqb next k) (o.whole k ne (subst (λ (z : Option Stored). is_firm z ≡ true) same i)))
      ];
  known = λ k i.
      elim (cases_eq next k) [
        | inl z ↦ subst (λ (x : ℕ). Within t.declared (slot_lits (slot u x))) z (within_next s m u t.declared w t id next new h firm' sub fills frees (omega arith))
        | inr n ↦
            (let ne : k ≢ id = λ z. firm_none (slot u k) i (ap (slot u) z ∙ frees.freed) in
            let same : slot u k ≡ slot s k = frees.others k ne ∙ fills.others k (λ z. n (sym z)) in
            subst (λ (z : Option Stored). Within t.declared (slot_lits z)) (sym same) (h.known k (subst (λ (z : Option Stored). is_firm z ≡ true) same i)))
      ];
  lists = let l = h.lists in omega arith;
  follows = follows;
  rooted = λ i lt.
      let r = h.rooted i lt in
      elim (cases_eq r.by id) [
        | inl z ↦
            (let was : IsReason (slot_lits (slot s id)) t.steps i = subst (λ (k : ℕ). IsReason (slot_lits (slot s k)) t.steps i) z r.implied in
            record {
              by = next;
              attached = f next ∙ or_right (has w'.attached next) (eqb next next) (eq-eqb next next refl);
              implied = subst (λ (x : Option Stored). IsReason (slot_lits x) t.steps i) (sym (slot_next s m u id next new firm' fills frees)) (record { holds = keeps i lt was; others = λ l a ne. was.others l (sub l a) ne });
            })
        | inr n ↦
            record {
              by = r.by;
              attached = f r.by ∙ or_left (has w'.attached r.by) (eqb next r.by) (e r.by ∙ and_from (has w.attached r.by) (not (eqb r.by id)) r.attached (ap not (ne_eqb r.by id n)));
              implied = subst (λ (x : Option Stored). IsReason (slot_lits x) t.steps i) (sym (slot_kept s m u id next r.by new fills frees n (h.sound r.by r.attached))) r.implied;
            }
      ];
}

pub declared_all : (s : List (Option Stored)) (w : Watching) (t : Trace) (id : ℕ) → Ready s w t → is_firm (slot s id) ≡ true → (l : ℕ) → has (slot_lits (slot s id)) l ≡ true → var_of (neg l) ≤ t.declared
declared_all s w t id h firm' l i =
    let one : Within t.declared (l ∷ []) = within_of t.declared (l ∷ []) (slot_lits (slot s id)) (λ m e. elim (or_cases (eqb l m) false e) [ inl x ↦ subst (λ (z : ℕ). has (slot_lits (slot s id)) z ≡ true) (eqb-true l m x) i | inr x ↦ absurd (false≢true x) ]) (h.known id firm') in
    let a = (one 0 0 (omega arith)).1 in
    let v = var_of-neg l in
    omega arith

size_falls : (s m u : List (Option Stored)) (id next : ℕ) (new : List ℕ) → is_firm (slot s id) ≡ true → Fills s m next (firm_clause new) → Frees m u id → length new < length (slot_lits (slot s id)) → lits_sum u < lits_sum s
size_falls s m u id next new firm' fills frees less =
    let a = sum_filled s m next (firm_clause new) fills in
    let b = sum_freed m u id frees in
    let c : firm_size (slot m id) ≡ length (slot_lits (slot s id)) = ap firm_size (fills.others id (id_apart s m id next new firm' fills)) ∙ firm_size_is (slot s id) firm' in
    let d : firm_size (Some (firm_clause new)) ≡ length new = refl in
    omega arith

-- what became of the store
pub shortens_next : (s m u : List (Option Stored)) (id next : ℕ) (new : List ℕ) → is_firm (slot s id) ≡ true → Fills s m next (firm_clause new) → Frees m u id → length new < length (slot_lits (slot s id)) → Shortens s u id next
shortens_next s m u id next new firm' fills frees less = record {
  fresh = fills.free;
  here = ap is_firm (slot_next s m u id next new firm' fills frees);
  gone = frees.freed;
  others = λ k n o. frees.others k n ∙ fills.others k o;
  fallen = size_falls s m u id next new firm' fills frees less;
}
