-- Each call keeps what always holds of a bridge.
use Rattle.std.proofs.Common.{◌≡◌, ℕ, ◌||◌, ◌&&◌, eqb, Bool, true, false, List, [], ◌∷◌, ◌++◌, Option, Some, None, refl, subst, sym, ◌∙◌, inl, inr}
use Rattle.std.specs.Prelude.{All, if◌then◌else◌}
use Rattle.std.proofs.lemmas.Bool.{or_cases, or_left, or_right, eqb-true, false≢true}
use Rattle.std.proofs.lemmas.List.Elements.{All-nil, All-tail, All-head, All-append, All-weaker}
use Rattle.sat_terms.specs.Literal.{has, var_of}
use Rattle.sat_terms.specs.Truth.{Assignment}
use Rattle.sat_terms.proofs.Members.{has-append_left}
use Rattle.sat_model.specs.Constraint.{constraint_true}
use Rattle.sat_model.specs.declared.constraint.Constraint.{Constraint}
use Rattle.user_propagator.specs.Board.{Board, Handed, empty_board, with_var}
use Rattle.user_propagator.specs.Waiting.{requests, waiting_of, first, desk_without, without_first}
use Rattle.user_propagator.specs.declared.request.Request.TheVariants.{Observe, Clause, Back}
use Rattle.user_propagator.specs.Meaning.{Meaning, InStep, CalledBack, OnlyAsks, IsFair, Notified, cut_to, AdmitsNoMore, Admitted, Refused, KeptByAdmit, handed_now}
use Rattle.theory_bridge.specs.Later.{is_known_on}
use Rattle.theory_bridge.specs.Standing.{IsFairOn, Stands, IsReadyClause}
use Rattle.theory_bridge.proofs.Later.{reached_known, known_on, waits_on}

pub stands_new : (t : Meaning) → InStep t empty_board → Stands t empty_board
stands_new t step = record { in_step = step; fair = All-nil (IsFairOn t empty_board) }

-- clauses stay fair where less is admitted and no variable goes out of reach
pub fair_kept : (s t : Meaning) (a b : Board) (hs : List Handed) → AdmitsNoMore s t → ((v : ℕ) → is_known_on a v ≡ true → is_known_on b v ≡ true) → All (IsFairOn s a) hs → All (IsFairOn t b) hs
fair_kept s t a b hs fewer known = All-weaker (IsFairOn s a) (IsFairOn t b) (λ h p. record { reached = λ l q. known (var_of l) (p.reached l q); implied = λ f q. p.implied f (fewer f q) }) hs

known_called : (was now : Board) → OnlyAsks was now → (v : ℕ) → is_known_on was v ≡ true → is_known_on now v ≡ true
known_called was now o v k = known_on was now v o.observed (waits_on was now o) k

pub stands_called : (old new : Meaning) (was now : Board) → Stands old was → CalledBack old new was now → Stands new now
stands_called old new was now s c = record {
  in_step = rw (c.desk.seen, c.desk.level) c.in_step;
  fair = subst (λ (hs : List Handed). All (IsFairOn new now) hs) (sym c.desk.handed)
      (All-append (IsFairOn new now) was.handed (handed_now was now)
      (fair_kept old new was now was.handed c.fewer (known_called was now c.desk) s.fair)
      (All-weaker (IsFair new was now) (IsFairOn new now) (λ h p. record { reached = λ l q. reached_known was now (var_of l) c.desk (p.reached l q); implied = p.implied }) (handed_now was now) c.fair));
}

fewer_both : (old new : Meaning) (c : Constraint) → Admitted old new c → AdmitsNoMore old new
fewer_both old new c a f p = first_true (old.admits f) (constraint_true f c) (sym (a.admits f) ∙ p) where
  first_true : (x y : Bool) → (x && y) ≡ true → x ≡ true
  first_true true y h = refl
  first_true false y h = h

stands_kept : (old new : Meaning) (b : Board) → Stands old b → InStep new b → AdmitsNoMore old new → Stands new b
stands_kept old new b s step fewer = record { in_step = step; fair = fair_kept old new b b b.handed fewer (λ v k. k) s.fair }

pub stands_admitted : (old new : Meaning) (b : Board) (c : Constraint) → Stands old b → Admitted old new c → KeptByAdmit old new b → Stands new b
stands_admitted old new b c s a k = stands_kept old new b s k.in_step (fewer_both old new c a)

pub stands_refused : (old new : Meaning) (b : Board) → Stands old b → Refused old new → KeptByAdmit old new b → Stands new b
stands_refused old new b s r k = stands_kept old new b s k.in_step (λ f p. subst (λ (a : Assignment → Bool). a f ≡ true) r.admits p)

has_with : (observed : List ℕ) (v u : ℕ) → has observed u ≡ true → has (with_var observed v) u ≡ true
has_with observed v u h = elim (has observed v) as (λ b. has (if b then observed else observed ++ v ∷ []) u ≡ true) [ true ↦ h | false ↦ has-append_left observed (v ∷ []) u h ]

pub stands_observed : (t : Meaning) (b : Board) (v : ℕ) → Stands t b → Stands t (record b { observed = with_var b.observed v })
stands_observed t b v s = record {
  in_step = s.in_step;
  fair = fair_kept t t b (record b { observed = with_var b.observed v }) b.handed (λ f p. p) (λ u k. elim (or_cases (has b.observed u) (has b.wanted u) k) [
    | inl seen ↦ or_left (has (with_var b.observed v) u) (has b.wanted u) (has_with b.observed v u seen)
    | inr asked ↦ or_right (has (with_var b.observed v) u) (has b.wanted u) asked
  ]) s.fair;
}

-- the first request is taken off
module _ (t : Meaning) (b : Board) where
  dropped : (vs : List ℕ) (cs : List Handed) (back : Option ℕ) → b.wanted ≡ vs → b.handed ≡ cs → b.back ≡ back
      → Stands t b
      → ((v : ℕ) → first (requests (record { wanted = vs; handed = cs; back = back })) ≡ Some (Observe v) → has b.observed v ≡ true)
      → Stands t (desk_without b (without_first (record { wanted = vs; handed = cs; back = back })))
  dropped (v ∷ vs) cs back w h k s done = record {
    in_step = s.in_step;
    fair = fair_kept t t b (record b { wanted = vs; handed = cs; back = back }) cs (λ f p. p) (λ u known. elim (or_cases (has b.observed u) (has b.wanted u) known) [
      | inl seen ↦ or_left (has b.observed u) (has vs u) seen
      | inr asked ↦ elim (or_cases (eqb v u) (has vs u) (subst (λ (xs : List ℕ). has xs u ≡ true) w asked)) [
        | inl same ↦ or_left (has b.observed u) (has vs u) (subst (λ (x : ℕ). has b.observed x ≡ true) (eqb-true v u same) (done v refl))
        | inr other ↦ or_right (has b.observed u) (has vs u) other
      ]
    ]) (subst (λ (hs : List Handed). All (IsFairOn t b) hs) h s.fair);
  }
  dropped [] (c ∷ cs) back w h k s done = record {
    in_step = s.in_step;
    fair = fair_kept t t b (record b { wanted = []; handed = cs; back = back }) cs (λ f p. p) (λ u known. subst (λ (xs : List ℕ). (has b.observed u || has xs u) ≡ true) w known)
        (All-tail (IsFairOn t b) c cs (subst (λ (hs : List Handed). All (IsFairOn t b) hs) h s.fair));
  }
  dropped [] [] back w h k s done = record { in_step = s.in_step; fair = All-nil (IsFairOn t (record b { wanted = []; handed = []; back = None })) }

pub stands_dropped : (t : Meaning) (b : Board) → Stands t b → ((v : ℕ) → first (requests (waiting_of b)) ≡ Some (Observe v) → has b.observed v ≡ true) → Stands t (desk_without b (without_first (waiting_of b)))
stands_dropped t b s done = dropped t b b.wanted b.handed b.back refl refl refl s done

-- the closing notice drops a request to go back
pub stands_with_back : (t : Meaning) (b : Board) (back : Option ℕ) → Stands t b → Stands t (record b { back = back })
stands_with_back t b back s = record { in_step = s.in_step; fair = fair_kept t t b (record b { back = back }) b.handed (λ f p. p) (λ v k. k) s.fair }

-- notifications change nothing but the seen trail
pub stands_told : (s t : Meaning) (a b : Board) → Stands s a → InStep t b → t.admits ≡ s.admits → b.observed ≡ a.observed → b.wanted ≡ a.wanted → b.handed ≡ a.handed → Stands t b
stands_told s t a b h step admits observed wanted handed = record {
  in_step = step;
  fair = subst (λ (hs : List Handed). All (IsFairOn t b) hs) (sym handed)
      (fair_kept s t a b a.handed (λ f p. subst (λ (x : Assignment → Bool). x f ≡ true) admits p)
      (λ v k. known_on a b v observed (λ u w. subst (λ (xs : List ℕ). has xs u ≡ true) (sym wanted) w) k) h.fair);
}

-- a clause that is the first request may be taken
module _ (t : Meaning) (b : Board) where
  ready_first : (vs : List ℕ) (cs : List Handed) (back : Option ℕ) → b.wanted ≡ vs → b.handed ≡ cs → Stands t b → (c : List ℕ) (forgettable : Bool)
      → first (requests (record { wanted = vs; handed = cs; back = back })) ≡ Some (Clause c forgettable) → IsReadyClause t b c
  ready_first (v ∷ vs) cs back w h s c f e = absurd (let q : Some (Observe v) ≡ Some (Clause c f) = e in cc)
  ready_first [] (x ∷ cs) back w h s c f e =
      let q : Some (Clause x.clause x.forgettable) ≡ Some (Clause c f) = e in
      let same : x.clause ≡ c = cc in
      let fair = All-head (IsFairOn t b) x cs (subst (λ (hs : List Handed). All (IsFairOn t b) hs) h s.fair) in
      subst (IsReadyClause t b) same record {
        observed = λ l m. (elim (or_cases (has b.observed (var_of l)) (has b.wanted (var_of l)) (fair.reached l m)) [
          | inl seen ↦ seen
          | inr asked ↦ absurd (false≢true (subst (λ (xs : List ℕ). has xs (var_of l) ≡ true) w asked))
        ]);
        implied = fair.implied;
      }
  ready_first [] [] None w h s c f e = absurd (let q : None ≡ Some (Clause c f) = e in cc)
  ready_first [] [] (Some n) w h s c f e = absurd (let q : Some (Back n) ≡ Some (Clause c f) = e in cc)

pub ready_clause : (t : Meaning) (b : Board) → Stands t b → (c : List ℕ) (forgettable : Bool) → first (requests (waiting_of b)) ≡ Some (Clause c forgettable) → IsReadyClause t b c
ready_clause t b s c f e = ready_first t b b.wanted b.handed b.back refl refl s c f e

pub stands_back : (s t : Meaning) (a b : Board) (level : ℕ) → Stands s a → Notified s t → InStep t (cut_to a level) → b ≡ cut_to a level → Stands t b
stands_back s t a b level h n step is = subst (λ (x : Board). Stands t x) (sym is) (stands_told s t a (cut_to a level) h step n.admits refl refl refl)

pub stands_closed : (s t : Meaning) (a b : Board) → Stands s a → Notified s t → InStep t (cut_to a 0) → b ≡ record (cut_to a 0) { back = None } → Stands t b
stands_closed s t a b h n step is = subst (λ (x : Board). Stands t x) (sym is) (stands_with_back t (cut_to a 0) None (stands_told s t a (cut_to a 0) h step n.admits refl refl refl))
