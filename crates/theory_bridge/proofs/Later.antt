-- What holds between two moments composes, and each callback gives it.
use Rattle.std.proofs.Common.{◌≡◌, ℕ, ◌||◌, Bool, true, List, refl, subst, sym, ◌∙◌, inl, inr}
use Rattle.std.proofs.lemmas.Bool.{or_cases, or_left, or_right}
use Rattle.sat_terms.specs.Literal.{has}
use Rattle.sat_terms.proofs.Members.{has-append_left, has-append_right}
use Rattle.user_propagator.specs.Board.{Board}
use Rattle.user_propagator.specs.Meaning.{Meaning, CalledBack, KeepsExplained, StandsAt, OnlyAsks, is_reached, asked_now}
use Rattle.theory_bridge.specs.Later.{Later, is_known_on}

pub later_same : (t : Meaning) (b : Board) → Later t t b b
later_same t b = record {
  fewer = λ f p. p;
  explained = λ k l p. p;
  seen = refl;
  level = refl;
  observed = refl;
  waits = λ v h. h;
  scope = λ v h. or_left (has t.scope v) (is_known_on b v) h;
  accepted = refl;
  steady = refl;
  admits_steady = λ s. refl;
  scope_steady = λ s. refl;
}

pub waits_on : (was now : Board) → OnlyAsks was now → (v : ℕ) → has was.wanted v ≡ true → has now.wanted v ≡ true
waits_on was now o v h = subst (λ (xs : List ℕ). has xs v ≡ true) (sym o.wanted) (has-append_left was.wanted (asked_now was now) v h)

-- what is within reach of a callback is observed or asked for behind it
pub reached_known : (was now : Board) (v : ℕ) → OnlyAsks was now → is_reached was now v ≡ true → is_known_on now v ≡ true
reached_known was now v o r =
    elim (or_cases (has was.observed v) (has (asked_now was now) v) r) [
      | inl seen ↦ or_left (has now.observed v) (has now.wanted v) (subst (λ (xs : List ℕ). has xs v ≡ true) (sym o.observed) seen)
      | inr asked ↦ or_right (has now.observed v) (has now.wanted v) (subst (λ (xs : List ℕ). has xs v ≡ true) (sym o.wanted) (has-append_right was.wanted (asked_now was now) v asked))
    ]

-- a first choice that stays, and a second one that leads to another
pub or_leads : (a b c : Bool) → (b ≡ true → c ≡ true) → (a || b) ≡ true → (a || c) ≡ true
or_leads a b c f h = elim (or_cases a b h) [ inl p ↦ or_left a c p | inr q ↦ or_right a c (f q) ]

pub later_called : (old new : Meaning) (was now : Board) → CalledBack old new was now → Later old new was now
later_called old new was now c = record {
  fewer = c.fewer;
  explained = c.explained;
  seen = c.desk.seen;
  level = c.desk.level;
  observed = c.desk.observed;
  waits = waits_on was now c.desk;
  scope = λ v h. or_leads (has old.scope v) (is_reached was now v) (is_known_on now v) (reached_known was now v c.desk) (c.scope v h);
  accepted = c.counted.accepted;
  steady = c.counted.steady;
  admits_steady = λ s. (c.quiet s).admits;
  scope_steady = λ s. (c.quiet s).scope;
}

pub known_on : (b c : Board) (v : ℕ) → c.observed ≡ b.observed → ((v : ℕ) → has b.wanted v ≡ true → has c.wanted v ≡ true) → is_known_on b v ≡ true → is_known_on c v ≡ true
known_on b c v same waits k =
    elim (or_cases (has b.observed v) (has b.wanted v) k) [
      | inl seen ↦ or_left (has c.observed v) (has c.wanted v) (subst (λ (xs : List ℕ). has xs v ≡ true) (sym same) seen)
      | inr asked ↦ or_right (has c.observed v) (has c.wanted v) (waits v asked)
    ]

pub later_on : (s t u : Meaning) (a b c : Board) → Later s t a b → Later t u b c → Later s u a c
later_on s t u a b c h k = record {
  fewer = λ f p. h.fewer f (k.fewer f p);
  explained = λ n l p. subst (KeepsExplained t u) h.seen k.explained n l (h.explained n l p);
  seen = k.seen ∙ h.seen;
  level = k.level ∙ h.level;
  observed = k.observed ∙ h.observed;
  waits = λ v w. k.waits v (h.waits v w);
  scope = λ v e. elim (or_cases (has t.scope v) (is_known_on c v) (k.scope v e)) [
    | inl before ↦ or_leads (has s.scope v) (is_known_on b v) (is_known_on c v) (known_on b c v k.observed k.waits) (h.scope v before)
    | inr known ↦ or_right (has s.scope v) (is_known_on c v) known
  ];
  accepted = k.accepted ∙ h.accepted;
  steady = k.steady ∙ h.steady;
  admits_steady = λ e. k.admits_steady (h.steady ∙ e) ∙ h.admits_steady e;
  scope_steady = λ e. k.scope_steady (h.steady ∙ e) ∙ h.scope_steady e;
}

-- an explained literal stays explained
pub stands_later : (s t : Meaning) (a b : Board) (k l : ℕ) → Later s t a b → StandsAt s a.seen k l → StandsAt t b.seen k l
stands_later s t a b k l h p = rw h.seen record { inside = p.inside; place = p.place; explained = h.explained k p.inside p.explained }
