-- What keeps the standing invariant: the rules, and changes of what was given.
use Rattle.std.proofs.Common.{◌≡◌, ℕ, Bool, true, false, ◌||◌, eqb, List, [], ◌∷◌, Option, Some, None, inl, inr, refl, sym, ◌∙◌}
use Rattle.std.specs.Prelude.{is_some}
use Rattle.std.proofs.lemmas.Bool.{false≢true, or_cases, or_left, or_right, eqb-true, eq-eqb}
use Rattle.sat_terms.specs.Literal.{has, var_of, pos_lit, neg_lit}
use Rattle.sat_terms.specs.Truth.{Assignment, clause_true}
use Rattle.redundancy.specs.Redundancy.{Entry, Clean, no_entry, extend}
use Rattle.redundancy.proofs.Chains.{StackTrue-in, StackTrue-out, StackTrue-append, StackTrue-left, StackTrue-right, Chain-extend, extend-same, Unmentioned-from_clean}
use Rattle.clause_store.specs.Stored.{Stored, slot, slot_lits, is_firm, FirmTrue, StoreTrue}
use Rattle.clause_store.proofs.Slots.{FirmTrue-from, FirmTrue-before, OthersTrue-freed, StoreTrue-filled, StoreTrue-freed}
use Rattle.rule_kernel.specs.State.{State}
use Rattle.rule_kernel.specs.Rules.{Adds, AddsImplied, DropsImplied, Parks, Restores, Learns, Forgets, Add, AddImplied, DropImplied, Park, Restore, Learn, Forget}
use Rattle.rule_kernel.proofs.Chained.{applied, SlotTrue-redundant}
use Rattle.taint_restore.specs.Restored.{Restored}
use Rattle.taint_restore.specs.Restored.Restored.{none, one_more}
use Rattle.taint_restore.specs.Known.{is_known, KnowsLits, NoneMentioned}
use Rattle.taint_restore.specs.Standing.{Standing, Passes, KeepsStanding}
use Rattle.taint_restore.proofs.Knowing.{KnowsStore-filled, KnowsStore-freed, KnowsStack-remove, KnowsStack-push, KnowsStack-clause, KnowsStack-more, Unmentioned-remove, Unmentioned-push}

-- what makes all stored clauses true makes the firm ones true
StoreTrue-firm : (s : List (Option Stored)) (f : Assignment) → StoreTrue s f → FirmTrue s f
StoreTrue-firm s f h id firm = h id (some_of (slot s id) firm) where
  some_of : (x : Option Stored) → is_firm x ≡ true → is_some x ≡ true
  some_of None h = absurd (false≢true h)
  some_of (Some c) h = refl

module _ (admits clauses rules : Assignment → Type 0) (named observed scope asked : ℕ → Bool) where
  -- A stacked clause comes back.
  pub standing_restores : (old new : State) (k id : ℕ) → Restores old new k id → Standing admits clauses rules named observed scope asked old → Standing admits clauses rules named observed scope asked new
  standing_restores old new k id r st = record {
    chain = applied (Restore k id) old new st.chain r;
    follows = λ f a g.
        let h = st.follows f a g in
        let o = StackTrue-out f old.stack k no_entry r.within h.1 in
        (StoreTrue-filled f r.store h.0 o.1, rw r.stack o.0);
    suffices = λ f h t.
        let b = FirmTrue-before f r.store h in
        st.suffices f b.0 (StackTrue-in f old.stack k no_entry r.within (rw r.stack at t) (b.1 refl));
    rules_kept = st.rules_kept;
    unmentioned = λ v o. rw r.stack (Unmentioned-remove v old.stack k (st.unmentioned v o));
    seen = st.seen;
    stored_known = KnowsStore-filled (is_known observed named) _ _ _ _ r.store (KnowsStack-clause (is_known observed named) old.stack k st.stacked_known) st.stored_known;
    stacked_known = rw r.stack (KnowsStack-remove (is_known observed named) old.stack k st.stacked_known);
  }

  -- Restorations, one after another: this is all that an assumption and an observed variable need of the kernel.
  pub standing_restored : (old new : State) (ids : List ℕ) → Restored old ids new → Standing admits clauses rules named observed scope asked old → Standing admits clauses rules named observed scope asked new
  standing_restored old new ids none st = st
  standing_restored old new ids (one_more {ids = before} {mid = mid} {new = last} k id h r) st =
      standing_restores mid last k id r (standing_restored old mid before h st)

  -- A clause is learned that the stored clauses and the theory imply, over known variables.
  pub standing_learned : (old new : State) (c : List ℕ) (glue id : ℕ) → Learns old new c glue id → ((f : Assignment) → admits f → StoreTrue old.store f → clause_true f c ≡ true) → KnowsLits (is_known observed named) c
      → Standing admits clauses rules named observed scope asked old → Standing admits clauses rules named observed scope asked new
  standing_learned old new c glue id r implied known st = record {
    chain = applied (Learn c glue id) old new st.chain r;
    follows = λ f a g. let h = st.follows f a g in (StoreTrue-filled f r.store h.0 (implied f a h.0), rw r.rest.stack h.1);
    suffices = λ f h t. st.suffices f (FirmTrue-before f r.store h).0 (rw r.rest.stack at t);
    rules_kept = st.rules_kept;
    unmentioned = λ v o. rw r.rest.stack (st.unmentioned v o);
    seen = st.seen;
    stored_known = KnowsStore-filled (is_known observed named) _ _ _ _ r.store known st.stored_known;
    stacked_known = rw r.rest.stack st.stacked_known;
  }

  -- A redundant clause is forgotten.
  pub standing_forgot : (old new : State) (id : ℕ) → Forgets old new id → Standing admits clauses rules named observed scope asked old → Standing admits clauses rules named observed scope asked new
  standing_forgot old new id r st = record {
    chain = applied (Forget id) old new st.chain r;
    follows = λ f a g. let h = st.follows f a g in (StoreTrue-freed f r.store h.0, rw r.rest.stack h.1);
    suffices = λ f h t.
        st.suffices f (FirmTrue-from old.store id f (OthersTrue-freed f r.store h) (SlotTrue-redundant f (slot old.store id) r.redundant)) (rw r.rest.stack at t);
    rules_kept = st.rules_kept;
    unmentioned = λ v o. rw r.rest.stack (st.unmentioned v o);
    seen = st.seen;
    stored_known = KnowsStore-freed (is_known observed named) _ _ _ r.store st.stored_known;
    stacked_known = rw r.rest.stack st.stacked_known;
  }

  -- A clause that every admitted assignment makes true, over known variables, becomes firm (one that the theory hands over for good).
  pub standing_handed : (old new : State) (c : List ℕ) (id : ℕ) → Adds old new c id → ((f : Assignment) → admits f → clause_true f c ≡ true) → KnowsLits (is_known observed named) c
      → Standing admits clauses rules named observed scope asked old → Standing admits clauses rules named observed scope asked new
  standing_handed old new c id r implied known st = record {
    chain = applied (Add c id) old new st.chain r;
    follows = λ f a g. let h = st.follows f a g in (StoreTrue-filled f r.store h.0 (implied f a), rw r.rest.stack h.1);
    suffices = λ f h t. st.suffices f (FirmTrue-before f r.store h).0 (rw r.rest.stack at t);
    rules_kept = st.rules_kept;
    unmentioned = λ v o. rw r.rest.stack (st.unmentioned v o);
    seen = st.seen;
    stored_known = KnowsStore-filled (is_known observed named) _ _ _ _ r.store known st.stored_known;
    stacked_known = rw r.rest.stack st.stacked_known;
  }

  -- A clause that the firm ones imply comes to them, and one that the others imply goes.
  pub standing_implied : (old new : State) (c : List ℕ) (id : ℕ) → AddsImplied old new c id → KnowsLits (is_known observed named) c → Standing admits clauses rules named observed scope asked old → Standing admits clauses rules named observed scope asked new
  standing_implied old new c id r known st = record {
    chain = applied (AddImplied c id) old new st.chain r;
    follows = λ f a g. let h = st.follows f a g in (StoreTrue-filled f r.store h.0 (r.implied f (StoreTrue-firm old.store f h.0)), rw r.rest.stack h.1);
    suffices = λ f h t. st.suffices f (FirmTrue-before f r.store h).0 (rw r.rest.stack at t);
    rules_kept = st.rules_kept;
    unmentioned = λ v o. rw r.rest.stack (st.unmentioned v o);
    seen = st.seen;
    stored_known = KnowsStore-filled (is_known observed named) _ _ _ _ r.store known st.stored_known;
    stacked_known = rw r.rest.stack st.stacked_known;
  }

  pub standing_dropped : (old new : State) (id : ℕ) → DropsImplied old new id → Standing admits clauses rules named observed scope asked old → Standing admits clauses rules named observed scope asked new
  standing_dropped old new id r st = record {
    chain = applied (DropImplied id) old new st.chain r;
    follows = λ f a g. let h = st.follows f a g in (StoreTrue-freed f r.store h.0, rw r.stack h.1);
    suffices = λ f h t. let others = OthersTrue-freed f r.store h in st.suffices f (FirmTrue-from old.store id f others (λ _. r.implied f others)) (rw r.stack at t);
    rules_kept = st.rules_kept;
    unmentioned = λ v o. rw r.stack (st.unmentioned v o);
    seen = st.seen;
    stored_known = KnowsStore-freed (is_known observed named) _ _ _ r.store st.stored_known;
    stacked_known = rw r.stack st.stacked_known;
  }

  -- A firm clause is parked with a witness over known variables, none of them observed.
  pub standing_parked : (old new : State) (id : ℕ) (w : List ℕ) → Parks old new id w → KnowsLits (is_known observed named) w → ((v : ℕ) → observed v ≡ true → (has w (pos_lit v) ≡ false) × (has w (neg_lit v) ≡ false))
      → Standing admits clauses rules named observed scope asked old → Standing admits clauses rules named observed scope asked new
  standing_parked old new id w r known unseen st =
      let c = slot_lits (slot old.store id) in
      let e : Entry = record { witness = w; clause = c } in
      record {
        chain = applied (Park id w) old new st.chain r;
        follows = λ f a g.
            let h = st.follows f a g in
            (StoreTrue-freed f r.store h.0, rw r.stack (StackTrue-append f old.stack (e ∷ []) h.1 ((StoreTrue-firm old.store f h.0) id r.firm, tt)));
        suffices = λ f h t.
            let t' = rw r.stack at t in
            st.suffices f (FirmTrue-from old.store id f (OthersTrue-freed f r.store h) (λ _. (StackTrue-right f old.stack (e ∷ []) t').0)) (StackTrue-left f old.stack (e ∷ []) t');
        rules_kept = st.rules_kept;
        unmentioned = λ v o. rw r.stack (Unmentioned-push v old.stack e (unseen v o, tt) (st.unmentioned v o));
        seen = st.seen;
        stored_known = KnowsStore-freed (is_known observed named) _ _ _ r.store st.stored_known;
        stacked_known = rw r.stack (KnowsStack-push (is_known observed named) old.stack e known (st.stored_known id) st.stacked_known);
      }

  -- What a search refutes has no model among what was given.
  pub standing_core : (k : State) (core : Assignment → Type 0) → Standing admits clauses rules named observed scope asked k → ((f : Assignment) → admits f → StoreTrue k.store f → core f → ⊥) → (f : Assignment) → admits f → clauses f → core f → ⊥
  standing_core k core st refuted f a g c = refuted f a (st.follows f a g).0 c

  -- A model of the firm clauses, extended by the stack, makes all that was given true and is admitted: what is admitted must depend on
  -- the scope alone, and no request for a variable may wait.
  pub standing_model : (k : State) → Standing admits clauses rules named observed scope asked k → ((f g : Assignment) → ((v : ℕ) → scope v ≡ true → f v ≡ g v) → admits f → admits g) → ((v : ℕ) → asked v ≡ false)
      → (f : Assignment) → FirmTrue k.store f → admits f → clauses (extend f k.stack) × rules (extend f k.stack) × admits (extend f k.stack)
  standing_model k st depends idle f h a =
      let w = Chain-extend (FirmTrue k.store) f k.stack st.chain h in
      let looked : (v : ℕ) → scope v ≡ true → observed v ≡ true = λ v s. elim (or_cases (observed v) (asked v) (st.seen v s)) [ inl o ↦ o | inr q ↦ absurd (false≢true (sym (idle v) ∙ q)) ] in
      let kept : admits (extend f k.stack) = depends f (extend f k.stack) (λ v s. sym (extend-same f k.stack v (st.unmentioned v (looked v s)))) a in
      (st.suffices (extend f k.stack) w.0 w.1, st.rules_kept (extend f k.stack) kept, kept)

  -- A clause is given: its normal form, over variables that are known then, becomes firm, where it is clean.
  pub standing_added : (clauses' : Assignment → Type 0) (named' : ℕ → Bool) (old new : State) (c : List ℕ) (id : ℕ) → Adds old new c id
      → ((f : Assignment) → clauses' f → clauses f × (clause_true f c ≡ true)) → ((f : Assignment) → clauses f → clause_true f c ≡ true → clauses' f)
      → ((v : ℕ) → named v ≡ true → named' v ≡ true) → KnowsLits (is_known observed named') c
      → Standing admits clauses rules named observed scope asked old → Standing admits clauses' rules named' observed scope asked new
  standing_added clauses' named' old new c id r to from more known st = record {
    chain = applied (Add c id) old new st.chain r;
    follows = λ f a g. let t = to f g in let h = st.follows f a t.0 in (StoreTrue-filled f r.store h.0 t.1, rw r.rest.stack h.1);
    suffices = λ f h t. let b = FirmTrue-before f r.store h in from f (st.suffices f b.0 (rw r.rest.stack at t)) (b.1 refl);
    rules_kept = st.rules_kept;
    unmentioned = λ v o. rw r.rest.stack (st.unmentioned v o);
    seen = st.seen;
    stored_known = KnowsStore-filled (is_known observed named') _ _ _ _ r.store known (λ j l i. wider observed named named' more (var_of l) (st.stored_known j l i));
    stacked_known = rw r.rest.stack (KnowsStack-more (is_known observed named) (is_known observed named') old.stack (wider observed named named' more) st.stacked_known);
  } where
    wider : (observed named named' : ℕ → Bool) → ((v : ℕ) → named v ≡ true → named' v ≡ true) → (v : ℕ) → (observed v || named v) ≡ true → (observed v || named' v) ≡ true
    wider observed named named' more v h = elim (or_cases (observed v) (named v) h) [ inl o ↦ or_left (observed v) (named' v) o | inr n ↦ or_right (observed v) (named' v) (more v n) ]

  -- What is given, admitted, named, observed, looked at or asked changes, and the kernel stays.
  pub standing_changed : (admits' clauses' rules' : Assignment → Type 0) (named' observed' scope' asked' : ℕ → Bool) (k : State)
      → ((f : Assignment) → admits' f → admits f) → ((f : Assignment) → clauses' f → clauses f) → ((f : Assignment) → clauses f → clauses' f) → ((f : Assignment) → admits' f → rules f → rules' f)
      → ((v : ℕ) → (observed v || named v) ≡ true → (observed' v || named' v) ≡ true) → NoneMentioned observed' k.stack → ((v : ℕ) → scope' v ≡ true → (observed' v || asked' v) ≡ true)
      → Standing admits clauses rules named observed scope asked k → Standing admits' clauses' rules' named' observed' scope' asked' k
  standing_changed admits' clauses' rules' named' observed' scope' asked' k fewer less more ruled wider free seen st = record {
    chain = st.chain;
    follows = λ f a g. st.follows f (fewer f a) (less f g);
    suffices = λ f h t. more f (st.suffices f h t);
    rules_kept = λ f a. ruled f a (st.rules_kept f (fewer f a));
    unmentioned = free;
    seen = seen;
    stored_known = λ j l i. wider (var_of l) (st.stored_known j l i);
    stacked_known = KnowsStack-more (is_known observed named) (is_known observed' named') k.stack wider st.stacked_known;
  }

-- so restorations keep it whatever was given
pub keeps_restored : (old new : State) (ids : List ℕ) → Restored old ids new → KeepsStanding old new
keeps_restored old new ids r admits clauses rules named observed scope asked st =
    standing_restored (Passes admits) (Passes clauses) (Passes rules) named observed scope asked old new ids r st

-- A variable whose both literals are clean is mentioned by no witness, and so may be observed.
pub none_mentioned-more : (observed observed' : ℕ → Bool) (v : ℕ) (k : State) → ((u : ℕ) → observed' u ≡ true → (eqb v u || observed u) ≡ true) → Clean (pos_lit v ∷ neg_lit v ∷ []) k.stack → NoneMentioned observed k.stack → NoneMentioned observed' k.stack
none_mentioned-more observed observed' v k one clean free u o =
    elim (or_cases (eqb v u) (observed u) (one u o)) [
      | inl e ↦ let same = eqb-true v u e in rw (← same) (Unmentioned-from_clean v (pos_lit v ∷ neg_lit v ∷ []) k.stack (here (pos_lit v) (neg_lit v ∷ [])) (or_right (eqb (pos_lit v) (neg_lit v)) (has (neg_lit v ∷ []) (neg_lit v)) (here (neg_lit v) [])) clean)
      | inr h ↦ free u h
    ] where
      here : (x : ℕ) (c : List ℕ) → has (x ∷ c) x ≡ true
      here x c = or_left (eqb x x) (has c x) (eq-eqb x x refl)
