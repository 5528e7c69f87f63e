-- The order of decisions beside a trail.
use Rattle.std.proofs.Common.{◌≡◌, ℕ, ◌≤◌, List, [], ◌++◌, inl, inr, sym, ◌∙◌, arith}
use Rattle.std.proofs.lemmas.Bool.{cases_lt}
use Rattle.std.proofs.lemmas.List.{append-nil}
use Rattle.trail_state.specs.declared.trail.Step.{Step}
use Rattle.trail_state.specs.Trail.{Trace, IsBack}
use Rattle.decide_order.specs.Ordering.{Ordered, Follows, KeepsFollowing, Declares, SameActive, SameVars, NoneOpen}
use Rattle.decide_order.proofs.Backs.{follows_longer}
use Rattle.search_engine.specs.Searching.{IsOrderly, AllValued}

-- the trail grows
pub orderly_longer : (o : Ordered) (t t' : Trace) (more : List Step) → t'.steps ≡ t.steps ++ more → t'.declared ≡ t.declared → IsOrderly o t → IsOrderly o t'
orderly_longer o t t' more e same h = record {
  declared = rw same h.declared;
  active = h.active;
  finds = follows_longer o t t' more e h.finds;
}

-- the order changes as `pick` lets it
pub orderly_picked : (o o' : Ordered) (t : Trace) → SameVars o o' → (Follows o t → Follows o' t) → IsOrderly o t → IsOrderly o' t
orderly_picked o o' t same finds h = record {
  declared = rw same.declared h.declared;
  active = λ v some known. same.active v ∙ h.active v some (rw same.declared at known);
  finds = finds h.finds;
}

-- both go back
pub orderly_back : (o o' : Ordered) (t t' : Trace) (level : ℕ) → IsBack t t' level → SameActive o o' → (Follows o t → Follows o' t') → IsOrderly o t → IsOrderly o' t'
orderly_back o o' t t' level back same finds h = record {
  declared = rw (same.declared, back.declared) h.declared;
  active = λ v some known. same.active v ∙ h.active v some (rw same.declared at known);
  finds = finds h.finds;
}

-- more variables are declared
pub orderly_declared : (o o' : Ordered) (t : Trace) (n : ℕ) → Declares o o' n → KeepsFollowing o o' → IsOrderly o t → IsOrderly o' t
orderly_declared o o' t n more follows h = record {
  declared = (let a = h.declared in let b = more.declared in omega arith);
  active = λ v some known.
      elim (cases_lt o.declared v) [
        | inl new ↦ more.new_active v new known
        | inr old ↦ more.old_active v old ∙ h.active v some old
      ];
  finds = follows t h.finds;
}

-- and on the trail
pub orderly_widened : (o : Ordered) (t t' : Trace) → t'.steps ≡ t.steps → t'.declared ≤ o.declared → IsOrderly o t → IsOrderly o t'
orderly_widened o t t' same le h = record {
  declared = le;
  active = h.active;
  finds = follows_longer o t t' [] (same ∙ sym (append-nil t.steps)) h.finds;
}

-- where nothing is open, every variable has a value
pub all_valued : (o : Ordered) (t : Trace) → IsOrderly o t → NoneOpen o t → AllValued t.declared t.steps
all_valued o t h none v some known = none v (h.active v some (let le = h.declared in omega arith))
