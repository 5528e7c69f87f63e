-- Lists that the tests keep.
use Rattle.std.proofs.Common.{◌≡◌, ℕ, ◌<◌, ◌≤◌, Bool, true, false, ◌||◌, ◌&&◌, not, eqb, List, [], ◌∷◌, ◌++◌, inl, inr, refl, sym, ap, ◌∙◌, subst, arith, Option}
use Rattle.std.specs.Prelude.{AllPairs, All, max, length, slice_index_or}
use Rattle.std.proofs.lemmas.Bool.{or_cases, eqb-true, false≢true}
use Rattle.sat_terms.specs.Literal.{has, var_of}
use Rattle.sat_terms.specs.Normal.{IsNormal}
use Rattle.sat_terms.specs.Answer.{Within}
use Rattle.clause_store.specs.Stored.{Stored, slot, slot_lits, Fills}
use Rattle.trail_state.specs.declared.trail.Step.{Step}
use Rattle.trail_state.specs.Trail.{Trace, IsBack}
use Rattle.watch_lists.specs.Propagation.{Watching, Follows, AllReady, IsReadyAt, Grown}
use Rattle.watch_lists.specs.Worlds.{IsSound}
use Rattle.watch_lists.proofs.Growing.{slots_kept, ready_fresh}

-- literals whose variables rise are a normal clause
below : (x y : ℕ) → var_of x < var_of y → x < y
unfolding var_of
below x y h = omega arith

pub normal_rising : (c : List ℕ) → ((i j d : ℕ) → i < j → j < length c → var_of (slice_index_or c i d) < var_of (slice_index_or c j d)) → IsNormal c
normal_rising c up = record {
  rising = λ i j d a b. below (slice_index_or c i d) (slice_index_or c j d) (up i j d a b);
  apart = λ i j d a b e. let z = up i j d a b in absurd (omega arith);
}

-- nothing is attached
pub sound_new : (w : Watching) (s : List (Option Stored)) (t : Trace) → w.attached ≡ [] → t.declared ≡ 600 → 600 ≤ w.declared → Follows w s t → IsSound w s t
sound_new w s t none declared known f = record {
  ready = λ id h. absurd (let z : has [] id ≡ true = rw none at h in false≢true z);
  declared = declared;
  known = known;
  following = f;
}

-- a clause was stored, and then attached
pub follows_filled : (w : Watching) (s s' : List (Option Stored)) (t : Trace) (id : ℕ) (c : Stored) → IsSound w s t → Fills s s' id c → ((id : ℕ) → has w.attached id ≡ true → slot s' id ≡ slot s id)
follows_filled w s s' t id c sound fills = slots_kept w.attached s s' 600 id c sound.ready fills

pub sound_attached : (w w' : Watching) (s s' : List (Option Stored)) (t : Trace) (id : ℕ) (c : Stored) → IsSound w s t → Fills s s' id c → Within 600 c.lits → ((k : ℕ) → has w'.attached k ≡ (has w.attached k || eqb id k)) → w'.declared ≡ w.declared → Follows w' s' t → IsSound w' s' t
sound_attached w w' s s' t id c sound fills within more declared f = record {
  ready = λ k h.
      elim (or_cases (has w.attached k) (eqb id k) (sym (more k) ∙ h)) [
        | inl a ↦ let r = sound.ready k a in rw (follows_filled w s s' t id c sound fills k a) r
        | inr b ↦ let e : id ≡ k = eqb-true id k b in rw (← e, fills.filled) (refl, within)
      ];
  declared = sound.declared;
  known = let k = sound.known in omega arith;
  following = f;
}

-- the lists have the same clauses, on another trail
pub sound_same : (w w' : Watching) (s : List (Option Stored)) (t t' : Trace) → IsSound w s t → w'.attached ≡ w.attached → w'.declared ≡ w.declared → t'.declared ≡ t.declared → Follows w' s t' → IsSound w' s t'
sound_same w w' s t t' sound attached declared same f = record {
  ready = rw attached sound.ready;
  declared = same ∙ sound.declared;
  known = let k = sound.known in omega arith;
  following = f;
}

-- the lists have fewer clauses
pub sound_fewer : (w w' : Watching) (s : List (Option Stored)) (t : Trace) (gone : List ℕ) → IsSound w s t → ((k : ℕ) → has w'.attached k ≡ (has w.attached k && not (has gone k))) → w'.declared ≡ w.declared → Follows w' s t → IsSound w' s t
sound_fewer w w' s t gone sound less declared f = record {
  ready = λ k h. sound.ready k (left (has w.attached k) (not (has gone k)) (sym (less k) ∙ h));
  declared = sound.declared;
  known = let k = sound.known in omega arith;
  following = f;
}
  where
    left : (a b : Bool) → (a && b) ≡ true → a ≡ true
    left true b e = refl
    left false b e = e
