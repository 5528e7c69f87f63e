-- The walk from the newest entry to the oldest, in which the chosen ones are restored.
use Rattle.std.proofs.Common.{◌≡◌, ℕ, suc, ◌+◌, ◌<◌, ◌≤◌, Bool, true, false, List, [], ◌∷◌, ◌++◌, length, get_or, take, drop, count_by, sym, ap, ◌∙◌, arith, add-one, length-append, Result, Ok, Err, OnErr}
use Rattle.std.proofs.lemmas.List.{take_all, get_or_read}
use Rattle.std.proofs.lemmas.List.Sums.{count_by_more_yes, count_by_more_no}
use Rattle.std.proofs.lemmas.List.Edits.{length-remove}
use Rattle.redundancy.specs.Redundancy.{Entry, Clean, entry}
use Rattle.rule_kernel.specs.State.{State, IsChained}
use Rattle.rule_kernel.specs.Rules.{Restores, Restore}
use Rattle.rule_kernel.proofs.Chained.{applied}
use Rattle.taint_restore.proofs.Walk.{chosen_at, unchosen, stack_at}
use Rattle.clause_store.specs.Listing.{HasEachOnce}
use Rattle.taint_restore.specs.Restored.{Restored, SameClauses, KeepsLive, came_at}
use Rattle.taint_restore.specs.Restored.Restored.{none, one_more}
use Rattle.taint_restore.specs.Needed.{NeededLeft, OnlyNeededLeft}
use Rattle.taint_restore.proofs.Walking.{stack_at-all, stack_at-stay, stack_at-entry, stack_at-length, stack_at-clean, stack_at-take_out, Without-needed, OnlyNeeded-at, unchosen-clean}
use Rattle.taint_restore.proofs.Counting.{SameClauses-restored}
use Rattle.taint_restore.specs.Standing.{KeepsStanding}
use Rattle.taint_restore.proofs.Standing.{keeps_restored}
use Rattle.taint_restore.proofs.Listing.{KeepsLive-restored, Once-restored}

-- the kernel while the chosen entries from a place on are restored, and the ids so far
pub record Restoring (lits : List ℕ) (old now : State) (k : ℕ) (ids : List ℕ) : Type 0 where
  pub within : k ≤ length old.stack
  pub stack : now.stack ≡ stack_at lits old.stack k
  pub counted : length ids + length now.stack ≡ length old.stack
  pub restored : Restored old ids now

-- before the first
pub restoring_none : (lits : List ℕ) (old : State) (ids : List ℕ) → ids ≡ [] → Restoring lits old old (length old.stack) ids
restoring_none lits old ids e = rw e (record {
  within = omega arith;
  stack = sym (stack_at-all lits old.stack);
  counted = omega arith;
  restored = none;
})

module _ (lits : List ℕ) (old now : State) (k : ℕ) (ids : List ℕ) (j : ℕ) (r : Restoring lits old now k ids) (is : k ≡ suc j) where
  below : j < length old.stack
  below = let w = r.within in omega arith

  stack_is : now.stack ≡ stack_at lits old.stack (suc j)
  stack_is = r.stack ∙ ap (stack_at lits old.stack) is

  at_entry : (entry now.stack j) ≡ entry old.stack j
  at_entry = rw stack_is (stack_at-entry lits old.stack j below)

  pub restore_within : j < length now.stack
  restore_within = rw stack_is (stack_at-length lits old.stack j below)

  pub restore_clean : chosen_at lits old.stack j ≡ true → Clean (entry now.stack j).clause (drop (j + 1) now.stack)
  restore_clean h = rw (at_entry, stack_is, add-one) (stack_at-clean lits old.stack j below h)

  pub stay_step : chosen_at lits old.stack j ≡ false → Restoring lits old now j ids
  stay_step h = record {
    within = (let b = below in omega arith);
    stack = stack_is ∙ stack_at-stay lits old.stack j below h;
    counted = r.counted;
    restored = r.restored;
  }

  pub restore_step : (new : State) (id : ℕ) (longer : List ℕ) → longer ≡ ids ++ id ∷ [] → chosen_at lits old.stack j ≡ true → Restores now new j id → Restoring lits old new j longer
  restore_step new id longer e h rule =
      let b = below in
      let n = restore_within in
      let less = length-remove now.stack j n in
      let counted = r.counted in
      let more = length-append ids (id ∷ []) in
      rw e (record {
        within = omega arith;
        stack = rule.stack ∙ rw stack_is (stack_at-take_out lits old.stack j b h);
        counted = rw rule.stack (omega arith);
        restored = one_more j id r.restored rule;
      })

module _ (lits : List ℕ) (old now : State) (k : ℕ) (ids : List ℕ) (r : Restoring lits old now k ids) where
  -- nothing is left to look at
  pub restored_all : k ≡ 0 → now.stack ≡ unchosen lits old.stack
  restored_all e = r.stack ∙ ap (stack_at lits old.stack) e

  -- on the way none but needed entries have left
  pub restoring_partial : OnlyNeededLeft lits old.stack now.stack
  restoring_partial = rw r.stack (OnlyNeeded-at lits old.stack k)

-- what a caller sees, on Ok and on want of memory
pub record Seen (lits : List ℕ) (old new : State) (ids : List ℕ) : Type 0 where
  pub count : length ids + length new.stack ≡ length old.stack
  pub same : SameClauses old new
  pub restored : Restored old ids new
  pub listed : HasEachOnce (came_at old.store new.store) ids
  pub live : KeepsLive old.store new.store
  pub partial : OnlyNeededLeft lits old.stack new.stack
  pub standing : KeepsStanding old new

pub seen : (lits : List ℕ) (old now : State) (k : ℕ) (ids : List ℕ) → Restoring lits old now k ids → Seen lits old now ids
seen lits old now k ids r = record {
  count = r.counted;
  same = SameClauses-restored old now ids r.restored;
  restored = r.restored;
  listed = record { once = Once-restored old now ids r.restored };
  live = KeepsLive-restored old now ids r.restored;
  partial = restoring_partial lits old now k ids r;
  standing = keeps_restored old now ids r.restored;
}

-- the chain is kept
pub chained_restored : (old new : State) (ids : List ℕ) → Restored old ids new → IsChained old → IsChained new
chained_restored old new ids none h = h
chained_restored old new ids (one_more {ids = before} {mid = mid} {new = last} k id r rule) h =
    applied (Restore k id) mid last (chained_restored old mid before r h) rule

pub chained_so_far : (lits : List ℕ) (old now : State) (k : ℕ) (ids : List ℕ) → Restoring lits old now k ids → IsChained old → IsChained now
chained_so_far lits old now k ids r h = chained_restored old now ids r.restored h

-- where the literals are clean, no entry is needed
pub none_needed : (lits : List ℕ) (s : List Entry) → Clean lits s → NeededLeft lits s s
none_needed lits s clean = let h = Without-needed lits s in rw (unchosen-clean lits s clean) at h

-- There is room for the ids of all that is still to come.
pub record HasRoom (flags : List Bool) (k len room : ℕ) : Type 0 where
  pub fits : count_by (λ b. b) (take k flags) + len ≤ room

pub room_all : (flags : List Bool) (k len room count : ℕ) → k ≡ length flags → count ≡ count_by (λ b. b) flags → len + count ≤ room → HasRoom flags k len room
room_all flags k len room count e is h = record {
  fits = rw (e, take_all (length flags) flags (omega arith)) (omega arith);
}

module _ (flags : List Bool) (k len room j : ℕ) (x : Bool) (r : HasRoom flags k len room) (is : k ≡ j + 1) (in' : j < length flags) (at : x ≡ get_or flags j x) where
  read : get_or flags j false ≡ x
  read = sym (get_or_read flags j x in' at false)

  -- what is chosen has room
  pub room_here : x ≡ true → len < room
  room_here h = let f = r.fits in let m = count_by_more_yes (λ (b : Bool). b) flags j false in' (read ∙ h) in let f' = rw (is, m) at f in omega arith

  pub room_taken : (len' room' : ℕ) → x ≡ true → len' ≡ len + 1 → room ≤ room' → HasRoom flags j len' room'
  room_taken len' room' h e up = let f = r.fits in let m = count_by_more_yes (λ (b : Bool). b) flags j false in' (read ∙ h) in let f' = rw (is, m) at f in record { fits = omega arith }

  pub room_kept : x ≡ false → HasRoom flags j len room
  room_kept h = let f = r.fits in let m = count_by_more_no (λ (b : Bool). b) flags j false in' (read ∙ h) in let f' = rw (is, m) at f in record { fits = f' }

pub on_err : {A E P : Type 0} (r : Result A E) → P → OnErr r P
on_err (Ok a) p = tt
on_err (Err e) p = p
