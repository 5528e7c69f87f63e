-- What propagation leaves: every attached clause is quiet, and listed.
use Rattle.std.proofs.Common.{◌≡◌, ◌≢◌, ℕ, zero, suc, ◌<◌, ◌≤◌, true, List, [], ◌∷◌, length, get_or, inl, inr, refl, sym, ap, ◌∙◌, subst, arith, Option, Some, None}
use Rattle.std.specs.Prelude.{Result, Ok, Err, IfOk, MatchOption, IfNone, IfSome}
use Rattle.std.proofs.lemmas.Bool.{cases_eq, cases_lt, false≢true, eq-eqb, ne_eqb}
use Rattle.std.proofs.lemmas.List.{get_or_past}
use Rattle.sat_terms.specs.Literal.{has}
use Rattle.clause_store.specs.Stored.{Stored, slot, slot_lits}
use Rattle.trail_state.specs.Trail.{Trace, IsTrail}
use Rattle.trail_state.specs.Clauses.{IsQuiet}
use Rattle.watch_lists.specs.declared.lists.Watch.{Watch}
use Rattle.watch_lists.specs.Propagation.{Watching, Grown, AllFixed, Stands, Fits, Follows, AllQuiet, no_watch, IsWatched, IsListed}
use Rattle.watch_lists.specs.Watching.{copy, front, pairs, pair, at, tally, AllBlock, Kept, AllCopied, CopiesKeep, FollowsOn, TrueIn}
use Rattle.watch_lists.specs.Visiting.{WatchedQuiet}
use Rattle.watch_lists.specs.Shorts.{AllMet}
use Rattle.watch_lists.proofs.Following.{follows_longer}
use Rattle.watch_lists.proofs.Watched.{quiet_true_in}
use Rattle.watch_lists.proofs.Looks.{pair_front}
use Rattle.sat_terms.proofs.Members.{has_place}

pub all_quiet : (ids short : List ℕ) (ls : List (List Watch)) (cs : List (List ℕ)) (s : List (Option Stored)) (t : Trace) → IsTrail t.steps t.level → Fits ids [] short ls cs s → AllMet s short (length short) t.steps → WatchedQuiet s (pairs cs) t.steps → AllQuiet ids s t.steps
all_quiet ids short ls cs s t shape f met quiet id h = go (f.stands id h) where
  go : Stands cs [] short id → IsQuiet t.steps (slot_lits (slot s id))
  go (inl n) = quiet.quiet id (subst (λ p. p.first ≢ p.second) (sym (pair_front cs id)) n)
  go (inr (inl h)) = absurd (false≢true h)
  go (inr (inr h)) =
      let r = has_place short id 0 h in
      quiet_true_in t.steps t.level (slot_lits (slot s id)) shape (subst (λ z. TrueIn (slot_lits (slot s z)) t.steps) r.2 (met r.0 r.1))

-- two literals that differ say that the clause has two
pub two_has : (c : List ℕ) (a b : ℕ) → has c a ≡ true → has c b ≡ true → a ≢ b → 2 ≤ length c
two_has c a b x y n =
    let p = has_place c a 0 x in
    let q = has_place c b 0 y in
    let in-p = p.1 in
    let in-q = q.1 in
    elim (cases_eq p.0 q.0) [
      | inl e ↦ absurd (n (sym p.2 ∙ ap (λ z. get_or c z 0) e ∙ q.2))
      | inr m ↦ omega arith
    ]

block_at : (s : List (Option Stored)) (l : ℕ) (ws : List Watch) (k : ℕ) → AllBlock s l ws → k < length ws → has (slot_lits (slot s (get_or ws k no_watch).id)) (get_or ws k no_watch).blocker ≡ true
block_at s l [] k all in' = absurd (omega arith)
block_at s l (w ∷ ws) zero all in' = all.0.holds
block_at s l (w ∷ ws) (suc k) all in' = block_at s l ws k all.1 (omega arith)

pub is_listed : (w : Watching) (s : List (Option Stored)) → w.waiting ≡ [] → Fits w.attached w.waiting w.short w.lists w.copies s → IsListed w s
is_listed w s none f = record {
  none_waits = none;
  watched = λ id h two. seen id two (subst (λ z. Stands w.copies z w.short id) none (f.stands id h));
  unlisted = λ id h few l. free id few l;
}
  where
    differs : (id : ℕ) → (front (copy w.copies id)).first ≢ (front (copy w.copies id)).second → (pair (pairs w.copies) id).first ≢ (pair (pairs w.copies) id).second
    differs id n = subst (λ p. p.first ≢ p.second) (sym (pair_front w.copies id)) n

    past : (l id : ℕ) → length w.lists ≤ l → tally id (at w.lists l) ≡ 0
    past l id ge = ap (tally id) (get_or_past w.lists l [] ge)

    seen : (id : ℕ) → 2 ≤ length (slot_lits (slot s id)) → Stands w.copies [] w.short id → IsWatched w.lists (slot_lits (slot s id)) id
    seen id two (inr (inl h)) = absurd (false≢true h)
    seen id two (inr (inr h)) = absurd (let few = (f.shorts id h).1 in omega arith)
    seen id two (inl n) =
        let p = pair (pairs w.copies) id in
        let m = differs id n in
        let h = f.kept.held id m in
        let a = h.within p.first h.first in
        let b = h.within p.second h.second in
        record {
          first = p.first;
          second = p.second;
          apart = m;
          holds_first = h.first;
          holds_second = h.second;
          once = λ l.
              elim (cases_lt l (length w.lists)) [
                | inl lt ↦ f.kept.tallied l id lt ∙ rw (ne_eqb p.first p.second m) refl
                | inr ge ↦ past l id ge ∙ sym (rw (ne_eqb p.first l (λ q. absurd (omega arith)), ne_eqb p.second l (λ q. absurd (omega arith))) refl)
              ];
          blocked = λ l k in' is.
              elim (cases_lt l (length w.lists)) [
                | inl lt ↦ subst (λ z. has (slot_lits (slot s z)) (get_or (at w.lists l) k no_watch).blocker ≡ true) is (block_at s l (at w.lists l) k (f.kept.blocking l lt) in')
                | inr ge ↦ absurd (let e = ap length (get_or_past w.lists l [] ge) in omega arith)
              ];
        }

    free : (id : ℕ) → length (slot_lits (slot s id)) < 2 → (l : ℕ) → tally id (at w.lists l) ≡ 0
    free id few l =
        elim (cases_lt l (length w.lists)) [
          | inr ge ↦ past l id ge
          | inl lt ↦
              let p = pair (pairs w.copies) id in
              f.kept.tallied l id lt
              ∙ elim (cases_eq p.first p.second) [
                | inl e ↦ rw (eq-eqb p.first p.second e) refl
                | inr m ↦ absurd (let h = f.kept.held id m in let two = two_has (slot_lits (slot s id)) p.first p.second h.first h.second m in omega arith)
              ]
        ]

-- the answers, as the code gives them
pub if_none : {E : Type 0} (r : Result (Option ℕ) E) (P Q : Type 0) (C : ℕ → Type 0) → (P → Q) → IfOk r (λ o. MatchOption o P C) → IfOk r (λ o. IfNone o Q)
if_none (Ok None) P Q C more h = more h
if_none (Ok (Some x)) P Q C more h = tt
if_none (Err e) P Q C more h = h

pub if_some : {E : Type 0} (r : Result (Option ℕ) E) (P : Type 0) (C D : ℕ → Type 0) → ((k : ℕ) → C k → D k) → IfOk r (λ o. MatchOption o P C) → IfOk r (λ o. IfSome o D)
if_some (Ok None) P C D more h = tt
if_some (Ok (Some x)) P C D more h = more x h
if_some (Err e) P C D more h = h

-- what propagation makes of the lists
pub fits_ended : (ids waiting short : List ℕ) (ls ls' : List (List Watch)) (cs cs' : List (List ℕ)) (s : List (Option Stored)) → Fits ids waiting short ls cs s → length ls' ≡ length ls → Kept ids s (length ls) (at ls') (pairs cs') → AllCopied s cs' → CopiesKeep cs cs' → Fits ids waiting short ls' cs' s
fits_ended ids waiting short ls ls' cs cs' s f sized kept copied keeps = record {
  kept = subst (λ n. Kept ids s n (at ls') (pairs cs')) (sym sized) kept;
  copied = copied;
  bare = λ id. elim (f.bare id) [ inl e ↦ inl (keeps.none id e) | inr n ↦ inr (keeps.differ id n) ];
  waits = f.waits;
  shorts = f.shorts;
  stands = λ id h. go id (f.stands id h);
}
  where
    go : (id : ℕ) → Stands cs waiting short id → Stands cs' waiting short id
    go id (inl n) = inl (keeps.differ id n)
    go id (inr h) = inr h

pub follows_ended : (w w' : Watching) (s : List (Option Stored)) (t t' : Trace) → Follows w s t → Grown w.attached s t t' → AllFixed s w.short w'.fixed t'.steps → w'.attached ≡ w.attached → w'.waiting ≡ w.waiting → w'.short ≡ w.short → length w'.lists ≡ length w.lists
    → Kept w.attached s (length w.lists) (at w'.lists) (pairs w'.copies) → AllCopied s w'.copies → CopiesKeep w.copies w'.copies → FollowsOn s (pairs w'.copies) t'.steps w'.head → Follows w' s t'
follows_ended w w' s t t' f g fixed a b c sized kept copied keeps on = record {
  fits = rw (a, b, c) (fits_ended w.attached w.waiting w.short w.lists w'.lists w.copies w'.copies s f.fits sized kept copied keeps);
  fixed = rw c fixed;
  on = on;
}

-- the lists follow a trail that grew
pub follows_grown : (w w' : Watching) (s : List (Option Stored)) (t t' : Trace) → Follows w s t → Grown w.attached s t t' → AllFixed s w.short w'.fixed t'.steps → w'.attached ≡ w.attached → w'.waiting ≡ w.waiting → w'.short ≡ w.short → w'.lists ≡ w.lists → w'.copies ≡ w.copies → w'.head ≡ w.head → Follows w' s t'
follows_grown w w' s t t' f g fixed a b c d e h =
    let l = follows_longer w s t t' g.tail g.steps f in
    record {
      fits = rw (a, b, c, d, e) l.fits;
      fixed = rw c fixed;
      on = rw (e, h) l.on;
    }
