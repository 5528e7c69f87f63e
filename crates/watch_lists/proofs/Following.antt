-- Lists that follow a trail.
use Rattle.std.proofs.Common.{◌≡◌, ◌≢◌, ℕ, ◌+◌, ◌<◌, ◌≤◌, true, false, ◌||◌, eqb, List, [], ◌∷◌, ◌++◌, length, get_or, take, inl, inr, refl, sym, ap, ◌∙◌, subst, arith, Option}
use Rattle.std.proofs.lemmas.Bool.{false≢true, cases_eq, cases_lt, or_cases, or_left, or_right, eq-eqb, ne_eqb, eqb-true}
use Rattle.sat_terms.specs.Literal.{has, neg}
use Rattle.clause_store.specs.Stored.{Stored, slot, slot_lits}
use Rattle.trail_state.specs.declared.trail.Step.{Step}
use Rattle.trail_state.specs.Trail.{Trace, step, no_step, IsBack}
use Rattle.watch_lists.specs.declared.lists.Watch.{Watch}
use Rattle.watch_lists.specs.Watching.{Pair, copy, front, pairs, pair, at, tally, expects, WatchesIt, HoldsPair, Blocks, AllBlock, Kept, TrueIn, Covered, FollowsOn, IsCopy}
use Rattle.std.proofs.lemmas.List.{take_all, get_or_past, get_or_append_left, length-append}
use Rattle.sat_terms.proofs.Members.{has_more, has_taken}
use Rattle.watch_lists.specs.Propagation.{Watching, Stands, Fits, TrueAtRoot, AllFixed, Follows}
use Rattle.watch_lists.proofs.Tallies.{expects_none, expects_some}
use Rattle.watch_lists.proofs.Marking.{has-append}
use Rattle.watch_lists.proofs.Fronts.{has_here}
use Rattle.watch_lists.proofs.Looks.{pair_front}
use Rattle.watch_lists.proofs.Runs.{follows_back, back_length, back_step_of}

none_in : (k : ℕ) → has [] k ≡ true → ⊥
none_in k h = false≢true h

-- nothing is attached
pub follows_none : (s : List (Option Stored)) (t : Trace) → Follows (record { attached = []; declared = 0; waiting = []; lists = []; copies = []; short = []; fixed = 0; head = 0 }) s t
follows_none s t = record {
  fits = record {
    kept = record { tallied = λ l id below. absurd (omega arith); held = λ id n. absurd (n refl); blocking = λ l below. absurd (omega arith) };
    copied = λ id n. absurd (n refl);
    bare = λ id. inl refl;
    waits = λ id h. absurd (none_in id h);
    shorts = λ id h. absurd (none_in id h);
    stands = λ id h. absurd (none_in id h);
  };
  fixed = record { few = omega arith; at_root = λ k lt. absurd (omega arith) };
  on = record { within = omega arith; covers = λ i id below w. absurd (w.differ refl) };
}

-- the clauses of lists whose watches are all of attached clauses
tally_some : (w : Watch) (ws : List Watch) → 0 < tally w.id (w ∷ ws)
tally_some w ws = rw (eq-eqb w.id w.id refl) (omega arith)

tally_later : (id : ℕ) (w : Watch) (ws : List Watch) → 0 < tally id ws → 0 < tally id (w ∷ ws)
tally_later id w ws h =
    elim (cases_eq w.id id) [
      | inl e ↦ rw (eq-eqb w.id id e) (omega arith)
      | inr n ↦ rw (ne_eqb w.id id n) (omega arith)
    ]

pub block_like : (s s' : List (Option Stored)) (l : ℕ) (ws : List Watch) → ((id : ℕ) → 0 < tally id ws → slot s' id ≡ slot s id) → AllBlock s l ws → AllBlock s' l ws
block_like s s' l [] same h = tt
block_like s s' l (w ∷ ws) same h = (
  subst (λ z. Blocks (slot_lits z) l w) (sym (same w.id (tally_some w ws))) h.0,
  block_like s s' l ws (λ id lt. same id (tally_later id w ws lt)) h.1,
)

-- another store with the same attached clauses
pub kept_stored : (ids : List ℕ) (s s' : List (Option Stored)) (n : ℕ) (ls : ℕ → List Watch) (ps : List Pair) → ((id : ℕ) → has ids id ≡ true → slot s' id ≡ slot s id) → Kept ids s n ls ps → Kept ids s' n ls ps
kept_stored ids s s' n ls ps same k = record {
  tallied = k.tallied;
  held = λ id n'. let h = k.held id n' in subst (λ z. HoldsPair ids id z n (pair ps id)) (sym (same id h.attached)) h;
  blocking = λ l below. block_like s s' l (ls l) (λ id lt.
      let e = k.tallied l id below in
      let w = expects_some (pair ps id) l (omega arith) in
      same id (k.held id w.differ).attached) (k.blocking l below);
}

pub fits_stored : (ids waiting short : List ℕ) (ls : List (List Watch)) (cs : List (List ℕ)) (s s' : List (Option Stored)) → ((id : ℕ) → has ids id ≡ true → slot s' id ≡ slot s id) → Fits ids waiting short ls cs s → Fits ids waiting short ls cs s'
fits_stored ids waiting short ls cs s s' same f = record {
  kept = kept_stored ids s s' (length ls) (at ls) (pairs cs) same f.kept;
  copied = λ id n. subst (λ z. IsCopy (copy cs id) (slot_lits z)) (sym (same id (f.kept.held id (subst (λ (p : Pair). p.first ≢ p.second) (sym (pair_front cs id)) n)).attached)) (f.copied id n);
  bare = f.bare;
  waits = f.waits;
  shorts = λ id h. let g = f.shorts id h in (g.0, subst (λ z. length (slot_lits z) < 2) (sym (same id g.0)) g.1);
  stands = f.stands;
}

pub on_stored : (ids : List ℕ) (s s' : List (Option Stored)) (n : ℕ) (ls : ℕ → List Watch) (ps : List Pair) (t : List Step) (head : ℕ) → ((id : ℕ) → has ids id ≡ true → slot s' id ≡ slot s id) → Kept ids s n ls ps → FollowsOn s ps t head → FollowsOn s' ps t head
on_stored ids s s' n ls ps t head same k f = record {
  within = f.within;
  covers = λ i id below w. subst (λ z. Covered (slot_lits z) t i head) (sym (same id (k.held id w.differ).attached)) (f.covers i id below w);
}

pub fixed_stored : (ids : List ℕ) (s s' : List (Option Stored)) (short : List ℕ) (n : ℕ) (t : List Step) → ((id : ℕ) → has ids id ≡ true → slot s' id ≡ slot s id) → ((id : ℕ) → has short id ≡ true → (has ids id ≡ true) × (length (slot_lits (slot s id)) < 2)) → AllFixed s short n t → AllFixed s' short n t
fixed_stored ids s s' short n t same shorts f = record {
  few = f.few;
  at_root = λ k lt.
      let few = f.few in
      let id = get_or short k 0 in
      let at' = has_here short k id (omega arith) refl in
      subst (λ z. TrueAtRoot (slot_lits z) t) (sym (same id (shorts id at').0)) (f.at_root k lt);
}

pub follows_stored : (w : Watching) (s s' : List (Option Stored)) (t : Trace) → ((id : ℕ) → has w.attached id ≡ true → slot s' id ≡ slot s id) → Follows w s t → Follows w s' t
follows_stored w s s' t same f = record {
  fits = fits_stored w.attached w.waiting w.short w.lists w.copies s s' same f.fits;
  fixed = fixed_stored w.attached s s' w.short w.fixed t.steps same f.fits.shorts f.fixed;
  on = on_stored w.attached s s' (length w.lists) (at w.lists) (pairs w.copies) t.steps w.head same f.fits.kept f.on;
}

-- a longer trail
true_longer : (c : List ℕ) (t more : List Step) → TrueIn c t → TrueIn c (t ++ more)
true_longer c t more h = record {
  place = h.place;
  within = let w = h.within in let l = length-append t more in omega arith;
  holds = rw (get_or_append_left t more no_step h.place h.within) h.holds;
}

covered_longer : (c : List ℕ) (t more : List Step) (i sure : ℕ) → i < length t → Covered c t i sure → Covered c (t ++ more) i sure
unfolding true_longer
covered_longer c t more i sure in' h = record {
  true_in = true_longer c t more h.true_in;
  low = λ lt. rw (get_or_append_left t more no_step h.true_in.place h.true_in.within, get_or_append_left t more no_step i in') (h.low lt);
}

pub on_longer : (s : List (Option Stored)) (ps : List Pair) (t more : List Step) (head : ℕ) → FollowsOn s ps t head → FollowsOn s ps (t ++ more) head
on_longer s ps t more head f = record {
  within = let w = f.within in let l = length-append t more in omega arith;
  covers = λ i id below w.
      let in' : i < length t = (let h = f.within in omega arith) in
      covered_longer (slot_lits (slot s id)) t more i head in' (f.covers i id below (subst (λ (z : Step). WatchesIt (pair ps id) (neg z.lit)) (get_or_append_left t more no_step i in') w));
}

root_longer : (c : List ℕ) (t more : List Step) → TrueAtRoot c t → TrueAtRoot c (t ++ more)
unfolding true_longer
root_longer c t more h = record {
  true_in = true_longer c t more h.true_in;
  root = ap (λ (z : Step). z.level) (get_or_append_left t more no_step h.true_in.place h.true_in.within) ∙ h.root;
}

pub fixed_longer : (s : List (Option Stored)) (short : List ℕ) (n : ℕ) (t more : List Step) → AllFixed s short n t → AllFixed s short n (t ++ more)
fixed_longer s short n t more f = record { few = f.few; at_root = λ k lt. root_longer (slot_lits (slot s (get_or short k 0))) t more (f.at_root k lt) }

pub follows_longer : (w : Watching) (s : List (Option Stored)) (t t' : Trace) (more : List Step) → t'.steps ≡ t.steps ++ more → Follows w s t → Follows w s t'
follows_longer w s t t' more e f = record {
  fits = f.fits;
  fixed = subst (AllFixed s w.short w.fixed) (sym e) (fixed_longer s w.short w.fixed t.steps more f.fixed);
  on = subst (λ z. FollowsOn s (pairs w.copies) z w.head) (sym e) (on_longer s (pairs w.copies) t.steps more w.head f.on);
}

-- the trail went back
pub fixed_back : (s : List (Option Stored)) (short : List ℕ) (n : ℕ) (a b : Trace) (level : ℕ) → IsBack a b level → AllFixed s short n a.steps → AllFixed s short n b.steps
fixed_back s short n a b level back f = record {
  few = f.few;
  at_root = λ k lt.
      let h = f.at_root k lt in
      let p = h.true_in.place in
      let root = h.root in
      let kept : p < back.kept =
      elim (cases_lt p back.kept) [
        | inl x ↦ x
        | inr x ↦ absurd (let u = back.high p x h.true_in.within in omega arith)
      ] in
      let long = back_length a b level back in
      let same = back_step_of a b level back p kept in
      record {
        true_in = record { place = p; within = omega arith; holds = subst (λ (z : Step). has (slot_lits (slot s (get_or short k 0))) z.lit ≡ true) (sym same) h.true_in.holds };
        root = ap (λ (z : Step). z.level) same ∙ h.root;
      };
}

pub follows_cut : (w : Watching) (s : List (Option Stored)) (a b : Trace) (level head : ℕ) → IsBack a b level → head ≤ w.head → head ≤ length b.steps → Follows w s a → Follows (record w { head = head }) s b
follows_cut w s a b level head back le in' f = record {
  fits = f.fits;
  fixed = fixed_back s w.short w.fixed a b level back f.fixed;
  on = follows_back s (pairs w.copies) a b level w.head head back f.on le in';
}

-- lists with more room, and copies that say the same
pub kept_like : (ids : List ℕ) (s : List (Option Stored)) (n n' : ℕ) (A B : ℕ → List Watch) (ps ps' : List Pair) → n ≤ n' → ((l : ℕ) → B l ≡ A l) → ((l : ℕ) → n ≤ l → A l ≡ []) → ((id : ℕ) → pair ps' id ≡ pair ps id) → Kept ids s n A ps → Kept ids s n' B ps'
kept_like ids s n n' A B ps ps' le same none like k = record {
  tallied = λ l id below.
      elim (cases_lt l n) [
        | inl lt ↦ ap (tally id) (same l) ∙ k.tallied l id lt ∙ ap (λ p. expects p l) (sym (like id))
        | inr ge ↦ ap (tally id) (same l ∙ none l ge) ∙ sym (ap (λ p. expects p l) (like id) ∙ unwatched id l ge)
      ];
  held = λ id n''.
      let h = k.held id (subst (λ (p : Pair). p.first ≢ p.second) (like id) n'') in
      subst (HoldsPair ids id (slot s id) n') (sym (like id)) (record { attached = h.attached; first = h.first; second = h.second; within = λ l m. let w = h.within l m in omega arith });
  blocking = λ l below.
      elim (cases_lt l n) [
        | inl lt ↦ subst (AllBlock s l) (sym (same l)) (k.blocking l lt)
        | inr ge ↦ subst (AllBlock s l) (sym (same l ∙ none l ge)) tt
      ];
}
  where
    unwatched : (id l : ℕ) → n ≤ l → expects (pair ps id) l ≡ 0
    unwatched id l ge =
        elim (cases_eq (pair ps id).first (pair ps id).second) [
          | inl e ↦ rw (eq-eqb (pair ps id).first (pair ps id).second e) refl
          | inr m ↦
              let h = k.held id m in
              let a = h.within (pair ps id).first h.first in
              let b = h.within (pair ps id).second h.second in
              expects_none (pair ps id) l (λ q. absurd (omega arith)) (λ q. absurd (omega arith))
        ]

pub fits_like : (ids waiting short : List ℕ) (ls ls' : List (List Watch)) (cs cs' : List (List ℕ)) (s : List (Option Stored)) → length ls ≤ length ls' → ((l : ℕ) → at ls' l ≡ at ls l) → ((id : ℕ) → copy cs' id ≡ copy cs id) → Fits ids waiting short ls cs s → Fits ids waiting short ls' cs' s
fits_like ids waiting short ls ls' cs cs' s le same like f = record {
  kept = kept_like ids s (length ls) (length ls') (at ls) (at ls') (pairs cs) (pairs cs') le same (λ l ge. get_or_past ls l [] ge) (λ id. pair_front cs' id ∙ ap front (like id) ∙ sym (pair_front cs id)) f.kept;
  copied = λ id n. subst (λ z. IsCopy z (slot_lits (slot s id))) (sym (like id)) (f.copied id (subst (λ c. (front c).first ≢ (front c).second) (like id) n));
  bare = λ id. elim (f.bare id) [ inl e ↦ inl (like id ∙ e) | inr n ↦ inr (subst (λ c. (front c).first ≢ (front c).second) (sym (like id)) n) ];
  waits = f.waits;
  shorts = f.shorts;
  stands = λ id h. stands_like id (f.stands id h);
}
  where
    stands_like : (id : ℕ) → Stands cs waiting short id → Stands cs' waiting short id
    stands_like id (inl n) = inl (subst (λ c. (front c).first ≢ (front c).second) (sym (like id)) n)
    stands_like id (inr h) = inr h

pub on_like : (s : List (Option Stored)) (cs cs' : List (List ℕ)) (t : List Step) (head : ℕ) → ((id : ℕ) → copy cs' id ≡ copy cs id) → FollowsOn s (pairs cs) t head → FollowsOn s (pairs cs') t head
on_like s cs cs' t head like f = record {
  within = f.within;
  covers = λ i id below w. f.covers i id below (subst (λ p. WatchesIt p (neg (step t i).lit)) (pair_front cs' id ∙ ap front (like id) ∙ sym (pair_front cs id)) w);
}

pub follows_like : (w w' : Watching) (s : List (Option Stored)) (t : Trace) → w'.attached ≡ w.attached → w'.waiting ≡ w.waiting → w'.short ≡ w.short → w'.fixed ≡ w.fixed → w'.head ≡ w.head
    → length w.lists ≤ length w'.lists → ((l : ℕ) → at w'.lists l ≡ at w.lists l) → ((id : ℕ) → copy w'.copies id ≡ copy w.copies id) → Follows w s t → Follows w' s t
follows_like w w' s t a b c d e le same like f =
    let fits = fits_like w.attached w.waiting w.short w.lists w'.lists w.copies w'.copies s le same like f.fits in
    record {
      fits = rw (a, b, c) fits;
      fixed = rw (c, d) f.fixed;
      on = rw e (on_like s w.copies w'.copies t.steps w.head like f.on);
    }

-- an attached clause that waits
pub kept_more : (ids ids' : List ℕ) (s : List (Option Stored)) (n : ℕ) (ls : ℕ → List Watch) (ps : List Pair) → ((k : ℕ) → (pair ps k).first ≢ (pair ps k).second → has ids k ≡ true → has ids' k ≡ true) → Kept ids s n ls ps → Kept ids' s n ls ps
kept_more ids ids' s n ls ps more k = record {
  tallied = k.tallied;
  held = λ id n'. let h = k.held id n' in record { attached = more id n' h.attached; first = h.first; second = h.second; within = h.within };
  blocking = k.blocking;
}

pub fits_waiting : (ids ids' waiting short : List ℕ) (ls : List (List Watch)) (cs : List (List ℕ)) (s : List (Option Stored)) (id : ℕ) → ((k : ℕ) → has ids' k ≡ (has ids k || eqb id k)) → Fits ids waiting short ls cs s → Fits ids' (waiting ++ id ∷ []) short ls cs s
fits_waiting ids ids' waiting short ls cs s id more f = record {
  kept = kept_more ids ids' s (length ls) (at ls) (pairs cs) (λ k n h. keeps k h) f.kept;
  copied = f.copied;
  bare = f.bare;
  waits = λ k h.
      elim (or_cases (has waiting k) (has (id ∷ []) k) (sym (has-append waiting (id ∷ []) k) ∙ h)) [
        | inl a ↦ keeps k (f.waits k a)
        | inr b ↦ elim (or_cases (eqb id k) false b) [ inl e ↦ more k ∙ or_right (has ids k) (eqb id k) e | inr e ↦ absurd (false≢true e) ]
      ];
  shorts = λ k h. let g = f.shorts k h in (keeps k g.0, g.1);
  stands = λ k h.
      elim (or_cases (has ids k) (eqb id k) (sym (more k) ∙ h)) [
        | inl a ↦ widened k (f.stands k a)
        | inr e ↦ inr (inl (has-append waiting (id ∷ []) k ∙ or_right (has waiting k) (has (id ∷ []) k) (or_left (eqb id k) false e)))
      ];
}
  where
    keeps : (k : ℕ) → has ids k ≡ true → has ids' k ≡ true
    keeps k h = more k ∙ or_left (has ids k) (eqb id k) h

    widened : (k : ℕ) → Stands cs waiting short k → Stands cs (waiting ++ id ∷ []) short k
    widened k (inl n) = inl n
    widened k (inr (inl h)) = inr (inl (has-append waiting (id ∷ []) k ∙ or_left (has waiting k) (has (id ∷ []) k) h))
    widened k (inr (inr h)) = inr (inr h)

pub follows_waiting : (w w' : Watching) (s : List (Option Stored)) (t : Trace) (id : ℕ) → ((k : ℕ) → has w'.attached k ≡ (has w.attached k || eqb id k)) → w'.waiting ≡ w.waiting ++ id ∷ [] → w'.short ≡ w.short → w'.fixed ≡ w.fixed → w'.head ≡ w.head → w'.lists ≡ w.lists → w'.copies ≡ w.copies
    → Follows w s t → Follows w' s t
follows_waiting w w' s t id more a b c d e g f = record {
  fits = rw (a, b, e, g) (fits_waiting w.attached w'.attached w.waiting w.short w.lists w.copies s id more f.fits);
  fixed = rw (b, c) f.fixed;
  on = rw (d, g) f.on;
}

-- one of fewer than two literals
pub fits_short : (ids waiting short : List ℕ) (ls : List (List Watch)) (cs : List (List ℕ)) (s : List (Option Stored)) (id : ℕ) → has ids id ≡ true → length (slot_lits (slot s id)) < 2 → Fits ids waiting short ls cs s → Fits ids waiting (short ++ id ∷ []) ls cs s
fits_short ids waiting short ls cs s id at' few f = record {
  kept = f.kept;
  copied = f.copied;
  bare = f.bare;
  waits = f.waits;
  shorts = λ k h.
      elim (or_cases (has short k) (has (id ∷ []) k) (sym (has-append short (id ∷ []) k) ∙ h)) [
        | inl a ↦ f.shorts k a
        | inr b ↦
            elim (or_cases (eqb id k) false b) [
              | inl e ↦ let q : id ≡ k = eqb-true id k e in subst (λ z. (has ids z ≡ true) × (length (slot_lits (slot s z)) < 2)) q (at', few)
              | inr e ↦ absurd (false≢true e)
            ]
      ];
  stands = λ k h. widened k (f.stands k h);
}
  where
    widened : (k : ℕ) → Stands cs waiting short k → Stands cs waiting (short ++ id ∷ []) k
    widened k (inl n) = inl n
    widened k (inr (inl h)) = inr (inl h)
    widened k (inr (inr h)) = inr (inr (has-append short (id ∷ []) k ∙ or_left (has short k) (has (id ∷ []) k) h))

pub fixed_short : (s : List (Option Stored)) (short : List ℕ) (id n : ℕ) (t : List Step) → AllFixed s short n t → AllFixed s (short ++ id ∷ []) n t
fixed_short s short id n t f = record {
  few = let a = f.few in let l = length-append short (id ∷ []) in omega arith;
  at_root = λ k lt. let few = f.few in subst (λ z. TrueAtRoot (slot_lits (slot s z)) t) (sym (get_or_append_left short (id ∷ []) 0 k (omega arith))) (f.at_root k lt);
}

pub follows_short : (w w' : Watching) (s : List (Option Stored)) (t : Trace) (id : ℕ) → w'.attached ≡ w.attached → w'.waiting ≡ w.waiting → w'.short ≡ w.short ++ id ∷ [] → w'.fixed ≡ w.fixed → w'.head ≡ w.head → w'.lists ≡ w.lists → w'.copies ≡ w.copies
    → has w.attached id ≡ true → length (slot_lits (slot s id)) < 2 → Follows w s t → Follows w' s t
follows_short w w' s t id z a b c d e g at' few f = record {
  fits = rw (z, a, b, e, g) (fits_short w.attached w.waiting w.short w.lists w.copies s id at' few f.fits);
  fixed = rw (b, c) (fixed_short s w.short id w.fixed t.steps f.fixed);
  on = rw (d, g) f.on;
}

-- a clause that waited, and is placed, waits no longer
pub follows_placed : (w w' : Watching) (s : List (Option Stored)) (t : Trace) (id n : ℕ) → w'.attached ≡ w.attached → w'.waiting ≡ take n w.waiting → w'.short ≡ w.short → w'.fixed ≡ w.fixed → w'.head ≡ w.head → w'.lists ≡ w.lists → w'.copies ≡ w.copies
    → n < length w.waiting → n + 1 ≡ length w.waiting → id ≡ get_or w.waiting n id → Stands w.copies [] w.short id → Follows w s t → Follows w' s t
follows_placed w w' s t id n z a b c d e g in' last is placed f = record {
  fits = rw (z, a, b, e, g) (record {
    kept = f.fits.kept;
    copied = f.fits.copied;
    bare = f.fits.bare;
    waits = λ k h. f.fits.waits k (has_taken n w.waiting k h);
    shorts = f.fits.shorts;
    stands = λ k h. left k (f.fits.stands k h);
  });
  fixed = rw (b, c) f.fixed;
  on = rw (d, g) f.on;
}
  where
    moved : (k : ℕ) → Stands w.copies [] w.short k → Stands w.copies (take n w.waiting) w.short k
    moved k (inl m) = inl m
    moved k (inr (inl h)) = absurd (false≢true h)
    moved k (inr (inr h)) = inr (inr h)

    left : (k : ℕ) → Stands w.copies w.waiting w.short k → Stands w.copies (take n w.waiting) w.short k
    left k (inl m) = inl m
    left k (inr (inr h)) = inr (inr h)
    left k (inr (inl h)) =
        elim (has_more w.waiting n id k in' is (subst (λ y. has y k ≡ true) (sym (take_all (n + 1) w.waiting (omega arith))) h)) [
          | inl y ↦ inr (inl y)
          | inr y ↦ moved k (subst (Stands w.copies [] w.short) y placed)
        ]
