-- Many clauses are detached at once.
use Rattle.std.proofs.Common.{◌≡◌, ◌≢◌, ℕ, suc, ◌+◌, ◌<◌, ◌≤◌, Bool, true, false, not, ◌&&◌, ◌||◌, eqb, List, [], ◌∷◌, length, length-set, get_or, set, take, ◌⊎◌, inl, inr, refl, sym, ap, ◌∙◌, subst, arith, Option}
use Rattle.std.specs.Prelude.{filter}
use Rattle.std.proofs.lemmas.Bool.{cases_eq, cases_lt, false≢true, eq-eqb, ne_eqb, cases_Bool, and_parts}
use Rattle.std.proofs.lemmas.List.{get_or-set_same, get_or-set_other, get_or_past, get_or_read, take_all}
use Rattle.std.proofs.lemmas.List.Folds.{list_any_more}
use Rattle.sat_terms.specs.Literal.{has, neg}
use Rattle.sat_terms.proofs.Members.{has_more}
use Rattle.clause_store.specs.Stored.{Stored, slot, slot_lits}
use Rattle.trail_state.specs.declared.trail.Step.{Step}
use Rattle.trail_state.specs.Trail.{Trace, step}
use Rattle.watch_lists.specs.declared.lists.Watch.{Watch}
use Rattle.watch_lists.specs.Copying.{IsEmptied}
use Rattle.watch_lists.specs.Placing.{IsSwept}
use Rattle.watch_lists.specs.Propagation.{Watching, Stands, Fits, Follows, marked}
use Rattle.watch_lists.specs.Watching.{Pair, copy, front, pairs, pair, at, tally, expects, WatchesIt, HoldsPair, AllBlock, Kept, FollowsOn, IsCopy}
use Rattle.watch_lists.proofs.Looks.{pair_front}

and_both : (a b : Bool) → a ≡ true → b ≡ true → (a && b) ≡ true
and_both true true x y = refl
and_both true false x y = y
and_both false b x y = x

-- the watches of some clauses
abbrev pub kept_by : (ℕ → Bool) → List Watch → List Watch
kept_by p ws = filter (λ w. p w.id) ws

pub kept_like : (p q : ℕ → Bool) → ((k : ℕ) → p k ≡ q k) → (ws : List Watch) → kept_by p ws ≡ kept_by q ws
kept_like p q same [] = refl
kept_like p q same (w ∷ ws) = go (q w.id) refl (kept_like p q same ws) where
  go : (b : Bool) → q w.id ≡ b → kept_by p ws ≡ kept_by q ws → kept_by p (w ∷ ws) ≡ kept_by q (w ∷ ws)
  go true e rest = rw (same w.id, e) (ap (λ z. w ∷ z) rest)
  go false e rest = rw (same w.id, e) rest

tally_in : (p : ℕ → Bool) (id : ℕ) (ws : List Watch) → p id ≡ true → tally id (kept_by p ws) ≡ tally id ws
tally_in p id [] h = refl
tally_in p id (w ∷ ws) h = go (p w.id) refl (tally_in p id ws h) where
  go : (b : Bool) → p w.id ≡ b → tally id (kept_by p ws) ≡ tally id ws → tally id (kept_by p (w ∷ ws)) ≡ tally id (w ∷ ws)
  go true e rest = rw e (rw rest refl)
  go false e rest = rw e (rw (ne_eqb w.id id (λ q. false≢true (sym e ∙ ap p q ∙ h))) (rest ∙ omega arith))

tally_out : (p : ℕ → Bool) (id : ℕ) (ws : List Watch) → p id ≡ false → tally id (kept_by p ws) ≡ 0
tally_out p id [] h = refl
tally_out p id (w ∷ ws) h = go (p w.id) refl (tally_out p id ws h) where
  go : (b : Bool) → p w.id ≡ b → tally id (kept_by p ws) ≡ 0 → tally id (kept_by p (w ∷ ws)) ≡ 0
  go true e rest = rw e (rw (ne_eqb w.id id (λ q. false≢true (sym h ∙ ap p (sym q) ∙ e))) (omega arith))
  go false e rest = rw e rest

block_in : (s : List (Option Stored)) (l : ℕ) (p : ℕ → Bool) (ws : List Watch) → AllBlock s l ws → AllBlock s l (kept_by p ws)
block_in s l p [] h = tt
block_in s l p (w ∷ ws) h = go (p w.id) refl (block_in s l p ws h.1) where
  go : (b : Bool) → p w.id ≡ b → AllBlock s l (kept_by p ws) → AllBlock s l (kept_by p (w ∷ ws))
  go true e rest = rw e (h.0, rest)
  go false e rest = rw e rest

-- the first lists have been gone over, and the others stay
pub record Sweeping (marks : List Bool) (ls ls' : List (List Watch)) (n : ℕ) : Type 0 where
  pub sized : length ls' ≡ length ls
  pub done : (l : ℕ) → l < n → at ls' l ≡ kept_by (marked marks) (at ls l)
  pub left : (l : ℕ) → n ≤ l → at ls' l ≡ at ls l

pub sweeping_more : (marks : List Bool) (ls ls' : List (List Watch)) (n : ℕ) (ws old : List Watch) → Sweeping marks ls ls' n → n < length ls' → old ≡ get_or ls' n old → ws ≡ kept_by (marked marks) old → Sweeping marks ls (set ls' n ws) (n + 1)
sweeping_more marks ls ls' n ws old h lt old-is ws-is = record {
  sized = length-set ls' n ws ∙ h.sized;
  done = λ l below.
      elim (cases_eq l n) [
        | inl e ↦
            let here : at (set ls' n ws) n ≡ ws = get_or-set_same ls' n ws [] lt in
            let was : old ≡ at ls n = get_or_read ls' n old lt old-is [] ∙ h.left n (omega arith) in
            rw e (here ∙ ws-is ∙ ap (kept_by (marked marks)) was)
        | inr m ↦ get_or-set_other ls' n l ws [] m ∙ h.done l (omega arith)
      ];
  left = λ l ge. get_or-set_other ls' n l ws [] (λ e. absurd (omega arith)) ∙ h.left l (omega arith);
}

pub sweeping_all : (marks : List Bool) (ls ls' : List (List Watch)) (n : ℕ) → Sweeping marks ls ls' n → length ls' ≤ n → IsSwept marks ls ls'
sweeping_all marks ls ls' n h ge = record {
  sized = h.sized;
  left = λ l.
      elim (cases_lt l n) [
        | inl lt ↦ h.done l lt
        | inr past ↦ let z = h.sized in let e : at ls l ≡ [] = get_or_past ls l [] (omega arith) in h.left l past ∙ e ∙ sym (ap (kept_by (marked marks)) e)
      ];
}

-- one id more is taken out
out_more : (a x y : Bool) → ((a && not x) && not y) ≡ (a && not (x || y))
out_more true true y = refl
out_more true false y = refl
out_more false x y = refl

has_front : (c : List ℕ) (i x l : ℕ) → i < length c → x ≡ get_or c i x → has (take (i + 1) c) l ≡ (has (take i c) l || eqb x l)
has_front c i x l in' is = list_any_more (λ y. eqb y l) c i x in' ∙ rw (← is) refl

pub marks_more : (m m' m'' : List Bool) (ids : List ℕ) (n id k : ℕ) → n < length ids → id ≡ get_or ids n id → marked m' k ≡ (marked m k && not (has (take n ids) k)) → marked m'' k ≡ (marked m' k && not (eqb k id)) → marked m'' k ≡ (marked m k && not (has (take (n + 1) ids) k))
marks_more m m' m'' ids n id k lt id-is less less' =
    let more : has (take (n + 1) ids) k ≡ (has (take n ids) k || eqb id k) = has_front ids n id k lt id-is in
    less' ∙ ap (λ b. b && not (eqb k id)) less ∙ out_more (marked m k) (has (take n ids) k) (eqb k id) ∙ ap (λ b. marked m k && not (has (take n ids) k || b)) (turned k id) ∙ sym (ap (λ b. marked m k && not b) more)
  where
    turned : (a b : ℕ) → eqb a b ≡ eqb b a
    turned a b = elim (cases_eq a b) [ inl e ↦ rw (eq-eqb a b e, eq-eqb b a (sym e)) refl | inr n' ↦ rw (ne_eqb a b n', ne_eqb b a (λ q. n' (sym q))) refl ]

pub emptied_none : (ids : List ℕ) (cs : List (List ℕ)) → IsEmptied (take 0 ids) cs cs
emptied_none ids cs = record { gone = λ k h. absurd (false≢true h); kept = λ k h. refl }

pub emptied_more : (ids : List ℕ) (cs cs' : List (List ℕ)) (n id : ℕ) → n < length ids → id ≡ get_or ids n id → IsEmptied (take n ids) cs cs' → IsEmptied (take (n + 1) ids) cs (set cs' id [])
emptied_more ids cs cs' n id lt id-is h = record {
  gone = λ k m.
      elim (cases_eq k id) [
        | inl e ↦ rw e (emptied cs' id)
        | inr q ↦ get_or-set_other cs' id k [] [] q ∙ h.gone k (elim (has_more ids n id k lt id-is m) [ inl a ↦ a | inr b ↦ absurd (q (sym b)) ])
      ];
  kept = λ k m.
      let both : (has (take n ids) k || eqb id k) ≡ false = sym (has_front ids n id k lt id-is) ∙ m in
      let parts = neither (has (take n ids) k) (eqb id k) both in
      get_or-set_other cs' id k [] [] (λ e. false≢true (sym parts.1 ∙ eq-eqb id k (sym e))) ∙ h.kept k parts.0;
}
  where
    neither : (a b : Bool) → (a || b) ≡ false → (a ≡ false) × (b ≡ false)
    neither true b e = absurd (false≢true (sym e))
    neither false b e = (refl, e)

    emptied : (xs : List (List ℕ)) (i : ℕ) → copy (set xs i []) i ≡ []
    emptied xs i =
        elim (cases_lt i (length xs)) [
          | inl in' ↦ get_or-set_same xs i [] [] in'
          | inr ge ↦ get_or_past (set xs i []) i [] (let l = length-set xs i [] in omega arith)
        ]

-- the lists, the copies and what else names clauses, once the clauses of these ids were taken out
module _ (ids ids' gone waiting waiting' short short' : List ℕ) (ls ls' : List (List Watch)) (cs cs' : List (List ℕ)) (s : List (Option Stored))
    (less : (k : ℕ) → has ids' k ≡ (has ids k && not (has gone k))) (waits : (k : ℕ) → has waiting' k ≡ (has waiting k && has ids' k)) (shorts : (k : ℕ) → has short' k ≡ (has short k && has ids' k)) (sized : length ls' ≡ length ls)
    (swept : (l : ℕ) → at ls' l ≡ kept_by (has ids') (at ls l)) (emptied : IsEmptied gone cs cs') (f : Fits ids waiting short ls cs s) where
  -- an id that is left
  left : (k : ℕ) → has ids' k ≡ true → (has ids k ≡ true) × (has gone k ≡ false)
  left k h =
      let p = and_parts (has ids k) (not (has gone k)) (sym (less k) ∙ h) in
      (p.0, elim (cases_Bool (has gone k)) [ inl e ↦ absurd (false≢true (ap not (sym e) ∙ p.1)) | inr e ↦ e ])

  stays : (k : ℕ) → has gone k ≡ false → has ids k ≡ true → has ids' k ≡ true
  stays k n h = less k ∙ and_both (has ids k) (not (has gone k)) h (ap not n)

  -- a clause that still watches two literals is one of the others
  other : (k : ℕ) → (front (copy cs' k)).first ≢ (front (copy cs' k)).second → has gone k ≡ false
  other k n = elim (cases_Bool (has gone k)) [ inl e ↦ absurd (n (let z = emptied.gone k e in ap (λ c. (front c).first) z ∙ sym (ap (λ c. (front c).second) z))) | inr e ↦ e ]

  pair_same : (k : ℕ) → has gone k ≡ false → pair (pairs cs') k ≡ pair (pairs cs) k
  pair_same k n = pair_front cs' k ∙ ap front (emptied.kept k n) ∙ sym (pair_front cs k)

  differs : (k : ℕ) → (pair (pairs cs') k).first ≢ (pair (pairs cs') k).second → has gone k ≡ false
  differs k n = other k (subst (λ (p : Pair). p.first ≢ p.second) (pair_front cs' k) n)

  -- a clause that is no longer attached watches nothing
  unwatched : (k l : ℕ) → has ids' k ≡ false → expects (pair (pairs cs') k) l ≡ 0
  unwatched k l off =
      elim (cases_eq (pair (pairs cs') k).first (pair (pairs cs') k).second) [
        | inl e ↦ rw (eq-eqb (pair (pairs cs') k).first (pair (pairs cs') k).second e) refl
        | inr n ↦
            let g = differs k n in
            let h = f.kept.held k (subst (λ (p : Pair). p.first ≢ p.second) (pair_same k g) n) in
            absurd (false≢true (sym off ∙ stays k g h.attached))
      ]

  kept_swept : Kept ids' s (length ls') (at ls') (pairs cs')
  kept_swept = record {
    tallied = λ l k below.
        let in' : l < length ls = (let z = sized in omega arith) in
        elim (cases_Bool (has ids' k)) [
          | inl on ↦ ap (tally k) (swept l) ∙ tally_in (has ids') k (at ls l) on ∙ f.kept.tallied l k in' ∙ ap (λ p. expects p l) (sym (pair_same k (left k on).1))
          | inr off ↦ ap (tally k) (swept l) ∙ tally_out (has ids') k (at ls l) off ∙ sym (unwatched k l off)
        ];
    held = λ k n.
        let g = differs k n in
        let h = f.kept.held k (subst (λ (p : Pair). p.first ≢ p.second) (pair_same k g) n) in
        subst (HoldsPair ids' k (slot s k) (length ls')) (sym (pair_same k g)) (record { attached = stays k g h.attached; first = h.first; second = h.second; within = λ l x. let w = h.within l x in let z = sized in omega arith });
    blocking = λ l below. subst (AllBlock s l) (sym (swept l)) (block_in s l (has ids') (at ls l) (f.kept.blocking l (let z = sized in omega arith)));
  }

  pub fits_swept : Fits ids' waiting' short' ls' cs' s
  fits_swept = record {
    kept = kept_swept;
    copied = λ k m. let g = other k m in subst (λ z. IsCopy z (slot_lits (slot s k))) (sym (emptied.kept k g)) (f.copied k (subst (λ c. (front c).first ≢ (front c).second) (emptied.kept k g) m));
    bare = λ k.
        elim (cases_Bool (has gone k)) [
          | inl e ↦ inl (emptied.gone k e)
          | inr g ↦ elim (f.bare k) [ inl e ↦ inl (emptied.kept k g ∙ e) | inr m ↦ inr (subst (λ c. (front c).first ≢ (front c).second) (sym (emptied.kept k g)) m) ]
        ];
    waits = λ k h. (and_parts (has waiting k) (has ids' k) (sym (waits k) ∙ h)).1;
    shorts = λ k h. let p = and_parts (has short k) (has ids' k) (sym (shorts k) ∙ h) in (p.1, (f.shorts k p.0).1);
    stands = λ k h. let p = left k h in go k h p.1 (f.stands k p.0);
  }
    where
      go : (k : ℕ) → has ids' k ≡ true → has gone k ≡ false → Stands cs waiting short k → Stands cs' waiting' short' k
      go k on g (inl m) = inl (subst (λ c. (front c).first ≢ (front c).second) (sym (emptied.kept k g)) m)
      go k on g (inr (inl h)) = inr (inl (waits k ∙ and_both (has waiting k) (has ids' k) h on))
      go k on g (inr (inr h)) = inr (inr (shorts k ∙ and_both (has short k) (has ids' k) h on))

  pub on_swept : (t : List Step) (head : ℕ) → FollowsOn s (pairs cs) t head → FollowsOn s (pairs cs') t head
  on_swept t head on = record {
    within = on.within;
    covers = λ i k below w. on.covers i k below (subst (λ p. WatchesIt p (neg (step t i).lit)) (pair_same k (differs k w.differ)) w);
  }

pub follows_swept : (w w' : Watching) (s : List (Option Stored)) (t : Trace) (gone : List ℕ) → ((k : ℕ) → has w'.attached k ≡ (has w.attached k && not (has gone k))) → ((k : ℕ) → has w'.waiting k ≡ (has w.waiting k && has w'.attached k)) → ((k : ℕ) → has w'.short k ≡ (has w.short k && has w'.attached k))
    → length w'.lists ≡ length w.lists → ((l : ℕ) → at w'.lists l ≡ kept_by (has w'.attached) (at w.lists l)) → IsEmptied gone w.copies w'.copies → w'.fixed ≡ 0 → w'.head ≡ w.head → Follows w s t → Follows w' s t
follows_swept w w' s t gone less waits shorts sized swept emptied a b f = record {
  fits = fits_swept w.attached w'.attached gone w.waiting w'.waiting w.short w'.short w.lists w'.lists w.copies w'.copies s less waits shorts sized swept emptied f.fits;
  fixed = rw a (record { few = omega arith; at_root = λ k lt. absurd (omega arith) });
  on = rw b (on_swept w.attached w'.attached gone w.waiting w'.waiting w.short w'.short w.lists w'.lists w.copies w'.copies s less waits shorts sized swept emptied f.fits t.steps w.head f.on);
}

none : (b : Bool) → (b && false) ≡ false
none true = refl
none false = refl

-- the members that pass a test
pub has-filter : (p : ℕ → Bool) (c : List ℕ) (k : ℕ) → has (filter p c) k ≡ (has c k && p k)
has-filter p [] k = refl
has-filter p (x ∷ c) k = go (p x) refl (has-filter p c k) where
  go : (b : Bool) → p x ≡ b → has (filter p c) k ≡ (has c k && p k) → has (filter p (x ∷ c)) k ≡ (has (x ∷ c) k && p k)
  go true e rest =
      elim (cases_eq x k) [
        | inl q ↦ rw (e, eq-eqb x k q) (sym e ∙ ap p q)
        | inr n ↦ rw (e, ne_eqb x k n) rest
      ]
  go false e rest =
      elim (cases_eq x k) [
        | inl q ↦
            let off : p k ≡ false = ap p (sym q) ∙ e in
            rw (e, eq-eqb x k q) (rest ∙ ap (λ b. has c k && b) off ∙ none (has c k) ∙ sym off)
        | inr n ↦ rw (e, ne_eqb x k n) rest
      ]
