-- A clause that waits gets its watches.
use Rattle.std.proofs.Common.{◌≡◌, ◌≢◌, ℕ, ◌<◌, ◌≤◌, Bool, true, false, List, [], ◌∷◌, ◌++◌, length, length-set, get_or, set, ◌⊎◌, inl, inr, refl, sym, ap, ◌∙◌, subst, arith, Option}
use Rattle.std.specs.Prelude.{AllPairs, IsTrue, ◌↔◌}
use Rattle.std.proofs.lemmas.Bool.{cases_eq, cases_lt, false≢true}
use Rattle.std.proofs.lemmas.List.{get_or-set_same, get_or-set_other, get_or_default}
use Rattle.sat_terms.specs.Literal.{has, neg}
use Rattle.sat_terms.proofs.Literals.{neg-neg}
use Rattle.clause_store.specs.Stored.{Stored, slot, slot_lits}
use Rattle.trail_state.specs.declared.trail.Step.{Step}
use Rattle.trail_state.specs.Trail.{Trace, step}
use Rattle.watch_lists.specs.declared.lists.Watch.{Watch}
use Rattle.watch_lists.specs.Placing.{IsLow, IsTrueBy, IsPushed, with_watch}
use Rattle.watch_lists.specs.Propagation.{Watching, Stands, Fits, Follows}
use Rattle.watch_lists.specs.Watching.{Pair, copy, front, pairs, pair, at, copied, Kept, Covered, FollowsOn, IsCopy}
use Rattle.watch_lists.proofs.Attaching.{Attaching, kept_attached, follows_attached}
use Rattle.watch_lists.proofs.Fronts.{has_copied, has_here, two_long}
use Rattle.watch_lists.proofs.Once.{once_copied, once_rising}
use Rattle.watch_lists.proofs.Looks.{pair_front, pairs_long, pairs_set}
use Rattle.sat_terms.proofs.Members.{has_place}

-- a clause of two literals has no others
pub both_of : (c : List ℕ) (one other k : ℕ) → one < length c → other < length c → one ≢ other → length c ≡ 2 → has c k ≡ true → (k ≡ get_or c one 0) ⊎ (k ≡ get_or c other 0)
both_of c one other k in-one in-other apart two h =
    let r = has_place c k 0 h in
    let within = r.1 in
    elim (cases_eq r.0 one) [
      | inl e ↦ inl (sym r.2 ∙ ap (λ z. get_or c z 0) e)
      | inr n ↦ let e : r.0 ≡ other = omega arith in inr (sym r.2 ∙ ap (λ z. get_or c z 0) e)
    ]

-- two members of a list that rises
pub rises_apart : (c : List ℕ) (i j : ℕ) → AllPairs (λ a b. a < b) c → i < length c → j < length c → i ≢ j → get_or c i 0 ≢ get_or c j 0
rises_apart c i j rising in-i in-j n e =
    elim (cases_lt i j) [
      | inl lt ↦ absurd (let h = rising i j 0 lt in-j in omega arith)
      | inr ge ↦ absurd (let h = rising j i 0 (omega arith) in-i in omega arith)
    ]

module _ (ids waiting short : List ℕ) (ls ls' : List (List Watch)) (cs : List (List ℕ)) (s : List (Option Stored)) (id one other : ℕ) (bin : Bool) (f : Fits ids waiting short ls cs s) (attached : has ids id ≡ true) (empty : copy cs id ≡ []) (known : id < length cs)
    (in-one : one < length (slot_lits (slot s id))) (in-other : other < length (slot_lits (slot s id))) (apart : one ≢ other) (rising : AllPairs (λ a b. a < b) (slot_lits (slot s id))) (small : bin ≡ true → length (slot_lits (slot s id)) ≡ 2)
    (listed : (l : ℕ) → has (slot_lits (slot s id)) l ≡ true → l < length ls) (pushed : IsPushed id (get_or (slot_lits (slot s id)) one 0) (get_or (slot_lits (slot s id)) other 0) bin ls ls') where
  abbrev pub c : List ℕ
  c = slot_lits (slot s id)

  abbrev pub a : ℕ
  a = get_or c one 0

  abbrev pub b : ℕ
  b = get_or c other 0

  abbrev pub new_pair : Pair
  new_pair = record { first = a; second = b }

  differ : a ≢ b
  differ = rises_apart c one other rising in-one in-other apart

  has_a : has c a ≡ true
  has_a = has_here c one a in-one refl

  has_b : has c b ≡ true
  has_b = has_here c other b in-other refl

  abbrev pub with_one : List (List Watch)
  with_one = with_watch ls a (record { id = id; blocker = b; binary = bin })

  one_long : length with_one ≡ length ls
  one_long = length-set ls a (at ls a ++ record { id = id; blocker = b; binary = bin } ∷ [])

  pub placed_long : length ls' ≡ length ls
  placed_long = ap length pushed ∙ length-set with_one b (at with_one b ++ record { id = id; blocker = a; binary = bin } ∷ []) ∙ one_long

  one_at : (l : ℕ) → l ≢ a → at with_one l ≡ at ls l
  one_at l n = get_or-set_other ls a l (at ls a ++ record { id = id; blocker = b; binary = bin } ∷ []) [] n

  one_here : at with_one a ≡ at ls a ++ record { id = id; blocker = b; binary = bin } ∷ []
  one_here = get_or-set_same ls a (at ls a ++ record { id = id; blocker = b; binary = bin } ∷ []) [] (listed a has_a)

  two_at : (l : ℕ) → l ≢ b → at ls' l ≡ at with_one l
  two_at l n = ap (λ z. at z l) pushed ∙ get_or-set_other with_one b l (at with_one b ++ record { id = id; blocker = a; binary = bin } ∷ []) [] n

  two_here : at ls' b ≡ at with_one b ++ record { id = id; blocker = a; binary = bin } ∷ []
  two_here = ap (λ z. at z b) pushed ∙ get_or-set_same with_one b (at with_one b ++ record { id = id; blocker = a; binary = bin } ∷ []) [] (let l = one_long in let h = listed b has_b in omega arith)

  unwatched : (pair (pairs cs) id).first ≡ (pair (pairs cs) id).second
  unwatched = let e = pair_front cs id ∙ ap front empty in ap (λ (p : Pair). p.first) e ∙ sym (ap (λ (p : Pair). p.second) e)

  attaching : Attaching ids s (length ls) (at ls) (at ls') (pairs cs) id new_pair bin
  attaching = record {
    known = let l = pairs_long cs in omega arith;
    unwatched = unwatched;
    differ = differ;
    held = record { attached = attached; first = has_a; second = has_b; within = listed };
    both = λ e k h. both_of c one other k in-one in-other apart (small e) h;
    at_first = two_at a differ ∙ one_here;
    at_second = two_here ∙ ap (λ z. z ++ record { id = id; blocker = a; binary = bin } ∷ []) (one_at b (λ q. differ (sym q)));
    elsewhere = λ l n m. two_at l m ∙ one_at l n;
  }

  pairs_now : pairs (set cs id (copied a b c)) ≡ set (pairs cs) id new_pair
  pairs_now = pairs_set cs id (copied a b c) new_pair refl

  copy_now : copy (set cs id (copied a b c)) id ≡ copied a b c
  copy_now = get_or-set_same cs id (copied a b c) [] known

  copy_other : (k : ℕ) → k ≢ id → copy (set cs id (copied a b c)) k ≡ copy cs k
  copy_other k n = get_or-set_other cs id k (copied a b c) [] n

  pub differ_now : (front (copy (set cs id (copied a b c)) id)).first ≢ (front (copy (set cs id (copied a b c)) id)).second
  differ_now = subst (λ z. (front z).first ≢ (front z).second) (sym copy_now) differ

  pub fits_placed : Fits ids waiting short ls' (set cs id (copied a b c)) s
  fits_placed = record {
    kept = subst (λ z. Kept ids s z (at ls') (pairs (set cs id (copied a b c)))) (sym placed_long) (subst (Kept ids s (length ls) (at ls')) (sym pairs_now) (kept_attached ids s (length ls) (at ls) (at ls') (pairs cs) id new_pair bin attaching f.kept));
    copied = λ k n.
        elim (cases_eq k id) [
          | inl e ↦
              let new : IsCopy (copied a b c) c = record { same = λ l. has_copied a b c l has_a has_b; once = once_copied a b c differ (once_rising c rising) } in
              subst (λ z. IsCopy (copy (set cs id (copied a b c)) z) (slot_lits (slot s z))) (sym e) (subst (λ z. IsCopy z c) (sym copy_now) new)
          | inr m ↦ subst (λ z. IsCopy z (slot_lits (slot s k))) (sym (copy_other k m)) (f.copied k (subst (λ z. (front z).first ≢ (front z).second) (copy_other k m) n))
        ];
    bare = λ k.
        elim (cases_eq k id) [
          | inl e ↦ inr (subst (λ z. (front (copy (set cs id (copied a b c)) z)).first ≢ (front (copy (set cs id (copied a b c)) z)).second) (sym e) differ_now)
          | inr m ↦ elim (f.bare k) [ inl e ↦ inl (copy_other k m ∙ e) | inr n ↦ inr (subst (λ z. (front z).first ≢ (front z).second) (sym (copy_other k m)) n) ]
        ];
    waits = f.waits;
    shorts = f.shorts;
    stands = λ k h.
        elim (cases_eq k id) [
          | inl e ↦ inl (subst (λ z. (front (copy (set cs id (copied a b c)) z)).first ≢ (front (copy (set cs id (copied a b c)) z)).second) (sym e) differ_now)
          | inr m ↦ like k m (f.stands k h)
        ];
  }
    where
      like : (k : ℕ) → k ≢ id → Stands cs waiting short k → Stands (set cs id (copied a b c)) waiting short k
      like k m (inl n) = inl (subst (λ z. (front z).first ≢ (front z).second) (sym (copy_other k m)) n)
      like k m (inr h) = inr h

  pub on_placed : (t : List Step) (head head1 head2 : ℕ) → head1 ≤ head → head2 ≤ head1 → IsLow t a b head1 → IsLow t b a head2 → FollowsOn s (pairs cs) t head → FollowsOn s (pairs (set cs id (copied a b c))) t head2
  on_placed t head head1 head2 le1 le2 low1 low2 on =
      subst (λ z. FollowsOn s z t head2) (sym pairs_now)
      (follows_attached ids s (length ls) (at ls) (at ls') (pairs cs) id new_pair bin t head head2 (let l = pairs_long cs in omega arith) on (omega arith) (λ i lt w.
      let in' : i < length t = (let h = on.within in omega arith) in
      elim w.one [
        | inl e ↦ by i b has_b (low1 i (omega arith) in' (sym (ap neg e ∙ neg-neg (step t i).lit)))
        | inr e ↦ by i a has_a (low2 i lt in' (sym (ap neg e ∙ neg-neg (step t i).lit)))
      ]))
    where
      by : (i x : ℕ) → has c x ≡ true → IsTrueBy t x i → Covered c t i head2
      by i x h y = record { true_in = record { place = y.place; within = y.within; holds = subst (λ z. has c z ≡ true) (sym y.here) h }; low = λ lt. y.low }

-- as the code reads it
pub follows_watched : (w w' : Watching) (s : List (Option Stored)) (t : Trace) (id one other first second head1 : ℕ) (bin : Bool) (lits : List ℕ) → Follows w s t → has w.attached id ≡ true → copy w.copies id ≡ [] → id < length w.copies
    → lits ≡ slot_lits (slot s id) → one < length lits → other < length lits → one ≢ other → AllPairs (λ x y. x < y) lits → first ≡ get_or lits one first → second ≡ get_or lits other second → (bin ≡ true → length lits ≡ 2)
    → ((l : ℕ) → has lits l ≡ true → l < length w.lists) → IsPushed id first second bin w.lists w'.lists → w'.copies ≡ set w.copies id (copied first second lits)
    → w'.attached ≡ w.attached → w'.waiting ≡ w.waiting → w'.short ≡ w.short → w'.fixed ≡ w.fixed → head1 ≤ w.head → w'.head ≤ head1 → IsLow t.steps first second head1 → IsLow t.steps second first w'.head → Follows w' s t
follows_watched w w' s t id one other first second head1 bin lits f at' empty known is in-one in-other apart rising first-is second-is small listed pushed copies-is a b c d le1 le2 low1 low2 =
    let n1 : first ≡ get_or (slot_lits (slot s id)) one 0 = first-is ∙ get_or_default lits one first 0 in-one ∙ ap (λ z. get_or z one 0) is in
    let n2 : second ≡ get_or (slot_lits (slot s id)) other 0 = second-is ∙ get_or_default lits other second 0 in-other ∙ ap (λ z. get_or z other 0) is in
    let now : w'.copies ≡ set w.copies id (copied (get_or (slot_lits (slot s id)) one 0) (get_or (slot_lits (slot s id)) other 0) (slot_lits (slot s id))) =
    copies-is ∙ ap (λ z. set w.copies id (copied z second lits)) n1 ∙ ap (λ z. set w.copies id (copied (get_or (slot_lits (slot s id)) one 0) z lits)) n2 ∙ ap (λ z. set w.copies id (copied (get_or (slot_lits (slot s id)) one 0) (get_or (slot_lits (slot s id)) other 0) z)) is in
    let pushed' : IsPushed id (get_or (slot_lits (slot s id)) one 0) (get_or (slot_lits (slot s id)) other 0) bin w.lists w'.lists =
    subst (λ z. IsPushed id (get_or (slot_lits (slot s id)) one 0) z bin w.lists w'.lists) n2 (subst (λ z. IsPushed id z second bin w.lists w'.lists) n1 pushed) in
    let in-one' = subst (λ z. one < length z) is in-one in
    let in-other' = subst (λ z. other < length z) is in-other in
    let rising' = subst (AllPairs (λ x y. x < y)) is rising in
    let small' : bin ≡ true → length (slot_lits (slot s id)) ≡ 2 = λ e. ap length (sym is) ∙ small e in
    let listed' : (l : ℕ) → has (slot_lits (slot s id)) l ≡ true → l < length w.lists = λ l h. listed l (subst (λ z. has z l ≡ true) (sym is) h) in
    let fits = fits_placed w.attached w.waiting w.short w.lists w'.lists w.copies s id one other bin f.fits at' empty known in-one' in-other' apart rising' small' listed' pushed' in
    let on = on_placed w.attached w.waiting w.short w.lists w'.lists w.copies s id one other bin f.fits at' empty known in-one' in-other' apart rising' small' listed' pushed' t.steps w.head head1 w'.head le1 le2
    (subst (λ z. IsLow t.steps (get_or (slot_lits (slot s id)) one 0) z head1) n2 (subst (λ z. IsLow t.steps z second head1) n1 low1))
    (subst (λ z. IsLow t.steps z (get_or (slot_lits (slot s id)) one 0) w'.head) n2 (subst (λ z. IsLow t.steps second z w'.head) n1 low2)) f.on in
    record {
      fits = rw (a, b, c, now) fits;
      fixed = rw (c, d) f.fixed;
      on = rw now on;
    }

-- a clause that has no copy of two literals has none
pub no_copy : (cs : List (List ℕ)) (id : ℕ) → (copy cs id ≡ []) ⊎ ((front (copy cs id)).first ≢ (front (copy cs id)).second) → length (copy cs id) < 2 → copy cs id ≡ []
no_copy cs id (inl e) few = e
no_copy cs id (inr n) few = absurd (let two = two_long (copy cs id) n in omega arith)

-- a copy that was put in and taken out
pub copy_undone : (cs0 cs1 cs2 cs3 : List (List ℕ)) (id : ℕ) (c : List ℕ) → ((k : ℕ) → copy cs1 k ≡ copy cs0 k) → copy cs0 id ≡ [] → id < length cs1 → cs2 ≡ set cs1 id c → cs3 ≡ set cs2 id [] → (k : ℕ) → copy cs3 k ≡ copy cs0 k
copy_undone cs0 cs1 cs2 cs3 id c same empty known put taken k =
    elim (cases_eq k id) [
      | inl e ↦
          let size : length cs2 ≡ length cs1 = ap length put ∙ length-set cs1 id c in
          let here : copy cs3 id ≡ [] = ap (λ z. copy z id) taken ∙ get_or-set_same cs2 id [] [] (omega arith) in
          ap (copy cs3) e ∙ here ∙ sym (ap (copy cs0) e ∙ empty)
      | inr n ↦ ap (λ z. copy z k) taken ∙ get_or-set_other cs2 id k [] [] n ∙ ap (λ z. copy z k) put ∙ get_or-set_other cs1 id k c [] n ∙ same k
    ]

pub few_left : (b : Bool) (n : ℕ) → IsTrue b ↔ (2 ≤ n) → b ≡ false → n < 2
few_left b n h e =
    elim (cases_lt n 2) [
      | inl lt ↦ lt
      | inr ge ↦ absurd (false≢true (sym e ∙ h.1 ge))
    ]
