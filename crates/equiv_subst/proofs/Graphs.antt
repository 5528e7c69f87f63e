-- Laws of tables of arcs.
use Rattle.std.proofs.Common.{◌≡◌, ◌≢◌, ℕ, suc, zero, ◌+◌, ◌<◌, ◌≤◌, true, false, eqb, List, [], ◌∷◌, ◌++◌, length, get_or, take, set, inl, inr, ◌⊎◌, refl, sym, ap, ◌∙◌, subst, arith, Option, Result, Ok, Err, OnOk}
use Rattle.std.proofs.lemmas.Bool.{false≢true, cases_eq, cases_lt, or_cases, or_left, eq-eqb, eqb-true}
use Rattle.std.proofs.lemmas.List.{length_push, get_or-set_same, get_or-set_other, get_or_default, get_or-take, length-take-le, take_all}
use Rattle.sat_terms.proofs.Members.{has-append_left, has-append_right, has-append_cases}
use Rattle.sat_terms.specs.Literal.{has, neg}
use Rattle.sat_terms.specs.Normal.{IsNormal}
use Rattle.sat_terms.proofs.Literals.{neg-neg}
use Rattle.clause_store.specs.Stored.{Stored, slot, slot_lits, is_firm}
use Rattle.clause_store.specs.Listing.{HasEachOnce, firm_at}
use Rattle.firm_terms.specs.Firm.{firm}
use Rattle.firm_terms.proofs.Counting.{place_of, count_ids}
use Rattle.equiv_subst.specs.Implications.{Arc, arcs, size, IsGraph, Gains, Adds, Shows, IsGraphOf}
use Rattle.firm_terms.specs.Implying.{IsPairOf, Says}
use Rattle.equiv_subst.proofs.Leading.{has_at_place}

pub record Longer (old new : List (List ℕ)) : Type 0 where
  pub same : (a : ℕ) → arcs new a ≡ arcs old a
  pub size : size new ≡ size old
  pub longer : length old ≤ length new

pub longer_none : (g : List (List ℕ)) → Longer g g
longer_none g = record { same = λ a. refl; size = refl; longer = omega arith }

arcs_push : (g : List (List ℕ)) (a : ℕ) → arcs (g ++ [] ∷ []) a ≡ arcs g a
arcs_push [] zero = refl
arcs_push [] (suc a) = refl
arcs_push (c ∷ g) zero = refl
arcs_push (c ∷ g) (suc a) = arcs_push g a

size_push : (g : List (List ℕ)) → size (g ++ [] ∷ []) ≡ size g
size_push [] = refl
size_push (c ∷ g) = ap (λ (z : ℕ). length c + z) (size_push g)

pub longer_more : (old now : List (List ℕ)) → Longer old now → Longer old (now ++ [] ∷ [])
longer_more old now h = record {
  same = λ a. arcs_push now a ∙ h.same a;
  size = size_push now ∙ h.size;
  longer = let l = h.longer in omega (arith, length_push now []);
}

pub longer_graph : (old new : List (List ℕ)) → Longer old new → IsGraph old → IsGraph new
longer_graph old new h g a b e =
    let l = h.longer in
    let o = g a b (subst (λ (z : List ℕ). has z b ≡ true) (h.same a) e) in
    record { within = let w = o.within in omega arith; from = o.from; to = o.to }

size_set : (g : List (List ℕ)) (i b : ℕ) → i < length g → size (set g i (arcs g i ++ b ∷ [])) ≡ size g + 1
size_set [] i b h = absurd (omega arith)
size_set (c ∷ g) zero b h = omega (arith, length_push c b)
size_set (c ∷ g) (suc i) b h = omega (arith, size_set g i b (omega arith))

-- one arc more
pub gains_set : (old mid now new : List (List ℕ)) (from to code : ℕ) (list list' : List ℕ) → ((a : ℕ) → arcs mid a ≡ arcs old a) → size mid ≡ size old
    → ((a : ℕ) → arcs now a ≡ arcs mid a) → size now ≡ size mid
    → code ≡ from → code < length now → list ≡ get_or now code list → list' ≡ list ++ to ∷ [] → new ≡ set now code list' → Gains old new from to
gains_set old mid now new from to code list list' same0 size0 same1 size1 e in' read push write =
    let is : list ≡ arcs now code = read ∙ get_or_default now code list [] in' in
    let w : new ≡ set now code (arcs now code ++ to ∷ []) = write ∙ ap (set now code) (push ∙ ap (λ (z : List ℕ). z ++ to ∷ []) is) in
    let here : arcs new from ≡ arcs now from ++ to ∷ [] = subst (λ (z : ℕ). arcs new z ≡ arcs now z ++ to ∷ []) e (ap (λ (z : List (List ℕ)). arcs z code) w ∙ get_or-set_same now code (arcs now code ++ to ∷ []) [] in') in
    let other : (a : ℕ) → a ≢ from → arcs new a ≡ arcs now a = λ a n. ap (λ (z : List (List ℕ)). arcs z a) w ∙ get_or-set_other now code a (arcs now code ++ to ∷ []) [] (λ x. n (x ∙ e)) in
    let same : (a : ℕ) → arcs now a ≡ arcs old a = λ a. same1 a ∙ same0 a in
    record {
      kept = λ a b x.
          elim (cases_eq a from) [
            | inl s ↦ (let y : has (arcs now from) b ≡ true = subst (λ (z : List ℕ). has z b ≡ true) (sym (same from)) (subst (λ (z : ℕ). Arc old z b) s x) in
                subst (λ (z : ℕ). Arc new z b) (sym s) (subst (λ (z : List ℕ). has z b ≡ true) (sym here) (has-append_left (arcs now from) (to ∷ []) b y)))
            | inr n ↦ subst (λ (z : List ℕ). has z b ≡ true) (sym (other a n ∙ same a)) x
          ];
      come = subst (λ (z : List ℕ). has z to ≡ true) (sym here) (has-append_right (arcs now from) (to ∷ []) to (or_left (eqb to to) false (eq-eqb to to refl)));
      only = λ a b x.
          elim (cases_eq a from) [
            | inl s ↦ (let y : has (arcs now from ++ to ∷ []) b ≡ true = subst (λ (z : List ℕ). has z b ≡ true) here (subst (λ (z : ℕ). Arc new z b) s x) in
                elim (has-append_cases (arcs now from) (to ∷ []) b y) [
                  | inl i ↦ inl (subst (λ (z : ℕ). Arc old z b) (sym s) (subst (λ (z : List ℕ). has z b ≡ true) (same from) i))
                  | inr i ↦ elim (or_cases (eqb to b) false i) [ inl j ↦ inr (s, sym (eqb-true to b j)) | inr j ↦ absurd (false≢true j) ]
                ])
            | inr n ↦ inl (subst (λ (z : List ℕ). has z b ≡ true) (other a n ∙ same a) x)
          ];
      more = ap size w ∙ size_set now code to in' ∙ ap (λ (z : ℕ). z + 1) (size1 ∙ size0);
    }

-- what follows where a call went well
pub on_ok_map : {A E : Type 0} (r : Result A E) (P Q : Type 0) → OnOk r P → (P → Q) → OnOk r Q
on_ok_map (Ok a) P Q h k = k h
on_ok_map (Err e) P Q h k = h

-- the two literals of a binary clause
pub pair_cases : (c : List ℕ) (a b : ℕ) → IsPairOf c a b → ((a ≡ neg (get_or c 0 0)) × (b ≡ get_or c 1 0)) ⊎ ((a ≡ neg (get_or c 1 0)) × (b ≡ get_or c 0 0))
pair_cases [] a b h = absurd (let t = h.two in omega arith)
pair_cases (x ∷ []) a b h = absurd (let t = h.two in omega arith)
pair_cases (x ∷ y ∷ z ∷ c) a b h = absurd (let t = h.two in omega arith)
pair_cases (x ∷ y ∷ []) a b h =
    elim (or_cases (eqb x (neg a)) (has (y ∷ []) (neg a)) h.from) [
      | inl e ↦
          (let s : x ≡ neg a = eqb-true x (neg a) e in
          elim (or_cases (eqb x b) (has (y ∷ []) b) h.to) [
            | inl f ↦ absurd (h.apart (sym (eqb-true x b f) ∙ s))
            | inr f ↦ inl (sym (neg-neg a) ∙ ap neg (sym s), sym (one y b f))
          ])
      | inr e ↦
          (let s : y ≡ neg a = one y (neg a) e in
          elim (or_cases (eqb x b) (has (y ∷ []) b) h.to) [
            | inl f ↦ inr (sym (neg-neg a) ∙ ap neg (sym s), sym (eqb-true x b f))
            | inr f ↦ absurd (h.apart (sym (one y b f) ∙ s))
          ])
    ] where
      one : (y l : ℕ) → has (y ∷ []) l ≡ true → y ≡ l
      one y l h = elim (or_cases (eqb y l) false h) [ inl e ↦ eqb-true y l e | inr f ↦ absurd (false≢true f) ]

pub pair_both : (c : List ℕ) (x y : ℕ) → IsNormal c → length c ≡ 2 → x ≡ get_or c 0 x → y ≡ get_or c 1 y → IsPairOf c (neg x) y × IsPairOf c (neg y) x
pair_both c x y n two f s =
    let x0 : x ≡ get_or c 0 0 = f ∙ get_or_default c 0 x 0 (omega arith) in
    let y1 : y ≡ get_or c 1 0 = s ∙ get_or_default c 1 y 0 (omega arith) in
    let hx : has c x ≡ true = subst (λ (z : ℕ). has c z ≡ true) (sym x0) (has_at_place c 0 (omega arith)) in
    let hy : has c y ≡ true = subst (λ (z : ℕ). has c z ≡ true) (sym y1) (has_at_place c 1 (omega arith)) in
    let lt : get_or c 0 0 < get_or c 1 0 = n.rising 0 1 0 (omega arith) (omega arith) in (
      record { two = two; from = rw (neg-neg x) hx; to = hy; apart = λ e. absurd (let u : y ≡ x = e ∙ neg-neg x in omega arith) },
      record { two = two; from = rw (neg-neg y) hy; to = hx; apart = λ e. absurd (let u : x ≡ y = e ∙ neg-neg y in omega arith) },
    )

pub adds_two : (old mid new : List (List ℕ)) (c : List ℕ) (x y : ℕ) → IsNormal c → length c ≡ 2 → x ≡ get_or c 0 x → y ≡ get_or c 1 y → Gains old mid (neg x) y → Gains mid new (neg y) x → Adds old new c
adds_two old mid new c x y n two f s g h =
    let p = pair_both c x y n two f s in
    let x0 : x ≡ get_or c 0 0 = f ∙ get_or_default c 0 x 0 (omega arith) in
    let y1 : y ≡ get_or c 1 0 = s ∙ get_or_default c 1 y 0 (omega arith) in
    record {
      kept = λ a b e. h.kept a b (g.kept a b e);
      come = λ a b e.
          elim (pair_cases c a b e) [
            | inl i ↦ (let u : a ≡ neg x = i.0 ∙ ap neg (sym x0) in let v : b ≡ y = i.1 ∙ sym y1 in rw (u, v) (h.kept (neg x) y g.come))
            | inr i ↦ (let u : a ≡ neg y = i.0 ∙ ap neg (sym y1) in let v : b ≡ x = i.1 ∙ sym x0 in rw (u, v) h.come)
          ];
      only = λ a b e.
          elim (h.only a b e) [
            | inl i ↦
                elim (g.only a b i) [
                  | inl j ↦ inl j
                  | inr j ↦ (let u = j.0 in let v = j.1 in inr (rw (u, v) p.0))
                ]
            | inr i ↦ (let u = i.0 in let v = i.1 in inr (rw (u, v) p.1))
          ];
      small = omega (arith, g.more, h.more);
    }

pub adds_none : (g : List (List ℕ)) (c : List ℕ) → (length c ≡ 2 → ⊥) → Adds g g c
adds_none g c n = record { kept = λ a b e. e; come = λ a b e. absurd (n e.two); only = λ a b e. inl e; small = omega arith }

-- one more clause
pub shows_more : (s : List (Option Stored)) (ids : List ℕ) (i id : ℕ) (g h : List (List ℕ)) → i < length ids → id ≡ get_or ids i id → is_firm (slot s id) ≡ true → Shows s (take i ids) g → Adds g h (slot_lits (slot s id)) → Shows s (take (i + 1) ids) h
shows_more s ids i id g h in' read firm shows adds =
    let at0 : id ≡ get_or ids i 0 = read ∙ get_or_default ids i id 0 in' in
    let l0 : length (take i ids) ≡ i = length-take-le i ids (omega arith) in
    let l1 : length (take (i + 1) ids) ≡ i + 1 = length-take-le (i + 1) ids (omega arith) in
    record {
      sound = λ a b e. elim (adds.only a b e) [ inl x ↦ shows.sound a b x | inr x ↦ (id, record { firm = firm; by = x }) ];
      whole = λ k a b lt y.
          let lt' : k < i + 1 = omega arith in
          let e1 = get_or-take (i + 1) ids k 0 lt' in
          let y' : Says s (get_or ids k 0) a b = rw e1 at y in
          elim (cases_lt k i) [
            | inl less ↦ (let k' : k < length (take i ids) = omega arith in adds.kept a b (shows.whole k a b k' (rw (get_or-take i ids k 0 less) y')))
            | inr ge ↦ (let u : k ≡ i = omega arith in let v : get_or ids k 0 ≡ id = ap (λ (z : ℕ). get_or ids z 0) u ∙ sym at0 in adds.come a b (subst (λ (z : ℕ). IsPairOf (slot_lits (slot s z)) a b) v y'.by))
          ];
      small = omega (arith, shows.small, adds.small);
    }

pub shows_all : (s : List (Option Stored)) (ids : List ℕ) (i : ℕ) (g : List (List ℕ)) → length ids ≤ i → HasEachOnce (firm_at s) ids → Shows s (take i ids) g → IsGraphOf s g
shows_all s ids i g le each h =
    let all : take i ids ≡ ids = take_all i ids le in
    let h' : Shows s ids g = subst (λ (z : List ℕ). Shows s z g) all h in
    record {
      sound = h'.sound;
      whole = λ a b x. (let k = place_of (firm_at s) ids x.0 each x.1.firm in h'.whole k.0 a b k.1 (subst (λ (z : ℕ). Says s z a b) (sym k.2) x.1));
      small = omega (arith, h'.small, count_ids s ids each);
    }

pub same_read : (c : List ℕ) (i x y : ℕ) → i < length c → x ≡ get_or c i x → y ≡ get_or c i y → x ≡ y
same_read c i x y in' f s = f ∙ get_or_default c i x y in' ∙ sym s
