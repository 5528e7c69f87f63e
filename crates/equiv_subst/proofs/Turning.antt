-- What a turn of the walk keeps and uses up.
use Rattle.std.proofs.Common.{◌≡◌, ◌≢◌, ℕ, suc, ◌+◌, ◌-◌, ◌<◌, ◌≤◌, Bool, true, false, eqb, List, [], ◌∷◌, ◌++◌, length, get_or, take, drop, set, inl, inr, refl, sym, ap, ◌∙◌, subst, arith}
use Rattle.std.proofs.lemmas.Bool.{false≢true, cases_eq, cases_lt, false_from_ne_true, or_cases, or_left, eqb-true, eq-eqb}
use Rattle.std.proofs.lemmas.List.{get_or-take, get_or-drop, length-take-le, length-drop, length-append, length-set, length_push, get_or_append_left, get_or-append_right, get_or-set_same, get_or-set_other, get_or_default, get_or_past, take_more, take_rest}
use Rattle.sat_terms.specs.Literal.{has, var_of}
use Rattle.sat_terms.proofs.Members.{has-append_left, has-append_right, has-append_cases}
use Rattle.equiv_subst.specs.declared.walk.Mark.{Mark}
use Rattle.equiv_subst.specs.declared.walk.Mark.TheVariants.{Fresh, Open, Done}
use Rattle.equiv_subst.specs.declared.walk.Root.{Root}
use Rattle.equiv_subst.specs.declared.pairs.Pair.{Pair}
use Rattle.equiv_subst.specs.Implications.{Arc, arcs, IsGraph}
use Rattle.firm_terms.specs.Implying.{Leads}
use Rattle.equiv_subst.specs.Walk.{Way, mark, at, root, no_root, pair, IsWay, Numbers, Marks, OnPath, fresh_weight, weigh, unseen, Merges, meeting, Closes, Looks, AreJoined, AreSettled, AreFit, AreFrom, AreFrozen, Walks, StayMet, Turned, Halted, Exploring}
use Rattle.equiv_subst.specs.Walk.Looks.{fresh_one, open_one, done_one}
use Rattle.equiv_subst.proofs.Leading.{has_place, has_at_place}
use Rattle.equiv_subst.proofs.Walking.{shut, looked_done, looked_open, met, component, to_work, last_root, weigh_met}
use Rattle.equiv_subst.proofs.Pairing.{has_read}

-- one more literal was marked
pub marks_none : (marks : List Mark) (members : List ℕ) (n : ℕ) → Marks marks marks (take 0 members) n
marks_none marks members n = record { size = refl; own = λ l h. absurd (false≢true h); others = λ l h. refl }

pub marks_within : (old now : List Mark) (members : List ℕ) (i n l code : ℕ) → ((k : ℕ) → has members k ≡ true → k < length old) → Marks old now (take i members) n → i < length members → l ≡ get_or members i l → code ≡ l → code < length now
marks_within old now members i n l code within h in' read e =
    let a = within l (has_read members i l in' read) in
    let s = h.size in
    omega arith

pub marks_more : (old now : List Mark) (members : List ℕ) (i n l code : ℕ) → ((k : ℕ) → has members k ≡ true → k < length old) → Marks old now (take i members) n → i < length members → l ≡ get_or members i l → code ≡ l
    → Marks old (set now code (Done n)) (take (i + 1) members) n
marks_more old now members i n l code within h in' read e =
    let lt = marks_within old now members i n l code within h in' read e in
    let at0 : get_or members i 0 ≡ l = sym (read ∙ get_or_default members i l 0 in') in
    let front : take (i + 1) members ≡ take i members ++ l ∷ [] = take_more members i 0 in' ∙ ap (λ (z : ℕ). take i members ++ z ∷ []) at0 in
    record {
      size = length-set now code (Done n) ∙ h.size;
      own = λ k a.
          elim (cases_eq k code) [
            | inl s ↦ ap (mark (set now code (Done n))) s ∙ get_or-set_same now code (Done n) Fresh lt
            | inr ne ↦
                elim (has-append_cases (take i members) (l ∷ []) k (subst (λ (z : List ℕ). has z k ≡ true) front a)) [
                  | inl x ↦ get_or-set_other now code k (Done n) Fresh ne ∙ h.own k x
                  | inr x ↦ absurd (elim (or_cases (eqb l k) false x) [ inl y ↦ ne (sym (e ∙ eqb-true l k y)) | inr y ↦ false≢true y ])
                ]
          ];
      others = λ k a.
          let b : has (take i members ++ l ∷ []) k ≡ false = subst (λ (z : List ℕ). has z k ≡ false) front a in
          let ne : k ≢ code = λ s. false≢true (sym b ∙ has-append_right (take i members) (l ∷ []) k (or_left (eqb l k) false (eq-eqb l k (sym (s ∙ e))))) in
          let out : has (take i members) k ≡ false = false_from_ne_true (has (take i members) k) (λ x. false≢true (sym b ∙ has-append_left (take i members) (l ∷ []) k x)) in
          get_or-set_other now code k (Done n) Fresh ne ∙ h.others k out;
    }

-- the literals of the path from a place on
pub has_drop : (path : List ℕ) (place p : ℕ) → place ≤ p → p < length path → has (drop place path) (at path p) ≡ true
has_drop path place p le lt =
    let s : place + (p - place) ≡ p = omega arith in
    let e : get_or (drop place path) (p - place) 0 ≡ at path p = get_or-drop place path (p - place) 0 ∙ ap (at path) s in
    subst (λ (z : ℕ). has (drop place path) z ≡ true) e (has_at_place (drop place path) (p - place) (omega (arith, length-drop place path)))

pub drop_has : (path : List ℕ) (place l : ℕ) → has (drop place path) l ≡ true → (p : ℕ) × (place ≤ p) × (p < length path) × (at path p ≡ l)
drop_has path place l h =
    let r = has_place (drop place path) l h in
    (place + r.0, omega arith, omega (arith, r.1, length-drop place path), sym (get_or-drop place path r.0 0) ∙ r.2)

marked_within : (marks : List Mark) (l p : ℕ) → mark marks l ≡ Open p → l < length marks
marked_within marks l p h =
    elim (cases_lt l (length marks)) [
      | inl lt ↦ lt
      | inr ge ↦ absurd (let e : Fresh ≡ Open p = sym (get_or_past marks l Fresh ge) ∙ h in cc)
    ]

pub members_within : (marks : List Mark) (path : List ℕ) (place l : ℕ) → OnPath marks path → has (drop place path) l ≡ true → l < length marks
members_within marks path place l h a =
    let r = drop_has path place l a in
    marked_within marks l r.0 (ap (mark marks) (sym r.3) ∙ h.here r.0 r.2)

pub numbers_from : (old new : List Mark) (path : List ℕ) (place n : ℕ) → OnPath old path → Marks old new (drop place path) n → Numbers old new place n
numbers_from old new path place n h m = record {
  size = m.size;
  own = λ l p a b. (let r = h.back l p a in m.own l (subst (λ (z : ℕ). has (drop place path) z ≡ true) r.1 (has_drop path place p b r.0)));
  others = λ l off.
      m.others l (false_from_ne_true (has (drop place path) l) (λ x.
      let r = drop_has path place l x in
      off r.0 (ap (mark old) (sym r.3) ∙ h.here r.0 r.2) r.1));
}

-- the numbering of a component makes nothing fresh, nor the other way round
alike : (old new : List Mark) (place n l k : ℕ) → Numbers old new place n → fresh_weight (mark new l) k ≡ fresh_weight (mark old l) k
alike old new place n l k h = go (mark old l) refl where
  go : (x : Mark) → mark old l ≡ x → fresh_weight (mark new l) k ≡ fresh_weight (mark old l) k
  go Fresh e = ap (λ (z : Mark). fresh_weight z k) (h.others l (λ p a b. let c : Fresh ≡ Open p = sym e ∙ a in cc))
  go (Done j) e = ap (λ (z : Mark). fresh_weight z k) (h.others l (λ p a b. let c : Done j ≡ Open p = sym e ∙ a in cc))
  go (Open q) e =
      elim (cases_lt q place) [
        | inl lt ↦ ap (λ (z : Mark). fresh_weight z k) (h.others l (λ p a b. let c : Open q ≡ Open p = sym e ∙ a in let d : q ≡ p = cc in absurd (omega arith)))
        | inr ge ↦ ap (λ (z : Mark). fresh_weight z k) (h.own l q e ge) ∙ sym (ap (λ (z : Mark). fresh_weight z k) e)
      ]

weigh_alike : (f : ℕ → ℕ) (old new : List Mark) (j : ℕ) → length new ≡ length old → ((l k : ℕ) → fresh_weight (mark new l) k ≡ fresh_weight (mark old l) k) → weigh f new j ≡ weigh f old j
weigh_alike f [] [] j e h = refl
weigh_alike f [] (x ∷ new) j e h = absurd (omega arith)
weigh_alike f (x ∷ old) [] j e h = absurd (omega arith)
weigh_alike f (x ∷ old) (y ∷ new) j e h =
    let a = h 0 (f j) in
    let b = weigh_alike f old new (suc j) (omega arith) (λ l k. h (suc l) k) in
    omega arith

pub numbers_weigh : (f : ℕ → ℕ) (old new : List Mark) (place n : ℕ) → Numbers old new place n → weigh f new 0 ≡ weigh f old 0
numbers_weigh f old new place n h = weigh_alike f old new 0 h.size (λ l k. alike old new place n l k h)

numbers_met : (old new : List Mark) (place n : ℕ) → Numbers old new place n → StayMet old new
numbers_met old new place n h l e = go (mark old l) refl where
  go : (x : Mark) → mark old l ≡ x → mark old l ≡ Fresh
  go Fresh s = s
  go (Done j) s = absurd (let t : Fresh ≡ Done j = sym e ∙ h.others l (λ p a b. let c : Done j ≡ Open p = sym s ∙ a in cc) ∙ s in cc)
  go (Open q) s =
      absurd (elim (cases_lt q place) [
        | inl lt ↦ (let t : Fresh ≡ Open q = sym e ∙ h.others l (λ p a b. let c : Open q ≡ Open p = sym s ∙ a in let d : q ≡ p = cc in absurd (omega arith)) ∙ s in cc)
        | inr ge ↦ (let t : Fresh ≡ Done n = sym e ∙ h.own l q s ge in cc)
      ])

-- the pairs of a closed component
joined_more : (g : List (List ℕ)) (frozen : ℕ → Bool) (w : Way) (t : ℕ) (ps qs : List Pair) → IsWay g w → length w.roots ≡ suc t → AreJoined g ps → AreFrom frozen ps (drop (root w.roots t).place w.path) qs → AreJoined g qs
joined_more g frozen w t ps qs h e old from k lt =
    elim (from k lt) [
      | inl i ↦ (let s = i.1 in rw s (old k i.0))
      | inr i ↦
          (let a = drop_has w.path (root w.roots t).place (pair qs k).lit i.0 in
          let b = drop_has w.path (root w.roots t).place (pair qs k).to i.1 in
          let sa = sym a.3 in
          let sb = sym b.3 in
          rw (sa, sb) (component g w t a.0 b.0 h e a.1 a.2 b.1 b.2, component g w t b.0 a.0 h e b.1 b.2 a.1 a.2))
    ]

fit_more : (frozen : ℕ → Bool) (ps qs : List Pair) (members : List ℕ) → AreFit frozen ps → AreFrom frozen ps members qs → AreFit frozen qs
fit_more frozen ps qs members old from k lt =
    elim (from k lt) [ inl i ↦ (let s = i.1 in rw s (old k i.0)) | inr i ↦ i.2 ]

-- where each mark that is done came from
data WasDone (old new : List Mark) (place n l k : ℕ) : Type 0 where
  before : mark old l ≡ Done k → WasDone old new place n l k
  just_now : (p : ℕ) → mark old l ≡ Open p → place ≤ p → k ≡ n → WasDone old new place n l k

was_done : (old new : List Mark) (place n l k : ℕ) → Numbers old new place n → mark new l ≡ Done k → WasDone old new place n l k
was_done old new place n l k h e = go (mark old l) refl where
  go : (x : Mark) → mark old l ≡ x → WasDone old new place n l k
  go Fresh s = absurd (let t : Done k ≡ Fresh = sym e ∙ h.others l (λ p a b. let c : Fresh ≡ Open p = sym s ∙ a in cc) ∙ s in cc)
  go (Done j) s = before (sym (h.others l (λ p a b. let c : Done j ≡ Open p = sym s ∙ a in cc)) ∙ e)
  go (Open q) s =
      elim (cases_lt q place) [
        | inl lt ↦ absurd (let t : Done k ≡ Open q = sym e ∙ h.others l (λ p a b. let c : Open q ≡ Open p = sym s ∙ a in let d : q ≡ p = cc in absurd (omega arith)) ∙ s in cc)
        | inr ge ↦ just_now q s ge (let t : Done k ≡ Done n = sym e ∙ h.own l q s ge in cc)
      ]

settled_more : (g : List (List ℕ)) (frozen : ℕ → Bool) (w : Way) (marks : List Mark) (place : ℕ) (ps qs : List Pair) → IsWay g w → Numbers w.marks marks place w.count → length ps ≤ length qs
    → AreSettled frozen w.marks ps → (length qs ≡ 0 → AreFrozen frozen (drop place w.path)) → AreSettled frozen marks qs
settled_more g frozen w marks place ps qs h num grown old new e l m n a b ne =
    go (was_done w.marks marks place w.count l n num a) (was_done w.marks marks place w.count m n num b) where
      member : (l p : ℕ) → mark w.marks l ≡ Open p → place ≤ p → has (drop place w.path) l ≡ true
      member l p s ge = let r = h.back l p s in subst (λ (z : ℕ). has (drop place w.path) z ≡ true) r.1 (has_drop w.path place p ge r.0)

      go : WasDone w.marks marks place w.count l n → WasDone w.marks marks place w.count m n → frozen (var_of l) ≡ true
      go (before x) (before y) = old (omega arith) l m n x y ne
      go (before x) (just_now q y z u) = absurd (let v = h.numbered l n x in omega arith)
      go (just_now p x y z) (before u) = absurd (let v = h.numbered m n u in omega arith)
      go (just_now p x y z) (just_now q u v s) = new e l m (member l p x y) (member m q u v) ne

-- what looking at a literal did
mark_read : (marks : List Mark) (m code : ℕ) (x : Mark) → code ≡ m → m < length marks → x ≡ get_or marks code x → mark marks m ≡ x
mark_read marks m code x e in' read =
    let lt : code < length marks = omega arith in
    sym (read ∙ get_or_default marks code x Fresh lt ∙ ap (mark marks) e)

pub looks_open : (g : List (List ℕ)) (w old new : Way) (m d code q : ℕ) (x : Mark) → w ≡ old → m < length old.marks → code ≡ m → x ≡ get_or w.marks code x → x ≡ Open q → Merges w.roots new.roots q (length new.roots)
    → new ≡ record { marks = w.marks; path = w.path; work = take d w.work; roots = new.roots; count = w.count } → Looks g old new m d
looks_open g w old new m d code q x same in' e read is merges now =
    subst (λ (z : Way). Looks g z new m d) same (open_one q (mark_read w.marks m code x e (subst (λ (z : Way). m < length z.marks) (sym same) in') read ∙ is) merges now)

pub looks_done : (g : List (List ℕ)) (w old new : Way) (m d code n : ℕ) (x : Mark) → w ≡ old → m < length old.marks → code ≡ m → x ≡ get_or w.marks code x → x ≡ Done n
    → new ≡ record { marks = w.marks; path = w.path; work = take d w.work; roots = w.roots; count = w.count } → Looks g old new m d
looks_done g w old new m d code n x same in' e read is now =
    subst (λ (z : Way). Looks g z new m d) same (done_one n (mark_read w.marks m code x e (subst (λ (z : Way). m < length z.marks) (sym same) in') read ∙ is) now)

pub looks_fresh : (g : List (List ℕ)) (w old new : Way) (m d code : ℕ) (x : Mark) → w ≡ old → m < length old.marks → code ≡ m → x ≡ get_or w.marks code x → x ≡ Fresh → new ≡ meeting g old m d → Looks g old new m d
looks_fresh g w old new m d code x same in' e read is now =
    fresh_one (subst (λ (z : Way). mark z.marks m ≡ Fresh) same (mark_read w.marks m code x e (subst (λ (z : Way). m < length z.marks) (sym same) in') read ∙ is)) now

-- what closing a component did
pub rest_is : (path line : List ℕ) (place : ℕ) → line ≡ path → take (length line - place) (drop place line) ≡ drop place path
rest_is path line place e = take_rest line place ∙ ap (drop place) e

pub closes : (frozen : ℕ → Bool) (w old new : Way) (ps qs : List Pair) (place : ℕ) (line line' : List ℕ) → w ≡ old → OnPath old.marks old.path → line ≡ w.path → line' ≡ w.path
    → AreFrom frozen ps (take (length line - place) (drop place line)) qs → length ps ≤ length qs → (length qs ≡ 0 → AreFrozen frozen (take (length line - place) (drop place line)))
    → Marks w.marks new.marks (take (length line' - place) (drop place line')) w.count → new.path ≡ take place w.path → new.work ≡ w.work → new.roots ≡ take (length w.roots - 1) w.roots → new.count ≡ w.count + 1
    → Closes frozen old new ps qs place
closes frozen w old new ps qs place line line' same on is is' from grown settled marks path work roots count =
    subst (λ (z : Way). Closes frozen z new ps qs place) same (record {
      marks = numbers_from w.marks new.marks w.path place w.count (subst (λ (z : Way). OnPath z.marks z.path) (sym same) on) (subst (λ (z : List ℕ). Marks w.marks new.marks z w.count) (rest_is w.path line' place is') marks);
      path = path;
      work = work;
      roots = roots;
      count = count;
      from = subst (λ (z : List ℕ). AreFrom frozen ps z qs) (rest_is w.path line place is) from;
      grown = grown;
      settled = λ e. subst (λ (z : List ℕ). AreFrozen frozen z) (rest_is w.path line place is) (settled e);
    })

pub members_of : (w old : Way) (place : ℕ) (line : List ℕ) → w ≡ old → OnPath old.marks old.path → line ≡ w.path → (l : ℕ) → has (take (length line - place) (drop place line)) l ≡ true → l < length w.marks
members_of w old place line same on is l h =
    members_within w.marks w.path place l (subst (λ (z : Way). OnPath z.marks z.path) (sym same) on) (subst (λ (z : List ℕ). has z l ≡ true) (rest_is w.path line place is) h)

way_same : (g : List (List ℕ)) (m : List Mark) (p p' w w' : List ℕ) (r r' : List Root) (c c' : ℕ) → p' ≡ p → w' ≡ w → r' ≡ r → c' ≡ c
    → IsWay g (record { marks = m; path = p; work = w; roots = r; count = c }) → IsWay g (record { marks = m; path = p'; work = w'; roots = r'; count = c' })
way_same g m p p' w w' r r' c c' e f i j h = rw (e, f, i, j) h

-- a closed component
pub turned_close : (g : List (List ℕ)) (frozen : ℕ → Bool) (old new : Way) (ps qs : List Pair) (a limit : ℕ) (top : Root) → Walks g frozen old ps → 0 < length old.roots → top ≡ root old.roots (length old.roots - 1)
    → length old.work ≤ top.work → a ≤ limit → Closes frozen old new ps qs top.place → Turned g frozen old new qs a a limit
turned_close g frozen old new ps qs a limit top h some is all rest c =
    let e : length old.roots ≡ suc (length old.roots - 1) = omega arith in
    let c' : Closes frozen old new ps qs (root old.roots (length old.roots - 1)).place = subst (λ (z : Root). Closes frozen old new ps qs z.place) is c in
    let all' : length old.work ≤ (root old.roots (length old.roots - 1)).work = subst (λ (z : Root). length old.work ≤ z.work) is all in
    go e c' all' where
      go : length old.roots ≡ suc (length old.roots - 1) → Closes frozen old new ps qs (root old.roots (length old.roots - 1)).place → length old.work ≤ (root old.roots (length old.roots - 1)).work → Turned g frozen old new qs a a limit
      go e c all =
          let t : ℕ = length old.roots - 1 in
          let s = shut g old t new.marks h.way e all c.marks in
          let pa = c.path in
          let wo = c.work in
          let ro = c.roots in
          let co = c.count in
          let way : IsWay g new = way_same g new.marks (take (root old.roots t).place old.path) new.path old.work new.work (take t old.roots) new.roots (old.count + 1) new.count pa wo ro co s in
          let tin : t < length old.roots = omega arith in
          let pl = (h.way.inside t tin).0 in
          let lp : length new.path ≡ (root old.roots t).place = ap length pa ∙ length-take-le (root old.roots t).place old.path (omega arith) in
          let lr : length new.roots ≡ t = ap length ro ∙ length-take-le t old.roots (omega arith) in
          let lw : length new.work ≡ length old.work = ap length wo in
          let f1 = numbers_weigh (λ _. 1) old.marks new.marks (root old.roots t).place old.count c.marks in
          let f2 = numbers_weigh (λ l. length (arcs g l)) old.marks new.marks (root old.roots t).place old.count c.marks in
          let sz = c.marks.size in
          let few = h.few in
          record {
            walks = record {
              way = way;
              few = omega arith;
              within = λ k lt. rw wo (h.within k (omega arith));
              joined = joined_more g frozen old t ps qs h.way e h.joined c.from;
              fit = fit_more frozen ps qs (drop (root old.roots t).place old.path) h.fit c.from;
              settled = settled_more g frozen old new.marks (root old.roots t).place ps qs h.way c.marks c.grown h.settled c.settled;
            };
            met = numbers_met old.marks new.marks (root old.roots t).place old.count c.marks;
            spent = omega arith;
            less = omega arith;
            rest = rest;
          }

-- marks before a literal was met
done_before : (marks : List Mark) (m p l n : ℕ) → mark (set marks m (Open p)) l ≡ Done n → mark marks l ≡ Done n
done_before marks m p l n x =
    elim (cases_eq l m) [
      | inl u ↦
          elim (cases_lt m (length marks)) [
            | inl lt ↦ absurd (let v : Open p ≡ Done n = sym (get_or-set_same marks m (Open p) Fresh lt) ∙ ap (mark (set marks m (Open p))) (sym u) ∙ x in cc)
            | inr ge ↦ absurd (let v : Fresh ≡ Done n = sym (get_or_past (set marks m (Open p)) m Fresh (omega (arith, length-set marks m (Open p)))) ∙ ap (mark (set marks m (Open p))) (sym u) ∙ x in cc)
          ]
      | inr ne ↦ sym (get_or-set_other marks m l (Open p) Fresh ne) ∙ x
    ]

fresh_before : (marks : List Mark) (m p l : ℕ) → mark (set marks m (Open p)) l ≡ Fresh → mark marks l ≡ Fresh
fresh_before marks m p l x =
    elim (cases_eq l m) [
      | inl u ↦
          elim (cases_lt m (length marks)) [
            | inl lt ↦ absurd (let v : Open p ≡ Fresh = sym (get_or-set_same marks m (Open p) Fresh lt) ∙ ap (mark (set marks m (Open p))) (sym u) ∙ x in cc)
            | inr ge ↦ get_or_past marks l Fresh (omega arith)
          ]
      | inr ne ↦ sym (get_or-set_other marks m l (Open p) Fresh ne) ∙ x
    ]

walks_met : (g : List (List ℕ)) (frozen : ℕ → Bool) (old : Way) (ps : List Pair) (m d : ℕ) → IsGraph g → Walks g frozen old ps → IsWay g (meeting g old m d) → mark old.marks m ≡ Fresh → m < length g → d ≤ length old.work → Walks g frozen (meeting g old m d) ps
walks_met g frozen old ps m d graph h way q in' le =
    let size = h.way.size in
    let f1 = weigh_met (λ _. 1) old.marks m 0 (Open (length old.path)) q (omega arith) refl in
    let lp = length_push old.path m in
    let sz = length-set old.marks m (Open (length old.path)) in
    let few = h.few in
    record {
      way = way;
      few = omega arith;
      within = work_within;
      joined = h.joined;
      fit = h.fit;
      settled = λ z l x n b c ne. h.settled z l x n (done_before old.marks m (length old.path) l n b) (done_before old.marks m (length old.path) x n c) ne;
    } where
      work_within : (k : ℕ) → k < length (take d old.work ++ arcs g m) → at (take d old.work ++ arcs g m) k < length g
      work_within k lt =
          let ld = length-take-le d old.work le in
          elim (cases_lt k d) [
            | inl less ↦
                (let e : at (take d old.work ++ arcs g m) k ≡ at old.work k = get_or_append_left (take d old.work) (arcs g m) 0 k (omega arith) ∙ get_or-take d old.work k 0 less in
                rw e (h.within k (omega arith)))
            | inr ge ↦
                (let lw = length-append (take d old.work) (arcs g m) in
                let in' : k - d < length (arcs g m) = omega arith in
                let e : at (take d old.work ++ arcs g m) k ≡ at (arcs g m) (k - d) = get_or-append_right (take d old.work) (arcs g m) d k 0 ld ge in
                rw e (graph m (at (arcs g m) (k - d)) (has_at_place (arcs g m) (k - d) in')).within)
          ]

-- a literal was looked at
pub turned_look : (g : List (List ℕ)) (frozen : ℕ → Bool) (old new : Way) (ps : List Pair) (a limit m : ℕ) (top : Root) → IsGraph g → Walks g frozen old ps → 0 < length old.roots → top ≡ root old.roots (length old.roots - 1)
    → top.work < length old.work → a < limit → m ≡ at old.work (length old.work - 1) → Looks g old new m (length old.work - 1) → Turned g frozen old new ps a (a + 1) limit
turned_look g frozen old new ps a limit m top graph h some is wait rest there look =
    go (length old.roots - 1) (length old.work - 1) (omega arith) (omega arith) (subst (λ (z : Root). z.work < length old.work) is wait) there look where
      go : (t d : ℕ) → length old.roots ≡ suc t → length old.work ≡ suc d → (root old.roots t).work < length old.work → m ≡ at old.work d → Looks g old new m d → Turned g frozen old new ps a (a + 1) limit
      go t d e f wait there (fresh_one q s) =
          let within : m < length g = subst (λ (z : ℕ). z < length g) (sym there) (h.within d (omega arith)) in
          let way = met g old m d h.way q within (omega arith)
          (λ i x. subst (λ (z : ℕ). Leads (Arc g) (at old.path i) z) (sym there) (to_work g old t i d h.way e x (omega arith) (omega arith)))
          (λ k x y. let u : k ≡ d = omega arith in ap (at old.work) u ∙ sym there)
          (λ r x. let l = last_root g old r t h.way e x in omega (arith, l.1))
          (λ z. absurd (omega arith)) in
          let size = h.way.size in
          let f1 = weigh_met (λ _. 1) old.marks m 0 (Open (length old.path)) q (omega arith) refl in
          let f2 = weigh_met (λ l. length (arcs g l)) old.marks m 0 (Open (length old.path)) q (omega arith) refl in
          let z : ◌≡◌ {A = ℕ} (0 + m) m = omega arith in
          let f2' : weigh (λ l. length (arcs g l)) (set old.marks m (Open (length old.path))) 0 + length (arcs g m) ≡ weigh (λ l. length (arcs g l)) old.marks 0 = subst (λ (x : ℕ). weigh (λ l. length (arcs g l)) (set old.marks m (Open (length old.path))) 0 + length (arcs g x) ≡ weigh (λ l. length (arcs g l)) old.marks 0) z f2 in
          let lp = length_push old.path m in
          let lr = length_push old.roots (record { place = length old.path; work = d }) in
          let lw = length-append (take d old.work) (arcs g m) in
          let ld = length-take-le d old.work (omega arith) in
          let sz = length-set old.marks m (Open (length old.path)) in
          let few = h.few in
          rw s (record {
            walks = walks_met g frozen old ps m d graph h way q within (omega arith);
            met = λ l x. fresh_before old.marks m (length old.path) l x;
            spent = omega arith;
            less = omega arith;
            rest = omega arith;
          })
      go t d e f wait there (open_one q b merges s) =
          let n : ℕ = length new.roots in
          let kept = merges.kept in
          let few = merges.few in
          let last : n ≡ 0 → ⊥ = λ z. absurd (let i = h.way.first (omega arith) in let hi = merges.high 0 (omega arith) (omega arith) in omega arith) in
          let way = looked_open g old t d m q n h.way e f (omega arith) (sym there) b (omega arith) merges.few
          (λ r x. let lo = merges.low (omega arith) in let tin : n - 1 < length old.roots = omega arith in
          elim (cases_eq r (n - 1)) [
            | inl u ↦ (let v : (root old.roots r).place ≡ (root old.roots (n - 1)).place = ap (λ (z : ℕ). (root old.roots z).place) u in omega arith)
            | inr ne ↦ (let o = h.way.order r (n - 1) (omega arith) tin in omega (arith, o.0))
          ])
          merges.high in
          let ld = length-take-le d old.work (omega arith) in
          let few' = h.few in
          rw s (record {
            walks = record {
              way = way_same g old.marks old.path old.path (take d old.work) (take d old.work) (take n old.roots) new.roots old.count old.count refl refl kept refl way;
              few = few';
              within = λ k lt. rw (get_or-take d old.work k 0 (omega arith)) (h.within k (omega arith));
              joined = h.joined;
              fit = h.fit;
              settled = h.settled;
            };
            met = λ l x. x;
            spent = omega arith;
            less = omega arith;
            rest = omega arith;
          })
      go t d e f wait there (done_one n b s) =
          let way = looked_done g old t d m n h.way e f (omega arith) (sym there) b in
          let ld = length-take-le d old.work (omega arith) in
          let few' = h.few in
          rw s (record {
            walks = record {
              way = way;
              few = few';
              within = λ k lt. rw (get_or-take d old.work k 0 (omega arith)) (h.within k (omega arith));
              joined = h.joined;
              fit = h.fit;
              settled = h.settled;
            };
            met = λ l x. x;
            spent = omega arith;
            less = omega arith;
            rest = omega arith;
          })

-- the last root, and the last literal that waits, as the code reads them
pub top_read : (w old : Way) (n : ℕ) (x : Root) → w ≡ old → n ≡ length w.roots → 0 < length old.roots → x ≡ get_or w.roots (n - 1) x → x ≡ root old.roots (length old.roots - 1)
top_read w old n x same e some read =
    let some' : 0 < length w.roots = subst (λ (z : Way). 0 < length z.roots) (sym same) some in
    let lt : n - 1 < length w.roots = omega arith in
    let is : x ≡ root w.roots (length w.roots - 1) = read ∙ get_or_default w.roots (n - 1) x no_root lt ∙ ap (λ (z : ℕ). root w.roots (z - 1)) e in
    subst (λ (z : Way). x ≡ root z.roots (length z.roots - 1)) same is

pub lit_read : (w old : Way) (n x : ℕ) → w ≡ old → n ≡ length w.work → 0 < n → x ≡ get_or w.work (n - 1) x → x ≡ at old.work (length old.work - 1)
lit_read w old n x same e some read =
    let lt : n - 1 < length w.work = omega arith in
    let is : x ≡ at w.work (length w.work - 1) = read ∙ get_or_default w.work (n - 1) x 0 lt ∙ ap (λ (z : ℕ). at w.work (z - 1)) e in
    subst (λ (z : Way). x ≡ at z.work (length z.work - 1)) same is

-- a walk begins at a fresh literal
pub exploring_met : (g : List (List ℕ)) (frozen : ℕ → Bool) (old : Way) (ps : List Pair) (m a limit : ℕ) → IsGraph g → Walks g frozen old ps → length old.roots ≡ 0 → mark old.marks m ≡ Fresh → m < length g → a ≤ limit
    → Exploring g frozen old (meeting g old m 0) ps m a a limit
exploring_met g frozen old ps m a limit graph h none q in' rest =
    let empty = h.way.empty none in
    let size = h.way.size in
    let way = met g old m 0 h.way q in' (omega arith) (λ i x. absurd (let e = empty.0 in omega arith)) (λ k x y. absurd (let e = empty.1 in omega arith)) (λ r x. absurd (omega arith)) (λ z. refl) in
    let f2 = weigh_met (λ l. length (arcs g l)) old.marks m 0 (Open (length old.path)) q (omega arith) refl in
    let z : ◌≡◌ {A = ℕ} (0 + m) m = omega arith in
    let f2' : weigh (λ l. length (arcs g l)) (set old.marks m (Open (length old.path))) 0 + length (arcs g m) ≡ weigh (λ l. length (arcs g l)) old.marks 0 = subst (λ (x : ℕ). weigh (λ l. length (arcs g l)) (set old.marks m (Open (length old.path))) 0 + length (arcs g x) ≡ weigh (λ l. length (arcs g l)) old.marks 0) z f2 in
    let lw = length-append (take 0 old.work) (arcs g m) in
    let l0 = length-take-le 0 old.work (omega arith) in
    let e1 = empty.1 in
    record {
      walks = walks_met g frozen old ps m 0 graph h way q in' (omega arith);
      met = λ l x. fresh_before old.marks m (length old.path) l x;
      own = λ x. (let v : Open (length old.path) ≡ Fresh = sym (get_or-set_same old.marks m (Open (length old.path)) Fresh (omega arith)) ∙ x in cc);
      spent = omega arith;
      rest = rest;
    }

pub exploring_none : (g : List (List ℕ)) (frozen : ℕ → Bool) (old : Way) (ps : List Pair) (m a limit : ℕ) → Walks g frozen old ps → (mark old.marks m ≡ Fresh → ⊥) → a ≤ limit → Exploring g frozen old old ps m a a limit
exploring_none g frozen old ps m a limit h n rest = record { walks = h; met = λ l x. x; own = n; spent = refl; rest = rest }

pub exploring_more : (g : List (List ℕ)) (frozen : ℕ → Bool) (old now new : Way) (ps qs : List Pair) (m a b c limit : ℕ) → Exploring g frozen old now ps m a b limit → Turned g frozen now new qs b c limit → Exploring g frozen old new qs m a c limit
exploring_more g frozen old now new ps qs m a b c limit h t = record {
  walks = t.walks;
  met = λ l x. h.met l (t.met l x);
  own = λ x. h.own (t.met m x);
  spent = t.spent ∙ h.spent;
  rest = t.rest;
}

pub halted_more : (g : List (List ℕ)) (frozen : ℕ → Bool) (old now : Way) (ps : List Pair) (m a b c limit : ℕ) → Exploring g frozen old now ps m a b limit → Halted b c (unseen g now) limit → Halted a c (unseen g old) limit
halted_more g frozen old now ps m a b c limit h t = record { full = t.full; some = let s = h.spent in let r = t.some in omega arith }
