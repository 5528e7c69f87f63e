-- What the walk through all literals finds.
use Rattle.std.proofs.Common.{◌≡◌, ◌≢◌, ℕ, suc, zero, ◌+◌, ◌<◌, ◌≤◌, Bool, List, [], ◌∷◌, length, replicate, inl, inr, refl, sym, ap, ◌∙◌, subst, arith}
use Rattle.std.proofs.lemmas.Bool.{cases_lt}
use Rattle.std.proofs.lemmas.List.{length-replicate, get_or-replicate, get_or_past}
use Rattle.sat_terms.specs.Literal.{IsLiteral}
use Rattle.equiv_subst.specs.declared.walk.Mark.{Mark}
use Rattle.equiv_subst.specs.declared.walk.Mark.TheVariants.{Fresh, Open, Done}
use Rattle.equiv_subst.specs.declared.pairs.Pair.{Pair}
use Rattle.equiv_subst.specs.Implications.{Arc, arcs, size, IsGraph}
use Rattle.firm_terms.specs.Implying.{Leads}
use Rattle.firm_terms.specs.Implying.Leads.{here, more}
use Rattle.equiv_subst.specs.Walk.{Way, mark, IsWay, unseen, Walks, Halted, Explored, Found, start}
use Rattle.equiv_subst.proofs.Leading.{leads_falls}
use Rattle.equiv_subst.proofs.Walking.{weigh_all, sum_upto}

-- what holds when the literals below a code were met
pub record Finding (g : List (List ℕ)) (frozen : ℕ → Bool) (w : Way) (ps : List Pair) (code a b limit : ℕ) : Type 0 where
  pub walks : Walks g frozen w ps
  pub over : length w.roots ≡ 0
  pub met : (l : ℕ) → l < code → IsLiteral l → mark w.marks l ≢ Fresh
  pub spent : b + unseen g w ≡ a + size g
  pub rest : b ≤ limit

all_fresh : (n l : ℕ) → mark (replicate n Fresh) l ≡ Fresh
all_fresh n l =
    elim (cases_lt l n) [
      | inl lt ↦ get_or-replicate n l Fresh Fresh lt
      | inr ge ↦ get_or_past (replicate n Fresh) l Fresh (omega (arith, length-replicate n Fresh))
    ]

upto_from : (g h : List (List ℕ)) (j : ℕ) → ((i : ℕ) → arcs h (j + i) ≡ arcs g i) → sum_upto (λ l. length (arcs h l)) j (length g) ≡ size g
upto_from [] h j e = refl
upto_from (c ∷ g) h j e =
    let z : j + 0 ≡ j = omega arith in
    let a : arcs h j ≡ c = subst (λ (k : ℕ). arcs h k ≡ c) z (e 0) in
    let b = upto_from g h (suc j) (λ i. let y : suc j + i ≡ j + suc i = omega arith in ap (arcs h) y ∙ e (suc i)) in
    let la : length (arcs h j) ≡ length c = ap length a in
    omega arith

upto_one : (n j : ℕ) → sum_upto (λ _. 1) j n ≡ n
upto_one zero j = refl
upto_one (suc n) j = let r = upto_one n (suc j) in omega arith

pub finding_none : (g : List (List ℕ)) (frozen : ℕ → Bool) (w : Way) (ps : List Pair) (a limit : ℕ) → w ≡ start (length g) → ps ≡ [] → a ≤ limit → Finding g frozen w ps 0 a a limit
finding_none g frozen w ps a limit is none rest =
    rw (is, none) (record {
      walks = record {
        way = record {
          size = length-replicate (length g) Fresh;
          here = λ p lt. absurd (omega arith);
          back = λ l p e. absurd (let f : Fresh ≡ Open p = sym (all_fresh (length g) l) ∙ e in cc);
          up = λ i j x lt. absurd (omega arith);
          down = λ i j x lt y. absurd (omega arith);
          waiting = λ r k lt x y. absurd (omega arith);
          seen = λ r p m lt x y z. absurd (omega arith);
          numbered = λ l n e. absurd (let f : Fresh ≡ Done n = sym (all_fresh (length g) l) ∙ e in cc);
          closed = λ l m n e x. absurd (let f : Fresh ≡ Done n = sym (all_fresh (length g) l) ∙ e in cc);
          order = λ r q x lt. absurd (omega arith);
          inside = λ r lt. absurd (omega arith);
          first = λ lt. absurd (omega arith);
          empty = λ e. (refl, refl);
        };
        few = let w1 = weigh_all (λ _. 1) (length g) 0 in let u = upto_one (length g) 0 in let l = length-replicate (length g) Fresh in omega arith;
        within = λ k lt. absurd (omega arith);
        joined = λ k lt. absurd (omega arith);
        fit = λ k lt. absurd (omega arith);
        settled = λ z l m n e x ne. absurd (let f : Fresh ≡ Done n = sym (all_fresh (length g) l) ∙ e in cc);
      };
      over = refl;
      met = λ l lt. absurd (omega arith);
      spent = let w2 = weigh_all (λ l. length (arcs g l)) (length g) 0 in let u = upto_from g g 0 (λ i. let z : 0 + i ≡ i = omega arith in ap (arcs g) z) in omega arith;
      rest = rest;
    })

pub finding_more : (g : List (List ℕ)) (frozen : ℕ → Bool) (w v : Way) (ps qs : List Pair) (code lit a b c limit : ℕ) → lit ≡ code → Finding g frozen w ps code a b limit → Explored g frozen w v qs lit b c limit → Finding g frozen v qs (code + 1) a c limit
finding_more g frozen w v ps qs code lit a b c limit is h e = record {
  walks = e.0.walks;
  over = e.1;
  met = λ l lt x y.
      elim (cases_lt l code) [
        | inl less ↦ h.met l less x (e.0.met l y)
        | inr ge ↦ e.0.own (ap (mark v.marks) (let u : lit ≡ l = omega arith in u) ∙ y)
      ];
  spent = e.0.spent ∙ h.spent;
  rest = e.0.rest;
}

pub finding_same : (g : List (List ℕ)) (frozen : ℕ → Bool) (w : Way) (ps : List Pair) (code a b limit : ℕ) → (IsLiteral code → ⊥) → Finding g frozen w ps code a b limit → Finding g frozen w ps (code + 1) a b limit
finding_same g frozen w ps code a b limit no_lit h = record {
  walks = h.walks;
  over = h.over;
  met = λ l lt x y.
      elim (cases_lt l code) [
        | inl less ↦ h.met l less x y
        | inr ge ↦ no_lit (subst IsLiteral (let u : l ≡ code = omega arith in u) x)
      ];
  spent = h.spent;
  rest = h.rest;
}

pub finding_halted : (g : List (List ℕ)) (frozen : ℕ → Bool) (w : Way) (ps : List Pair) (code a b c limit : ℕ) → Finding g frozen w ps code a b limit → Halted b c (unseen g w) limit → Halted a c (size g) limit
finding_halted g frozen w ps code a b c limit h t = record { full = t.full; some = let s = h.spent in let r = t.some in omega arith }

-- the end of steps to another literal
pub arc_into : (g : List (List ℕ)) (l m : ℕ) → l ≢ m → Leads (Arc g) l m → (b : ℕ) × Arc g b m
arc_into g l _ ne here = absurd (ne refl)
arc_into g l _ ne (more b c x e) = (b, e)

is_done : (g : List (List ℕ)) (w : Way) (l : ℕ) → IsWay g w → length w.roots ≡ 0 → mark w.marks l ≢ Fresh → (n : ℕ) × (mark w.marks l ≡ Done n)
is_done g w l h over met = go (mark w.marks l) refl where
  go : (x : Mark) → mark w.marks l ≡ x → (n : ℕ) × (mark w.marks l ≡ Done n)
  go Fresh e = absurd (met e)
  go (Open p) e = absurd (let a = h.empty over in let b = (h.back l p e).0 in let c = a.0 in omega arith)
  go (Done n) e = (n, e)

pub found : (g : List (List ℕ)) (frozen : ℕ → Bool) (w : Way) (ps : List Pair) (code a b limit : ℕ) → IsGraph g → length g ≤ code → Finding g frozen w ps code a b limit → Found g frozen ps a b limit
found g frozen w ps code a b limit graph all h = record {
  joined = h.walks.joined;
  fit = h.walks.fit;
  settled = λ none l m ne j.
      let al = arc_into g m l (λ e. ne (sym e)) j.1 in
      let am = arc_into g l m ne j.0 in
      let il = graph al.0 l al.1 in
      let im = graph am.0 m am.1 in
      let wl = il.within in
      let wm = im.within in
      let dl = is_done g w l h.walks.way h.over (h.met l (omega arith) il.to) in
      let dm = is_done g w m h.walks.way h.over (h.met m (omega arith) im.to) in
      let P : ℕ → ℕ → Type 0 = λ x k. mark w.marks x ≡ Done k in
      let step : (x y k : ℕ) → P x k → Arc g x y → (n : ℕ) × P y n × (n ≤ k) = λ x y k d e. h.walks.way.closed x y k d e in
      let to = leads_falls (Arc g) P l m dl.0 step dl.1 j.0 in
      let back = leads_falls (Arc g) P m l dm.0 step dm.1 j.1 in
      let s : Done to.0 ≡ Done dm.0 = sym to.1 ∙ dm.1 in
      let u : Done back.0 ≡ Done dl.0 = sym back.1 ∙ dl.1 in
      let s' : to.0 ≡ dm.0 = cc in
      let u' : back.0 ≡ dl.0 = cc in
      let same : dl.0 ≡ dm.0 = (let x = to.2 in let y = back.2 in omega arith) in
      h.walks.settled none l m dl.0 dl.1 (dm.1 ∙ ap Done (sym same)) ne;
  spent = let s = h.spent in omega arith;
  rest = h.rest;
}
