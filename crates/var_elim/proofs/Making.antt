-- What a trial of a variable shows, once its pairs were looked at.
use Rattle.std.proofs.Common.{◌≡◌, ℕ, suc, zero, ◌+◌, ◌*◌, ◌<◌, ◌≤◌, Bool, true, false, cond, not, ◌&&◌, eqb, List, [], ◌∷◌, ◌++◌, map, length, ◌⊎◌, inl, inr, refl, sym, ap, ◌∙◌, subst, arith, Option, nat_le, nat_lt}
use Rattle.std.specs.List.{list_any, list_all, filter}
use Rattle.std.proofs.lemmas.Bool.{cases_Bool, false≢true, false_from_ne_true, or_cases, or_left, or_right, and_parts, and_from, and_left, and_right, eq-eqb, eqb-true, le-leb, lt-leb, leb-true}
use Rattle.std.proofs.lemmas.List.{length-map}
use Rattle.sat_terms.specs.Literal.{has, neg}
use Rattle.sat_terms.specs.Normal.{IsNormal}
use Rattle.normal_form.specs.Forms.{IsFormOf}
use Rattle.clause_store.specs.Stored.{Stored}
use Rattle.clause_store.specs.Listing.{HasEachOnce, holds_at}
use Rattle.firm_terms.specs.Firm.{firm, Holds}
use Rattle.firm_terms.specs.Resolving.{holding, resolvent, is_tautology, distinct, row, resolvents, is_unit, is_short, could_be, candidate_of}
use Rattle.firm_terms.proofs.Resolving.{any_some, resolvent_of, normal_apart}
use Rattle.var_elim.specs.declared.test.Work.{Work}
use Rattle.var_elim.specs.declared.test.Outcome.{Outcome}
use Rattle.var_elim.specs.declared.test.Outcome.TheVariants.{Fits, Fails, Spent}
use Rattle.var_elim.specs.Testing.{lits_at, AreForms, TooMuch, Looked, candidate_at, clause_at, Resolvents, Judged}
use Rattle.var_elim.proofs.Ordering.{candidate_same}
use Rattle.var_elim.proofs.Occurring.{occ_sums, all_hold, hold_all}
use Rattle.var_elim.proofs.Forms.{distinct_same}

-- a normal form tells that there is no tautology
pub form_clear : (form r : List ℕ) → IsFormOf form r → is_tautology r ≡ false
form_clear form r h =
    false_from_ne_true (is_tautology r) (λ t.
    let l = any_some _ r t in
    false≢true (sym (normal_apart form h.normal l.0 (h.same l.0 ∙ l.1)) ∙ h.same (neg l.0) ∙ l.2))

-- whether a variable is a candidate, from the parts of the test
is_candidate : (x : ℕ) (ps ns : List (List ℕ)) → could_be ps ns ≡ true → length (resolvents x ps ns) ≤ length ps + length ns → list_all is_short (resolvents x ps ns) ≡ true → candidate_of x ps ns ≡ true
unfolding candidate_of
is_candidate x ps ns a b c =
    and_from (could_be ps ns && nat_le (length (resolvents x ps ns)) (length ps + length ns)) (list_all is_short (resolvents x ps ns))
    (and_from (could_be ps ns) (nat_le (length (resolvents x ps ns)) (length ps + length ns)) a (le-leb (length (resolvents x ps ns)) (length ps + length ns) b)) c

no_candidate : (x : ℕ) (ps ns : List (List ℕ)) → (could_be ps ns ≡ false) ⊎ TooMuch (length ps + length ns) 0 (resolvents x ps ns) → candidate_of x ps ns ≡ false
unfolding candidate_of
no_candidate x ps ns (inl a) =
    and_left (could_be ps ns && nat_le (length (resolvents x ps ns)) (length ps + length ns)) (list_all is_short (resolvents x ps ns))
    (and_left (could_be ps ns) (nat_le (length (resolvents x ps ns)) (length ps + length ns)) a)
no_candidate x ps ns (inr (inl b)) =
    and_left (could_be ps ns && nat_le (length (resolvents x ps ns)) (length ps + length ns)) (list_all is_short (resolvents x ps ns))
    (and_right (could_be ps ns) (nat_le (length (resolvents x ps ns)) (length ps + length ns)) (lt-leb (length (resolvents x ps ns)) (length ps + length ns) (omega arith)))
no_candidate x ps ns (inr (inr c)) =
    and_right (could_be ps ns && nat_le (length (resolvents x ps ns)) (length ps + length ns)) (list_all is_short (resolvents x ps ns)) c

few_pairs : (ps ns : List (List ℕ)) → could_be ps ns ≡ true → length ps * length ns ≤ 400
few_pairs ps ns h =
    leb-true (length ps * length ns) 400 (and_parts (nat_lt 0 (length ps + length ns) && not (list_any is_unit ps) && not (list_any is_unit ns)) (nat_le (length ps * length ns) 400) h).1

-- which pairs a row and a square have
abbrev Among : List ℕ → List (List ℕ) → Type 0
Among r rs = (j : ℕ) × ((j < length rs) × (clause_at rs j ≡ r))

among_left : (r : List ℕ) (a b : List (List ℕ)) → Among r a → Among r (a ++ b)
among_left r [] b h = absurd (let z = h.1.0 in omega arith)
among_left r (x ∷ a) b (zero, h) = (0, (omega arith, h.1))
among_left r (x ∷ a) b (suc j, h) =
    let q = among_left r a b (j, (let z = h.0 in omega arith, h.1)) in
    (suc q.0, (let z = q.1.0 in omega arith, q.1.1))

among_right : (r : List ℕ) (a b : List (List ℕ)) → Among r b → Among r (a ++ b)
among_right r [] b h = h
among_right r (x ∷ a) b h = let q = among_right r a b h in (suc q.0, (let z = q.1.0 in omega arith, q.1.1))

at_append : (a b : List (List ℕ)) (j : ℕ) → j < length (a ++ b) → ((j < length a) × (clause_at (a ++ b) j ≡ clause_at a j)) ⊎ ((i : ℕ) × ((i < length b) × (clause_at (a ++ b) j ≡ clause_at b i)))
at_append [] b j h = inr (j, (h, refl))
at_append (x ∷ a) b zero h = inl (omega arith, refl)
at_append (x ∷ a) b (suc j) h =
    elim (at_append a b j (omega arith)) [ inl q ↦ inl (let z = q.0 in omega arith, q.1) | inr q ↦ inr q ]

abbrev made : List (Option Stored) → ℕ → ℕ → ℕ → List ℕ
made s x k m = distinct (resolvent x (lits_at s k) (lits_at s m))

abbrev is_clash : List (Option Stored) → ℕ → ℕ → ℕ → Bool
is_clash s x k m = is_tautology (resolvent x (lits_at s k) (lits_at s m))

row_covered : (s : List (Option Stored)) (x k m : ℕ) (ms : List ℕ) → has ms m ≡ true → (is_clash s x k m ≡ true) ⊎ Among (made s x k m) (row x (lits_at s k) (map (lits_at s) ms))
row_covered s x k m [] h = absurd (false≢true h)
row_covered s x k m (i ∷ ms) h =
    elim (cases_Bool (is_clash s x k m)) [
      | inl c ↦ inl c
      | inr c ↦
          inr (elim (or_cases (eqb i m) (has ms m) h) [
            | inl e ↦ (let d : is_clash s x k i ≡ false = rw (eqb-true i m e) c in rw d (0, (omega arith, rw (eqb-true i m e) refl)))
            | inr r ↦ later (is_clash s x k i) (elim (row_covered s x k m ms r) [ inl a ↦ absurd (false≢true (sym c ∙ a)) | inr a ↦ a ])
          ])
    ] where
      later : (b : Bool) → Among (made s x k m) (row x (lits_at s k) (map (lits_at s) ms))
          → Among (made s x k m) (map (λ d. distinct (resolvent x (lits_at s k) d)) (cond (not b) (lits_at s i ∷ filter (λ d. not (is_tautology (resolvent x (lits_at s k) d))) (map (lits_at s) ms)) (filter (λ d. not (is_tautology (resolvent x (lits_at s k) d))) (map (lits_at s) ms))))
      later true a = a
      later false a = (suc a.0, (let z = a.1.0 in omega arith, a.1.1))

row_sound : (s : List (Option Stored)) (x k j : ℕ) (ms : List ℕ) → j < length (row x (lits_at s k) (map (lits_at s) ms))
    → (m : ℕ) × ((has ms m ≡ true) × (clause_at (row x (lits_at s k) (map (lits_at s) ms)) j ≡ made s x k m))
row_sound s x k j [] h = absurd (omega arith)
row_sound s x k j (i ∷ ms) h =
    elim (cases_Bool (is_clash s x k i)) [
      | inl c ↦ (let r = row_sound s x k j ms (rw c at h) in (r.0, (or_right (eqb i r.0) (has ms r.0) r.1.0, rw c r.1.1)))
      | inr c ↦ first j (λ i lt. row_sound s x k i ms lt) c (rw c at h)
    ] where
      first : (j : ℕ) → ((i : ℕ) → i < length (row x (lits_at s k) (map (lits_at s) ms)) → (m : ℕ) × ((has ms m ≡ true) × (clause_at (row x (lits_at s k) (map (lits_at s) ms)) i ≡ made s x k m))) → is_clash s x k i ≡ false → j < suc (length (row x (lits_at s k) (map (lits_at s) ms)))
          → (m : ℕ) × ((has (i ∷ ms) m ≡ true) × (clause_at (row x (lits_at s k) (map (lits_at s) (i ∷ ms))) j ≡ made s x k m))
      first zero rec c h = (i, (or_left (eqb i i) (has ms i) (eq-eqb i i refl), rw c refl))
      first (suc j) rec c h = let r = rec j (omega arith) in (r.0, (or_right (eqb i r.0) (has ms r.0) r.1.0, rw c r.1.1))

square_covered : (s : List (Option Stored)) (x k m : ℕ) (ks ms : List ℕ) → has ks k ≡ true → has ms m ≡ true
    → (is_clash s x k m ≡ true) ⊎ Among (made s x k m) (resolvents x (map (lits_at s) ks) (map (lits_at s) ms))
square_covered s x k m [] ms a b = absurd (false≢true a)
square_covered s x k m (i ∷ ks) ms a b =
    elim (or_cases (eqb i k) (has ks k) a) [
      | inl e ↦
          elim (row_covered s x k m ms b) [
            | inl c ↦ inl c
            | inr c ↦ inr (among_left (made s x k m) (row x (lits_at s i) (map (lits_at s) ms)) (resolvents x (map (lits_at s) ks) (map (lits_at s) ms)) (rw (eqb-true i k e) c))
          ]
      | inr r ↦
          elim (square_covered s x k m ks ms r b) [
            | inl c ↦ inl c
            | inr c ↦ inr (among_right (made s x k m) (row x (lits_at s i) (map (lits_at s) ms)) (resolvents x (map (lits_at s) ks) (map (lits_at s) ms)) c)
          ]
    ]

square_sound : (s : List (Option Stored)) (x j : ℕ) (ks ms : List ℕ) → j < length (resolvents x (map (lits_at s) ks) (map (lits_at s) ms))
    → (k : ℕ) × ((m : ℕ) × ((has ks k ≡ true) × (has ms m ≡ true) × (clause_at (resolvents x (map (lits_at s) ks) (map (lits_at s) ms)) j ≡ made s x k m)))
square_sound s x j [] ms h = absurd (omega arith)
square_sound s x j (i ∷ ks) ms h =
    elim (at_append (row x (lits_at s i) (map (lits_at s) ms)) (resolvents x (map (lits_at s) ks) (map (lits_at s) ms)) j h) [
      | inl q ↦ (let r = row_sound s x i j ms q.0 in (i, (r.0, (or_left (eqb i i) (has ks i) (eq-eqb i i refl), r.1.0, q.1 ∙ r.1.1))))
      | inr q ↦ (let r = square_sound s x q.0 ks ms q.1.0 in (r.0, (r.1.0, (or_right (eqb i r.0) (has ks r.0) r.1.1.0, r.1.1.1, q.1.1 ∙ r.1.1.2))))
    ]

-- lists of forms, place by place
forms_length : (cs rs : List (List ℕ)) → AreForms cs rs → length cs ≡ length rs
forms_length [] [] h = refl
forms_length [] (r ∷ rs) h = absurd h
forms_length (c ∷ cs) [] h = absurd h
forms_length (c ∷ cs) (r ∷ rs) h = let e = forms_length cs rs h.1 in omega arith

forms_at : (cs rs : List (List ℕ)) (j : ℕ) → AreForms cs rs → j < length cs → IsFormOf (clause_at cs j) (clause_at rs j)
forms_at [] [] j h lt = absurd (omega arith)
forms_at [] (r ∷ rs) j h lt = absurd h
forms_at (c ∷ cs) [] j h lt = absurd h
forms_at (c ∷ cs) (r ∷ rs) zero h lt = h.0
forms_at (c ∷ cs) (r ∷ rs) (suc j) h lt = forms_at cs rs j h.1 (omega arith)

undistinct : (form c : List ℕ) → IsFormOf form (distinct c) → IsFormOf form c
undistinct form c h = record { normal = h.normal; same = λ l. h.same l ∙ distinct_same c l }

-- the resolvent of two normal clauses holds neither literal of its variable
resolvent_free : (x : ℕ) (c d : List ℕ) → IsNormal c → IsNormal d → has c x ≡ true → has d (neg x) ≡ true → (has (resolvent x c d) x ≡ false) × (has (resolvent x c d) (neg x) ≡ false)
resolvent_free x c d nc nd hc hd = (
  false_from_ne_true (has (resolvent x c d) x) (λ h. elim (resolvent_of x c d x h) [ inl i ↦ i.1 refl | inr i ↦ false≢true (sym (normal_apart d nd x i.0) ∙ hd) ]),
  false_from_ne_true (has (resolvent x c d) (neg x)) (λ h. elim (resolvent_of x c d (neg x) h) [ inl i ↦ false≢true (sym (normal_apart c nc x hc) ∙ i.0) | inr i ↦ i.1 refl ]),
)

module _ (s : List (Option Stored)) (x : ℕ) (ks ms : List ℕ) (ek : HasEachOnce (holds_at s x) ks) (em : HasEachOnce (holds_at s (neg x)) ms) where
  by_ids : candidate_of x (map (lits_at s) ks) (map (lits_at s) ms) ≡ candidate_at (firm s) x
  by_ids = candidate_same x (map (lits_at s) ks) (holding x (firm s)) (map (lits_at s) ms) (holding (neg x) (firm s)) (occ_sums s x ks ek) (occ_sums s (neg x) ms em)

  -- the test ends before a pair is resolved
  pub judged_early : (rest : ℕ) (rs : List (List ℕ)) → could_be (map (lits_at s) ks) (map (lits_at s) ms) ≡ false → Judged s x rest 0 rs Fails
  judged_early rest rs h = (sym by_ids ∙ no_candidate x (map (lits_at s) ks) (map (lits_at s) ms) (inl h), omega arith, omega arith)

  module _ (normal : (id : ℕ) → IsNormal (lits_at s id)) (out : List (List ℕ)) (forms : AreForms out (resolvents x (map (lits_at s) ks) (map (lits_at s) ms))) where
    all : List (List ℕ)
    all = resolvents x (map (lits_at s) ks) (map (lits_at s) ms)

    found : (j : ℕ) → j < length out → (k : ℕ) × (m : ℕ) × Holds s k x × Holds s m (neg x) × IsFormOf (clause_at out j) (resolvent x (lits_at s k) (lits_at s m))
    found j in' =
        let l = forms_length out (resolvents x (map (lits_at s) ks) (map (lits_at s) ms)) forms in
        let r = square_sound s x j ks ms (omega arith) in
        let f = forms_at out (resolvents x (map (lits_at s) ks) (map (lits_at s) ms)) j forms in' in (
          r.0,
          r.1.0,
          all_hold s x ks ek r.0 r.1.1.0,
          all_hold s (neg x) ms em r.1.0 r.1.1.1,
          undistinct (clause_at out j) (resolvent x (lits_at s r.0) (lits_at s r.1.0)) (subst (λ (z : List ℕ). IsFormOf (clause_at out j) z) r.1.1.2 f),
        )

    resolvents_made : Resolvents s x out
    resolvents_made = record {
      covered = λ k m hk hm.
          elim (square_covered s x k m ks ms (hold_all s x ks k ek hk) (hold_all s (neg x) ms m em hm)) [
            | inl c ↦ inl c
            | inr a ↦
                (let l = forms_length out (resolvents x (map (lits_at s) ks) (map (lits_at s) ms)) forms in
                let lt = a.1.0 in
                let in' : a.0 < length out = omega arith in
                let f = forms_at out (resolvents x (map (lits_at s) ks) (map (lits_at s) ms)) a.0 forms in' in
                inr (a.0, in', undistinct (clause_at out a.0) (resolvent x (lits_at s k) (lits_at s m)) (subst (λ (z : List ℕ). IsFormOf (clause_at out a.0) z) a.1.1 f)))
          ];
      sound = found;
      free = λ j in'.
          let r = found j in' in
          let f = resolvent_free x (lits_at s r.0) (lits_at s r.1) (normal r.0) (normal r.1) r.2.has r.3.has in
          (r.4.same x ∙ f.0, r.4.same (neg x) ∙ f.1);
    }

  -- the test went through the pairs
  module _ (normal : (id : ℕ) → IsNormal (lits_at s id)) (rest : ℕ) (old new : Work) (zero' : old.pairs ≡ 0) (empty : old.resolvents.items ≡ [])
      (could : could_be (map (lits_at s) ks) (map (lits_at s) ms) ≡ true) where
    small : length ks * length ms ≤ 400
    small = rw (length-map ks (lits_at s), length-map ms (lits_at s)) at (few_pairs (map (lits_at s) ks) (map (lits_at s) ms) could)

    pub judged : (o : Outcome) → Looked old new (resolvents x (map (lits_at s) ks) (map (lits_at s) ms)) (length ks * length ms) (length ks + length ms) rest o → Judged s x rest new.pairs new.resolvents.items o
    judged Fits h =
        let lk = length-map ks (lits_at s) in
        let lm = length-map ms (lits_at s) in
        let le = ap length empty in
        let long = h.longer in
        let few = h.few in
        let forms : AreForms new.resolvents.items (resolvents x (map (lits_at s) ks) (map (lits_at s) ms)) = h.grows.forms [] (rw empty tt) in
        let p = h.pairs in
        let w = h.within in (
          sym by_ids ∙ is_candidate x (map (lits_at s) ks) (map (lits_at s) ms) could (omega arith) h.short,
          (resolvents_made normal new.resolvents.items forms),
          omega (arith, p, small, zero'),
          w,
        )
    judged Fails h =
        let lk = length-map ks (lits_at s) in
        let lm = length-map ms (lits_at s) in
        let le = ap length empty in
        let p = h.pairs in
        let w = h.within in (
          sym by_ids ∙ no_candidate x (map (lits_at s) ks) (map (lits_at s) ms) (inr (elim h.much [ inl a ↦ inl (omega arith) | inr b ↦ inr b ])),
          omega (arith, p, small, zero'),
          w,
        )
    judged Spent h =
        let p = h.full in
        let q = h.left in
        (p, omega (arith, q, small, zero'))
