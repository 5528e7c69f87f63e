-- What becomes of pairs of clauses, one part after another.
use Rattle.std.proofs.Common.{◌≡◌, ℕ, suc, zero, ◌+◌, ◌<◌, ◌≤◌, true, false, List, [], ◌∷◌, ◌++◌, map, length, get_or, take, drop, inl, inr, refl, sym, ap, ◌∙◌, arith, Option}
use Rattle.std.specs.List.{list_any, list_all}
use Rattle.std.proofs.lemmas.Bool.{cases_Bool, le-leb, lt-leb, and_from, and_left, and_right, or_left, or_right, eq-eqb}
use Rattle.std.proofs.lemmas.List.{length-append, append-nil, append_assoc}
use Rattle.std.proofs.lemmas.List.Folds.{list_all-append}
use Rattle.normal_form.specs.Forms.{IsFormOf}
use Rattle.firm_terms.specs.Resolving.{resolvent, is_tautology, distinct, row, resolvents, is_unit, is_short}
use Rattle.var_elim.specs.declared.test.Work.{Work}
use Rattle.var_elim.specs.Testing.{lits_at, Passed, Failed, RanOut}
use Rattle.var_elim.proofs.Forms.{form_length, form_distinct, grows_none, grows_one, grows_both}
use Rattle.clause_store.specs.Stored.{Stored}

-- nothing was looked at
pub passed_none : (w : Work) (most rest : ℕ) → w.pairs ≤ rest → length w.resolvents.items ≤ most → Passed w w [] 0 most rest
passed_none w most rest le few = record {
  pairs = omega arith;
  within = le;
  grows = grows_none w.resolvents.items;
  longer = omega arith;
  few = few;
  short = refl;
}

-- a row of one pair
row_clash : (x : ℕ) (c d : List ℕ) → is_tautology (resolvent x c d) ≡ true → row x c (d ∷ []) ≡ []
row_clash x c d h = rw h refl

row_clear : (x : ℕ) (c d : List ℕ) → is_tautology (resolvent x c d) ≡ false → row x c (d ∷ []) ≡ distinct (resolvent x c d) ∷ []
row_clear x c d h = rw h refl

module _ (old new : Work) (x : ℕ) (c d : List ℕ) (most rest : ℕ) (pairs : new.pairs ≡ old.pairs + 1) (within : new.pairs ≤ rest) where
  pub pair_tautology : is_tautology (resolvent x c d) ≡ true → new.resolvents.items ≡ old.resolvents.items → length old.resolvents.items ≤ most → Passed old new (row x c (d ∷ [])) 1 most rest
  pair_tautology h same few = rw (row_clash x c d h) (record {
    pairs = pairs;
    within = within;
    grows = rw same (grows_none old.resolvents.items);
    longer = rw same (omega arith);
    few = rw same few;
    short = refl;
  })

  module _ (form : List ℕ) (clear : is_tautology (resolvent x c d) ≡ false) (of : IsFormOf form (resolvent x c d)) where
    pub pair_clear : new.resolvents.items ≡ old.resolvents.items ++ form ∷ [] → length old.resolvents.items < most → length form ≤ 100 → Passed old new (row x c (d ∷ [])) 1 most rest
    pair_clear more few short =
        let long : length new.resolvents.items ≡ length old.resolvents.items + 1 = ap length more ∙ length-append old.resolvents.items (form ∷ []) in
        let e = form_length form (resolvent x c d) of in
        rw (row_clear x c d clear) (record {
          pairs = pairs;
          within = within;
          grows = rw more (grows_one old.resolvents.items form (distinct (resolvent x c d)) (form_distinct form (resolvent x c d) of));
          longer = long;
          few = omega arith;
          short = and_from (is_short (distinct (resolvent x c d))) true (le-leb (length (distinct (resolvent x c d))) 100 (omega arith)) refl;
        })

    pub pair_many : most ≤ length old.resolvents.items → Failed old new (row x c (d ∷ [])) 1 most rest
    pair_many le = rw (row_clear x c d clear) (record {
      pairs = omega arith;
      within = within;
      much = inl (omega arith);
    })

    pub pair_long : 100 < length form → Failed old new (row x c (d ∷ [])) 1 most rest
    pair_long lt =
        let e = form_length form (resolvent x c d) of in
        rw (row_clear x c d clear) (record {
          pairs = omega arith;
          within = within;
          much = inr (and_left (is_short (distinct (resolvent x c d))) true (lt-leb (length (distinct (resolvent x c d))) 100 (omega arith)));
        })

-- one part after another
module _ (old mid new : Work) (a b : List (List ℕ)) (p q most rest : ℕ) (h : Passed old mid a p most rest) where
  pub passed_more : (rs : List (List ℕ)) (n : ℕ) → rs ≡ a ++ b → n ≡ p + q → Passed mid new b q most rest → Passed old new rs n most rest
  passed_more rs n e m k =
      let l = length-append a b in
      rw (e, m) (record {
        pairs = let u = k.pairs in let v = h.pairs in omega (arith, u, v);
        within = k.within;
        grows = grows_both old.resolvents.items mid.resolvents.items new.resolvents.items a b h.grows k.grows;
        longer = let u = k.longer in let v = h.longer in omega (arith, u, v, l);
        few = k.few;
        short = list_all-append is_short a b ∙ and_from (list_all is_short a) (list_all is_short b) h.short k.short;
      })

  pub failed_more : (rs c : List (List ℕ)) (n : ℕ) → rs ≡ a ++ (b ++ c) → p + q ≤ n → Failed mid new b q most rest → Failed old new rs n most rest
  failed_more rs c n e m k =
      let l = length-append a (b ++ c) in
      let l' = length-append b c in
      rw e (record {
        pairs = let u = k.pairs in let v = h.pairs in omega (arith, u, v, m);
        within = k.within;
        much = elim k.much [
          | inl lt ↦ inl (let v = h.longer in omega (arith, lt, v, l, l'))
          | inr s ↦ inr (list_all-append is_short a (b ++ c) ∙ and_right (list_all is_short a) (list_all is_short (b ++ c)) (list_all-append is_short b c ∙ and_left (list_all is_short b) (list_all is_short c) s))
        ];
      })

  pub ran_more : (n : ℕ) → p + q ≤ n → RanOut mid new q rest → RanOut old new n rest
  ran_more n m k = record { full = k.full; left = let v = h.pairs in let u = k.left in omega (arith, u, v, m) }

-- rows and squares of pairs
row-append : (x : ℕ) (c : List ℕ) (a b : List (List ℕ)) → row x c (a ++ b) ≡ row x c a ++ row x c b
row-append x c [] b = refl
row-append x c (d ∷ a) b =
    elim (cases_Bool (is_tautology (resolvent x c d))) [
      | inl h ↦ rw h (row-append x c a b)
      | inr h ↦ rw h (ap (λ (z : List (List ℕ)). distinct (resolvent x c d) ∷ z) (row-append x c a b))
    ]

resolvents-append : (x : ℕ) (a b ns : List (List ℕ)) → resolvents x (a ++ b) ns ≡ resolvents x a ns ++ resolvents x b ns
resolvents-append x [] b ns = refl
resolvents-append x (c ∷ a) b ns = ap (λ (z : List (List ℕ)). row x c ns ++ z) (resolvents-append x a b ns) ∙ sym (append_assoc (row x c ns) (resolvents x a ns) (resolvents x b ns))

resolvents_one : (x : ℕ) (c : List ℕ) (ns : List (List ℕ)) → resolvents x (c ∷ []) ns ≡ row x c ns
resolvents_one x c ns = append-nil (row x c ns)

-- a list of ids at one of its places
split_at : (f : ℕ → List ℕ) (ids : List ℕ) (i m : ℕ) → i < length ids → m ≡ get_or ids i 0 → map f ids ≡ map f (take i ids) ++ f m ∷ map f (drop (suc i) ids)
split_at f [] i m in' e = absurd (omega arith)
split_at f (j ∷ ids) zero m in' e = rw e refl
split_at f (j ∷ ids) (suc i) m in' e = ap (λ (z : List (List ℕ)). f j ∷ z) (split_at f ids i m (omega arith) e)

take_one : (f : ℕ → List ℕ) (ids : List ℕ) (i m : ℕ) → i < length ids → m ≡ get_or ids i 0 → map f (take (suc i) ids) ≡ map f (take i ids) ++ f m ∷ []
take_one f [] i m in' e = absurd (omega arith)
take_one f (j ∷ ids) zero m in' e = rw e refl
take_one f (j ∷ ids) (suc i) m in' e = ap (λ (z : List (List ℕ)). f j ∷ z) (take_one f ids i m (omega arith) e)

module _ (s : List (Option Stored)) (x i m : ℕ) (ids : List ℕ) (in' : i < length ids) (e : m ≡ get_or ids i 0) where
  pub row_next : (c : List ℕ) → row x c (map (lits_at s) (take (suc i) ids)) ≡ row x c (map (lits_at s) (take i ids)) ++ row x c (lits_at s m ∷ [])
  row_next c = ap (row x c) (take_one (lits_at s) ids i m in' e) ∙ row-append x c (map (lits_at s) (take i ids)) (lits_at s m ∷ [])

  pub row_split : (c : List ℕ) → row x c (map (lits_at s) ids) ≡ row x c (map (lits_at s) (take i ids)) ++ (row x c (lits_at s m ∷ []) ++ row x c (map (lits_at s) (drop (suc i) ids)))
  row_split c =
      ap (row x c) (split_at (lits_at s) ids i m in' e)
      ∙ row-append x c (map (lits_at s) (take i ids)) (lits_at s m ∷ map (lits_at s) (drop (suc i) ids))
      ∙ ap (λ (z : List (List ℕ)). row x c (map (lits_at s) (take i ids)) ++ z) (row-append x c (lits_at s m ∷ []) (map (lits_at s) (drop (suc i) ids)))

  pub square_next : (ns : List (List ℕ)) → resolvents x (map (lits_at s) (take (suc i) ids)) ns ≡ resolvents x (map (lits_at s) (take i ids)) ns ++ row x (lits_at s m) ns
  square_next ns =
      ap (λ (z : List (List ℕ)). resolvents x z ns) (take_one (lits_at s) ids i m in' e)
      ∙ resolvents-append x (map (lits_at s) (take i ids)) (lits_at s m ∷ []) ns
      ∙ ap (λ (z : List (List ℕ)). resolvents x (map (lits_at s) (take i ids)) ns ++ z) (resolvents_one x (lits_at s m) ns)

  pub square_split : (ns : List (List ℕ)) → resolvents x (map (lits_at s) ids) ns ≡ resolvents x (map (lits_at s) (take i ids)) ns ++ (row x (lits_at s m) ns ++ resolvents x (map (lits_at s) (drop (suc i) ids)) ns)
  square_split ns =
      ap (λ (z : List (List ℕ)). resolvents x z ns) (split_at (lits_at s) ids i m in' e)
      ∙ resolvents-append x (map (lits_at s) (take i ids)) (lits_at s m ∷ map (lits_at s) (drop (suc i) ids)) ns

-- a clause of one literal among some
pub unit_there : (s : List (Option Stored)) (ids : List ℕ) (i k : ℕ) → i < length ids → k ≡ get_or ids i 0 → length (lits_at s k) ≡ 1 → list_any is_unit (map (lits_at s) ids) ≡ true
unit_there s [] i k in' e h = absurd (omega arith)
unit_there s (j ∷ ids) zero k in' e h = or_left (is_unit (lits_at s j)) (list_any is_unit (map (lits_at s) ids)) (eq-eqb (length (lits_at s j)) 1 (rw (← e) h))
unit_there s (j ∷ ids) (suc i) k in' e h = or_right (is_unit (lits_at s j)) (list_any is_unit (map (lits_at s) ids)) (unit_there s ids i k (omega arith) e h)
