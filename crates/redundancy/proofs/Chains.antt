-- Laws of chains, and of the extension over them.
use Rattle.std.proofs.Common.{◌≡◌, ℕ, suc, zero, ◌<◌, Bool, true, false, cond, List, [], ◌∷◌, ◌++◌, length, get_or, drop, refl, ap, arith, sym, ◌∙◌}
use Rattle.std.specs.List.{remove}
use Rattle.sat_terms.specs.Truth.{Assignment, clause_true}
use Rattle.sat_terms.specs.Literal.{has, pos_lit, neg_lit}
use Rattle.redundancy.specs.Setting.{set_true}
use Rattle.redundancy.specs.Redundancy.{Entry, And, StackTrue, Witnesses, With, Chain, Clean, extend, Unmentioned}
use Rattle.sat_terms.proofs.Truths.{clause_true-from}
use Rattle.sat_terms.proofs.Literals.{neg-pos_lit, neg-neg_lit}
use Rattle.redundancy.proofs.Setting.{set_true-in, clause_true-kept}

-- the same assignments have the same witnesses
pub Witnesses-same : (F G : Assignment → Type 0) (w d : List ℕ) → ((f : Assignment) → F f → G f) → ((f : Assignment) → G f → F f) → Witnesses F w d → Witnesses G w d
Witnesses-same F G w d to from h = record {
  apart = h.apart;
  shared = h.shared;
  moves = λ f g n. to (set_true f w) (h.moves f (from f g) n);
}

-- The clauses may be exchanged for others that the same assignments make true: implied clauses come and go.
pub Chain-same : (F G : Assignment → Type 0) (s : List Entry) → ((f : Assignment) → F f → G f) → ((f : Assignment) → G f → F f) → Chain F s → Chain G s
Chain-same F G [] to from h = tt
Chain-same F G (e ∷ later) to from h = (
  Witnesses-same (With F later) (With G later) e.witness e.clause (λ f x. (to f x.0, x.1)) (λ f x. (from f x.0, x.1)) h.0,
  Chain-same F G later to from h.1,
)

-- a clean clause may be added
pub Chain-add : (F : Assignment → Type 0) (c : List ℕ) (s : List Entry) → Clean c s → Chain F s → Chain (And F c) s
Chain-add F c [] clean h = tt
Chain-add F c (e ∷ later) clean h = (
  record {
    apart = h.0.apart;
    shared = h.0.shared;
    moves = λ f x n.
        let m = h.0.moves f (x.0.0, x.1) n in
        ((m.0, clause_true-kept f e.witness c clean.0 x.0.1), m.1);
  },
  Chain-add F c later clean.1 h.1,
)

-- the clauses of a longer stack
pub StackTrue-append : (f : Assignment) (s t : List Entry) → StackTrue f s → StackTrue f t → StackTrue f (s ++ t)
StackTrue-append f [] t a b = b
StackTrue-append f (e ∷ s) t a b = (a.0, StackTrue-append f s t a.1 b)

pub StackTrue-left : (f : Assignment) (s t : List Entry) → StackTrue f (s ++ t) → StackTrue f s
StackTrue-left f [] t h = tt
StackTrue-left f (e ∷ s) t h = (h.0, StackTrue-left f s t h.1)

pub StackTrue-right : (f : Assignment) (s t : List Entry) → StackTrue f (s ++ t) → StackTrue f t
StackTrue-right f [] t h = h
StackTrue-right f (e ∷ s) t h = StackTrue-right f s t h.1

-- a clause that a witness witnesses for the other clauses may go to the end of the stack
pub Chain-park : (F : Assignment → Type 0) (e : Entry) (s : List Entry) → Witnesses F e.witness e.clause → Chain (And F e.clause) s → Chain F (s ++ e ∷ [])
Chain-park F e [] w h = (Witnesses-same F (With F []) e.witness e.clause (λ f x. (x, tt)) (λ f x. x.0) w, tt)
Chain-park F e (d ∷ later) w h = (
  Witnesses-same (With (And F e.clause) later) (With F (later ++ e ∷ [])) d.witness d.clause
      (λ f x. (x.0.0, StackTrue-append f later (e ∷ []) x.1 (x.0.1, tt)))
      (λ f x. ((x.0, (StackTrue-right f later (e ∷ []) x.1).0), StackTrue-left f later (e ∷ []) x.1))
      h.0,
  Chain-park F e later w h.1,
)

-- a stack that lacks an entry, and the clause of that entry
pub StackTrue-out : (f : Assignment) (s : List Entry) (k : ℕ) (d : Entry) → k < length s → StackTrue f s → StackTrue f (remove s k) × (clause_true f (get_or s k d).clause ≡ true)
StackTrue-out f [] k d in' h = absurd (omega arith)
StackTrue-out f (e ∷ s) zero d in' h = (h.1, h.0)
StackTrue-out f (e ∷ s) (suc k) d in' h =
    let r = StackTrue-out f s k d (omega arith) h.1 in
    ((h.0, r.0), r.1)

pub StackTrue-in : (f : Assignment) (s : List Entry) (k : ℕ) (d : Entry) → k < length s → StackTrue f (remove s k) → clause_true f (get_or s k d).clause ≡ true → StackTrue f s
StackTrue-in f [] k d in' h t = absurd (omega arith)
StackTrue-in f (e ∷ s) zero d in' h t = (t, h)
StackTrue-in f (e ∷ s) (suc k) d in' h t = (h.0, StackTrue-in f s k d (omega arith) h.1 t)

-- an entry whose clause is clean for the later entries may go back to the clauses
pub Chain-restore : (F : Assignment → Type 0) (s : List Entry) (k : ℕ) (d : Entry) → k < length s → Clean (get_or s k d).clause (drop (suc k) s) → Chain F s → Chain (And F (get_or s k d).clause) (remove s k)
Chain-restore F [] k d in' clean h = absurd (omega arith)
Chain-restore F (e ∷ s) zero d in' clean h = Chain-add F e.clause s clean h.1
Chain-restore F (e ∷ s) (suc k) d in' clean h =
    let below : k < length s = omega arith in (
      Witnesses-same (With F s) (With (And F (get_or s k d).clause) (remove s k)) e.witness e.clause
          (λ f x. let r = StackTrue-out f s k d below x.1 in ((x.0, r.1), r.0))
          (λ f x. (x.0.0, StackTrue-in f s k d below x.1 x.0.1))
          h.0,
      Chain-restore F s k d below clean h.1,
    )

-- one step of the extension makes the entry's clause true too
pub With-step : (F : Assignment → Type 0) (e : Entry) (later : List Entry) (f : Assignment) → Witnesses (With F later) e.witness e.clause → With F later f → With F (e ∷ later) (cond (clause_true f e.clause) f (set_true f e.witness))
With-step F e later f w x = go (clause_true f e.clause) refl where
  go : (b : Bool) → clause_true f e.clause ≡ b → With F (e ∷ later) (cond b f (set_true f e.witness))
  go true t = (x.0, (t, x.1))
  go false n =
      let m = w.moves f x n in
      let l = w.shared.0 in
      (m.0, (clause_true-from (set_true f e.witness) e.clause l w.shared.2 (set_true-in f e.witness l w.shared.1 (w.apart l w.shared.1)), m.1))

-- The extension of an assignment of F makes every clause of the stack true, and is of F again.
pub Chain-extend : (F : Assignment → Type 0) (f : Assignment) (s : List Entry) → Chain F s → F f → With F s (extend f s)
Chain-extend F f [] h x = (x, tt)
Chain-extend F f (e ∷ later) h x = With-step F e later (extend f later) h.0 (Chain-extend F f later h.1 x)

-- the extension leaves the variables alone that no witness mentions: so what a theory admits stays admitted
pub extend-same : (f : Assignment) (s : List Entry) (v : ℕ) → Unmentioned v s → extend f s v ≡ f v
unfolding set_true
extend-same f [] v h = refl
extend-same f (e ∷ later) v h = go (clause_true (extend f later) e.clause) (extend-same f later v h.1) where
  go : (b : Bool) → extend f later v ≡ f v → cond b (extend f later) (set_true (extend f later) e.witness) v ≡ f v
  go true same = same
  go false same = rw (h.0.0, h.0.1) same

-- where both literals of a variable are clean, no witness names it
pub Unmentioned-from_clean : (v : ℕ) (c : List ℕ) (s : List Entry) → has c (pos_lit v) ≡ true → has c (neg_lit v) ≡ true → Clean c s → Unmentioned v s
Unmentioned-from_clean v c [] p n h = tt
Unmentioned-from_clean v c (e ∷ later) p n h = (
  (
    ap (has e.witness) (sym (neg-neg_lit v)) ∙ h.0 (neg_lit v) n,
    ap (has e.witness) (sym (neg-pos_lit v)) ∙ h.0 (pos_lit v) p,
  ),
  Unmentioned-from_clean v c later p n h.1,
)

-- the extension by its newest entry: that entry acts first
pub extend-newest : (f : Assignment) (s : List Entry) (e : Entry) → extend f (s ++ e ∷ []) ≡ extend (cond (clause_true f e.clause) f (set_true f e.witness)) s
extend-newest f [] e = refl
extend-newest f (d ∷ s) e = ap (λ g. cond (clause_true g d.clause) g (set_true g d.witness)) (extend-newest f s e)
