-- Laws of lists of watches.
use Rattle.std.proofs.Common.{◌≡◌, ◌≢◌, ℕ, ◌+◌, ◌<◌, List, [], ◌∷◌, ◌++◌, length, inl, inr, refl, sym, ap, ◌∙◌, subst, arith, Option}
use Rattle.std.proofs.lemmas.Bool.{cases_eq, cases_lt, eq-eqb, ne_eqb}
use Rattle.clause_store.specs.Stored.{Stored, slot, slot_lits}
use Rattle.watch_lists.specs.declared.lists.Watch.{Watch}
use Rattle.watch_lists.specs.Watching.{Pair, pair, put_at, tally, expects, WatchesIt, Blocks, AllBlock, Kept}
use Rattle.std.proofs.lemmas.List.{get_or_past}

-- tallies
pub tally-append : (id : ℕ) (a b : List Watch) → tally id (a ++ b) ≡ tally id a + tally id b
tally-append id [] b = omega arith
tally-append id (w ∷ a) b = let r = tally-append id a b in omega arith

tally_swap : (id : ℕ) (p q : List Watch) (w w' : Watch) → w'.id ≡ w.id → tally id (p ++ w' ∷ q) ≡ tally id (p ++ w ∷ q)
tally_swap id p q w w' e = tally-append id p (w' ∷ q) ∙ rw e refl ∙ sym (tally-append id p (w ∷ q))

pub tally_here : (id : ℕ) (p q : List Watch) (w : Watch) → w.id ≡ id → tally id (p ++ w ∷ q) ≡ tally id (p ++ q) + 1
tally_here id p q w e =
    let a = tally-append id p (w ∷ q) in
    let b = tally-append id p q in
    let c : tally id (w ∷ q) ≡ 1 + tally id q = rw (eq-eqb w.id id e) refl in
    omega arith

pub tally_apart : (id : ℕ) (p q : List Watch) (w : Watch) → w.id ≢ id → tally id (p ++ w ∷ q) ≡ tally id (p ++ q)
tally_apart id p q w n =
    let a = tally-append id p (w ∷ q) in
    let b = tally-append id p q in
    let c : tally id (w ∷ q) ≡ 0 + tally id q = rw (ne_eqb w.id id n) refl in
    omega arith

-- what pairs expect
pub expects_some : (p : Pair) (l : ℕ) → 0 < expects p l → WatchesIt p l
expects_some p l h =
    elim (cases_eq p.first p.second) [
      | inl e ↦ let z : expects p l ≡ 0 = rw (eq-eqb p.first p.second e) refl in absurd (omega arith)
      | inr n ↦
          elim (cases_eq p.first l) [
            | inl a ↦ record { differ = n; one = inl a }
            | inr a ↦
                elim (cases_eq p.second l) [
                  | inl b ↦ record { differ = n; one = inr b }
                  | inr b ↦ let z : expects p l ≡ 0 = rw (ne_eqb p.first p.second n, ne_eqb p.first l a, ne_eqb p.second l b) refl in absurd (omega arith)
                ]
          ]
    ]

pub expects_one : (p : Pair) (l : ℕ) → WatchesIt p l → expects p l ≡ 1
expects_one p l h =
    elim (cases_eq p.first l) [
      | inl a ↦ rw (ne_eqb p.first p.second h.differ, eq-eqb p.first l a) refl
      | inr a ↦
          elim h.one [
            | inl e ↦ absurd (a e)
            | inr e ↦ rw (ne_eqb p.first p.second h.differ, ne_eqb p.first l a, eq-eqb p.second l e) refl
          ]
    ]

pub expects_none : (p : Pair) (l : ℕ) → p.first ≢ l → p.second ≢ l → expects p l ≡ 0
expects_none p l a b =
    elim (cases_eq p.first p.second) [
      | inl e ↦ rw (eq-eqb p.first p.second e) refl
      | inr n ↦ rw (ne_eqb p.first p.second n, ne_eqb p.first l a, ne_eqb p.second l b) refl
    ]

pub watched_known : (ps : List Pair) (id l : ℕ) → WatchesIt (pair ps id) l → id < length ps
watched_known ps id l h =
    elim (cases_lt id (length ps)) [
      | inl a ↦ a
      | inr b ↦
          let e = get_or_past ps id (record { first = 0; second = 0 }) b in
          absurd (h.differ (ap (λ (p : Pair). p.first) e ∙ sym (ap (λ (p : Pair). p.second) e)))
    ]

-- lists put at a literal
pub put_here : (ls : ℕ → List Watch) (f l : ℕ) (ws : List Watch) → f ≡ l → put_at ls f ws l ≡ ws
put_here ls f l ws e = rw (eq-eqb f l e) refl

pub put_apart : (ls : ℕ → List Watch) (f l : ℕ) (ws : List Watch) → f ≢ l → put_at ls f ws l ≡ ls l
put_apart ls f l ws n = rw (ne_eqb f l n) refl

-- blockers
pub block_join : (s : List (Option Stored)) (l : ℕ) (a b : List Watch) → AllBlock s l a → AllBlock s l b → AllBlock s l (a ++ b)
block_join s l [] b h k = k
block_join s l (w ∷ a) b h k = (h.0, block_join s l a b h.1 k)

pub block_parts : (s : List (Option Stored)) (l : ℕ) (a b : List Watch) → AllBlock s l (a ++ b) → AllBlock s l a × AllBlock s l b
block_parts s l [] b h = (tt, h)
block_parts s l (w ∷ a) b h = let r = block_parts s l a b h.1 in ((h.0, r.0), r.1)

-- what is known of a watch that is read
pub read_watched : (ids : List ℕ) (s : List (Option Stored)) (n f : ℕ) (ls : ℕ → List Watch) (ps : List Pair) (p q : List Watch) (w : Watch) → f < n → Kept ids s n (put_at ls f (p ++ w ∷ q)) ps → WatchesIt (pair ps w.id) f
read_watched ids s n f ls ps p q w in' k =
    let a = k.tallied f w.id in' in
    let b = ap (tally w.id) (put_here ls f f (p ++ w ∷ q) refl) in
    let c = tally_here w.id p q w refl in
    expects_some (pair ps w.id) f (omega arith)

pub read_blocks : (ids : List ℕ) (s : List (Option Stored)) (n f : ℕ) (ls : ℕ → List Watch) (ps : List Pair) (p q : List Watch) (w : Watch) → f < n → Kept ids s n (put_at ls f (p ++ w ∷ q)) ps → Blocks (slot_lits (slot s w.id)) f w
read_blocks ids s n f ls ps p q w in' k =
    (block_parts s f p (w ∷ q) (subst (AllBlock s f) (put_here ls f f (p ++ w ∷ q) refl) (k.blocking f in'))).1.0

-- the watch stays, with another blocker
pub kept_stays : (ids : List ℕ) (s : List (Option Stored)) (n f : ℕ) (ls : ℕ → List Watch) (ps : List Pair) (p q : List Watch) (w w' : Watch) → f < n → w'.id ≡ w.id → Blocks (slot_lits (slot s w.id)) f w'
    → Kept ids s n (put_at ls f (p ++ w ∷ q)) ps → Kept ids s n (put_at ls f (p ++ w' ∷ q)) ps
kept_stays ids s n f ls ps p q w w' in' e blocks k = record {
  tallied = λ l id below.
      elim (cases_eq f l) [
        | inl h ↦ ap (tally id) (put_here ls f l (p ++ w' ∷ q) h) ∙ tally_swap id p q w w' e ∙ sym (ap (tally id) (put_here ls f l (p ++ w ∷ q) h)) ∙ k.tallied l id below
        | inr h ↦ ap (tally id) (put_apart ls f l (p ++ w' ∷ q) h) ∙ sym (ap (tally id) (put_apart ls f l (p ++ w ∷ q) h)) ∙ k.tallied l id below
      ];
  held = k.held;
  blocking = λ l below.
      elim (cases_eq f l) [
        | inl h ↦
            let old = block_parts s l p (w ∷ q) (subst (AllBlock s l) (put_here ls f l (p ++ w ∷ q) h) (k.blocking l below)) in
            let here : Blocks (slot_lits (slot s w'.id)) l w' = subst (λ z. Blocks (slot_lits (slot s z)) l w') (sym e) (subst (λ z. Blocks (slot_lits (slot s w.id)) z w') h blocks) in
            subst (AllBlock s l) (sym (put_here ls f l (p ++ w' ∷ q) h)) (block_join s l p (w' ∷ q) old.0 (here, old.1.1))
        | inr h ↦ subst (AllBlock s l) (sym (put_apart ls f l (p ++ w' ∷ q) h)) (subst (AllBlock s l) (put_apart ls f l (p ++ w ∷ q) h) (k.blocking l below))
      ];
}
