-- Laws of the walk from the oldest entry, and that it chooses exactly the needed ones.
use Rattle.std.proofs.Common.{◌≡◌, ℕ, suc, zero, ◌+◌, ◌<◌, ◌≤◌, Bool, true, false, cond, List, [], ◌∷◌, ◌++◌, length, drop, ◌⊎◌, inl, inr, refl, sym, ap, ◌∙◌, subst, arith}
use Rattle.std.specs.List.{remove}
use Rattle.std.proofs.lemmas.Bool.{false≢true}
use Rattle.sat_terms.specs.Literal.{neg, has}
use Rattle.redundancy.specs.Redundancy.{Entry, Clean, touches, entry}
use Rattle.sat_terms.proofs.Members.{has-append_left, has-append_right, has-append_cases}
use Rattle.redundancy.proofs.Touching.{touches-some, touches-from, touches-more, touches-none, untouched, Clean-fewer}
use Rattle.taint_restore.specs.Needed.{Needed, Without, WithoutSome}
use Rattle.taint_restore.specs.Needed.Needed.{by_literal, by_entry}
use Rattle.taint_restore.specs.Needed.Without.{ended, gone, kept}
use Rattle.taint_restore.specs.Needed.WithoutSome.{at_end, left, stayed}
use Rattle.taint_restore.proofs.Walk.{marks_after, marks_at, chosen_at, unchosen, stack_at}

-- the marked literals are clean for the entries that are not chosen
pub Clean-unchosen : (m : List ℕ) (s : List Entry) → Clean m (unchosen m s)
Clean-unchosen m [] = tt
Clean-unchosen m (e ∷ s) = go (touches e.witness m) refl (Clean-unchosen (e.clause ++ m) s) (Clean-unchosen m s) where
  go : (b : Bool) → touches e.witness m ≡ b → Clean (e.clause ++ m) (unchosen (e.clause ++ m) s) → Clean m (unchosen m s) → Clean m (cond b (unchosen (e.clause ++ m) s) (e ∷ unchosen m s))
  go true t a b = Clean-fewer m (e.clause ++ m) (unchosen (e.clause ++ m) s) (λ l. has-append_right e.clause m l) a
  go false n a b = ((λ l. touches-none e.witness m l n), b)

pub stack_at-all : (m : List ℕ) (s : List Entry) → stack_at m s (length s) ≡ s
stack_at-all m [] = refl
stack_at-all m (e ∷ s) = ap (λ t. e ∷ t) (stack_at-all (marks_after m e) s)

-- An entry that is not chosen stays.
pub stack_at-stay : (m : List ℕ) (s : List Entry) (k : ℕ) → k < length s → chosen_at m s k ≡ false → stack_at m s (suc k) ≡ stack_at m s k
stack_at-stay m [] k in' h = absurd (omega arith)
stack_at-stay m (e ∷ s) zero in' h = rw h refl
stack_at-stay m (e ∷ s) (suc k) in' h = ap (λ t. e ∷ t) (stack_at-stay (marks_after m e) s k (omega arith) h)

-- A chosen entry stands at its place when its turn comes, its clause is clean for the entries
-- behind it, and without it the stack is the next one.
pub stack_at-entry : (m : List ℕ) (s : List Entry) (k : ℕ) → k < length s → entry (stack_at m s (suc k)) k ≡ entry s k
stack_at-entry m [] k in' = absurd (omega arith)
stack_at-entry m (e ∷ s) zero in' = refl
stack_at-entry m (e ∷ s) (suc k) in' = stack_at-entry (marks_after m e) s k (omega arith)

pub stack_at-length : (m : List ℕ) (s : List Entry) (k : ℕ) → k < length s → k < length (stack_at m s (suc k))
stack_at-length m [] k in' = absurd (omega arith)
stack_at-length m (e ∷ s) zero in' = omega arith
stack_at-length m (e ∷ s) (suc k) in' = let h = stack_at-length (marks_after m e) s k (omega arith) in omega arith

pub stack_at-clean : (m : List ℕ) (s : List Entry) (k : ℕ) → k < length s → chosen_at m s k ≡ true → Clean (entry s k).clause (drop (suc k) (stack_at m s (suc k)))
stack_at-clean m [] k in' h = absurd (omega arith)
stack_at-clean m (e ∷ s) zero in' h =
    rw h (Clean-fewer e.clause (e.clause ++ m) (unchosen (e.clause ++ m) s) (λ l. has-append_left e.clause m l) (Clean-unchosen (e.clause ++ m) s))
stack_at-clean m (e ∷ s) (suc k) in' h = stack_at-clean (marks_after m e) s k (omega arith) h

pub stack_at-take_out : (m : List ℕ) (s : List Entry) (k : ℕ) → k < length s → chosen_at m s k ≡ true → remove (stack_at m s (suc k)) k ≡ stack_at m s k
stack_at-take_out m [] k in' h = absurd (omega arith)
stack_at-take_out m (e ∷ s) zero in' h = rw h refl
stack_at-take_out m (e ∷ s) (suc k) in' h = ap (λ t. e ∷ t) (stack_at-take_out (marks_after m e) s k (omega arith) h)

-- one more step of the scan
pub marks_at-next : (m : List ℕ) (s : List Entry) (k : ℕ) → k < length s → marks_at m s (suc k) ≡ cond (chosen_at m s k) ((entry s k).clause ++ marks_at m s k) (marks_at m s k)
marks_at-next m [] k in' = absurd (omega arith)
marks_at-next m (e ∷ s) zero in' = refl
marks_at-next m (e ∷ s) (suc k) in' = marks_at-next (marks_after m e) s k (omega arith)

-- marks are never lost
pub marks_at-kept : (m : List ℕ) (s : List Entry) (k : ℕ) (l : ℕ) → has m l ≡ true → has (marks_at m s k) l ≡ true
marks_at-kept m s zero l h = h
marks_at-kept m [] (suc k) l h = h
marks_at-kept m (e ∷ s) (suc k) l h = marks_at-kept (marks_after m e) s k l (go (touches e.witness m)) where
  go : (b : Bool) → has (cond b (e.clause ++ m) m) l ≡ true
  go true = has-append_right e.clause m l h
  go false = h

-- the literals of a chosen entry's clause are marked from then on
pub marks_at-clause : (m : List ℕ) (s : List Entry) (j k : ℕ) (l : ℕ) → j < k → j < length s → chosen_at m s j ≡ true → has (entry s j).clause l ≡ true → has (marks_at m s k) l ≡ true
marks_at-clause m [] j k l lt in' h t = absurd (omega arith)
marks_at-clause m (e ∷ s) j zero l lt in' h t = absurd (omega arith)
marks_at-clause m (e ∷ s) zero (suc k) l lt in' h t =
    marks_at-kept (marks_after m e) s k l (rw h (has-append_left e.clause m l t))
marks_at-clause m (e ∷ s) (suc j) (suc k) l lt in' h t = marks_at-clause (marks_after m e) s j k l (omega arith) (omega arith) h t

-- The scan chooses exactly the needed entries.
pub chosen-from_needed : (lits : List ℕ) (s : List Entry) (k : ℕ) → Needed lits s k → (k < length s) × (chosen_at lits s k ≡ true)
chosen-from_needed lits s k (by_literal in' t) =
    (in', touches-more (entry s k).witness lits (marks_at lits s k) (λ l h. marks_at-kept lits s k l h) t)
chosen-from_needed lits s k (by_entry {j} lt in' n t) =
    let c = chosen-from_needed lits s j n in
    (in', touches-more (entry s k).witness (entry s j).clause (marks_at lits s k) (λ l h. marks_at-clause lits s j k l lt c.0 c.1 h) t)

-- where a mark comes from
abbrev Source : List ℕ → List Entry → ℕ → ℕ → Type 0
Source lits s k l = (has lits l ≡ true) ⊎ ((j : ℕ) × (j < k) × Needed lits s j × (has (entry s j).clause l ≡ true))

needed-by_source : (lits : List ℕ) (s : List Entry) (k : ℕ) → k < length s → ((l : ℕ) → has (marks_at lits s k) l ≡ true → Source lits s k l) → chosen_at lits s k ≡ true → Needed lits s k
needed-by_source lits s k in' from h =
    let r = touches-some (entry s k).witness (marks_at lits s k) h in
    elim (from r.0 r.1) [
      | inl a ↦ by_literal in' (touches-from (entry s k).witness lits r.0 a r.2)
      | inr b ↦ by_entry {j = b.0} b.1 in' b.2 (touches-from (entry s k).witness (entry s b.0).clause r.0 b.3 r.2)
    ]

marks_from : (lits : List ℕ) (s : List Entry) (k : ℕ) → k ≤ length s → (l : ℕ) → has (marks_at lits s k) l ≡ true → Source lits s k l
marks_from lits s zero in' l h = inl h
marks_from lits s (suc k) in' l h =
    let below : k < length s = omega arith in
    go (chosen_at lits s k) refl (marks_from lits s k (omega arith)) (rw (marks_at-next lits s k below) at h) where
      later : Source lits s k l → Source lits s (suc k) l
      later (inl a) = inl a
      later (inr b) = inr (b.0, (let lt = b.1 in omega arith), b.2, b.3)

      go : (b : Bool) → chosen_at lits s k ≡ b → ((l : ℕ) → has (marks_at lits s k) l ≡ true → Source lits s k l) → has (cond b ((entry s k).clause ++ marks_at lits s k) (marks_at lits s k)) l ≡ true → Source lits s (suc k) l
      go true t before h' =
          elim (has-append_cases (entry s k).clause (marks_at lits s k) l h') [
            | inl a ↦ inr (k, omega arith, needed-by_source lits s k (omega arith) before t, a)
            | inr b ↦ later (before l b)
          ]
      go false n before h' = later (before l h')

pub needed-from_chosen : (lits : List ℕ) (s : List Entry) (k : ℕ) → k < length s → chosen_at lits s k ≡ true → Needed lits s k
needed-from_chosen lits s k in' h = needed-by_source lits s k in' (marks_from lits s k (omega arith)) h

-- what stays is the stack without the entries that the scan chooses
pub Without-chosen : (P : ℕ → Type 0) (i : ℕ) (m : List ℕ) (s : List Entry) → ((k : ℕ) → k < length s → chosen_at m s k ≡ true → P (i + k)) → ((k : ℕ) → P (i + k) → chosen_at m s k ≡ true) → Without P i s (unchosen m s)
Without-chosen P i m [] to from = ended i
Without-chosen P i m (e ∷ s) to from =
    go (touches e.witness m) refl (Without-chosen P (suc i) (marks_after m e) s
    (λ k in' h. subst P (next k) (to (suc k) (omega arith) h))
    (λ k p. from (suc k) (subst P (sym (next k)) p))) where
      next : (k : ℕ) → i + suc k ≡ suc i + k
      next k = omega arith

      here : i + 0 ≡ i
      here = omega arith

      go : (b : Bool) → touches e.witness m ≡ b → Without P (suc i) s (unchosen (cond b (e.clause ++ m) m) s) → Without P i (e ∷ s) (cond b (unchosen (e.clause ++ m) s) (e ∷ unchosen m s))
      go true t rest = gone i e s (unchosen (e.clause ++ m) s) (subst P here (to 0 (omega arith) t)) rest
      go false n rest = kept i e s (unchosen m s) (λ p. false≢true (sym n ∙ from 0 (subst P (sym here) p))) rest

-- the needed entries, and no others, leave the stack
pub Without-needed : (lits : List ℕ) (s : List Entry) → Without (Needed lits s) 0 s (unchosen lits s)
Without-needed lits s = Without-chosen (Needed lits s) 0 lits s
    (λ k in' h. subst (Needed lits s) (zero-plus k) (needed-from_chosen lits s k in' h))
    (λ k n. (chosen-from_needed lits s k (subst (Needed lits s) (sym (zero-plus k)) n)).1) where
      zero-plus : (k : ℕ) → k ≡ 0 + k
      zero-plus k = omega arith

-- where the chosen entries from a place on have left, none but chosen ones have
WithoutSome-same : (P : ℕ → Type 0) (i : ℕ) (s : List Entry) → WithoutSome P i s s
WithoutSome-same P i [] = at_end i
WithoutSome-same P i (e ∷ s) = stayed i e s s (WithoutSome-same P (suc i) s)

WithoutSome-from : (P : ℕ → Type 0) (i : ℕ) (s t : List Entry) → Without P i s t → WithoutSome P i s t
WithoutSome-from P i s t (ended k) = at_end k
WithoutSome-from P i s t (gone k e u v p h) = left k e u v p (WithoutSome-from P (suc k) u v h)
WithoutSome-from P i s t (kept k e u v n h) = stayed k e u v (WithoutSome-from P (suc k) u v h)

pub WithoutSome-at : (P : ℕ → Type 0) (i : ℕ) (m : List ℕ) (s : List Entry) (from : ℕ) → ((k : ℕ) → k < length s → chosen_at m s k ≡ true → P (i + k)) → ((k : ℕ) → P (i + k) → chosen_at m s k ≡ true) → WithoutSome P i s (stack_at m s from)
WithoutSome-at P i m s zero to from = WithoutSome-from P i s (unchosen m s) (Without-chosen P i m s to from)
WithoutSome-at P i m [] (suc j) to from = at_end i
WithoutSome-at P i m (e ∷ s) (suc j) to from =
    stayed i e s (stack_at (marks_after m e) s j) (WithoutSome-at P (suc i) (marks_after m e) s j
    (λ k in' h. subst P (next k) (to (suc k) (omega arith) h))
    (λ k p. from (suc k) (subst P (sym (next k)) p))) where
      next : (k : ℕ) → i + suc k ≡ suc i + k
      next k = omega arith

pub OnlyNeeded-at : (lits : List ℕ) (s : List Entry) (from : ℕ) → WithoutSome (Needed lits s) 0 s (stack_at lits s from)
OnlyNeeded-at lits s from = WithoutSome-at (Needed lits s) 0 lits s from
    (λ k in' h. subst (Needed lits s) (zero-plus k) (needed-from_chosen lits s k in' h))
    (λ k n. (chosen-from_needed lits s k (subst (Needed lits s) (sym (zero-plus k)) n)).1) where
      zero-plus : (k : ℕ) → k ≡ 0 + k
      zero-plus k = omega arith

-- where the literals are clean the walk chooses nothing
pub unchosen-clean : (m : List ℕ) (s : List Entry) → Clean m s → unchosen m s ≡ s
unchosen-clean m [] c = refl
unchosen-clean m (e ∷ s) c = rw (none e.witness m c.0) (ap (λ t. e ∷ t) (unchosen-clean m s c.1)) where
  none : (w m : List ℕ) → ((l : ℕ) → has m l ≡ true → has w (neg l) ≡ false) → touches w m ≡ false
  none w m h = untouched w m h
