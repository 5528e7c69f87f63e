-- Good replies grow with the script.
use Rattle.std.proofs.Common.{◌≡◌, ◌∙◌, sym, ap, refl, arith, subst, ℕ, ◌+◌, ◌<◌, max, List, [], ◌∷◌, ◌++◌, length, length-append, append_assoc, Bool, inl, inr, ⊎_elim}
use Rattle.std.specs.Prelude.{◌⊎◌}
use Rattle.icnf_reader.specs.Grammar.{Statement, Clause, Card, Query}
use Rattle.sat_model.specs.declared.constraint.Constraint.TheVariants.{AtLeast}
use Rattle.solver_api.specs.declared.givens.GivenPart.TheVariants as part
use Rattle.reply_text.specs.Reply.{Reply, Unsat}
use Rattle.std.proofs.lemmas.List.{append-nil}
use Rattle.icnf_runner.specs.Output.{printed_reply, texts_from}
use Rattle.icnf_runner.specs.Good.{parts_of, greatest_in, query_count, IsGood, IsSettled, GoodReplies}

-- a list with one more member at its end, cut at a member: that is the last one, or it stands before
pub record IsLast {A : Type 0} (xs : List A) (x : A) (ys : List A) (y : A) (zs : List A) : Type 0 where
  pub front : xs ≡ ys
  pub same : x ≡ y
  pub none : zs ≡ []

pub record IsBefore {A : Type 0} (xs : List A) (x : A) (ys : List A) (y : A) (zs : List A) : Type 0 where
  pub rest : List A
  pub front : xs ≡ ys ++ y ∷ rest
  pub back : zs ≡ rest ++ x ∷ []

abbrev head_of : {A : Type 0} → A → List A → A
head_of d [] = d
head_of d (x ∷ xs) = x

abbrev tail_of : {A : Type 0} → List A → List A
tail_of [] = []
tail_of (x ∷ xs) = xs

-- a list that holds a member is not empty
not_none : {A : Type 0} (ys : List A) (y : A) (zs : List A) → [] ≡ ys ++ y ∷ zs → ⊥
not_none ys y zs e = let n = ap length e in omega (arith, length-append ys (y ∷ zs), n)

pub cut_last : {A : Type 0} (xs : List A) (x : A) (ys : List A) (y : A) (zs : List A) → xs ++ x ∷ [] ≡ ys ++ y ∷ zs → IsLast xs x ys y zs ⊎ IsBefore xs x ys y zs
cut_last [] x [] y zs e = inl (record { front = refl; same = ap (head_of x) e; none = sym (ap tail_of e) })
cut_last [] x (v ∷ ys) y zs e = absurd (not_none ys y zs (ap tail_of e))
cut_last (w ∷ xs) x [] y zs e = inr (record { rest = xs; front = ap (λ h. h ∷ xs) (ap (head_of w) e); back = sym (ap tail_of e) })
cut_last (w ∷ xs) x (v ∷ ys) y zs e =
    let same_head : w ≡ v = ap (head_of w) e in
    ⊎_elim
    (λ (l : IsLast xs x ys y zs). inl (record { front = ap (λ h. h ∷ xs) same_head ∙ ap (λ t. v ∷ t) l.front; same = l.same; none = l.none }))
    (λ (b : IsBefore xs x ys y zs). inr (record { rest = b.rest; front = ap (λ h. h ∷ xs) same_head ∙ ap (λ t. v ∷ t) b.front; back = b.back }))
    (cut_last xs x ys y zs (ap tail_of e))

pub parts_push : (ss : List Statement) (s : Statement) → parts_of (ss ++ s ∷ []) ≡ parts_of ss ++ parts_of (s ∷ [])
parts_push [] s = refl
parts_push (Clause c ∷ ss) s = ap (λ ps. part.Clause c ∷ ps) (parts_push ss s)
parts_push (Card b ls ∷ ss) s = ap (λ ps. part.Rule (AtLeast b ls) ∷ ps) (parts_push ss s)
parts_push (Query a ∷ ss) s = parts_push ss s

pub greatest_push : (ss : List Statement) (s : Statement) → greatest_in (ss ++ s ∷ []) ≡ max (greatest_in ss) (greatest_in (s ∷ []))
greatest_push [] (Clause c) = omega arith
greatest_push [] (Card b ls) = omega arith
greatest_push [] (Query a) = omega arith
greatest_push (Clause c ∷ ss) s = let h = greatest_push ss s in omega (arith, h)
greatest_push (Card b ls ∷ ss) s = let h = greatest_push ss s in omega (arith, h)
greatest_push (Query a ∷ ss) s = let h = greatest_push ss s in omega (arith, h)

count_push : (ss : List Statement) (s : Statement) → query_count (ss ++ s ∷ []) ≡ query_count ss + query_count (s ∷ [])
count_push [] (Clause c) = refl
count_push [] (Card b ls) = refl
count_push [] (Query a) = refl
count_push (Clause c ∷ ss) s = count_push ss s
count_push (Card b ls ∷ ss) s = count_push ss s
count_push (Query a ∷ ss) s = let h = count_push ss s in omega (arith, h)

count_cut : (above : List Statement) (a : List ℕ) (below : List Statement) → query_count above < query_count (above ++ Query a ∷ below)
count_cut [] a below = omega arith
count_cut (Clause c ∷ ss) a below = count_cut ss a below
count_cut (Card b ls ∷ ss) a below = count_cut ss a below
count_cut (Query b ∷ ss) a below = let h = count_cut ss a below in omega (arith, h)

abbrev lits_in : Statement → List ℕ
lits_in (Clause c) = c
lits_in (Card b ls) = ls
lits_in (Query b) = b

-- nothing is good for nothing
pub good_start : {budget vars : ℕ} → GoodReplies budget vars [] []
good_start = record { one_each = refl; good = λ above below a earlier later r cut e n. absurd (not_none above (Query a) below cut) }

-- a clause asks for no reply
pub good_clause : {budget vars : ℕ} (script : List Statement) (replies : List Reply) (c : List ℕ) → GoodReplies budget vars script replies → GoodReplies budget vars (script ++ Clause c ∷ []) replies
good_clause script replies c h = record {
  one_each = let n = count_push script (Clause c) in omega (arith, h.one_each, n);
  good = λ above below a earlier later r cut e n.
      ⊎_elim
      (λ (l : IsLast script (Clause c) above (Query a) below). absurd (differ l.same))
      (λ (b : IsBefore script (Clause c) above (Query a) below). h.good above b.rest a earlier later r b.front e n)
      (cut_last script (Clause c) above (Query a) below cut);
}
  where
    differ : {x y : List ℕ} → Clause x ≡ Query y → ⊥
    differ e = cc

-- a query asks for a good one
pub good_query : {budget vars : ℕ} (script : List Statement) (replies : List Reply) (a : List ℕ) (r : Reply) → GoodReplies budget vars script replies → IsGood budget vars script a r → (IsSettled script replies → r ≡ Unsat [])
    → GoodReplies budget vars (script ++ Query a ∷ []) (replies ++ r ∷ [])
good_query {budget} {vars} script replies a r h is settles = record {
  one_each = let n = count_push script (Query a) in let m = length-append replies (r ∷ []) in omega (arith, h.one_each, n, m);
  good = λ above below b earlier later q cut e n.
      let Fine : Type 0 = IsGood budget vars above b q × (IsSettled above earlier → q ≡ Unsat []) in
      ⊎_elim
      (λ (l : IsLast script (Query a) above (Query b) below).
      ⊎_elim
      (λ (m : IsLast replies r earlier q later). moved l.front (same_query l.same) m.front m.same)
      (λ (m : IsBefore replies r earlier q later).
      let x = ap length m.front in let y = length-append earlier (q ∷ m.rest) in let z = ap query_count l.front in
      absurd (omega (arith, x, y, z, n, h.one_each)))
      (cut_last replies r earlier q later e))
      (λ (l : IsBefore script (Query a) above (Query b) below).
      ⊎_elim
      (λ (m : IsLast replies r earlier q later).
      let x = ap length m.front in let y = count_cut above b l.rest in let z = ap query_count l.front in
      absurd (omega (arith, x, y, z, n, h.one_each)))
      (λ (m : IsBefore replies r earlier q later). h.good above l.rest b earlier m.rest q l.front m.front n)
      (cut_last replies r earlier q later e))
      (cut_last script (Query a) above (Query b) below cut);
}
  where
    same_query : {x y : List ℕ} → Query x ≡ Query y → x ≡ y
    same_query e = ap lits_in e

    moved : {above : List Statement} {b : List ℕ} {earlier : List Reply} {q : Reply} → script ≡ above → a ≡ b → replies ≡ earlier → r ≡ q
        → IsGood budget vars above b q × (IsSettled above earlier → q ≡ Unsat [])
    moved {above} {b} {earlier} {q} e1 e2 e3 e4 =
        let P1 : List Statement → Type 0 = λ x. IsGood budget vars x b q × (IsSettled x earlier → q ≡ Unsat []) in
        let P2 : List ℕ → Type 0 = λ x. IsGood budget vars script x q × (IsSettled script earlier → q ≡ Unsat []) in
        let P3 : List Reply → Type 0 = λ x. IsGood budget vars script a q × (IsSettled script x → q ≡ Unsat []) in
        let P4 : Reply → Type 0 = λ x. IsGood budget vars script a x × (IsSettled script replies → x ≡ Unsat []) in
        subst P1 e1 (subst P2 e2 (subst P3 e3 (subst P4 e4 (is, settles))))

-- where there is no statement there is no reply, and so all are good for any number of variables
pub no_replies : {budget vars : ℕ} (replies : List Reply) → GoodReplies budget vars [] replies → replies ≡ []
no_replies [] h = refl
no_replies (r ∷ rs) h = absurd (omega (arith, h.one_each))

-- what is printed for one more query, and for one more clause
pub text_query : (check : Bool) (n : ℕ) (script : List Statement) (replies : List Reply) (a : List ℕ) (r : Reply) → length replies ≡ query_count script
    → texts_from check n (script ++ Query a ∷ []) (replies ++ r ∷ []) ≡ texts_from check n script replies ++ printed_reply check (n + length (parts_of script) + length a) r
text_query check n [] [] a r e = let z : n + length a ≡ n + 0 + length a = omega arith in
    append-nil (printed_reply check (n + length a) r) ∙ ap (λ k. printed_reply check k r) z
text_query check n [] (q ∷ qs) a r e = absurd (omega arith)
text_query check n (Clause c ∷ ss) qs a r e =
    let z : n + 1 + length (parts_of ss) + length a ≡ n + length (parts_of (Clause c ∷ ss)) + length a = omega arith in
    text_query check (n + 1) ss qs a r e ∙ ap (λ k. texts_from check (n + 1) ss qs ++ printed_reply check k r) z
text_query check n (Card b ls ∷ ss) qs a r e =
    let z : n + 1 + length (parts_of ss) + length a ≡ n + length (parts_of (Card b ls ∷ ss)) + length a = omega arith in
    text_query check (n + 1) ss qs a r e ∙ ap (λ k. texts_from check (n + 1) ss qs ++ printed_reply check k r) z
text_query check n (Query b ∷ ss) [] a r e = absurd (omega arith)
text_query check n (Query b ∷ ss) (q ∷ qs) a r e =
    ap (λ t. printed_reply check (n + length b) q ++ t) (text_query check n ss qs a r (omega arith))
    ∙ sym (append_assoc (printed_reply check (n + length b) q) (texts_from check n ss qs) (printed_reply check (n + length (parts_of ss) + length a) r))

pub text_clause : (check : Bool) (n : ℕ) (script : List Statement) (replies : List Reply) (c : List ℕ) → texts_from check n (script ++ Clause c ∷ []) replies ≡ texts_from check n script replies
text_clause check n [] qs c = refl
text_clause check n (Clause b ∷ ss) qs c = text_clause check (n + 1) ss qs c
text_clause check n (Card b ls ∷ ss) qs c = text_clause check (n + 1) ss qs c
text_clause check n (Query b ∷ ss) [] c = refl
text_clause check n (Query b ∷ ss) (q ∷ qs) c = ap (λ t. printed_reply check (n + length b) q ++ t) (text_clause check n ss qs c)
