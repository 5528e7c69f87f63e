-- Lists with room for more, and lists that were pushed to.
use Rattle.std.proofs.Common.{◌≡◌, ℕ, zero, suc, true, false, length-set, ◌-◌, ◌<◌, List, [], ◌∷◌, ◌++◌, length, get_or, set, take, refl, sym, ap, ◌∙◌, arith}
use Rattle.std.specs.Prelude.{Result, Ok, Err, OnOk, OnErr, is_err}
use Rattle.std.proofs.lemmas.Bool.{false≢true}
use Rattle.std.proofs.lemmas.List.{take_at, length_push, get_or-set_same}
use Rattle.watch_lists.specs.declared.lists.Watch.{Watch}
use Rattle.watch_lists.specs.Watching.{at}

pub at_longer : (ls : List (List Watch)) (l : ℕ) → at (ls ++ [] ∷ []) l ≡ at ls l
at_longer [] zero = refl
at_longer [] (suc l) = refl
at_longer (x ∷ ls) zero = refl
at_longer (x ∷ ls) (suc l) = at_longer ls l

-- a list that was pushed to and popped from
pub set_back : (ls : List (List Watch)) (l : ℕ) (ws d : List Watch) → l < length ls → ws ≡ get_or ls l d → set ls l ws ≡ ls
set_back [] l ws d in' is = refl
set_back (x ∷ ls) zero ws d in' is = ap (λ z. z ∷ ls) is
set_back (x ∷ ls) (suc l) ws d in' is = ap (λ z. x ∷ z) (set_back ls l ws d (omega arith) is)

pub popped : (ws : List Watch) (w : Watch) → take (length (ws ++ w ∷ []) - 1) (ws ++ w ∷ []) ≡ ws
popped ws w = let l = length_push ws w in let e : length (ws ++ w ∷ []) - 1 ≡ length ws = omega arith in rw e (take_at ws (w ∷ []) (length ws) refl)

set_twice : (ls : List (List Watch)) (i : ℕ) (x y : List Watch) → set (set ls i x) i y ≡ set ls i y
set_twice [] i x y = refl
set_twice (z ∷ ls) zero x y = refl
set_twice (z ∷ ls) (suc i) x y = ap (λ u. z ∷ u) (set_twice ls i x y)

-- a first push is undone where the second was refused
pub push_undone : {E : Type 0} (r : Result (Unit {0}) E) (ls : List (List Watch)) (a b : ℕ) (p q z d e f : List Watch) (w : Watch) → a < length ls → b < length ls → p ≡ d ++ w ∷ [] → d ≡ get_or ls a d → is_err r ≡ true → OnErr r (q ≡ e) → e ≡ get_or (set ls a p) b e
    → z ≡ take (length f - 1) f → f ≡ get_or (set (set ls a p) b q) a f → OnErr r (set (set (set ls a p) b q) a z ≡ ls)
push_undone (Ok x) ls a b p q z d e f w in-a in-b pushed d-is bad refused e-is popped-is f-is = absurd (false≢true bad)
push_undone (Err x) ls a b p q z d e f w in-a in-b pushed d-is bad refused e-is popped-is f-is =
    let size : length (set ls a p) ≡ length ls = length-set ls a p in
    let same : set (set ls a p) b q ≡ set ls a p = set_back (set ls a p) b q e (omega arith) (refused ∙ e-is) in
    let here : f ≡ p = f-is ∙ ap (λ y. get_or y a f) same ∙ get_or-set_same ls a p f in-a in
    let back : z ≡ get_or ls a d = popped-is ∙ ap (λ y. take (length y - 1) y) (here ∙ pushed) ∙ popped d w ∙ d-is in
    ap (λ y. set y a z) same ∙ set_twice ls a p z ∙ set_back ls a z d in-a back

-- what a call that was not refused says
pub ok_said : {A E : Type 0} (r : Result A E) (P : Type 0) → is_err r ≡ false → OnOk r P → P
ok_said (Ok x) P good h = h
ok_said (Err e) P good h = absurd (false≢true (sym good))
