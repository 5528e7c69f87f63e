-- Laws of requests that are kept by kind.
use Rattle.std.proofs.Common.{◌≡◌, ℕ, suc, Bool, List, [], ◌∷◌, ◌++◌, Option, Some, None, refl, sym, ap, ◌∙◌, arith}
use Rattle.std.specs.Prelude.{map}
use Rattle.std.specs.Option.{option_to_list}
use Rattle.user_propagator.specs.Board.{Handed}
use Rattle.user_propagator.specs.Waiting.{Waiting, clause_request, back_requests, requests, first, rest, rest_of, without_first, vars_in, clauses_in, level_in, AreVars, AreClauses, IsLevel}
use Rattle.user_propagator.specs.declared.request.Request.{Request}
use Rattle.user_propagator.specs.declared.request.Request.TheVariants.{Observe, Clause, Back}

-- a queue with one request more
pub vars_push : (rs : List Request) (v : ℕ) → vars_in (rs ++ Observe v ∷ []) ≡ vars_in rs ++ v ∷ []
vars_push [] v = refl
vars_push (Observe w ∷ rs) v = ap (λ x. w ∷ x) (vars_push rs v)
vars_push (Clause c f ∷ rs) v = vars_push rs v
vars_push (Back n ∷ rs) v = vars_push rs v

map-push : {X Y : Type 0} (f : X → Y) (xs : List X) (x : X) → map f (xs ++ x ∷ []) ≡ map f xs ++ f x ∷ []
map-push f [] x = refl
map-push f (y ∷ ys) x = ap (λ z. f y ∷ z) (map-push f ys x)

pub AreVars-push : (rs : List Request) (v : ℕ) → AreVars rs → AreVars (rs ++ Observe v ∷ [])
AreVars-push rs v h = record { same = ap (λ x. x ++ Observe v ∷ []) h.same ∙ sym (map-push Observe (vars_in rs) v) ∙ ap (map Observe) (sym (vars_push rs v)) }

pub clauses_push : (rs : List Request) (c : List ℕ) (f : Bool) → clauses_in (rs ++ Clause c f ∷ []) ≡ clauses_in rs ++ record { clause = c; forgettable = f } ∷ []
clauses_push [] c f = refl
clauses_push (Observe w ∷ rs) c f = clauses_push rs c f
clauses_push (Clause d g ∷ rs) c f = let h : Handed = record { clause = d; forgettable = g } in ap (λ x. h ∷ x) (clauses_push rs c f)
clauses_push (Back n ∷ rs) c f = clauses_push rs c f

pub AreClauses-push : (rs : List Request) (c : List ℕ) (f : Bool) → AreClauses rs → AreClauses (rs ++ Clause c f ∷ [])
AreClauses-push rs c f h =
    let one : Handed = record { clause = c; forgettable = f } in
    record { same = ap (λ x. x ++ Clause c f ∷ []) h.same ∙ sym (map-push clause_request (clauses_in rs) one) ∙ ap (map clause_request) (sym (clauses_push rs c f)) }

-- which kind of request stands first
abbrev kind_first : List Request → ℕ
kind_first [] = 0
kind_first (Observe v ∷ rs) = 1
kind_first (Clause c f ∷ rs) = 2
kind_first (Back n ∷ rs) = 3

kind_vars : (vs : List ℕ) (k : ℕ) → kind_first (map Observe vs) ≡ suc (suc k) → ⊥
kind_vars [] k h = omega arith
kind_vars (v ∷ vs) k h = omega arith

kind_clauses : (cs : List Handed) (k : ℕ) → kind_first (map clause_request cs) ≡ suc k → suc k ≡ 2
kind_clauses [] k h = absurd (omega arith)
kind_clauses (c ∷ cs) k h = sym h

-- what the first request of a queue is, and that the rest is of its kind
pub record FirstVar (r : Request) (rs : List Request) : Type 0 where
  pub var : ℕ
  pub is : r ≡ Observe var
  pub shown : vars_in (r ∷ rs) ≡ var ∷ vars_in rs
  pub rest : AreVars rs

pub first_var : (r : Request) (rs : List Request) → AreVars (r ∷ rs) → FirstVar r rs
first_var (Observe v) rs h = record { var = v; is = refl; shown = refl; rest = record { same = ap rest h.same } }
first_var (Clause c f) rs h = absurd (kind_vars (vars_in rs) 0 (sym (ap kind_first h.same)))
first_var (Back n) rs h = absurd (kind_vars (vars_in rs) 1 (sym (ap kind_first h.same)))

pub record FirstClause (r : Request) (rs : List Request) : Type 0 where
  pub handed : Handed
  pub is : r ≡ clause_request handed
  pub shown : clauses_in (r ∷ rs) ≡ handed ∷ clauses_in rs
  pub rest : AreClauses rs

pub first_clause : (r : Request) (rs : List Request) → AreClauses (r ∷ rs) → FirstClause r rs
first_clause (Observe v) rs h = absurd (let e = kind_clauses (clauses_in rs) 0 (sym (ap kind_first h.same)) in omega arith)
first_clause (Clause c f) rs h = record { handed = record { clause = c; forgettable = f }; is = refl; shown = refl; rest = record { same = ap rest h.same } }
first_clause (Back n) rs h = absurd (let e = kind_clauses (clauses_in rs) 2 (sym (ap kind_first h.same)) in omega arith)

-- the requests of three queues, in order
pub in_order : (wanted handed : List Request) (back : Option Request) → AreVars wanted → AreClauses handed → IsLevel back → wanted ++ (handed ++ option_to_list back) ≡ requests (record { wanted = vars_in wanted; handed = clauses_in handed; back = level_in back })
in_order wanted handed back a b c = ap (λ x. x ++ (handed ++ option_to_list back)) a.same ∙ ap (λ x. map Observe (vars_in wanted) ++ (x ++ option_to_list back)) b.same ∙ ap (λ x. map Observe (vars_in wanted) ++ (map clause_request (clauses_in handed) ++ x)) c.same

-- the first of two lists
pub first_left : (xs ys : List Request) (r : Request) → Some r ≡ first xs → Some r ≡ first (xs ++ ys)
first_left [] ys r h = absurd (let e : Some r ≡ None = h in cc)
first_left (x ∷ xs) ys r h = h

pub first_right : (xs ys : List Request) → None ≡ first xs → xs ++ ys ≡ ys
first_right [] ys h = refl
first_right (x ∷ xs) ys h = absurd (let e : None ≡ Some x = h in cc)

pub first_one : (o : Option Request) → o ≡ first (option_to_list o)
first_one None = refl
first_one (Some r) = refl

-- taking off the first request, by kind and in order
pub rest_in_order : (w : Waiting) → requests (without_first w) ≡ rest (requests w)
rest_in_order w = by_kind w.wanted w.handed w.back where
  by_kind : (vs : List ℕ) (cs : List Handed) (back : Option ℕ) → requests (rest_of vs cs back) ≡ rest (map Observe vs ++ (map clause_request cs ++ back_requests back))
  by_kind (v ∷ vs) cs back = refl
  by_kind [] (c ∷ cs) back = refl
  by_kind [] [] None = refl
  by_kind [] [] (Some level) = refl

-- the level of the request to go back
pub level_new : (n : ℕ) → IsLevel (Some (Back n))
level_new n = record { same = refl }

pub level_gone : IsLevel None
level_gone = record { same = refl }
