-- Laws of the walk over two clauses at once.
use Rattle.std.proofs.Common.{◌≡◌, ◌≢◌, ℕ, ◌+◌, ◌<◌, ◌≤◌, true, false, not, eqb, List, length, get_or, ◌⊎◌, inl, inr, sym, ap, ◌∙◌, arith, nat_cmp, Less, Equal, Greater}
use Rattle.std.proofs.lemmas.Bool.Decides.{nat_tests}
use Rattle.std.proofs.lemmas.List.{get_or_default}
use Rattle.std.proofs.lemmas.Bool.{cases_eq, cases_lt, false_from_ne_true, false≢true, eq-eqb, ne_eqb}
use Rattle.sat_terms.specs.Literal.{neg, var_of}
use Rattle.sat_terms.specs.Normal.{IsNormal}
use Rattle.sat_terms.proofs.Literals.{neg-other, var_of-neg, same_var}
use Rattle.sat_terms.proofs.Members.{has_place, has_item}
use Rattle.firm_terms.specs.Resolving.{resolvent, is_tautology}
use Rattle.firm_terms.proofs.Resolving.{clashes, clash_of, clash_from, clash_tautology, clash_is}

-- No literal before the first place but x has its negation in the second clause, and no literal before the second place has it in the
-- first.
pub record IsClear (x : ℕ) (c d : List ℕ) (i j : ℕ) : Type 0 where
  pub apart : (p q : ℕ) → p < length c → q < length d → (p < i) ⊎ (q < j) → get_or c p 0 ≢ x → get_or d q 0 ≢ neg (get_or c p 0)

less_of : (a b : ℕ) → Less ≡ nat_cmp a b → a < b
less_of a b h = grind (arith, nat_tests)

greater_of : (a b : ℕ) → Greater ≡ nat_cmp a b → b < a
greater_of a b h = grind (arith, nat_tests)

equal_of : (a b : ℕ) → Equal ≡ nat_cmp a b → a ≡ b
equal_of a b h = grind (arith, nat_tests)

var_rises : (a b : ℕ) → a < b → var_of a ≤ var_of b
unfolding var_of
var_rises a b lt = omega arith

-- of places in a normal clause the later one has the greater variable
var_from : (c : List ℕ) (i p : ℕ) → IsNormal c → i ≤ p → p < length c → var_of (get_or c i 0) ≤ var_of (get_or c p 0)
var_from c i p n le in' =
    elim (cases_eq i p) [
      | inl e ↦ (let f = ap (λ (z : ℕ). var_of (get_or c z 0)) e in omega arith)
      | inr ne ↦ var_rises (get_or c i 0) (get_or c p 0) (n.rising i p 0 (omega arith) in')
    ]

var_apart : (c : List ℕ) (i p : ℕ) → IsNormal c → i < p → p < length c → var_of (get_or c i 0) ≢ var_of (get_or c p 0)
var_apart c i p n lt in' = n.apart i p 0 lt in'

same_var_of_neg : (a b : ℕ) → b ≡ neg a → var_of b ≡ var_of a
same_var_of_neg a b e = ap var_of e ∙ var_of-neg a

pub clear_start : (x : ℕ) (c d : List ℕ) → IsClear x c d 0 0
clear_start x c d = record { apart = λ p q ip iq w ne. elim w [ inl a ↦ absurd (omega arith) | inr b ↦ absurd (omega arith) ] }

module _ (x : ℕ) (c d : List ℕ) (i j : ℕ) (nc : IsNormal c) (nd : IsNormal d) (h : IsClear x c d i j) (in' : i < length c) (jn : j < length d) where
  pub clear_left : var_of (get_or c i 0) < var_of (get_or d j 0) → IsClear x c d (i + 1) j
  clear_left lt = record {
    apart = λ p q ip iq w ne.
        elim (cases_lt p i) [
          | inl a ↦ h.apart p q ip iq (inl a) ne
          | inr ge ↦
              elim (cases_lt q j) [
                | inl b ↦ h.apart p q ip iq (inr b) ne
                | inr past ↦ (λ e.
                    let at : p ≡ i = elim w [ inl a ↦ omega arith | inr b ↦ absurd (omega arith) ] in
                    let v = same_var_of_neg (get_or c p 0) (get_or d q 0) e in
                    let u = ap (λ (z : ℕ). var_of (get_or c z 0)) at in
                    let r = var_from d j q nd past iq in
                    absurd (omega arith))
              ]
        ];
  }

  pub clear_right : var_of (get_or d j 0) < var_of (get_or c i 0) → IsClear x c d i (j + 1)
  clear_right lt = record {
    apart = λ p q ip iq w ne.
        elim (cases_lt q j) [
          | inl b ↦ h.apart p q ip iq (inr b) ne
          | inr ge ↦
              elim (cases_lt p i) [
                | inl a ↦ h.apart p q ip iq (inl a) ne
                | inr past ↦ (λ e.
                    let at : q ≡ j = elim w [ inl a ↦ absurd (omega arith) | inr b ↦ omega arith ] in
                    let v = same_var_of_neg (get_or c p 0) (get_or d q 0) e in
                    let u = ap (λ (z : ℕ). var_of (get_or d z 0)) at in
                    let r = var_from c i p nc past ip in
                    absurd (omega arith))
              ]
        ];
  }

  -- where the variables are the same
  pub clear_both : var_of (get_or c i 0) ≡ var_of (get_or d j 0) → (get_or c i 0 ≡ get_or d j 0) ⊎ (get_or c i 0 ≡ x) → IsClear x c d (i + 1) (j + 1)
  clear_both same or = record {
    apart = λ p q ip iq w ne e.
        let v = same_var_of_neg (get_or c p 0) (get_or d q 0) e in
        elim (cases_lt p i) [
          | inl a ↦ h.apart p q ip iq (inl a) ne e
          | inr ge ↦
              elim (cases_lt q j) [
                | inl b ↦ h.apart p q ip iq (inr b) ne e
                | inr past ↦
                    elim (cases_eq p i) [
                      | inl pi ↦
                          (let u = ap (λ (z : ℕ). var_of (get_or c z 0)) pi in
                          elim (cases_eq q j) [
                            | inl qj ↦
                                elim or [
                                  | inl s ↦ neg-other (get_or c p 0) (sym e ∙ ap (λ (z : ℕ). get_or d z 0) qj ∙ sym s ∙ ap (λ (z : ℕ). get_or c z 0) (sym pi))
                                  | inr s ↦ ne (ap (λ (z : ℕ). get_or c z 0) pi ∙ s)
                                ]
                            | inr nq ↦ var_apart d j q nd (omega arith) iq (sym same ∙ sym u ∙ sym v)
                          ])
                      | inr np ↦
                          (let at : q ≡ j = elim w [ inl a ↦ absurd (omega arith) | inr b ↦ omega arith ] in
                          let u = ap (λ (z : ℕ). var_of (get_or d z 0)) at in
                          var_apart c i p nc (omega arith) ip (same ∙ sym u ∙ v))
                    ]
              ]
        ];
  }

  -- an opposite pair
  pub clear_found : var_of (get_or c i 0) ≡ var_of (get_or d j 0) → get_or c i 0 ≢ get_or d j 0 → get_or c i 0 ≢ x → is_tautology (resolvent x c d) ≡ true
  clear_found same ne nx =
      elim (same_var (get_or d j 0) (get_or c i 0) (sym same)) [
        | inl e ↦ absurd (ne (sym e))
        | inr e ↦ clash_tautology x c d (clash_from x c d (get_or c i 0) (has_item c i 0 in') nx (rw (← e) (has_item d j 0 jn)))
      ]

-- the end of one of the clauses
pub clear_end : (x : ℕ) (c d : List ℕ) (i j : ℕ) → IsNormal c → IsNormal d → IsClear x c d i j → (length c ≤ i) ⊎ (length d ≤ j) → is_tautology (resolvent x c d) ≡ false
clear_end x c d i j nc nd h past =
    sym (clash_is x c d nc nd)
    ∙ false_from_ne_true (clashes x c d) (λ y.
    let r = clash_of x c d y in
    let p = has_place c r.0 0 r.1 in
    let q = has_place d (neg r.0) 0 r.3 in
    let ip = p.1 in
    let iq = q.1 in
    h.apart p.0 q.0 p.1 q.1 (elim past [ inl a ↦ inl (omega arith) | inr b ↦ inr (omega arith) ]) (λ e. r.2 (sym p.2 ∙ e)) (q.2 ∙ ap neg (sym p.2)))

-- what a test of two literals says
pub differs : (a b : ℕ) → true ≡ not (eqb a b) → a ≢ b
differs a b h e = false≢true (sym (ap not (eq-eqb a b e)) ∙ sym h)

pub same_or : (a b : ℕ) → false ≡ not (eqb a b) → a ≡ b
same_or a b h = elim (cases_eq a b) [ inl e ↦ e | inr n ↦ absurd (false≢true (h ∙ ap not (ne_eqb a b n))) ]

-- the same, as the walk reads the literals and compares their variables
module _ (x : ℕ) (c d : List ℕ) (i j a b u v : ℕ) (nc : IsNormal c) (nd : IsNormal d) (h : IsClear x c d i j) (in' : i < length c) (jn : j < length d) (ia : a ≡ get_or c i a) (ib : b ≡ get_or d j b) (eu : u ≡ var_of a) (ev : v ≡ var_of b) where
  at_left : get_or c i 0 ≡ a
  at_left = get_or_default c i 0 a in' ∙ sym ia

  at_right : get_or d j 0 ≡ b
  at_right = get_or_default d j 0 b jn ∙ sym ib

  var_left : var_of (get_or c i 0) ≡ u
  var_left = ap var_of at_left ∙ sym eu

  var_right : var_of (get_or d j 0) ≡ v
  var_right = ap var_of at_right ∙ sym ev

  pub read_less : Less ≡ nat_cmp u v → IsClear x c d (i + 1) j
  read_less o = clear_left x c d i j nc nd h in' jn (let l = less_of u v o in let e = var_left in let f = var_right in omega arith)

  pub read_greater : Greater ≡ nat_cmp u v → IsClear x c d i (j + 1)
  read_greater o = clear_right x c d i j nc nd h in' jn (let l = greater_of u v o in let e = var_left in let f = var_right in omega arith)

  pub read_same : Equal ≡ nat_cmp u v → (a ≡ b) ⊎ (a ≡ x) → IsClear x c d (i + 1) (j + 1)
  read_same o w =
      clear_both x c d i j nc nd h in' jn (var_left ∙ equal_of u v o ∙ sym var_right)
      (elim w [ inl e ↦ inl (at_left ∙ e ∙ sym at_right) | inr e ↦ inr (at_left ∙ e) ])

  pub read_found : Equal ≡ nat_cmp u v → a ≢ b → a ≢ x → is_tautology (resolvent x c d) ≡ true
  read_found o ne nx =
      clear_found x c d i j nc nd h in' jn (var_left ∙ equal_of u v o ∙ sym var_right) (λ e. ne (sym at_left ∙ e ∙ at_right)) (λ e. nx (sym at_left ∙ e))
