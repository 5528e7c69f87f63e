-- Entries for tests: clauses of the positive literals of variables in a row, each with one of its literals as witness.
use Rattle.std.proofs.Common.{◌≡◌, ◌≢◌, ◌∙◌, ℕ, suc, zero, ◌+◌, ◌*◌, ◌<◌, false, true, eqb, List, [], ◌∷◌, ◌++◌, length, get_or, inl, inr, refl, sym, arith}
use Rattle.std.specs.Prelude.{All}
use Rattle.std.proofs.lemmas.Bool.{or_cases, or_left, or_from, false≢true, eqb-true, eq-eqb, ne_eqb}
use Rattle.std.proofs.lemmas.List.Elements.{All-nil, All-push}
use Rattle.std.proofs.lemmas.List.Quantifiers.{all_pairs_push}
use Rattle.sat_terms.specs.Literal.{var_of, neg, pos_lit, has}
use Rattle.sat_terms.specs.Normal.{IsNormal}
use Rattle.sat_terms.proofs.Literals.{neg-other, var_of-pos_lit}
use Rattle.redundancy.specs.Setting.{IsApart}
use Rattle.redundancy.specs.Redundancy.{IsEntry}
use Rattle.witness_stack.proofs.Counted.{has_here}

-- a normal clause of variables below n
pub record IsRow (c : List ℕ) (n : ℕ) : Type 0 where
  pub normal : IsNormal c
  pub below : All (λ l. (l < 2 * n) × (var_of l < n)) c

pub row_none : (n : ℕ) → IsRow [] n
row_none n = record {
  normal = record { rising = λ i j d lt in'. absurd (omega arith); apart = λ i j d lt in'. absurd (omega arith) };
  below = All-nil (λ l. (l < 2 * n) × (var_of l < n));
}

pub row_push : (c : List ℕ) (n l : ℕ) → IsRow c n → l ≡ pos_lit n → IsRow (c ++ l ∷ []) (n + 1)
unfolding pos_lit
row_push c n l row is =
    let here : l ≡ 2 * n = is in
    let var : var_of l ≡ n = rw is (var_of-pos_lit n) in
    record {
      normal = record {
        rising = all_pairs_push (λ a b. a < b) c l row.normal.rising (λ k d in'. let b = (row.below k d in').0 in omega arith);
        apart = all_pairs_push (λ a b. var_of a ≢ var_of b) c l row.normal.apart (λ k d in' e. absurd (let b = (row.below k d in').1 in omega arith));
      };
      below = All-push (λ x. (x < 2 * (n + 1)) × (var_of x < n + 1)) c l (λ k d in'. let b = row.below k d in' in (omega (arith, b.0), omega (arith, b.1))) (omega arith, omega arith);
    }

-- one literal is no opposite of itself
pub apart_one : (a : ℕ) → IsApart (a ∷ [])
apart_one a l h =
    elim (or_cases (eqb a l) false h) [
      | inl e ↦ or_from (eqb a (neg l)) false (ne_eqb a (neg l) (λ q. absurd (neg-other l (sym q ∙ eqb-true a l e)))) refl
      | inr f ↦ absurd (false≢true f)
    ]

-- a normal clause with one of its literals as witness
pub single_entry : (c : List ℕ) (i a : ℕ) → IsNormal c → i < length c → a ≡ get_or c i a → IsEntry (record { witness = a ∷ []; clause = c })
single_entry c i a normal in' is = record {
  apart = apart_one a;
  normal = normal;
  shared = (a, or_left (eqb a a) false (eq-eqb a a refl), has_here c i a in' is);
}
