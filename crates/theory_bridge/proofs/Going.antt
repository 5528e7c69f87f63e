-- Rows of questions for reasons compose.
use Rattle.std.proofs.Common.{◌≡◌, ℕ, zero, suc, ◌+◌, ◌≤◌, refl, ap, ◌∙◌, arith}
use Rattle.user_propagator.specs.Meaning.{next_count}
use Rattle.theory_bridge.specs.Shown.{Shown}
use Rattle.theory_bridge.specs.Going.{Asked, count_on}
use Rattle.theory_bridge.proofs.Later.{later_same, later_on}

pub count_sum : (m n c : ℕ) → count_on m (count_on n c) ≡ count_on (m + n) c
count_sum zero n c = let e : n ≡ 0 + n = omega arith in ap (λ x. count_on x c) e
count_sum (suc m) n c = let e : suc (m + n) ≡ suc m + n = omega arith in ap next_count (count_sum m n c) ∙ ap (λ x. count_on x c) e

pub asked_none : (s : Shown) → Asked 0 s s
asked_none s = record { calls = 0; few = omega arith; count = refl; asked = refl; budget = refl; desk = refl; later = later_same s.means s.board }

pub asked_on : (m n : ℕ) (s t u : Shown) → Asked m s t → Asked n t u → Asked (m + n) s u
asked_on m n s t u h k = record {
  calls = k.calls + h.calls;
  few = (let a = h.few in let b = k.few in omega arith);
  count = k.count ∙ ap (count_on k.calls) h.count ∙ count_sum k.calls h.calls s.count;
  asked = k.asked ∙ ap (count_on k.calls) h.asked ∙ count_sum k.calls h.calls s.means.asked;
  budget = k.budget ∙ h.budget;
  desk = k.desk ∙ h.desk;
  later = later_on s.means t.means u.means s.board t.board u.board h.later k.later;
}

pub asked_fewer : (m n : ℕ) (s t : Shown) → m ≤ n → Asked m s t → Asked n s t
asked_fewer m n s t le h = record { calls = h.calls; few = (let a = h.few in omega arith); count = h.count; asked = h.asked; budget = h.budget; desk = h.desk; later = h.later }
