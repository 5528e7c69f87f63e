-- What holds between two turns.
use Rattle.pass_terms.proofs.Ruling.{for_any, ruled_trans}
use Rattle.std.proofs.Common.{◌≡◌, ℕ, suc, zero, ◌+◌, ◌-◌, ◌*◌, ◌/◌, ◌<◌, ◌≤◌, Bool, true, List, [], length, inl, inr, refl, sym, ap, ◌∙◌, arith, leb}
use Rattle.std.proofs.Math.Nat.{mul-le-mul_left, mul-le-mul_right, mul-add, mul-one, mul-div-le}
use Rattle.std.proofs.lemmas.Bool.{leb-true, false≢true, cases_lt}
use Rattle.sat_terms.specs.Literal.{has}
use Rattle.clause_store.specs.Stored.{slot, is_firm}
use Rattle.clause_store.specs.Listing.{HasEachOnce, firm_at}
use Rattle.firm_terms.specs.Firm.{firm, lits_sum, has_empty}
use Rattle.firm_terms.proofs.Counting.{count_ids}
use Rattle.rule_kernel.specs.State.{State, IsPromised}
use Rattle.rule_kernel.specs.Rules.{SameButMarks}
use Rattle.pass_terms.specs.Ruled.{Ruled, always}
use Rattle.pass_terms.specs.Ruled.Ruled.{none, more}
use Rattle.pass_terms.specs.Ruled.Uses.{unmarked}
use Rattle.subsume_pass.specs.Changing.{size, Falls}
use Rattle.subsume_pass.specs.Trying.{waits, different, Refutes, Settles, Advances, Stops}
use Rattle.subsume_pass.specs.Pass.{IsFixpoint, GoesOn, EndsWell, RunsOut, ReachesLimit}
use Rattle.subsume_pass.proofs.Setting.{some_lits}
use Rattle.subsume_pass.proofs.Trying.{falls_none, falls_same, falls_both}
use Rattle.subsume_pass.proofs.Waiting.{different_most, different_firm, different_some, nil_of}

-- none waits
pub fixpoint : (t : State) → length t.waiting.due ≤ 0 → length t.waiting.fresh ≤ 0 → IsPromised t → IsFixpoint t
fixpoint t no_due no_fresh p =
    let e = nil_of t.waiting.due no_due in
    let k = nil_of t.waiting.fresh no_fresh in
    record {
      reduced = λ none' id f other ne g. p.tried id other f g ne (some_lits t.store id none' f) (ap (λ (z : List ℕ). has z id) e) (ap (λ (z : List ℕ). has z other) k);
      idle = λ none'. record { due = e; fresh = k };
    }

-- an empty clause is firm
pub refuted : (t : State) → has_empty (firm t.store) ≡ true → IsFixpoint t
refuted t h = record { reduced = λ n. absurd (false≢true (sym n ∙ h)); idle = λ n. absurd (false≢true (sym n ∙ h)) }

-- while nothing changes
pub record Pausing (s t : State) (a b limit : ℕ) : Type 0 where
  pub ruled : Ruled always s t
  pub same : t.store ≡ s.store
  pub spent : b + length (firm s.store) * waits t.waiting ≤ a + length (firm s.store) * length (firm s.store)
  pub few : waits t.waiting ≤ length (firm t.store)
  pub rest : b ≤ limit

pub pausing_none : (s : State) (a limit : ℕ) → waits s.waiting ≤ length (firm s.store) → a ≤ limit → Pausing s s a a limit
pausing_none s a limit few le = record {
  ruled = none;
  same = refl;
  spent = (let q : length (firm s.store) * waits s.waiting ≤ length (firm s.store) * length (firm s.store) = mul-le-mul_left (length (firm s.store)) few in omega arith);
  few = few;
  rest = le;
}

-- each that waits stands for as many steps as there are clauses
one_less : (m w w' : ℕ) → w' + 1 ≤ w → m * w' + m ≤ m * w
one_less m w w' le =
    let p : m * (w' + 1) ≤ m * w = mul-le-mul_left m le in
    let r = mul-add m w' 1 in
    let one = mul-one m in
    omega arith

module _ (s t : State) (a b limit : ℕ) (h : Pausing s t a b limit) where
  same_count : length (firm t.store) ≡ length (firm s.store)
  same_count = ap (λ z. length (firm z)) h.same

  same_size : size t.store ≡ size s.store
  same_size = ap size h.same

  pub pausing_more : (u : State) (c : ℕ) → Ruled always t u → Settles t u b c limit → Pausing s u a c limit
  pausing_more u c ruled k =
      let n = same_count in
      let fell = k.fell in
      let o = one_less (length (firm s.store)) (waits t.waiting) (waits u.waiting) fell in
      let sp = k.spent in
      let hs = h.spent in
      let few = h.few in
      let m : length (firm u.store) ≡ length (firm t.store) = ap (λ z. length (firm z)) k.same in
      record {
        ruled = ruled_trans always s t u h.ruled ruled;
        same = k.same ∙ h.same;
        spent = omega arith;
        few = omega arith;
        rest = k.rest;
      }

  some_left : (c : ℕ) → 0 < waits t.waiting → c ≤ b + length (firm t.store) → c ≤ a + length (firm s.store) * length (firm s.store)
  some_left c some le =
      let n = same_count in
      let o = one_less (length (firm s.store)) (waits t.waiting) 0 (omega arith) in
      let hs = h.spent in
      omega arith

  -- a clause changed
  pub goes_on : (u : State) (c : ℕ) → 0 < waits t.waiting → Advances t u b c limit → GoesOn s u a c limit
  goes_on u c some k =
      let e = same_size in
      let less = k.less in
      record {
        falls = falls_both s.store t.store u.store (falls_same s.store t.store h.same) k.falls;
        less = omega arith;
        few = k.few;
        spent = some_left c some k.spent;
        rest = k.rest;
      }

  -- the limit left no step
  pub runs_out : (u : State) (c : ℕ) → Stops t u b c limit → RunsOut s u a c limit
  runs_out u c k =
      let lt = k.some in
      let l = some_left (c + 1) k.some_waits (omega arith) in
      record {
        falls = falls_both s.store t.store u.store (falls_same s.store t.store h.same) k.falls;
        full = k.full;
        some = omega arith;
      }

  -- an empty clause came, or nothing waits
  pub ends_refuted : (u : State) (c : ℕ) → 0 < waits t.waiting → Refutes u.store (length (firm t.store)) b c → EndsWell s u a c
  ends_refuted u c some k = record { fixpoint = refuted u k.empty; spent = some_left c some k.spent }

  pub ends_well : IsFixpoint t → EndsWell s t a b
  ends_well f = record { fixpoint = f; spent = (let hs = h.spent in omega arith) }

-- where one waits
pub some_waits : (t : State) → 0 < length t.waiting.due + length t.waiting.fresh → 0 < waits t.waiting
some_waits t some =
    elim (cases_lt 0 (length t.waiting.due)) [
      | inl lt ↦ (let x = different_some t.waiting.due lt in omega arith)
      | inr ge ↦ (let x = different_some t.waiting.fresh (omega arith) in omega arith)
    ]

-- between rounds
pub record Passing (s t : State) (b limit : ℕ) : Type 0 where
  pub ruled : Ruled always s t
  pub falls : Falls s.store t.store
  pub few : waits t.waiting ≤ length (firm t.store)
  pub spent : b ≤ length (firm s.store) * length (firm s.store) * (size s.store - size t.store)
  pub rest : b ≤ limit

pub passing_none : (s : State) (limit : ℕ) → waits s.waiting ≤ length (firm s.store) → Passing s s 0 limit
passing_none s limit few = record {
  ruled = none;
  falls = falls_none s.store;
  few = few;
  spent = omega arith;
  rest = omega arith;
}

square_le : (n m : ℕ) → n ≤ m → n * n ≤ m * m
square_le n m le =
    let a : n * n ≤ n * m = mul-le-mul_left n le in
    let b : n * m ≤ m * m = mul-le-mul_right m le in
    omega arith

-- a round is paid for by what fell in it
round_paid : (m n g g' a b : ℕ) → n ≤ m → g + 1 ≤ g' → a ≤ m * m * g → b ≤ a + n * n → b ≤ m * m * g'
round_paid m n g g' a b le rise h sp =
    let q = square_le n m le in
    let x : m * m * (g + 1) ≤ m * m * g' = mul-le-mul_left (m * m) rise in
    let y = mul-add (m * m) g 1 in
    let one = mul-one (m * m) in
    omega arith

pub passing_more : (s t u : State) (a b limit : ℕ) → Passing s t a limit → Ruled always t u → GoesOn t u a b limit → Passing s u b limit
passing_more s t u a b limit h ruled k =
    let hs = h.falls.small in
    let ks = k.falls.small in
    let less = k.less in
    record {
      ruled = ruled_trans always s t u h.ruled ruled;
      falls = falls_both s.store t.store u.store h.falls k.falls;
      few = k.few;
      spent = round_paid (length (firm s.store)) (length (firm t.store)) (size s.store - size t.store) (size s.store - size u.store) a b h.falls.few (omega arith) h.spent k.spent;
      rest = k.rest;
    }

-- the limit ended it
some_factor : (m g b : ℕ) → b < m * m * g → 0 < m
some_factor zero g b h = absurd (omega arith)
some_factor (suc m) g b h = omega arith

quotient : (b d g : ℕ) → b < d * (g + 1) → b / d ≤ g
quotient b d g h =
    let x = mul-div-le b d in
    elim (cases_lt g (b / d)) [
      | inr le ↦ le
      | inl lt ↦ absurd (let y : d * (g + 1) ≤ d * (b / d) = mul-le-mul_left d (omega arith) in omega arith)
    ]

pub passing_full : (s t u : State) (a b limit : ℕ) → Passing s t a limit → RunsOut t u a b limit → ReachesLimit s.store u.store limit b
passing_full s t u a b limit h k =
    let small = k.falls.small in
    let hs = h.falls.small in
    let m = length (firm s.store) in
    let g = size s.store - size u.store in
    let some = k.some in
    let lt : b < m * m * (g + 1) = (let p = round_paid m (length (firm t.store)) (size s.store - size t.store) (g + 1) a (b + 1) h.falls.few (omega arith) h.spent (omega arith) in omega arith) in
    let le : m * m * (g + 1) ≤ m * m * (lits_sum s.store + m + 1) = mul-le-mul_left (m * m) (omega arith) in
    let full = k.full in
    record {
      full = full;
      some = some_factor m (g + 1) b lt;
      fell = quotient b (m * m) g lt;
      below = omega arith;
    }

-- how many wait
pub few_by_length : (s : State) (ids due fresh : List ℕ) → HasEachOnce (firm_at s.store) ids → due ≡ s.waiting.due → fresh ≡ s.waiting.fresh → length due ≤ length ids → leb (length fresh) (length ids - length due) ≡ true → waits s.waiting ≤ length (firm s.store)
few_by_length s ids due fresh each d f in' y =
    let le = leb-true (length fresh) (length ids - length due) y in
    let a = different_most s.waiting.due in
    let b = different_most s.waiting.fresh in
    let e = count_ids s.store ids each in
    let x = ap length d in
    let y = ap length f in
    omega arith

pub few_all_due : (s t : State) → t.store ≡ s.store → ((k : ℕ) → has t.waiting.due k ≡ is_firm (slot s.store k)) → t.waiting.fresh ≡ [] → waits t.waiting ≤ length (firm t.store)
few_all_due s t same due fresh =
    let a = different_firm s.store t.waiting.due (λ k y. sym (due k) ∙ y) in
    let b : different t.waiting.fresh ≡ 0 = ap different fresh in
    let e : length (firm t.store) ≡ length (firm s.store) = ap (λ z. length (firm z)) same in
    omega arith

pub ruled_marked : (frozen : ℕ → Bool) (s t u : State) → SameButMarks s t → Ruled always t u → Ruled frozen s u
ruled_marked frozen s t u same h = for_any frozen s u (ruled_trans always s t u (more s t none (unmarked same)) h)
