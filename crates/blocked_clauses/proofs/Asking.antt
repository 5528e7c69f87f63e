-- Laws of the search for a clause that is blocked on a literal.
use Rattle.std.proofs.Common.{◌≡◌, ◌≢◌, ℕ, ◌+◌, ◌*◌, ◌<◌, ◌≤◌, true, false, max, List, length, get_or, Option, inl, inr, sym, ap, ◌∙◌, subst, arith}
use Rattle.std.proofs.lemmas.Bool.{cases_eq, false≢true, and_parts, and_from}
use Rattle.std.proofs.lemmas.List.{get_or_default}
use Rattle.std.proofs.Math.Nat.{mul-le-mul_left}
use Rattle.sat_terms.specs.Literal.{has, neg}
use Rattle.clause_store.specs.Stored.{Stored, slot, slot_lits, is_firm}
use Rattle.clause_store.specs.Listing.{HasEachOnce, holds_at}
use Rattle.clause_store.proofs.FirmCounts.{lists_count}
use Rattle.firm_terms.specs.Firm.{Holds}
use Rattle.firm_terms.proofs.Counting.{listed, place_of}
use Rattle.firm_terms.specs.Resolving.{resolvent, is_tautology, IsBlocked}
use Rattle.blocked_clauses.specs.Seeking.{ComesFull, IsAll, IsOpen, IsFound, IsNone, occurrences, most_steps}

-- the ids of the clauses with a literal
pub listed_holds : (s : List (Option Stored)) (l : ℕ) (ids : List ℕ) (k : ℕ) → HasEachOnce (holds_at s l) ids → k < length ids → Holds s (get_or ids k 0) l
listed_holds s l ids k h in' =
    let p = and_parts (is_firm (slot s (get_or ids k 0))) (has (slot_lits (slot s (get_or ids k 0))) l) (listed (holds_at s l) ids k h in') in
    record { firm = p.0; has = p.1 }

pub holds_listed : (s : List (Option Stored)) (l : ℕ) (ids : List ℕ) (id : ℕ) → HasEachOnce (holds_at s l) ids → Holds s id l → (k : ℕ) × (k < length ids) × (get_or ids k 0 ≡ id)
holds_listed s l ids id h x = place_of (holds_at s l) ids id h (and_from (is_firm (slot s id)) (has (slot_lits (slot s id)) l) x.firm x.has)

-- the clause was tested against so many of the others
pub record Asking (s : List (Option Stored)) (id l : ℕ) (others : List ℕ) (i a b limit : ℕ) : Type 0 where
  pub clashed : (k : ℕ) → k < i → is_tautology (resolvent l (slot_lits (slot s id)) (slot_lits (slot s (get_or others k 0)))) ≡ true
  pub counted : b ≡ a + i
  pub rest : b ≤ limit

pub asking_none : (s : List (Option Stored)) (id l : ℕ) (others : List ℕ) (a limit : ℕ) → a ≤ limit → Asking s id l others 0 a a limit
asking_none s id l others a limit le = record { clashed = λ k lt. absurd (omega arith); counted = omega arith; rest = le }

pub asking_more : (s : List (Option Stored)) (id l : ℕ) (others : List ℕ) (i a b limit : ℕ) → Asking s id l others i a b limit → b ≢ limit
    → is_tautology (resolvent l (slot_lits (slot s id)) (slot_lits (slot s (get_or others i 0)))) ≡ true → Asking s id l others (i + 1) a (b + 1) limit
asking_more s id l others i a b limit h ne taut = record {
  clashed = λ k lt.
      elim (cases_eq k i) [
        | inl e ↦ subst (λ (z : ℕ). is_tautology (resolvent l (slot_lits (slot s id)) (slot_lits (slot s (get_or others z 0)))) ≡ true) (sym e) taut
        | inr n ↦ h.clashed k (omega arith)
      ];
  counted = let c = h.counted in omega arith;
  rest = let r = h.rest in omega arith;
}

module _ (s : List (Option Stored)) (id l : ℕ) (others : List ℕ) (holds : Holds s id l) (each : HasEachOnce (holds_at s (neg l)) others) where
  -- there is none to test it against
  pub asked_alone : (a limit : ℕ) → length others ≡ 0 → a ≤ limit → a ≢ limit → IsAll s id l (length others) a (a + 1) limit
  asked_alone a limit none le ne = record {
    blocked = record {
      holds = holds;
      tautologies = λ other x. let p = holds_listed s (neg l) others other each x in absurd (let lt = p.1 in omega arith);
    };
    steps = record { some = omega arith; few = omega arith; rest = omega arith };
  }

  -- it was tested against all
  pub asked_all : (i a b limit : ℕ) → Asking s id l others i a b limit → length others ≤ i → i ≤ length others → length others ≢ 0 → IsAll s id l (length others) a b limit
  asked_all i a b limit h past within some = record {
    blocked = record {
      holds = holds;
      tautologies = λ other x.
          let p = holds_listed s (neg l) others other each x in
          subst (λ (z : ℕ). is_tautology (resolvent l (slot_lits (slot s id)) (slot_lits (slot s z))) ≡ true) p.2 (h.clashed p.0 (let lt = p.1 in omega arith));
    };
    steps = let c = h.counted in record { some = omega arith; few = omega arith; rest = h.rest };
  }

  -- one of them has a resolvent that is no tautology
  pub asked_open : (i a b limit : ℕ) → Asking s id l others i a b limit → i < length others → b ≢ limit
      → is_tautology (resolvent l (slot_lits (slot s id)) (slot_lits (slot s (get_or others i 0)))) ≡ false → IsOpen s id l (length others) a (b + 1) limit
  asked_open i a b limit h in' ne clear = record {
    free = λ x. false≢true (sym clear ∙ x.tautologies (get_or others i 0) (listed_holds s (neg l) others i each in'));
    steps = let c = h.counted in let r = h.rest in record { some = omega arith; few = omega arith; rest = omega arith };
  }

  pub asked_full : (i a b limit : ℕ) → Asking s id l others i a b limit → i < length others → b ≡ limit → ComesFull a b (max 1 (length others)) limit
  asked_full i a b limit h in' e = let c = h.counted in record { full = e; before = omega arith }

-- so many of the clauses with the literal were tested
pub record Seeking (s : List (Option Stored)) (l : ℕ) (ids : List ℕ) (i a b limit : ℕ) : Type 0 where
  pub unblocked : (k : ℕ) → k < i → IsBlocked s (get_or ids k 0) l → ⊥
  pub some : a + i ≤ b
  pub few : b ≤ a + i * max 1 (occurrences s (neg l))
  pub rest : b ≤ limit

pub seeking_none : (s : List (Option Stored)) (l : ℕ) (ids : List ℕ) (a limit : ℕ) → a ≤ limit → Seeking s l ids 0 a a limit
seeking_none s l ids a limit le = record { unblocked = λ k lt. absurd (omega arith); some = omega arith; few = omega arith; rest = le }

-- the number of clauses with a literal
pub occurs_length : (s : List (Option Stored)) (l : ℕ) (ids : List ℕ) → HasEachOnce (holds_at s l) ids → length ids ≡ occurrences s l
occurs_length s l ids h = (lists_count s ids).1 l h

next_most : (i n m : ℕ) → i < n → i * m + m ≤ n * m
next_most i n m lt = let x = mul-le-mul_left m (let y : i + 1 ≤ n = omega arith in y) in omega (arith, x)

module _ (s : List (Option Stored)) (l : ℕ) (ids others : List ℕ) (each : HasEachOnce (holds_at s l) ids) (each' : HasEachOnce (holds_at s (neg l)) others) where
  most_others : length others ≡ occurrences s (neg l)
  most_others = occurs_length s (neg l) others each'

  most_ids : length ids ≡ occurrences s l
  most_ids = occurs_length s l ids each

  pub seeking_more : (i id a b b' limit : ℕ) → Seeking s l ids i a b limit → i < length ids → id ≡ get_or ids i id → IsOpen s id l (length others) b b' limit → Seeking s l ids (i + 1) a b' limit
  seeking_more i id a b b' limit h in' read x =
      let is : id ≡ get_or ids i 0 = read ∙ get_or_default ids i id 0 in' in
      let e = most_others in
      let c = x.steps.some in
      let d = x.steps.few in
      let f = h.some in
      let g = h.few in
      let m : ℕ = max 1 (occurrences s (neg l)) in
      let w : (i + 1) * m ≡ i * m + m = grind arith in
      record {
        unblocked = λ k lt.
            elim (cases_eq k i) [
              | inl z ↦ (λ y. x.free (subst (λ (u : ℕ). IsBlocked s u l) (ap (λ (u : ℕ). get_or ids u 0) z ∙ sym is) y))
              | inr n ↦ h.unblocked k (omega arith)
            ];
        some = omega arith;
        few = omega arith;
        rest = x.steps.rest;
      }

  pub sought_at : (i id a b b' limit : ℕ) → Seeking s l ids i a b limit → i < length ids → IsAll s id l (length others) b b' limit → IsFound s id l a b' limit
  sought_at i id a b b' limit h in' x =
      let e = most_others in
      let u = most_ids in
      let c = x.steps.some in
      let d = x.steps.few in
      let f = h.some in
      let g = h.few in
      let w = next_most i (occurrences s l) (max 1 (occurrences s (neg l))) (omega arith) in
      record {
        blocked = x.blocked;
        steps = record { some = omega arith; few = omega arith; rest = x.steps.rest };
      }

  pub sought_full : (i a b b' limit : ℕ) → Seeking s l ids i a b limit → i < length ids → ComesFull b b' (max 1 (length others)) limit → ComesFull a b' (most_steps s l) limit
  sought_full i a b b' limit h in' x =
      let e = most_others in
      let u = most_ids in
      let d = x.before in
      let g = h.few in
      let w = next_most i (occurrences s l) (max 1 (occurrences s (neg l))) (omega arith) in
      record { full = x.full; before = omega arith }

  pub sought_none : (i a b limit : ℕ) → Seeking s l ids i a b limit → i ≡ length ids → IsNone s l a b limit
  sought_none i a b limit h past =
      let u = most_ids in
      let f = h.some in
      let g = h.few in
      let w : i * max 1 (occurrences s (neg l)) ≡ most_steps s l = ap (λ (z : ℕ). z * max 1 (occurrences s (neg l))) (past ∙ u) in
      record {
        none = λ id x.
            let p = holds_listed s l ids id each x.holds in
            h.unblocked p.0 (let lt = p.1 in omega arith) (subst (λ (z : ℕ). IsBlocked s z l) (sym p.2) x);
        steps = record { some = omega arith; few = omega arith; rest = h.rest };
      }
