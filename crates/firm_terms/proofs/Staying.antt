-- What stays so where no firm clause came: no more is forced, no clause is shortened, and no literals become equivalent.
use Rattle.std.proofs.Common.{◌≡◌, ℕ, Bool, true, List, Option, sym, subst, ◌∙◌}
use Rattle.sat_terms.specs.Literal.{has, neg, pos_lit}
use Rattle.clause_store.specs.Stored.{Stored, slot, slot_lits, is_firm}
use Rattle.firm_terms.specs.Firm.{NoneCame}
use Rattle.firm_terms.specs.Implying.{Leads, IsPairOf, Says, Implication, NoEquivalents}
use Rattle.firm_terms.specs.Implying.Leads.{here, more}
use Rattle.firm_terms.specs.Vivifying.{Forced, Fails, negs, Calm, AllCalm}
use Rattle.firm_terms.specs.Vivifying.Forced.{start, unit}

-- where no clause came, no more is forced
pub forced_fewer : (s t : List (Option Stored)) (id : ℕ) (given : List ℕ) (l : ℕ) → NoneCame s t → Forced t id given l → Forced s id given l
forced_fewer s t id given _ h (start l i) = start l i
forced_fewer s t id given _ h (unit l k ne firm' i others) =
    let e = h k firm' in
    unit l k ne (subst (λ (z : Option Stored). is_firm z ≡ true) e firm') (subst (λ (z : Option Stored). has (slot_lits z) l ≡ true) e i)
    (λ m a b. forced_fewer s t id given (neg m) h (others m (subst (λ (z : Option Stored). has (slot_lits z) m ≡ true) (sym e) a) b))

pub fails_fewer : (s t : List (Option Stored)) (id : ℕ) (given : List ℕ) → NoneCame s t → Fails t id given → Fails s id given
fails_fewer s t id given h x =
    let e = h x.0 x.2 in
    (x.0, x.1, subst (λ (z : Option Stored). is_firm z ≡ true) e x.2, λ m a. forced_fewer s t id given (neg m) h (x.3 m (subst (λ (z : Option Stored). has (slot_lits z) m ≡ true) (sym e) a)))

pub calm_stays : (s t : List (Option Stored)) (id : ℕ) (c : List ℕ) → NoneCame s t → Calm s id c → Calm t id c
calm_stays s t id c h calm front back l e some =
    let k = calm front back l e some in
    record {
      stands = λ x. k.stands (fails_fewer s t id (negs front) h x);
      free = λ x. k.free (forced_fewer s t id (negs front) (neg l) h x);
      open_yet = λ lt m i x. k.open_yet lt m i (forced_fewer s t id (negs front) m h x);
    }

pub all_calm_stays : (s t : List (Option Stored)) → NoneCame s t → AllCalm s → AllCalm t
all_calm_stays s t h calm id firm' =
    let e = h id firm' in
    let before : is_firm (slot s id) ≡ true = subst (λ (z : Option Stored). is_firm z ≡ true) e firm' in
    subst (λ (z : Option Stored). Calm t id (slot_lits z)) (sym e) (calm_stays s t id (slot_lits (slot s id)) h (calm id before))

-- no implication comes either
says_stays : (s t : List (Option Stored)) (id a b : ℕ) → NoneCame s t → Says t id a b → Says s id a b
says_stays s t id a b h x =
    let e = h id x.firm in
    record {
      firm = subst (λ (z : Option Stored). is_firm z ≡ true) e x.firm;
      by = subst (λ (z : Option Stored). IsPairOf (slot_lits z) a b) e x.by;
    }

leads_stays : (s t : List (Option Stored)) (a b : ℕ) → NoneCame s t → Leads (Implication t) a b → Leads (Implication s) a b
leads_stays s t a _ h here = here
leads_stays s t a _ h (more b c way last) = more b c (leads_stays s t a b h way) (last.0, says_stays s t last.0 b c h last.1)

pub untied_stays : (frozen : ℕ → Bool) (s t : List (Option Stored)) → NoneCame s t → NoEquivalents frozen s → NoEquivalents frozen t
untied_stays frozen s t h none v l free other joined =
    none v l free other (leads_stays s t (pos_lit v) l h joined.0, leads_stays s t l (pos_lit v) h joined.1)

-- where more is frozen there are no more equivalences
pub untied_same : (frozen thawed : ℕ → Bool) (s : List (Option Stored)) → ((v : ℕ) → frozen v ≡ thawed v) → NoEquivalents frozen s → NoEquivalents thawed s
untied_same frozen thawed s same none v l free other joined = none v l (same v ∙ free) other joined
