-- What stores say once they took a clause, and once they have learned.
use Rattle.std.proofs.Common.{◌≡◌, ◌≤◌, ℕ, List, [], ◌++◌, Option, inl, inr, refl, sym, ap, ◌∙◌, subst}
use Rattle.std.specs.Prelude.{IsSome}
use Rattle.std.proofs.lemmas.Bool.{cases_eq}
use Rattle.sat_terms.specs.Literal.{has, neg, var_of}
use Rattle.sat_terms.specs.Answer.{Within}
use Rattle.sat_terms.specs.Normal.{IsNormal}
use Rattle.normal_form.specs.Forms.{IsTautology, IsFormOf, SameLits}
use Rattle.normal_form.proofs.FormTruths.{true_same, true_back, tautology_true, all_same}
use Rattle.clause_store.specs.declared.stored.Keep.TheVariants.{Firm}
use Rattle.clause_store.specs.Stored.{Stored, slot, slot_lits, Fills}
use Rattle.clause_store.proofs.Slots.{FirmTrue-filled, FirmTrue-before, StoreTrue-filled}
use Rattle.solver_api.specs.Held.{Takes}

-- a tautology is not stored
pub takes_none : (s : List (Option Stored)) (lits : List ℕ) → IsTautology lits → Takes s s lits
takes_none s lits t = record {
  firm = λ f h. (h, tautology_true f lits t);
  from_firm = λ f h here. h;
  all = λ f h here. h;
  within = λ n w here. w;
}

-- the normal form is stored
pub takes_form : (old new : List (Option Stored)) (id : ℕ) (form lits : List ℕ) → IsFormOf form lits → Fills old new id (record { lits = form; keep = Firm; glue = 0 }) → Takes old new lits
takes_form old new id form lits is fills = record {
  firm = λ f h. let b = FirmTrue-before f fills h in (b.0, true_same f form lits is.same (b.1 refl));
  from_firm = λ f h here. FirmTrue-filled f fills h (λ e. true_back f form lits is.same here);
  all = λ f h here. StoreTrue-filled f fills h (true_back f form lits is.same here);
  within = λ n w here j live.
      elim (cases_eq j id) [
        | inl e ↦ subst (λ x. Within n (slot_lits x)) (sym (ap (slot new) e ∙ fills.filled)) (all_same (λ l. (1 ≤ var_of l) × (var_of l ≤ n)) form lits is.same here)
        | inr other ↦ subst (λ x. Within n (slot_lits x)) (sym (fills.others j other)) (w j (subst (λ x. IsSome x) (fills.others j other) live))
      ];
}

-- a copy of the clause was sorted, and has no opposite literals
pub takes_sorted : (old new : List (Option Stored)) (id : ℕ) (lits empty copy sorted form : List ℕ) → empty ≡ [] → copy ≡ empty ++ lits → SameLits sorted copy → form ≡ sorted → IsNormal form → Fills old new id (record { lits = form; keep = Firm; glue = 0 }) → Takes old new lits
takes_sorted old new id lits empty copy sorted form none copied same is normal fills = takes_form old new id form lits (record { normal = normal; same = λ l. ap (λ c. has c l) is ∙ same l ∙ ap (λ c. has c l) (copied ∙ ap (λ e. e ++ lits) none) }) fills

-- or it has
pub takes_opposites : (s : List (Option Stored)) (lits empty copy sorted form : List ℕ) → empty ≡ [] → copy ≡ empty ++ lits → SameLits sorted copy → form ≡ sorted → IsTautology form → Takes s s lits
takes_opposites s lits empty copy sorted form none copied same is t =
    let all : (l : ℕ) → has form l ≡ has lits l = λ l. ap (λ c. has c l) is ∙ same l ∙ ap (λ c. has c l) (copied ∙ ap (λ e. e ++ lits) none) in
    takes_none s lits (t.0, sym (all t.0) ∙ t.1, sym (all (neg t.0)) ∙ t.2)
