-- What the rounds found, said of the pass.
use Rattle.std.proofs.Common.{◌≡◌, ℕ, List, Option, sym, subst}
use Rattle.clause_store.specs.Stored.{Stored, slot, slot_lits}
use Rattle.rule_kernel.specs.declared.report.Ended.{Ended}
use Rattle.rule_kernel.specs.declared.report.Ended.TheVariants.{Fixpoint, Limit}
use Rattle.firm_terms.specs.Vivifying.{AllCalm, NoneShortens}
use Rattle.vivify_pass.specs.Turning.{Rests, Ends}
use Rattle.vivify_pass.proofs.Forcing.{calm_whole}

-- a calm clause is not shortened
pub none_shortens : (s : List (Option Stored)) → AllCalm s → NoneShortens s
none_shortens s calm id f new makes = calm_whole s id (slot_lits (slot s id)) new (calm id f) makes

pub rested : (s t : List (Option Stored)) (limit : ℕ) (e : Ended) → Rests s t limit e → e ≡ Fixpoint → AllCalm t
rested s t limit e h is = subst (λ (z : Ended). Rests s t limit z) is h

pub rested_ends : (s t u : List (Option Stored)) (limit : ℕ) (e : Ended) → u ≡ t → Rests s t limit e → Ends s u limit e
rested_ends s t u limit Fixpoint same h = subst (λ (z : List (Option Stored)). NoneShortens z) (sym same) (none_shortens t h)
rested_ends s t u limit (Limit b) same h = subst (λ (z : List (Option Stored)). Ends s z limit (Limit b)) (sym same) h
