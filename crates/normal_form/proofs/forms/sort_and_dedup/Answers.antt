use Rattle.std.proofs.Common.{sym, ◌∙◌, eqb}
use Rattle.std.proofs.lemmas.List.Filters.{dedup_is}
use Rattle.std.proofs.lemmas.List.Sorted.{list_any-IsPermutation}
use Rattle.std.proofs.lemmas.Map.Keys.{IsStrictlyIncreasing-dedup}
use Rattle.normal_form.proofs.Members.{has-dedup}
use Rattle.normal_form.proofs.forms.sort_and_dedup.Goals as goal

pub returns-clause-rising : goal.returns-clause-rising
returns-clause-rising c = rw (dedup_is eqb _ _ c.dedup.ensures.filtered) (IsStrictlyIncreasing-dedup _ c.sort_unstable.ensures.sorted)

pub returns-clause-same : goal.returns-clause-same
returns-clause-same c l = rw (dedup_is eqb _ _ c.dedup.ensures.filtered) (has-dedup _ l ∙ sym (list_any-IsPermutation (λ x. eqb x l) _ _ c.sort_unstable.ensures.permutation))
