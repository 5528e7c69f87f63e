use Rattle.std.proofs.Common.{◌≡◌, ◌≤◌, ◌<◌, ◌^◌, ℕ, get_or}
use Rattle.sat_terms.specs.Literal.{var_of}
use Rattle.card_propagator.proofs.counter.need_of.Given as goal

abbrev pub invariant-loop-lit : goal.invariant-loop-lit
invariant-loop-lit l = record {
  known : (i : ℕ) → i < l.lit-index → (0 < var_of (get_or l.lits i 0)) × (var_of (get_or l.lits i 0) < l.need);
  small : l.need ≤ 2 ^ 22;
}
