use Rattle.std.proofs.Common.{◌≡◌, map, take}
use Rattle.sat_terms.specs.Literal.{code_of}
use Rattle.rooted_scenes.proofs.scene.lits.Given as goal

abbrev pub invariant-loop-number : goal.invariant-loop-number
invariant-loop-number l = l.lits.items ≡ map code_of (take l.number-index l.numbers)
