use Rattle.std.proofs.Common.{arith}
use Rattle.std.proofs.lemmas.Bool.{not-true}
use borrow.Author.Tests.{ltb-true}
use Rattle.clause_store.proofs.Arrays.{slots_length, dead_slot}
use Rattle.clause_store.proofs.arena.Arena.is_free.Goals as goal

pub returns-then-id-len : goal.returns-then-id-len
returns-then-id-len c t = rw (← c.self.view_is) (
  dead_slot c.self.inside.words.items c.self.inside.places.items c.args.id c.index.result.now (omega arith) c.index.ensures (not-true _ t),
  let n = slots_length c.self.inside.words.items c.self.inside.places.items in omega arith,
)

pub returns-else-id-len : goal.returns-else-id-len
returns-else-id-len c t = absurd (omega (arith, ltb-true, t))
