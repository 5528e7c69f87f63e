use Rattle.std.proofs.Common.{◌≡◌, Option, sym, ap, false, arith}
use Rattle.std.specs.Prelude.{IsSome, IsTrue, ◌↔◌, is_some, Bool}
use Rattle.clause_store.specs.Stored.{Stored}
use Rattle.clause_store.proofs.Arrays.{slot_past, live_read}
use Rattle.clause_store.proofs.arena.Arena.is_live.Goals as goal

same_as : (b : Bool) (x : Option Stored) → b ≡ is_some x → IsTrue b ↔ IsSome x
same_as b x e = rw e ((λ h. h), (λ h. h))

pub returns-then-id-len : goal.returns-then-id-len
returns-then-id-len c = rw (← c.self.view_is) (same_as _ _ (live_read c.self.inside.words.items c.self.inside.places.items c.args.id c.index.result.now (omega arith) c.index.ensures))

pub returns-else-id-len : goal.returns-else-id-len
returns-else-id-len c = rw (← c.self.view_is) (same_as false _ (sym (ap is_some (slot_past c.self.inside.words.items c.self.inside.places.items c.args.id (omega arith)))))
