use Rattle.std.proofs.Common.{◌≡◌, ◌<◌, ◌-◌, ◌++◌, length, length-append, sym, ap, ◌∙◌, arith}
use Rattle.watch_lists.specs.Copying.{pieces}
use Rattle.watch_lists.specs.Watching.{copied}
use Rattle.watch_lists.proofs.Rooms.{ok_said}
use Rattle.watch_lists.proofs.Pieces.{pieces_long, added_pieces}
use Rattle.watch_lists.proofs.copies.Copies.add.Goals as goal

pub returns-clause-ok : goal.returns-clause-ok
returns-clause-ok c =
    let w = c.self.inside.words.items in
    let ps = c.self.inside.places.items in
    let known : c.args.id < length (pieces w ps) = rw (← c.self.view_is) at c.requires.known in
    let long = pieces_long w ps in
    let clause = copied c.args.first c.args.second c.args.lits.now in
    let grown : c.append-appended.new.words.items ≡ w ++ clause = ok_said c.append-appended.result _ (sym c.is_err.ensures.value ∙ c.if-is_err.false) c.append-appended.ensures.ok in
    let size = ap length grown ∙ length-append w clause in
    rw (← c.self.view_is) (added_pieces w c.append-appended.new.words.items clause ps c.args.id c.len-start.result (c.len-2.result - c.len-start.result) c.self.invariant.0 (omega arith) grown (omega (arith, c.len-start.ensures, c.self.inside.words.ok.0)) (omega (arith, size, c.len-2.ensures, c.len-start.ensures, c.self.inside.words.ok.0, c.append-appended.new.words.ok.0)))
