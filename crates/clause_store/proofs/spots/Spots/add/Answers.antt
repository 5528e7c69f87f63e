use Rattle.std.proofs.Common.{◌<◌, length, sym, ap, ◌∙◌, arith, subst, ◌^◌}
use Rattle.std.proofs.lemmas.List.{length-map}
use Rattle.clause_store.specs.Lists.{occ_at}
use Rattle.clause_store.specs.Pieces.{pieces_of, IsLaid}
use Rattle.clause_store.specs.Spots.{spots_of, ends}
use Rattle.clause_store.proofs.Pieces.{pieces_long, laid_grown, pieces_grown, added_laid, added_here, added_others}
use Rattle.clause_store.proofs.spots.Spots.add.Goals as goal

pub invariant_of-self : goal.invariant_of-self
invariant_of-self c =
    let l = c.in_err-append_ends.ensures.err in
    let short : length c.append_ends.new.cells.items < 2 ^ 32 = omega (arith, c.append_ends.ensures.bound) in
    subst (λ z. IsLaid z c.self.inside.pieces.items) (sym l.longer) (laid_grown c.self.inside.cells.items l.more c.self.inside.pieces.items c.self.invariant (rw l.longer at short))

pub returns-in_err-append_ends-clause-others : goal.returns-in_err-append_ends-clause-others
returns-in_err-append_ends-clause-others c k n =
    let l = c.in_err-append_ends.ensures.err in
    ap (λ z. spots_of (pieces_of z c.self.inside.pieces.items) k) l.longer
    ∙ ap (λ z. spots_of z k) (pieces_grown c.self.inside.cells.items l.more c.self.inside.pieces.items c.self.invariant.within)
    ∙ ap (λ z. spots_of z k) c.self.view_is
    ∙ c.reach.ensures.same k

pub invariant_of-self-2 : goal.invariant_of-self-2
invariant_of-self-2 c =
    let known : c.args.id < length (pieces_of c.self.inside.cells.items c.self.inside.pieces.items) = rw (← c.self.view_is) at c.in_ok-reach.ensures.long in
    let long = pieces_long c.self.inside.cells.items c.self.inside.pieces.items in
    let size = length-map c.args.lits.now (λ lit. length (occ_at c.args.lists.now lit)) in
    added_laid c.self.inside.cells.items c.append_ends.new.cells.items (ends c.args.lists.now c.args.lits.now) c.self.inside.pieces.items c.len-start.result (length c.args.lits.now) c.self.invariant c.in_ok-append_ends.ensures.ok (omega (arith, c.len-start.ensures)) (sym size) (omega (arith, c.append_ends.ensures.bound)) c.args.id (omega (arith, known, long))

pub returns-clause-here : goal.returns-clause-here
returns-clause-here c =
    let known : c.args.id < length (pieces_of c.self.inside.cells.items c.self.inside.pieces.items) = rw (← c.self.view_is) at c.in_ok-reach.ensures.long in
    let long = pieces_long c.self.inside.cells.items c.self.inside.pieces.items in
    let size = length-map c.args.lits.now (λ lit. length (occ_at c.args.lists.now lit)) in
    added_here c.self.inside.cells.items c.append_ends.new.cells.items (ends c.args.lists.now c.args.lits.now) c.self.inside.pieces.items c.len-start.result (length c.args.lits.now) c.self.invariant c.in_ok-append_ends.ensures.ok (omega (arith, c.len-start.ensures)) (sym size) (omega (arith, c.append_ends.ensures.bound)) c.args.id (omega (arith, known, long))

pub returns-clause-others : goal.returns-clause-others
returns-clause-others c k n =
    let size = length-map c.args.lits.now (λ lit. length (occ_at c.args.lists.now lit)) in
    added_others c.self.inside.cells.items c.append_ends.new.cells.items (ends c.args.lists.now c.args.lits.now) c.self.inside.pieces.items c.len-start.result (length c.args.lits.now) c.self.invariant c.in_ok-append_ends.ensures.ok (omega (arith, c.len-start.ensures)) (sym size) (omega (arith, c.append_ends.ensures.bound)) c.args.id k n
    ∙ ap (λ z. spots_of z k) c.self.view_is
    ∙ c.reach.ensures.same k
