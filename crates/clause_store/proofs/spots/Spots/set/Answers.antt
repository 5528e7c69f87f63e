use Rattle.std.proofs.Common.{◌≡◌, ◌+◌, set, sym, ap, ◌∙◌, subst}
use Rattle.std.proofs.lemmas.List.{get_or_default}
use Rattle.clause_store.specs.declared.spots.Piece.{Piece}
use Rattle.clause_store.specs.Pieces.{pieces_of, piece_at, IsLaid}
use Rattle.clause_store.proofs.Pieces.{no_piece, cell_known, laid_set, pieces_set}
use Rattle.clause_store.proofs.spots.Spots.set.Goals as goal

pub invariant_of-self : goal.invariant_of-self
invariant_of-self c =
    let w = c.self.inside.cells.items in
    let ps = c.self.inside.pieces.items in
    let known = cell_known w ps c.args.id c.args.i c.self.invariant (rw (← c.self.view_is) at c.requires) in
    let here : c.index.result.now ≡ piece_at ps c.args.id = c.index.ensures ∙ get_or_default ps c.args.id c.index.result.now no_piece known.known in
    subst (λ (p : Piece). IsLaid (set w (p.start + c.args.i) c.args.place) ps) (sym here) (laid_set w ps c.args.id c.args.i c.args.place c.self.invariant known.known known.within)

pub returns : goal.returns
returns c =
    let w = c.self.inside.cells.items in
    let ps = c.self.inside.pieces.items in
    let known = cell_known w ps c.args.id c.args.i c.self.invariant (rw (← c.self.view_is) at c.requires) in
    let here : c.index.result.now ≡ piece_at ps c.args.id = c.index.ensures ∙ get_or_default ps c.args.id c.index.result.now no_piece known.known in
    rw (← c.self.view_is)
    (ap (λ (p : Piece). pieces_of (set w (p.start + c.args.i) c.args.place) ps) here ∙ pieces_set w ps c.args.id c.args.i c.args.place c.self.invariant known.known known.within)
