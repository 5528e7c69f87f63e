use Rattle.std.proofs.Common.{◌≡◌, ◌<◌, ◌+◌, ℕ, length, length-set, set, ap, ◌∙◌, arith}
use Rattle.std.proofs.lemmas.List.{get_or_default}
use Rattle.watch_lists.specs.declared.copies.Place.{Place}
use Rattle.watch_lists.specs.Copying.{pieces, place}
use Rattle.watch_lists.specs.Watching.{copy}
use Rattle.watch_lists.proofs.Pieces.{no_place, pieces_long, copy_length, pieces_turn, lent_back}
use Rattle.watch_lists.proofs.copies.Copies.turn.Goals as goal

pub returns : goal.returns
returns c =
    let w = c.self.inside.words.items in
    let ps = c.self.inside.places.items in
    let known : c.args.id < length (pieces w ps) = rw (← c.self.view_is) at c.requires.known in
    let long = pieces_long w ps in
    let known' : c.args.id < length ps = omega arith in
    let size = copy_length w ps c.args.id known' (c.self.invariant.0.within c.args.id) in
    let late = c.requires.late in
    let in' : c.args.k < length (copy (pieces w ps) c.args.id) = rw (← c.self.view_is) at c.requires.within in
    let here : c.index.result.now ≡ place ps c.args.id = c.index.ensures ∙ get_or_default ps c.args.id c.index.result.now no_place known' in
    let start : c.index.result.now.start ≡ (place ps c.args.id).start = ap (λ (p : Place). p.start) here in
    let now = set (set (set w c.index.result.now.start c.args.first) (c.index.result.now.start + 1) c.args.second) (c.index.result.now.start + c.args.k) c.args.behind in
    let same : length now ≡ length w = omega (arith, length-set {A = ℕ}) in
    rw (← c.self.view_is, c.as_mut_slice-words.ensures.value, lent_back c.self.inside.words.len now w (omega (arith, c.self.inside.words.ok.0)) same)
    (pieces_turn w ps c.args.id c.args.first c.args.second c.args.k c.args.behind c.index.result.now.start c.self.invariant.0 known' (omega arith) (omega arith) start)
