use Rattle.std.proofs.Common.{◌∙◌, get_or, sym, refl}
use Rattle.std.proofs.lemmas.List.{get_or_default}
use Rattle.watch_lists.specs.Watching.{copy}
use Rattle.watch_lists.specs.Visiting.{IsNextAt}
use Rattle.watch_lists.proofs.Watched.{other_held}
use Rattle.watch_lists.proofs.Fronts.{none_next, has_here}
use Rattle.watch_lists.proofs.Once.{once_apart}
use Rattle.watch_lists.proofs.Looks.{stays_met, wide_blocks, concluded, other_here, held_at, declared_at, declared_within}
use Rattle.watch_lists.proofs.visits.settle.Goals as goal

pub returns-then-binary-clause-settled : goal.returns-then-binary-clause-settled
returns-then-binary-clause-settled c = concluded _ _ _ _ _ _ _ _ _ _ c.conclude-settled.ensures.concluded c.requires.blocks

pub is_true-requires : goal.is_true-requires
is_true-requires c =
    let one = other_here (copy c.args.copies.now c.args.id) _ _ _ c.other_of-other.result c.requires.watched.differ (rw (c.get-clause.ensures, c.index.ensures) at c.index-clause-0.is) (rw (c.get-clause.ensures, c.index.ensures) at c.index-clause-1.is) c.other_of-other.ensures in
    declared_at _ _ _ (c.requires.ready c.args.id c.requires.held.attached).1 (other_held _ _ _ _ _ _ _ c.requires.held one)

pub next_at-requires : goal.next_at-requires
next_at-requires c = rw (c.get-clause.ensures, c.index.ensures) (declared_within _ _ _ (c.requires.ready c.args.id c.requires.held.attached).1 c.requires.copied.same)

pub returns-then-is_true-clause-settled : goal.returns-then-is_true-clause-settled
returns-then-is_true-clause-settled c =
    let one = other_here (copy c.args.copies.now c.args.id) _ _ _ c.other_of-other.result c.requires.watched.differ (rw (c.get-clause.ensures, c.index.ensures) at c.index-clause-0.is) (rw (c.get-clause.ensures, c.index.ensures) at c.index-clause-1.is) c.other_of-other.ensures in
    let holds = other_held _ _ _ _ _ _ _ c.requires.held one in
    stays_met _ _ _ _ _ _ (wide_blocks _ _ _ _ c.args.binary c.if-binary.false holds) (sym c.is_true.ensures ∙ c.if-is_true.true)

pub move_watch-requires-clause-within : goal.move_watch-requires-clause-within
move_watch-requires-clause-within c =
    let here : IsNextAt c.args.trail.now.steps (copy c.args.copies.now c.args.id) c.in-Some.k = rw (c.get-clause.ensures, c.index.ensures) at c.in-Some.ensures in
    record {
      late = here.late;
      within = here.within;
      listed = c.requires.held.within (get_or (copy c.args.copies.now c.args.id) c.in-Some.k 0) (held_at (copy c.args.copies.now c.args.id) _ c.in-Some.k c.requires.copied.same here.within);
    }

pub is_true-requires-in-Some : goal.is_true-requires-in-Some
is_true-requires-in-Some c =
    let here : IsNextAt c.args.trail.now.steps (copy c.args.copies.now c.args.id) c.in-Some.k = rw (c.get-clause.ensures, c.index.ensures) at c.in-Some.ensures in
    let next = (rw (c.get-clause.ensures, c.index.ensures) at c.index-clause-k.is) ∙ get_or_default (copy c.args.copies.now c.args.id) c.in-Some.k _ 0 here.within in
    rw next (declared_within _ _ _ (c.requires.ready c.args.id c.requires.held.attached).1 c.requires.copied.same _ (has_here (copy c.args.copies.now c.args.id) c.in-Some.k _ here.within refl))

pub returns-then-is_true-2-clause-settled : goal.returns-then-is_true-2-clause-settled
returns-then-is_true-2-clause-settled c =
    let here : IsNextAt c.args.trail.now.steps (copy c.args.copies.now c.args.id) c.in-Some.k = rw (c.get-clause.ensures, c.index.ensures) at c.in-Some.ensures in
    let next = (rw (c.get-clause.ensures, c.index.ensures) at c.index-clause-k.is) ∙ get_or_default (copy c.args.copies.now c.args.id) c.in-Some.k _ 0 here.within in
    let holds = held_at (copy c.args.copies.now c.args.id) _ c.in-Some.k c.requires.copied.same here.within in
    stays_met _ _ _ _ _ _ (wide_blocks _ _ _ _ c.args.binary c.if-binary.false (rw next holds)) (sym c.is_true-in-Some.ensures ∙ c.if-is_true-2.true)

pub move_watch-requires-clause-next : goal.move_watch-requires-clause-next
move_watch-requires-clause-next c =
    let here : IsNextAt c.args.trail.now.steps (copy c.args.copies.now c.args.id) c.in-Some.k = rw (c.get-clause.ensures, c.index.ensures) at c.in-Some.ensures in
    (rw (c.get-clause.ensures, c.index.ensures) at c.index-clause-k.is) ∙ get_or_default (copy c.args.copies.now c.args.id) c.in-Some.k _ 0 here.within

pub conclude-settled-requires-in-None-clause-none : goal.conclude-settled-requires-in-None-clause-none
conclude-settled-requires-in-None-clause-none c =
    let one = other_here (copy c.args.copies.now c.args.id) _ _ _ c.other_of-other.result c.requires.watched.differ (rw (c.get-clause.ensures, c.index.ensures) at c.index-clause-0.is) (rw (c.get-clause.ensures, c.index.ensures) at c.index-clause-1.is) c.other_of-other.ensures in
    none_next _ (copy c.args.copies.now c.args.id) _ c.args.f _ one c.requires.watched.differ c.requires.fallen (rw (c.get-clause.ensures, c.index.ensures) at c.in-None.ensures) c.requires.copied.same

pub returns-in-None-clause-settled : goal.returns-in-None-clause-settled
returns-in-None-clause-settled c =
    let one = other_here (copy c.args.copies.now c.args.id) _ _ _ c.other_of-other.result c.requires.watched.differ (rw (c.get-clause.ensures, c.index.ensures) at c.index-clause-0.is) (rw (c.get-clause.ensures, c.index.ensures) at c.index-clause-1.is) c.other_of-other.ensures in
    let holds = other_held _ _ _ _ _ _ _ c.requires.held one in
    concluded _ _ _ _ _ _ _ _ _ _ c.conclude-settled-in-None.ensures.concluded (wide_blocks _ _ _ _ c.args.binary c.if-binary.false holds)

pub returns-in_ok-move_watch-in-Some-clause-settled : goal.returns-in_ok-move_watch-in-Some-clause-settled
returns-in_ok-move_watch-in-Some-clause-settled c =
    let here : IsNextAt c.args.trail.now.steps (copy c.args.copies.now c.args.id) c.in-Some.k = rw (c.get-clause.ensures, c.index.ensures) at c.in-Some.ensures in
    let one = other_here (copy c.args.copies.now c.args.id) _ _ _ c.other_of-other.result c.requires.watched.differ (rw (c.get-clause.ensures, c.index.ensures) at c.index-clause-0.is) (rw (c.get-clause.ensures, c.index.ensures) at c.index-clause-1.is) c.other_of-other.ensures in
    let m = c.in_ok-move_watch-in-Some.ensures.ok in (
      refl,
      record {
        other = c.other_of-other.result;
        next = get_or (copy c.args.copies.now c.args.id) c.in-Some.k 0;
        one = one;
        holds = held_at (copy c.args.copies.now c.args.id) _ c.in-Some.k c.requires.copied.same here.within;
        apart = once_apart (copy c.args.copies.now c.args.id) c.args.f c.other_of-other.result c.in-Some.k here.late here.within one c.requires.copied.once;
        open_yet = here.open_yet;
        lists = m.lists;
        now = m.now;
        copies = m.copies;
        fronted = m.fronted;
        same = m.same;
        once = m.once;
      },
    )
