use Rattle.std.proofs.Common.{◌≡◌, refl, sym, ap, subst, ◌∙◌}
use Rattle.std.specs.Prelude.{slice_get, filter_map}
use Rattle.dw_tablet.specs.Held.{Agrees}
use Rattle.dw_tablet.specs.Values.{shown_by}
use Rattle.dw_tablet.specs.Cursors.{known_keys}
use Rattle.dw_tablet.specs.Walks.{place_at, end_at}
use Rattle.dw_iter.proofs.EqualTops.{top_first, top_none, known_at}
use Rattle.dw_iter.proofs.equal.EqualLeafDocIter.top.Goals as goal

pub returns-in-Cell-clause-key : goal.returns-in-Cell-clause-key
returns-in-Cell-clause-key c =
    let s = c.args.self.now in
    let walk = c.equal_walks_are_ordered.ensures s.tablet.now s.field.now s.auths.now s.snapshot s.value.now s.types.now s.bound c.bound_is_whole.ensures in
    top_first s.tablet.now s.field.now s.auths.now s.snapshot s.value.now s.types.now s.bound walk (shown_by s.cursor.asked) (place_at s.cursor) (end_at s.cursor) s.asked s.place s.end (c.in-Cell.value.now, c.in-Cell.doc)
    (λ content agrees. c.in-Cell.ensures.cell content (subst (λ t. Agrees t content) (sym s.tablet_is) agrees))

pub returns-in-Cell-clause-known : goal.returns-in-Cell-clause-known
returns-in-Cell-clause-known c =
    let s = c.args.self.now in
    let walk = c.equal_walks_are_ordered.ensures s.tablet.now s.field.now s.auths.now s.snapshot s.value.now s.types.now s.bound c.bound_is_whole.ensures in
    let first = ap (λ t. slice_get (filter_map (shown_by s.cursor.asked) (known_keys t (place_at s.cursor) (end_at s.cursor))) 0) (sym s.tablet_is) ∙ c.in-Cell.ensures.known in
    walk.known (c.in-Cell.value.now, c.in-Cell.doc)
    (known_at s.tablet.now s.field.now s.auths.now s.snapshot s.value.now s.types.now s.bound walk (shown_by s.cursor.asked) (place_at s.cursor) (end_at s.cursor) s.asked s.place s.end (c.in-Cell.value.now, c.in-Cell.doc) first)

pub returns-in-Cell-clause-met : goal.returns-in-Cell-clause-met
returns-in-Cell-clause-met c =
    let s = c.args.self.now in
    let walk = c.equal_walks_are_ordered.ensures s.tablet.now s.field.now s.auths.now s.snapshot s.value.now s.types.now s.bound c.bound_is_whole.ensures in
    let first = ap (λ t. slice_get (filter_map (shown_by s.cursor.asked) (known_keys t (place_at s.cursor) (end_at s.cursor))) 0) (sym s.tablet_is) ∙ c.in-Cell.ensures.known in
    walk.met (c.in-Cell.value.now, c.in-Cell.doc)
    (known_at s.tablet.now s.field.now s.auths.now s.snapshot s.value.now s.types.now s.bound walk (shown_by s.cursor.asked) (place_at s.cursor) (end_at s.cursor) s.asked s.place s.end (c.in-Cell.value.now, c.in-Cell.doc) first)

pub returns-in-End-clause-end : goal.returns-in-End-clause-end
returns-in-End-clause-end c =
    let s = c.args.self.now in
    let walk = c.equal_walks_are_ordered.ensures s.tablet.now s.field.now s.auths.now s.snapshot s.value.now s.types.now s.bound c.bound_is_whole.ensures in
    λ _. top_none s.tablet.now s.field.now s.auths.now s.snapshot s.value.now s.types.now s.bound walk (shown_by s.cursor.asked) (place_at s.cursor) (end_at s.cursor) s.asked s.place s.end
    (λ content agrees. c.in-End.ensures.end refl content (subst (λ t. Agrees t content) (sym s.tablet_is) agrees))
