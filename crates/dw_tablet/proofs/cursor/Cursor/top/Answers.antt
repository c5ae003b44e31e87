use Rattle.std.proofs.Common.{sym, ap, ◌∙◌, rules}
use Rattle.dw_tablet.specs.Values.{shown_by}
use Rattle.dw_tablet.specs.Walks.{place_at, end_at}
use Rattle.dw_tablet.specs.Cursors.{known_keys, gap_place}
use Rattle.dw_tablet.proofs.Shown.{shown_first, shown_none}
use Rattle.dw_tablet.proofs.Firsts.{known_first}
use Rattle.dw_tablet.proofs.cursor.Cursor.top.Goals as goal

pub returns-in-Some-clause-cell : goal.returns-in-Some-clause-cell
returns-in-Some-clause-cell c =
    let s = c.args.self.now in
    λ content g.
    shown_first s.tablet.now content (place_at s) (end_at s) (shown_by s.asked) c.spans-spans.ensures.apart g s.within s.keys.now (c.in-Some.value.now, c.in-Some.doc) s.known (search rules)

pub returns-in-Nowhere-clause-end : goal.returns-in-Nowhere-clause-end
returns-in-Nowhere-clause-end c =
    let s = c.args.self.now in
    λ _ content g.
    shown_none s.tablet.now content (place_at s) (end_at s) (shown_by s.asked) c.spans-spans.ensures.apart g s.within (sym s.known ∙ search rules) (sym s.missing ∙ ap (gap_place (place_at s)) c.in-Nowhere.is)

pub returns-in-Some-clause-known : goal.returns-in-Some-clause-known
returns-in-Some-clause-known c =
    let s = c.args.self.now in
    known_first (shown_by s.asked) s.keys.now (known_keys s.tablet.now (place_at s) (end_at s)) (c.in-Some.value.now, c.in-Some.doc) s.known (search rules)
