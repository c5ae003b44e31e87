use Rattle.std.proofs.Common.{ap, ◌∙◌, List, ℕ}
use Rattle.dw_outside.specs.declared.slot.Slot.{Slot}
use Rattle.dw_outside.specs.Tables.{limited}
use Rattle.dw_outside.specs.Spans.{cells_between}
use Rattle.dw_outside.proofs.SpanCells.{same_span, span_ascends, span_within}
use Rattle.dw_outside.proofs.store.Store.span.Goals as goal

pub returns-clause-cells : goal.returns-clause-cells
returns-clause-cells c =
    let t = c.args.table in
    let m = c.args.self.now in
    let n = c.args.limit in
    let lo : List ℕ → Slot = λ k. record { table = t; key = k } in
    c.in_ok-cells.ensures
    ∙ (ap (λ k. limited n (cells_between (lo k) c.in_ok-hi.hi m)) c.in_ok-of.ensures
    ∙ (ap (λ hi. limited n (cells_between (lo c.args.from.now) hi m)) c.in_ok-hi.ensures
    ∙ ap (limited n) (same_span t c.args.from.now c.args.before.now m)))

pub returns-clause-ascending : goal.returns-clause-ascending
returns-clause-ascending c =
    span_ascends c.args.table c.args.from.now c.args.before.now c.args.limit c.args.self.now c.in_ok-cells.cells.items (returns-clause-cells c)

pub returns-clause-bounds : goal.returns-clause-bounds
returns-clause-bounds c =
    span_within c.args.table c.args.from.now c.args.before.now c.args.limit c.args.self.now c.in_ok-cells.cells.items (returns-clause-cells c)
