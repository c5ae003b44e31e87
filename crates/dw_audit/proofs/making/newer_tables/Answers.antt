use Rattle.std.proofs.Common.{◌∙◌}
use Rattle.std.proofs.lemmas.Result.{IfOk-weaker}
use Rattle.dw_audit.specs.Meta.{sum_of}
use Rattle.dw_audit.specs.Making.{made_of}
use Rattle.dw_audit.proofs.Makings.{events_are, newer_made}
use Rattle.dw_audit.proofs.making.newer_tables.Goals as goal

pub returns : goal.returns
returns c t shard meta =
    let m = sum_of c.in_ok-dict.field-0 in
    IfOk-weaker c.numbered.result _ _
    (λ s h. h ∙ newer_made c.events_are_steps.ensures c.numbers_are_cells.ensures c.rules_are_cells.ensures c.grants_are_cells.ensures t c.args.meta.now m c.in_ok-events.events.entries (made_of c.in_ok-made.made)
    meta c.in_ok-dict.ensures (events_are t c.args.shard.now c.in_ok-events.events.entries shard c.in_ok-events.ensures.ordered c.in_ok-events.ensures.held) c.in_ok-made.ensures)
    c.numbered.ensures
