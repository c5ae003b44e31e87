use Rattle.std.proofs.Common.{ap, ◌∙◌}
use Rattle.dw_derive.specs.Tables.{tables}
use Rattle.dw_tablet.specs.Places.{shard_start, shard_end}
use Rattle.dw_page.proofs.OpenLemmas.{agrees_of}
use Rattle.dw_page.proofs.open.read_shard.Goals as goal

pub returns-clause-agrees : goal.returns-clause-agrees
returns-clause-agrees g c = λ w told.
    agrees_of _ c.in_ok-cells.cells.items c.args.shard.now c.start.result.now c.end.result.now w
    (c.start.ensures ∙ ap shard_start c.in_ok-none.ensures.shard)
    (c.end.ensures ∙ ap shard_end c.in_ok-none.ensures.shard)
    (c.in_ok-cells.ensures.cells (tables w) told)
    c.in_ok-tablet.ensures.agrees
