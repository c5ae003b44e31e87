use Rattle.std.proofs.Common.{ap, sym, ◌∙◌}
use Rattle.std.specs.Option.{option_copied}
use Rattle.dw_nest.specs.Shapes.{shape, leaves}
use Rattle.dw_scan.proofs.Batches.{some_found, found_among, said_lacking}
use Rattle.dw_scan.proofs.searching.stuck_place.Goals as goal

pub unreachable-requires : goal.unreachable-requires
unreachable-requires g c = some_found g.I.DocIter.stuck (leaves (shape c.args.tree.now)) c.requires (sym c.first_missing.ensures ∙ ap option_copied c.in-None.is)

pub returns : goal.returns
returns g c =
    let among = found_among g.I.DocIter.stuck g.I.DocIter.made (leaves (shape c.args.tree.now)) c.in-Some.leaf.now (sym c.first_missing.ensures ∙ ap option_copied c.in-Some.is) in
    said_lacking g.I.DocIter.made g.I.Gaps.lacks (shape c.args.tree.now) c.in-Some.leaf.now (g.I.DocIter.stuck c.in-Some.leaf.now) c.gap.result among.1 among.0 c.gap.ensures.stuck c.gap.ensures.place
