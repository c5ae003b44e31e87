use Rattle.std.proofs.Common.{◌≡◌, false, ap, ◌∙◌}
use Rattle.std.specs.List.{list_any}
use Rattle.std.specs.Option.{option_map_or}
use Rattle.dw_event.specs.Texts.{is_same}
use Rattle.dw_outside.specs.declared.cell.Cell.{Cell}
use Rattle.dw_outside.specs.Tables.{span_of}
use Rattle.dw_plan.specs.Spans.{span_from, span_before}
use Rattle.dw_plan.specs.Cells.{shard_from}
use Rattle.dw_plan.proofs.Meeting.{span_meets}
use Rattle.dw_plan.proofs.hits.read_shards.Goals as goal

pub returns-clause-hits : goal.returns-clause-hits
returns-clause-hits g c t is = λ s.
    let n = c.args.scope.now.auths.now in
    let d = c.args.scope.now.days.now in
    let ty = c.args.scope.now.types.now in
    let f = c.args.field.now in
    let w = c.args.wanted.now in
    let start : c.as_slice.result.now ≡ span_from f d w = c.as_slice.ensures ∙ c.in_ok-span.ensures.0 in
    let end : c.as_slice-2.result.now ≡ span_before f d w = c.as_slice-2.ensures ∙ c.in_ok-span.ensures.1 in
    c.in_ok-shards.ensures s
    ∙ ap (list_any (λ (x : Cell). option_map_or (is_same s) (shard_from n d ty f w x.key) false)) c.as_slice-3.ensures.value
    ∙ span_meets n d ty f w c.args.table s t c.in_ok-cells.cells.items (c.in_ok-cells.ensures.cells t is ∙ (λ i. span_of c.args.table (start i) (end i) t))
