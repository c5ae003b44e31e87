use Rattle.std.proofs.Common.{◌||◌, false, sym, ap, ◌∙◌}
use Rattle.std.specs.Option.{option_map_or}
use Rattle.std.specs.List.{list_any}
use Rattle.std.specs.Ordering.{nat_cmp}
use Rattle.std.specs.Cmp.Lexicographic.{slice_cmp, nat_list_cmp_total}
use Rattle.std.proofs.lemmas.List.{drop_all}
use Rattle.std.proofs.lemmas.Map.Lookups.{exact_bytes}
use Rattle.dw_event.specs.Texts.{is_same}
use Rattle.dw_outside.specs.declared.cell.Cell.{Cell}
use Rattle.dw_derive.proofs.Sets.{any_set}
use Rattle.dw_plan.specs.Joins.{has}
use Rattle.dw_plan.specs.Cells.{shard_from}
use Rattle.dw_plan.proofs.Named.{or_none}
use Rattle.dw_plan.proofs.cells.shards_of.Goals as goal

pub returns : goal.returns
returns c = λ s.
    let names = λ (x : Cell). option_map_or (is_same s) (shard_from c.args.scope.now.auths.now c.args.scope.now.days.now c.args.scope.now.types.now c.args.field.now c.args.wanted.now x.key) false in
    let all = c.loop-cell.all.items in
    ap (λ l. has l s) c.from_vec.ensures.value
    ∙ any_set (slice_cmp nat_cmp) exact_bytes nat_list_cmp_total (is_same s) all
    ∙ sym (ap (λ xs. has all s || list_any names xs) (drop_all c.loop-cell.cell-index c.args.cells.now c.loop-cell-test.false) ∙ or_none (has all s))
    ∙ c.loop-cell.invariant.1 s
