use Rattle.std.proofs.Common.{◌≡◌, ℕ, sym, ap, ◌∙◌, subst, take, drop, length, rules}
use Rattle.std.specs.Prelude.{◌-◌}
use Rattle.std.proofs.lemmas.List.Sorted.{IsPartitionPoint-from_clause}
use Rattle.dw_tablet.specs.Places.{Ascends, AreFrom, onward}
use Rattle.dw_tablet.specs.Fronts.{begins, with_front}
use Rattle.dw_tablet.proofs.Cut.{filter_up}
use Rattle.dw_tablet.proofs.Searching.{rest_of}
use Rattle.dw_tablet.proofs.Begun.{begun_parted, begun_cut, from_onward, begun_onward}
use Rattle.dw_tablet.proofs.run.keys_with_front.Goals as goal

pub returns : goal.returns
returns c =
    let keys = c.args.keys.now in
    let front = c.args.front.now in
    let lent = take (length keys - c.count_below-low.result) (drop c.count_below-low.result keys) in
    let is : lent ≡ onward front keys = rest_of c.count_below-low.result keys ∙ c.count_below-low.ensures.back in
    let up : Ascends lent = subst Ascends (sym is) (filter_up _ keys c.requires) in
    let from : AreFrom front lent = subst (AreFrom front) (sym is) (from_onward front keys) in
    let point = IsPartitionPoint-from_clause (begins front) lent c.partition_point-count.result c.partition_point-count.ensures.partitioned (begun_parted front lent up from) (λ x r q k. search rules) in
    begun_cut front lent c.partition_point-count.result c.partition_point-count.ensures.bound point ∙ ap (with_front front) is ∙ begun_onward front keys
