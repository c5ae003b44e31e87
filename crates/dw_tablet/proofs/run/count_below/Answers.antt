use Rattle.std.proofs.Common.{rules}
use Rattle.std.proofs.lemmas.List.Sorted.{IsPartitionPoint-from_clause}
use Rattle.dw_tablet.specs.Places.{below}
use Rattle.dw_tablet.specs.Positions.{place_of}
use Rattle.dw_tablet.proofs.Searching.{parted, cut_at}
use Rattle.dw_tablet.proofs.run.count_below.Goals as goal

pub returns-clause-front : goal.returns-clause-front
returns-clause-front c =
    let keys = c.args.keys.now in
    let a = place_of c.args.position.now in
    let point = IsPartitionPoint-from_clause (λ k. below k a) keys c.partition_point.result c.partition_point.ensures.partitioned (parted keys a c.requires) (λ x r q k. search rules) in
    (cut_at keys a c.partition_point.result c.partition_point.ensures.bound point).front

pub returns-clause-back : goal.returns-clause-back
returns-clause-back c =
    let keys = c.args.keys.now in
    let a = place_of c.args.position.now in
    let point = IsPartitionPoint-from_clause (λ k. below k a) keys c.partition_point.result c.partition_point.ensures.partitioned (parted keys a c.requires) (λ x r q k. search rules) in
    (cut_at keys a c.partition_point.result c.partition_point.ensures.bound point).back
