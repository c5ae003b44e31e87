use Rattle.std.proofs.Common.{◌≡◌, rules, sym, subst, true, map as list_map}
use Rattle.dw_tablet.specs.Places.{below, shard_start, shard_end, at_most, onward}
use Rattle.dw_tablet.proofs.Keys.{ascend, are_from, are_before}
use Rattle.dw_tablet.proofs.Kept.{first_held}
use Rattle.dw_tablet.proofs.Shards.{shard_long}
use Rattle.dw_tablet.proofs.tablet.Tablet.of.Goals as goal

pub load-requires-clause-place : goal.load-requires-clause-place
load-requires-clause-place c =
    let shard = c.in_ok-tablet.tablet.shard in
    let is : c.as_slice.result.now ≡ shard_start shard = search rules in
    subst (λ p. below p (shard_end shard) ≡ true) (sym is) (shard_long shard)

pub returns-clause-agrees : goal.returns-clause-agrees
returns-clause-agrees c =
    let shard = c.args.shard.now in
    let start = shard_start shard in
    let cells = c.args.cells.items in
    let keys = list_map (λ x. x.key) cells in
    let is : c.as_slice.result.now ≡ start = search rules in
    c.in_ok-load.ensures.agrees keys
    (c.in_ok-tablet.ensures.agrees keys
    (record { ascends = ascend keys c.requires.ascends; from = are_from shard start cells c.requires.bounds; before = are_before shard start cells c.requires.bounds }))
    (subst (λ a. keys ≡ at_most 0 (onward a keys)) (sym is) (first_held start keys (are_from shard start cells c.requires.bounds)))
