use Rattle.std.proofs.Common.{◌≡◌, ◌<◌, length, arith}
use Rattle.dw_outside.proofs.DiskStops.{filled_more}
use Rattle.dw_outside.proofs.mem_disk.fill_ranges.Goals as goal

pub loop-index-preserved : goal.loop-index-preserved
loop-index-preserved c =
    let lt : c.loop-index.index < length c.args.ranges.now.items = omega arith in
    let size : length c.fill_range.new.bytes ≡ length c.loop-index.bytes = omega (arith, c.fill_range.auto.bytes) in
    let more = filled_more c.args.ranges.now.items c.loop-index.index c.index.result.now c.args.byte c.args.bytes.now c.loop-index.bytes c.fill_range.new.bytes lt c.index.ensures size
    c.fill_range.ensures.inside c.fill_range.ensures.outside c.loop-index.invariant.inside c.loop-index.invariant.outside in
    record { size = omega arith; inside = more.inside; outside = more.outside }
