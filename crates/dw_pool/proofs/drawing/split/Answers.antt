use Rattle.std.proofs.Common.{arith}
use Rattle.dw_pool.proofs.Rules.{splits}
use Rattle.dw_pool.proofs.drawing.split.Goals as goal

pub split_seat-requires : goal.split_seat-requires
split_seat-requires c =
    let key = c.args.word.now.key in (
      c.requires.mine,
      omega (arith, c.requires.one),
      λ s holds at. splits key.jobs key.passes s.words s.views c.args.seat.now.id c.args.seat.now.me.0 c.requires.part c.requires.fresh holds at,
    )
