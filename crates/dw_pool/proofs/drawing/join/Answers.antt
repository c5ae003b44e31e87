use Rattle.std.proofs.Common.{arith}
use Rattle.dw_pool.proofs.Rules.{joins}
use Rattle.dw_pool.proofs.drawing.join.Goals as goal

pub join_seat-requires : goal.join_seat-requires
join_seat-requires c =
    let key = c.args.word.now.key in (
      c.requires.mine,
      c.requires.theirs,
      c.requires.no_slot,
      omega (arith, c.requires.one),
      λ s holds at apart at_other. joins key.jobs key.passes s.words s.views c.args.seat.now.id c.args.seat.now.me.0 c.args.other.id c.args.other.me.0 holds at apart at_other,
    )
