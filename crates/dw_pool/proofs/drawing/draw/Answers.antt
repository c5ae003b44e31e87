use Rattle.std.proofs.Common.{refl, slice_index, arith}
use Rattle.atomic_table.specs.Table.{keeps}
use Rattle.dw_pool.specs.Drawn.{drew}
use Rattle.dw_pool.proofs.Rules.{claims, above}
use Rattle.dw_pool.proofs.drawing.draw.Goals as goal

pub fetch_add-requires : goal.fetch_add-requires
fetch_add-requires c =
    let key = c.args.word.now.key in
    let id = c.args.seat.now.id in
    let mine = c.args.seat.now.me.0 in (
      c.requires.mine,
      omega (arith, c.requires.one),
      λ s holds long at fits. (
        drew mine (slice_index s.words 0),
        keeps,
        tt,
        claims key.jobs key.passes s.words s.views id mine c.requires.jobs c.requires.passes c.requires.part holds at,
        (refl, above key.jobs key.passes s.words s.views id mine holds at),
      ),
    )
