use Rattle.std.proofs.Common.{slice_index, ap, ◌∙◌}
use Rattle.dw_pool.specs.Numbers.{one_below}
use Rattle.dw_pool.proofs.Lists.{first_element}
use Rattle.dw_pool.proofs.Rules.{whole}
use Rattle.dw_pool.proofs.drawing.settle.Goals as goal

pub returns : goal.returns
returns c n =
    let last = c.close_with-closed.ensures.values.2 in
    let key = c.args.table.shared.key in
    whole key.jobs key.passes last.0.words last.0.views c.args.seat.id c.args.seat.me.0 c.requires.whole last.1.0 last.1.1 n
    ∙ ap (λ k. one_below k n) (ap (λ ws. slice_index ws 0) last.2 ∙ first_element _ _ c.word-reached.ensures)
