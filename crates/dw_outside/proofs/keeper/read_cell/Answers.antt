use Rattle.std.proofs.Common.{ap, ◌∙◌, ◌++◌, ◌∷◌, []}
use Rattle.std.specs.FinMap as map
use Rattle.dw_outside.proofs.Spanning.{read_one}
use Rattle.dw_outside.proofs.keeper.read_cell.Goals as goal

pub returns-clause-content : goal.returns-clause-content
returns-clause-content g c t is =
    c.only_content.ensures (map.get t c.args.slot.now) c.args.slot.now.key
    (c.in_ok-cells.ensures.cells t is
    ∙ read_one t c.args.slot.now c.as_slice-2.result.now c.as_slice-3.result.now c.as_slice-2.ensures
    (c.as_slice-3.ensures ∙ c.in_ok-before.ensures ∙ ap (λ k. k ++ 0 ∷ []) c.as_slice.ensures))
