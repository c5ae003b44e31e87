use Rattle.std.proofs.Common.{sym, ◌∙◌, arith}
use Rattle.std.proofs.lemmas.List.{at_drop_all}
use Rattle.dw_base.specs.Ascending.{with_items}
use Rattle.dw_vis.specs.Names.{name_cmp}
use Rattle.dw_desk.proofs.MetaSaid.{names_again}
use Rattle.dw_desk.proofs.loading.auths_of.Goals as goal

pub returns : goal.returns
returns c =
    sym (at_drop_all (with_items name_cmp c.loop-name.auths) c.args.names.now c.loop-name.name-index (omega arith))
    ∙ c.loop-name.invariant
    ∙ sym (names_again c.args.names.now c.requires)
