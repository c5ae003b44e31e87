use Rattle.std.proofs.Common.{◌≡◌, sym, ap, ◌∙◌}
use Rattle.dw_base.specs.Ascending.{set_of}
use Rattle.dw_event.specs.Cells.{cell_cmp}
use Rattle.dw_rows.specs.Sets.{few}
use Rattle.dw_rows.proofs.SetLemmas.{set_ascends, set_of_set}
use Rattle.dw_rows.proofs.distinct.settled.Goals as goal

pub returns : goal.returns
returns c =
    let is : c.into_vec.result.items ≡ set_of cell_cmp c.args.kept.items = c.into_vec.ensures.same ∙ c.from_vec-cells.ensures.value in
    rw is (ap few (sym (set_of_set (set_of cell_cmp c.args.kept.items) (set_ascends c.args.kept.items))))
