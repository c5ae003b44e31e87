use Rattle.std.proofs.Common.{◌≡◌, true, ap, sym, ◌∙◌, ◌&&◌}
use Rattle.std.specs.Str.{is_utf8}
use Rattle.dw_base.specs.FieldNames.{is_folded_name}
use Rattle.dw_vis.specs.Test.{is_vis}
use Rattle.dw_event.specs.declared.cells.EventCell.{EventCell}
use Rattle.dw_event.specs.Names.{lacks_zero, is_raw_value}
use Rattle.dw_event.specs.Records.{is_cell}
use Rattle.dw_derive.proofs.ReaderLemmas.{a_text}
use Rattle.dw_audit.proofs.rules.keeps_rules.Goals as goal
use Rattle.dw_audit.proofs.rules.keeps_rules.Goals.{then-is_folded_name, else-is_folded_name}

cell_is : (cell : EventCell) → is_folded_name cell.field ≡ true → is_raw_value cell.raw ≡ true → is_utf8 cell.raw ≡ true → is_vis cell.vis ≡ true → is_cell cell ≡ lacks_zero cell.vis
cell_is cell field raw text vis = λ i. field i && (raw i && text i && (vis i && lacks_zero cell.vis))

pub returns-then-is_raw_value : goal.returns-then-is_raw_value
returns-then-is_raw_value c =
    let cell = c.args.cell.now in
    elim c.if-is_folded_name.branch [
      | then-is_folded_name w ↦ c.has_no_zero.ensures ∙ ap lacks_zero c.text.ensures.value ∙ sym (cell_is cell
          (ap is_folded_name (sym c.as_str.ensures.same) ∙ sym c.is_folded_name.ensures ∙ w.if-is_folded_name.true)
          (ap is_raw_value (sym (w.as_bytes.ensures.value ∙ w.as_str-then-is_folded_name.ensures.same)) ∙ sym w.is_raw_value.ensures ∙ sym w.value-is ∙ c.if-is_raw_value.true)
          (a_text cell.raw w.as_str-then-is_folded_name.ensures.utf8)
          ((c.visibilities_are_tested.ensures cell.vis).1 c.text.ensures.kept))
      | else-is_folded_name w ↦ cc
    ]
