use Rattle.std.proofs.Common.{IfOk, sym, subst}
use Rattle.std.proofs.lemmas.Result.{IfOk-weaker}
use Rattle.csv.specs.Records.{fields_of}
use Rattle.dw_event.specs.Records.{IsWellFormed}
use Rattle.dw_rows.proofs.Kept.{csv_kept}
use Rattle.datawave.proofs.record_table.record_under.Goals as goal

pub returns-clause-well_formed : goal.returns-clause-well_formed
returns-clause-well_formed c = IfOk-weaker c.read_row.result _ _ (λ _ h. subst (λ r. IfOk r IsWellFormed) (sym h) (csv_kept (fields_of c.args.header.now) (fields_of c.args.row.now))) c.read_row.ensures
