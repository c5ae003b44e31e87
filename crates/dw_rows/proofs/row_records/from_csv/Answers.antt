use Rattle.std.proofs.Common.{sym, subst, ◌∙◌}
use Rattle.std.specs.Prelude.{IfOk}
use Rattle.csv.specs.Records.{fields_of}
use Rattle.dw_event.specs.Records.{IsWellFormed}
use Rattle.dw_rows.proofs.Kept.{csv_kept}
use Rattle.dw_rows.proofs.row_records.from_csv.Goals as goal

pub returns-in-Ok-clause-well_formed : goal.returns-in-Ok-clause-well_formed
returns-in-Ok-clause-well_formed c =
    subst (λ r. IfOk r IsWellFormed) (sym c.in_ok-rec.ensures ∙ c.in-Ok.is) (csv_kept (fields_of c.args.header.now) (fields_of c.args.fields.now))
