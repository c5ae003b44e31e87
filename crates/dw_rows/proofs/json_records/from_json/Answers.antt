use Rattle.std.proofs.Common.{sym, subst, ◌∙◌}
use Rattle.std.specs.Prelude.{IfOk}
use Rattle.serde_json.specs.View.{view}
use Rattle.dw_event.specs.Records.{IsWellFormed}
use Rattle.dw_rows.proofs.Kept.{json_kept}
use Rattle.dw_rows.proofs.json_records.from_json.Goals as goal

pub returns-in-Ok-clause-well_formed : goal.returns-in-Ok-clause-well_formed
returns-in-Ok-clause-well_formed c = subst (λ r. IfOk r IsWellFormed) (sym c.in_ok-rec.ensures ∙ c.in-Ok.is) (json_kept (view c.args.value.now))
