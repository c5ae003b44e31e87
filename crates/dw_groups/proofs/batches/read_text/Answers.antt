use Rattle.std.proofs.Common.{sym, subst, IfOk}
use Rattle.std.proofs.lemmas.Result.{IfOk-weaker}
use Rattle.serde_json.specs.View.{view}
use Rattle.dw_event.specs.Records.{IsWellFormed}
use Rattle.dw_rows.proofs.Kept.{json_kept}
use Rattle.dw_groups.proofs.batches.read_text.Goals as goal

pub returns-in-Some-clause-well_formed : goal.returns-in-Some-clause-well_formed
returns-in-Some-clause-well_formed c =
    IfOk-weaker c.read_record.result _ _ (λ _ h. subst (λ r. IfOk r IsWellFormed) (sym h) (json_kept (view c.in-Some.value))) c.read_record.ensures
