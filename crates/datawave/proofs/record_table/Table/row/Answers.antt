use Rattle.std.proofs.Common.{◌++◌, ◌∷◌, [], subst}
use Rattle.std.proofs.lemmas.Result.{IfOk-weaker}
use Rattle.dw_groups.specs.Batches.{rows_records}
use Rattle.datawave.specs.Asking.{Asks, Gathered}
use Rattle.datawave.specs.Groups.{full_ingests}
use Rattle.datawave.proofs.Grouped.{tabled_record}
use Rattle.datawave.proofs.record_table.Table.row.Goals as goal

pub returns : goal.returns
returns c =
    IfOk-weaker c.gather.result _ _ (λ request h rows x.
    tabled_record rows c.args.self.now.header c.in-Some.header c.args.row c.args.self.now.group c.gather.new.group request c.in-Some.is x
    (subst (λ r. Gathered (rows_records rows ++ r ∷ []) c.gather.new.group × Asks request (full_ingests (rows_records rows)) (full_ingests (rows_records rows ++ r ∷ []))) c.in_ok-rec.ensures.is
    (h (rows_records rows) x.records))) c.gather.ensures
