use Rattle.std.proofs.lemmas.Result.{IfOk-weaker}
use Rattle.dw_groups.proofs.batches.read_record.Goals as goal

pub returns : goal.returns
returns c = IfOk-weaker c.of_batch.result _ _ (λ _ h. h _ c.from_json.ensures.is) c.of_batch.ensures
