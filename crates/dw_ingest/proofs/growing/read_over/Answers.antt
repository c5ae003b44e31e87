use Rattle.std.proofs.Common.{sym, ap, ◌∙◌}
use Rattle.std.specs.Prelude.{Some}
use Rattle.std.specs.Option.{option_copied}
use Rattle.std.proofs.lemmas.Result.{IfOk-weaker}
use Rattle.dw_ingest.proofs.Over.{over_some, over_none}
use Rattle.dw_ingest.proofs.growing.read_over.Goals as goal

pub returns-in_ok-copy-in-Some-clause-content : goal.returns-in_ok-copy-in-Some-clause-content
returns-in_ok-copy-in-Some-clause-content g c t is =
    over_some c.args.batch.now t c.args.slot.now c.in_ok-copy-in-Some.field-0
    (ap (λ l. Some l) c.in_ok-copy-in-Some.ensures ∙ sym (ap option_copied c.in-Some.is) ∙ c.get.ensures)

pub returns-in-None-clause-content : goal.returns-in-None-clause-content
returns-in-None-clause-content g c t is =
    IfOk-weaker c.read_cell.result _ _
    (λ o h. over_none c.args.batch.now t c.args.slot.now o (sym (ap option_copied c.in-None.is) ∙ c.get.ensures) h)
    (c.read_cell.ensures.content t is)
