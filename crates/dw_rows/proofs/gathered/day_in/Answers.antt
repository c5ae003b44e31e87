use Rattle.std.proofs.Common.{◌∙◌}
use Rattle.std.specs.Str.{is_utf8}
use Rattle.std.proofs.lemmas.Result.{IfOk-weaker}
use Rattle.dw_base.specs.Days.{day_digits}
use Rattle.dw_rows.proofs.Steps.{guarded_then}
use Rattle.dw_rows.proofs.gathered.day_in.Goals as goal

pub returns-in-Some : goal.returns-in-Some
returns-in-Some c =
    IfOk-weaker c.read_day.result _ _
    (λ _ h. h ∙ guarded_then day_digits (is_utf8 c.args.date.now) c.args.date.now c.in-Some.text.now c.in-Some.ensures)
    c.read_day.ensures
