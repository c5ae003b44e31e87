use Rattle.std.proofs.Common.{◌≡◌, arith}
use Rattle.std.specs.Prelude.{chars, string_bytes}
use Rattle.std.proofs.lemmas.Grind.{common_steps}
use Rattle.dw_jexl.specs.Canonical.{canonical}
use Rattle.dw_jexl.proofs.Again.{printed_again}
use Rattle.dw_jexl.proofs.printing.print.Goals as goal

pub returns-clause-again : goal.returns-clause-again
returns-clause-again c =
    let e : chars (string_bytes c.into_text.result) ≡ canonical c.args.query.now = grind (arith, common_steps) in
    printed_again (string_bytes c.into_text.result) c.args.query.now e
