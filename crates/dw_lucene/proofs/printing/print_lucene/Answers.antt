use Rattle.std.proofs.Common.{◌≡◌, true, arith}
use Rattle.std.specs.Prelude.{chars, string_bytes}
use Rattle.std.proofs.lemmas.Grind.{common_steps}
use Rattle.dw_lucene.specs.Printed.{is_printable, lucene_text}
use Rattle.dw_lucene.proofs.Again.{read_as}
use Rattle.dw_lucene.proofs.printing.print_lucene.Goals as goal

pub returns-clause-again : goal.returns-clause-again
returns-clause-again c =
    let e : chars (string_bytes c.into_text.result) ≡ lucene_text c.args.query.now = grind (arith, common_steps) in
    let p : is_printable c.args.query.now ≡ true = grind (arith, common_steps, c.is_printable.ensures, c.if-not-is_printable.false) in
    read_as (string_bytes c.into_text.result) c.args.query.now p e
