use Rattle.std.proofs.Common.{◌≡◌, ◌∙◌, count_by, rules}
use Rattle.std.specs.Str.{bytes_eq}
use Rattle.dw_rows.proofs.ColumnSteps.{counted}
use Rattle.dw_rows.proofs.columns.count_named.Goals as goal

pub returns : goal.returns
returns c =
    let lent : c.count.result ≡ count_by (λ n. bytes_eq n.now c.args.name.now) c.args.header.now = search rules in
    lent ∙ counted c.args.name.now c.args.header.now
