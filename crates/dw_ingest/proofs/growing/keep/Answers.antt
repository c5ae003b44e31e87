use Rattle.std.proofs.Common.{◌≤◌, List, sym, subst}
use Rattle.std.specs.Prelude.{All}
use Rattle.dw_outside.specs.declared.cell.Put.{Put}
use Rattle.dw_ingest.proofs.EntryTables.{fits_more}
use Rattle.dw_ingest.proofs.growing.keep.Goals as goal

pub returns-clause-fits : goal.returns-clause-fits
returns-clause-fits c all low = let P : List Put → Type 0 = All (λ p. p.table ≤ 3) in subst P (sym c.in_ok-push.ensures.items) (fits_more c.args.puts.now.items c.args.put all low)
