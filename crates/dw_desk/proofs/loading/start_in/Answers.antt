use Rattle.std.proofs.Common.{map}
use Rattle.dw_outside.specs.Tables.{cell_pair}
use Rattle.dw_desk.proofs.MetaSaid.{last_within}
use Rattle.dw_desk.proofs.loading.start_in.Goals as goal

pub returns-clause-within : goal.returns-clause-within
returns-clause-within c =
    let taken = c.loop-cell.invariant in
    last_within (map cell_pair taken.0) c.loop-cell.start taken.1.1
