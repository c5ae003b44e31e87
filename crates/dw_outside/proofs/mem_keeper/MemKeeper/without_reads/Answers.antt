use Rattle.std.proofs.Common.{sym, subst}
use Rattle.dw_outside.specs.Tables.{Tables, HasFourTables}
use Rattle.dw_outside.proofs.FourTables.{empty_fits}
use Rattle.dw_outside.proofs.mem_keeper.MemKeeper.without_reads.Goals as goal

pub invariant_of-result : goal.invariant_of-result
invariant_of-result c = let P : Tables → Type 0 = HasFourTables in subst P (sym c.new.ensures) empty_fits
