use Rattle.std.proofs.Common.{sym, subst}
use Rattle.dw_outside.specs.Tables.{Tables, HasFourTables}
use Rattle.dw_outside.proofs.FourTables.{applied_fits}
use Rattle.dw_outside.proofs.mem_keeper.MemKeeperKeeper.apply.Goals as goal

pub invariant_of-self-2 : goal.invariant_of-self-2
invariant_of-self-2 c =
    let P : Tables → Type 0 = HasFourTables in
    subst P (sym c.in_ok-apply.ensures.ok) (applied_fits c.args.puts.now c.self-2.inside.store c.self-2.invariant c.requires)
