use Rattle.std.proofs.Common.{rules}
use Rattle.dw_journal.proofs.Framing.{closed_again}
use Rattle.dw_journal.proofs.steps.close_gate.Goals as goal

pub returns-clause-closed : goal.returns-clause-closed
returns-clause-closed g c frames rest there now =
    let goes = closed_again frames rest c.args.gate (g.D.Disk.model c.args.disk.now) (g.D.Disk.model c.put_gate.new.disk) there now in
    search (rules, goes, c.put_gate.ensures.written)
