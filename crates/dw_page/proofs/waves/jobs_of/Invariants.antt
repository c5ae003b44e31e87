use Rattle.std.proofs.Common.{take, filter}
use Rattle.std.specs.List.{AllZip}
use Rattle.dw_page.specs.Placed.{is_open}
use Rattle.dw_page.specs.Waves.{IsJobOf}
use Rattle.dw_page.proofs.waves.jobs_of.Given as goal

abbrev pub invariant-loop-slot : goal.invariant-loop-slot
invariant-loop-slot l = AllZip (IsJobOf l.ask) (filter is_open (take l.slot-index l.slots)) l.jobs.items
