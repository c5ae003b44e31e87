use Rattle.std.proofs.Common.{arith}
use Rattle.std.proofs.lemmas.Grind.{common_steps}
use Rattle.std.specs.Prelude.{IfOk}
use Rattle.dw_outside.specs.DiskStands.{memory_stands}
use Rattle.dw_outside.specs.MemoryDisks.{MemoryDisk, memory_model, IsLeft}
use Rattle.dw_outside.proofs.DiskStops.{ok_among}
use Rattle.dw_outside.proofs.mem_disk.MemDisk.stop.Goals as goal

pub returns-clause-among : goal.returns-clause-among
returns-clause-among c =
    let left : IfOk c.holding.result (λ (d : MemoryDisk). IsLeft c.args.leave (memory_model c.args.self.now).now d.first) = grind (arith, common_steps) in
    ok_among (λ (d : MemoryDisk). d.first) c.args.leave (memory_model c.args.self.now).now c.holding.result (memory_stands c.args.self.now) left
