use Rattle.std.proofs.Common.{◌<◌, ap, ◌∙◌, arith}
use Rattle.std.specs.Prelude.{Some}
use Rattle.std.proofs.lemmas.Grind.{common_steps}
use Rattle.dw_outside.specs.Disks.{moved, synced}
use Rattle.dw_outside.specs.MemoryDisks.{MemoryDisk, memory_model}
use Rattle.dw_outside.specs.contracts.mem_disk.MemDisk.{the_view}
use Rattle.dw_outside.proofs.DiskSteps.{stands_synced, synced_model}
use Rattle.dw_outside.proofs.mem_disk.MemDiskDisk.sync.Goals as goal

pub invariant_of-self-2 : goal.invariant_of-self-2
invariant_of-self-2 c =
    let left : c.self.inside.calls < c.self.inside.limit = grind (arith, common_steps) in
    let room = c.self.invariant.1 in (
      stands_synced _ _ _ _ c.self.invariant.0 c.next_fails.new.calls c.self.inside.faults c.next_fails.ensures.counted (omega arith) c.push_reserved.new.self.items left
          c.make_same.new.list.items c.clear.new.self.items c.push_reserved.ensures.items (c.make_same.ensures.same ∙ c.deref-2.ensures.value) c.clear.ensures.items,
      record {
        seen = room.seen;
        kept = omega (arith, room.kept, c.make_same.ensures.capacity);
        written = room.written;
        steps = omega (arith, room.steps, c.push_reserved.ensures.capacity);
        loose = omega (arith, room.loose, c.clear.ensures.capacity);
      },
    )

pub returns-clause-synced : goal.returns-clause-synced
returns-clause-synced c =
    ap Some (synced_model (the_view c.self.inside) c.next_fails.new.calls c.self.inside.faults c.push_reserved.new.self.items c.push_reserved.ensures.items)
    ∙ ap (λ (d : MemoryDisk). Some (moved synced (memory_model d))) c.self.view_is
