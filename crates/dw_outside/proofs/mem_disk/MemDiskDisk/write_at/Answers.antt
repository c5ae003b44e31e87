use Rattle.std.proofs.Common.{rules, ◌⊎◌, [], length, List, ℕ, ◌<◌, ◌≤◌, ◌+◌, ap, subst, refl, ◌∙◌, arith, inl, inr}
use Rattle.std.specs.Prelude.{Some}
use Rattle.dw_outside.specs.Memory.{FailsNext}
use Rattle.dw_outside.specs.Disks.{moved, wrote, wrote_to}
use Rattle.dw_outside.specs.MemoryDisks.{MemoryDisk, memory_model, FailsAnyway}
use Rattle.dw_outside.specs.contracts.mem_disk.MemDisk.{the_view}
use Rattle.dw_outside.proofs.DiskSteps.{stands_wrote, stands_tore, wrote_model, torn_model}
use Rattle.dw_outside.proofs.mem_disk.MemDiskDisk.write_at.Goals.{then-fails-via-then-fails, then-fails-via-else-fails+then-bytes-self}
use Rattle.dw_outside.proofs.mem_disk.MemDiskDisk.write_at.Goals as goal

pub invariant_of-self-then-fails : goal.invariant_of-self-then-fails
invariant_of-self-then-fails c =
    let room = c.self.invariant.1 in (
      stands_tore _ _ _ _ c.self.invariant.0 c.next_fails-fails.new.calls c.fault-then-fails.new.faults c.next_fails-fails.ensures.counted (omega arith) c.push_reserved.new.self.items (omega arith)
          c.args.at _ c.push_front_reserved.new.self.items c.push_reserved.ensures.items c.push_front_reserved.ensures.items,
      record {
        seen = room.seen;
        kept = room.kept;
        written = room.written;
        steps = omega (arith, room.steps, c.push_reserved.ensures.capacity);
        loose = omega (arith, room.loose, c.push_front_reserved.ensures.capacity);
      },
    )

pub returns-then-fails-clause-torn : goal.returns-then-fails-clause-torn
returns-then-fails-clause-torn c =
    let n = length c.args.bytes.now in
    inr (
      [],
      omega arith,
      ap Some (torn_model (the_view c.self.inside) c.args.at (c.args.at + n) c.next_fails-fails.new.calls c.fault-then-fails.new.faults c.push_reserved.new.self.items (search rules))
          ∙ ap (λ (d : MemoryDisk). Some (moved (wrote_to c.args.at [] (c.args.at + n)) (memory_model d))) c.self.view_is,
    )

pub returns-then-fails-clause-fails : goal.returns-then-fails-clause-fails
returns-then-fails-clause-fails c = (
  (λ _. subst (λ (d : MemoryDisk). FailsAnyway d ⊎ (d.room < length d.written + length c.args.bytes.now)) c.self.view_is
      (elim c.then-fails.branch [
        | then-fails-via-then-fails w ↦ inl (subst (λ (l : List ℕ). FailsNext l c.self.inside.calls ⊎ (c.self.inside.limit ≤ c.self.inside.calls)) c.deref.ensures.value (c.next_fails-fails.ensures.fails.0 w.if-fails.true))
        | then-fails-via-else-fails+then-bytes-self w ↦ inr (omega arith)
      ])),
  λ _. refl,
)

pub invariant_of-self-2 : goal.invariant_of-self-2
invariant_of-self-2 c =
    let old = c.self.invariant.0 in
    let there : c.args.at ≤ length c.self.inside.seen.items = omega (arith, c.requires, ap (λ (d : MemoryDisk). length (memory_model d).now.seen) c.self.view_is, ap length old.seen) in
    let fits : length c.self.inside.written.items + length c.args.bytes.now ≤ c.self.inside.room = omega arith in
    let room = c.self.invariant.1 in (
      stands_wrote _ _ _ _ old c.next_fails-fails.new.calls c.self.inside.faults c.next_fails-fails.ensures.counted (omega arith) c.push_reserved-2.new.self.items (omega arith)
          c.args.at c.args.bytes.now c.put_over.new.seen.items c.extend_from_slice.new.self.items c.push_front_reserved-2.new.self.items there fits
          (search rules) (search rules) (search rules) (search rules),
      record {
        seen = omega (arith, room.seen, c.put_over.ensures.capacity);
        kept = room.kept;
        written = omega (arith, room.written, c.extend_from_slice.ensures.capacity);
        steps = omega (arith, room.steps, c.push_reserved-2.ensures.capacity);
        loose = omega (arith, room.loose, c.push_front_reserved-2.ensures.capacity);
      },
    )

pub returns-clause-written : goal.returns-clause-written
returns-clause-written c =
    ap Some (wrote_model (the_view c.self.inside) c.args.bytes.now c.args.at c.next_fails-fails.new.calls c.self.inside.faults c.extend_from_slice.new.self.items c.push_reserved-2.new.self.items
    c.self.invariant.0.ranged (search rules) (search rules))
    ∙ ap (λ (d : MemoryDisk). Some (moved (wrote c.args.at c.args.bytes.now) (memory_model d))) c.self.view_is
