use Rattle.std.proofs.Common.{◌≡◌, ◌<◌, ℕ, length, take, slice_index}
use Rattle.dw_outside.specs.Disks.{IsLoose}
use Rattle.dw_outside.proofs.mem_disk.fill_ranges.Given as goal

abbrev pub invariant-loop-index : goal.invariant-loop-index
invariant-loop-index l = record {
  size : length l.bytes ≡ length l.initial.bytes;
  inside : (place : ℕ) → place < length l.bytes → IsLoose (take l.index l.ranges.items) place → slice_index l.bytes place ≡ l.byte;
  outside : (place : ℕ) → (IsLoose (take l.index l.ranges.items) place → ⊥) → slice_index l.bytes place ≡ slice_index l.initial.bytes place;
}
