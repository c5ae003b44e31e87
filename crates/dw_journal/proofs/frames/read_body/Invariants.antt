use Rattle.std.proofs.Common.{◌≡◌, ◌≤◌, ◌++◌, length}
use Rattle.dw_outside.specs.declared.cell.Put.{Put}
use Rattle.dw_outside.specs.Disks.{Each}
use Rattle.dw_journal.specs.Frames.{puts_bytes}
use Rattle.dw_journal.proofs.frames.read_body.Given as goal

abbrev pub invariant-loop-put : goal.invariant-loop-put
invariant-loop-put l = record {
  count : length l.puts.items ≡ l._put;
  split : l.initial.rest ≡ puts_bytes l.puts.items ++ l.rest;
  tables : Each (λ (p : Put). p.table ≤ 3) l.puts.items;
}
