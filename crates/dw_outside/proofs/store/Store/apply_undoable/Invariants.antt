use Rattle.std.proofs.Common.{◌≡◌, ◌≤◌, drop, length, vec_len, vec_capacity}
use Rattle.std.specs.Prelude.{reverse}
use Rattle.dw_outside.specs.Tables.{applied}
use Rattle.dw_outside.specs.Undo.{undone, CanUndo}
use Rattle.dw_outside.proofs.store.Store.apply_undoable.Given as goal

abbrev pub invariant-loop-put : goal.invariant-loop-put
invariant-loop-put l = record {
  can : CanUndo (reverse l.log.items) l.self;
  back : undone (reverse l.log.items) l.self ≡ l.fn.self;
  logged : vec_len l.log ≤ l.put-index;
  room : length l.puts ≤ vec_capacity l.log;
  done : applied (drop l.put-index l.puts) l.self ≡ applied l.puts l.fn.self;
}
