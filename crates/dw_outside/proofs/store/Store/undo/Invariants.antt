use Rattle.std.proofs.Common.{◌≡◌, vec_len}
use Rattle.std.specs.Prelude.{reverse}
use Rattle.dw_outside.specs.Undo.{undone, CanUndo}
use Rattle.dw_outside.proofs.store.Store.undo.Given as goal

abbrev pub invariant-loop-before : goal.invariant-loop-before
invariant-loop-before l = record {
  can : CanUndo (reverse l.log.items) l.self;
  back : undone (reverse l.log.items) l.self ≡ undone (reverse l.fn.log.items) l.fn.self;
}

abbrev pub decreases-loop-before : goal.decreases-loop-before
decreases-loop-before l = vec_len l.log
