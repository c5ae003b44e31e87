use Rattle.std.proofs.Common.{◌≡◌, true, false}
use Rattle.std.specs.Ordering.{is_lt}
use Rattle.dw_outside.specs.Tables.{slot_cmp}
use Rattle.dw_outside.proofs.SpanCells.{none_limited, not_past, less_is}
use Rattle.dw_outside.proofs.store.Store.between.Goals as goal

pub returns-then-is_lt : goal.returns-then-is_lt
returns-then-is_lt c =
    let below : is_lt (slot_cmp c.args.hi c.args.lo) ≡ true = rw (← c.cmp.ensures, ← c.is_lt.ensures) c.if-is_lt.true in
    none_limited c.new.result.items c.args.limit c.args.lo c.args.hi c.args.self.now c.new.ensures.items (less_is (slot_cmp c.args.hi c.args.lo) below)

pub between_ordered-requires : goal.between_ordered-requires
between_ordered-requires c =
    let upto : is_lt (slot_cmp c.args.hi c.args.lo) ≡ false = rw (← c.cmp.ensures, ← c.is_lt.ensures) c.if-is_lt.false in
    not_past c.args.lo c.args.hi upto
