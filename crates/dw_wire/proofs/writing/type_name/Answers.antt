use Rattle.std.proofs.Common.{IsUtf8, subst, sym}
use Rattle.dw_wire.proofs.TypeNames.{IsUtf8-type}
use Rattle.dw_wire.proofs.writing.type_name.Goals as goal

pub returns-in-Err : goal.returns-in-Err
returns-in-Err c = absurd (c.in-Err.ensures.cases.0 (subst IsUtf8 (sym c.as_slice.ensures.same) (IsUtf8-type c.args.dtype.now c.as_slice.ensures.rule)))
