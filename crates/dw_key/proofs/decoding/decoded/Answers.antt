use Rattle.std.proofs.Common.{arith}
use Rattle.std.proofs.lemmas.Result.{err_from_is_err_and}
use Rattle.dw_key.specs.KeyCode.{AreBytes}
use Rattle.dw_key.proofs.Places.{AreBytes-from}
use Rattle.dw_key.proofs.Faults.{fault_is_cause, is_code, is_decoded}
use Rattle.dw_key.proofs.decoding.decoded.Goals as goal

pub returns-in_err-pieces : goal.returns-in_err-pieces
returns-in_err-pieces c =
    let p = err_from_is_err_and c.from_residual.result c.from_residual.ensures.1 in
    rw (p.1, p.2) (fault_is_cause c.args.bytes.now c.in_err-pieces.field-0.0 c.in_err-pieces.ensures.fault)

pub returns-in_err-key_of : goal.returns-in_err-key_of
returns-in_err-key_of c =
    let p = err_from_is_err_and c.from_residual-in_err-key_of.result c.from_residual-in_err-key_of.ensures.1 in
    let pieces = c.in_ok-pieces.pieces in
    let fits : AreBytes c.args.bytes.now = AreBytes-from c.args.bytes.now (λ i. omega (arith, c.type_inv.bytes i)) in
    rw (p.1, p.2) (is_code c.args.bytes.now pieces.row.now pieces.family.now pieces.qualifier.now pieces.vis.now pieces.stamp fits c.in_ok-pieces.ensures.pieces)

pub returns : goal.returns
returns c =
    let pieces = c.in_ok-pieces.pieces in
    let fits : AreBytes c.args.bytes.now = AreBytes-from c.args.bytes.now (λ i. omega (arith, c.type_inv.bytes i)) in
    is_decoded c.args.bytes.now pieces.row.now pieces.family.now pieces.qualifier.now pieces.vis.now pieces.stamp c.in_ok-key_of.field-0 fits c.in_ok-pieces.ensures.pieces c.in_ok-key_of.ensures
