use Rattle.std.proofs.Common.{arith}
use Rattle.std.proofs.lemmas.Result.{err_from_is_err_and}
use Rattle.dw_key.specs.KeyCode.{AreBytes}
use Rattle.dw_key.proofs.Places.{AreBytes-from, AreBytes-rest, fault_after}
use Rattle.dw_key.proofs.decoding.split.Goals as goal

pub returns-in_err-row-clause-fault : goal.returns-in_err-row-clause-fault
returns-in_err-row-clause-fault c =
    let p = err_from_is_err_and c.from_residual.result c.from_residual.ensures.1 in
    rw (p.1, p.2) (c.in_err-row.ensures.fault 3)

pub returns-in_err-family-clause-fault : goal.returns-in_err-family-clause-fault
returns-in_err-family-clause-fault c =
    let p = err_from_is_err_and c.from_residual-in_err-family.result c.from_residual-in_err-family.ensures.1 in
    let fault = c.in_err-family.field-0.0 in
    let fits_0 : AreBytes c.args.bytes.now = AreBytes-from c.args.bytes.now (λ i. omega (arith, c.type_inv.bytes i)) in
    rw (p.1, p.2) (fault_after 3 c.args.bytes.now c.in_ok-row.row.now c.in_ok-row.rest.now fault fits_0 c.in_ok-row.ensures.part.0 c.in_ok-row.ensures.part.1 (c.in_err-family.ensures.fault 2))

pub returns-in_err-qualifier-clause-fault : goal.returns-in_err-qualifier-clause-fault
returns-in_err-qualifier-clause-fault c =
    let p = err_from_is_err_and c.from_residual-in_err-qualifier.result c.from_residual-in_err-qualifier.ensures.1 in
    let fault = c.in_err-qualifier.field-0.0 in
    let fits_0 : AreBytes c.args.bytes.now = AreBytes-from c.args.bytes.now (λ i. omega (arith, c.type_inv.bytes i)) in
    let fits_1 = AreBytes-rest c.args.bytes.now c.in_ok-row.row.now c.in_ok-row.rest.now fits_0 c.in_ok-row.ensures.part.1 in
    rw (p.1, p.2) (fault_after 3 c.args.bytes.now c.in_ok-row.row.now c.in_ok-row.rest.now fault fits_0 c.in_ok-row.ensures.part.0 c.in_ok-row.ensures.part.1 (fault_after 2 c.in_ok-row.rest.now c.in_ok-family.family.now c.in_ok-family.rest.now fault fits_1 c.in_ok-family.ensures.part.0 c.in_ok-family.ensures.part.1 (c.in_err-qualifier.ensures.fault 1)))

pub returns-in_err-vis-clause-fault : goal.returns-in_err-vis-clause-fault
returns-in_err-vis-clause-fault c =
    let p = err_from_is_err_and c.from_residual-in_err-vis.result c.from_residual-in_err-vis.ensures.1 in
    let fault = c.in_err-vis.field-0.0 in
    let fits_0 : AreBytes c.args.bytes.now = AreBytes-from c.args.bytes.now (λ i. omega (arith, c.type_inv.bytes i)) in
    let fits_1 = AreBytes-rest c.args.bytes.now c.in_ok-row.row.now c.in_ok-row.rest.now fits_0 c.in_ok-row.ensures.part.1 in
    let fits_2 = AreBytes-rest c.in_ok-row.rest.now c.in_ok-family.family.now c.in_ok-family.rest.now fits_1 c.in_ok-family.ensures.part.1 in
    rw (p.1, p.2) (fault_after 3 c.args.bytes.now c.in_ok-row.row.now c.in_ok-row.rest.now fault fits_0 c.in_ok-row.ensures.part.0 c.in_ok-row.ensures.part.1 (fault_after 2 c.in_ok-row.rest.now c.in_ok-family.family.now c.in_ok-family.rest.now fault fits_1 c.in_ok-family.ensures.part.0 c.in_ok-family.ensures.part.1 (fault_after 1 c.in_ok-family.rest.now c.in_ok-qualifier.qualifier.now c.in_ok-qualifier.rest.now fault fits_2 c.in_ok-qualifier.ensures.part.0 c.in_ok-qualifier.ensures.part.1 (c.in_err-vis.ensures.fault 0))))

pub returns-in_err-stamp-clause-fault : goal.returns-in_err-stamp-clause-fault
returns-in_err-stamp-clause-fault c =
    let p = err_from_is_err_and c.from_residual-in_err-stamp.result c.from_residual-in_err-stamp.ensures.1 in
    let fault = c.in_err-stamp.field-0.0 in
    let fits_0 : AreBytes c.args.bytes.now = AreBytes-from c.args.bytes.now (λ i. omega (arith, c.type_inv.bytes i)) in
    let fits_1 = AreBytes-rest c.args.bytes.now c.in_ok-row.row.now c.in_ok-row.rest.now fits_0 c.in_ok-row.ensures.part.1 in
    let fits_2 = AreBytes-rest c.in_ok-row.rest.now c.in_ok-family.family.now c.in_ok-family.rest.now fits_1 c.in_ok-family.ensures.part.1 in
    let fits_3 = AreBytes-rest c.in_ok-family.rest.now c.in_ok-qualifier.qualifier.now c.in_ok-qualifier.rest.now fits_2 c.in_ok-qualifier.ensures.part.1 in
    rw (p.1, p.2) (fault_after 3 c.args.bytes.now c.in_ok-row.row.now c.in_ok-row.rest.now fault fits_0 c.in_ok-row.ensures.part.0 c.in_ok-row.ensures.part.1 (fault_after 2 c.in_ok-row.rest.now c.in_ok-family.family.now c.in_ok-family.rest.now fault fits_1 c.in_ok-family.ensures.part.0 c.in_ok-family.ensures.part.1 (fault_after 1 c.in_ok-family.rest.now c.in_ok-qualifier.qualifier.now c.in_ok-qualifier.rest.now fault fits_2 c.in_ok-qualifier.ensures.part.0 c.in_ok-qualifier.ensures.part.1 (fault_after 0 c.in_ok-qualifier.rest.now c.in_ok-vis.vis.now c.in_ok-vis.rest.now fault fits_3 c.in_ok-vis.ensures.part.0 c.in_ok-vis.ensures.part.1 (c.in_err-stamp.ensures.fault)))))
