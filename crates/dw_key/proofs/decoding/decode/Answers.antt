use Rattle.std.proofs.Common.{arith}
use Rattle.dw_key.specs.declared.decoding.BadKey.TheVariants.{Cut, Escape, Tail}
use Rattle.dw_key.proofs.Places.{AreBytes-from}
use Rattle.dw_key.proofs.Faults.{gives_the_key, cause_of, fault_is_told}
use Rattle.dw_key.proofs.decoding.decode.Goals as goal

pub returns-clause-only : goal.returns-clause-only
returns-clause-only c = gives_the_key c.args.bytes.now c.decoded.result (AreBytes-from c.args.bytes.now (λ i. omega (arith, c.type_inv.bytes i))) c.decoded.ensures

pub returns-clause-cut : goal.returns-clause-cut
returns-clause-cut c = (cause_of c.args.bytes.now c.decoded.result Cut c.decoded.ensures, fault_is_told c.args.bytes.now c.decoded.result Cut c.decoded.ensures)

pub returns-clause-escape : goal.returns-clause-escape
returns-clause-escape c = (cause_of c.args.bytes.now c.decoded.result Escape c.decoded.ensures, fault_is_told c.args.bytes.now c.decoded.result Escape c.decoded.ensures)

pub returns-clause-tail : goal.returns-clause-tail
returns-clause-tail c = (cause_of c.args.bytes.now c.decoded.result Tail c.decoded.ensures, fault_is_told c.args.bytes.now c.decoded.result Tail c.decoded.ensures)
