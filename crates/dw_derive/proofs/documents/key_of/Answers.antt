use Rattle.std.proofs.Common.{ap, sym, ◌∙◌, arith}
use Rattle.std.specs.Prelude.{Err}
use Rattle.dw_key.specs.declared.decoding.BadKey.TheVariants.{Cut, Escape, Tail}
use Rattle.dw_key.proofs.Places.{AreBytes-from}
use Rattle.dw_derive.specs.Decoded.{key_from}
use Rattle.dw_derive.proofs.Decoding.{key_of_code, key_fits, no_key}
use Rattle.dw_derive.proofs.documents.key_of.Goals as goal

pub returns-in-Ok : goal.returns-in-Ok
returns-in-Ok c = sym (ap key_from c.in-Ok.ensures.found ∙ key_of_code c.in-Ok.key (key_fits c.args.bytes.now c.in-Ok.key c.in-Ok.ensures.found c.in-Ok.ensures.only))

pub returns-in-Err-Cut : goal.returns-in-Err-Cut
returns-in-Err-Cut c = no_key c.args.bytes.now c.decode.result Cut (AreBytes-from c.args.bytes.now (λ i. omega (arith, c.type_inv.bytes i))) c.decode.ensures.only (c.in-Err-Cut.is ∙ ap (λ e. Err e) c.in-Err-Cut.field-0-is) (λ e. cc)

pub returns-in-Err-Escape : goal.returns-in-Err-Escape
returns-in-Err-Escape c = no_key c.args.bytes.now c.decode.result Escape (AreBytes-from c.args.bytes.now (λ i. omega (arith, c.type_inv.bytes i))) c.decode.ensures.only (c.in-Err-Escape.is ∙ ap (λ e. Err e) c.in-Err-Escape.field-0-is) (λ e. cc)

pub returns-in-Err-Tail : goal.returns-in-Err-Tail
returns-in-Err-Tail c = no_key c.args.bytes.now c.decode.result Tail (AreBytes-from c.args.bytes.now (λ i. omega (arith, c.type_inv.bytes i))) c.decode.ensures.only (c.in-Err-Tail.is ∙ ap (λ e. Err e) c.in-Err-Tail.field-0-is) (λ e. cc)
