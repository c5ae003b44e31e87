use Rattle.std.proofs.Common.{sym, ◌∙◌, rules}
use Rattle.dw_tablet.proofs.Joined.{stop}
use Rattle.dw_tablet.proofs.pieces.after_escaped.Goals as goal

pub returns-in-Err : goal.returns-in-Err
returns-in-Err c = λ x. sym (c.loop-byte.invariant x) ∙ stop c.args.text.now c.loop-byte.byte-index c.loop-byte.rest.now x c.in-Err.apart (search rules) c.in-Err.ensures
