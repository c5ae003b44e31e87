use Rattle.std.proofs.Common.{sym, ◌∙◌, rules}
use Rattle.dw_tablet.proofs.Joined.{longer}
use Rattle.dw_tablet.proofs.pieces.after_plain.Goals as goal

pub returns-in-None : goal.returns-in-None
returns-in-None c = λ x. sym (c.loop-byte.invariant x) ∙ longer c.args.bytes.now c.loop-byte.rest.now x c.loop-byte.byte-index (search rules) (search rules)
