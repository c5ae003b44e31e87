use Rattle.std.proofs.Common.{arith}
use Rattle.dw_outside.proofs.Kept.{kept_itself, kept_on, kept_read}
use Rattle.dw_outside.proofs.again.read_again.Goals as goal

pub loop-turn-init : goal.loop-turn-init
loop-turn-init g c = record { counted = omega arith; rose = λ h. absurd (omega arith); kept = kept_itself (g.R.Read.remaining c.args.reader.now) }

pub returns-in-Ok-clause-bytes : goal.returns-in-Ok-clause-bytes
returns-in-Ok-clause-bytes g c = kept_read _ _ _ c.in-Ok.count c.read.new.buf c.loop-turn.invariant.kept c.in-Ok.ensures.bytes

pub returns-then-ne-clause-bytes : goal.returns-then-ne-clause-bytes
returns-then-ne-clause-bytes g c = kept_on _ _ _ c.loop-turn.invariant.kept c.in-Err.ensures.bytes

pub returns-clause-bytes : goal.returns-clause-bytes
returns-clause-bytes g c = c.loop-turn.invariant.kept
