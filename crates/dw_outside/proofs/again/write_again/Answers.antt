use Rattle.std.proofs.Common.{arith}
use Rattle.dw_outside.proofs.Kept.{kept_itself, kept_written}
use Rattle.dw_outside.proofs.again.write_again.Goals as goal

pub loop-turn-init : goal.loop-turn-init
loop-turn-init g c = record { counted = omega arith; rose = λ h. absurd (omega arith); kept = kept_itself (g.W.Write.contents c.args.writer.now) }

pub returns-in-Ok-clause-bytes : goal.returns-in-Ok-clause-bytes
returns-in-Ok-clause-bytes g c = kept_written _ _ _ _ c.loop-turn.invariant.kept c.in-Ok.ensures.bytes
