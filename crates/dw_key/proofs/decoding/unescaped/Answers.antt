use Rattle.dw_key.proofs.Places.{reads_plain, reads_zero}
use Rattle.dw_key.proofs.decoding.unescaped.Goals as goal
use Rattle.dw_key.proofs.decoding.unescaped.Goals.{then-byte-eq0, else-byte-eq0}

pub loop-at-preserved : goal.loop-at-preserved
loop-at-preserved c =
    rw c.in_ok-put.ensures.ok (elim c.if-byte-eq0.branch [
      | then-byte-eq0 w ↦ rw w.at-is (reads_zero c.args.text.now c.loop-at.part c.loop-at.at c.loop-at-test.true w.if-byte-eq0.true c.loop-at.invariant)
      | else-byte-eq0 w ↦ rw w.at-is (reads_plain c.args.text.now c.loop-at.part c.loop-at.at c.loop-at-test.true w.if-byte-eq0.false c.loop-at.invariant)
    ])
