use Rattle.std.proofs.Common.{◌∙◌, arith}
use Rattle.sqlite.specs.State.{HasCleanDisk}
use Rattle.sqlite.specs.Held.{state}
use Rattle.dw_sqlite.proofs.Undone.{kept_next, survives_next}
use Rattle.dw_sqlite.proofs.Running.{ran_next}
use Rattle.dw_sqlite.proofs.writing.set_all.Goals as goal

pub loop-put-preserved : goal.loop-put-preserved
loop-put-preserved g c =
    let inv = c.loop-put.invariant in
    let one = c.in_ok-set_one.ensures in
    let first = c.args.tx.now.conn.now in
    let mid = c.loop-put.tx.conn.now in
    let last = c.set_one.new.tx.conn.now in
    let before = λ (clean : HasCleanDisk (state g.S.Store last)). let was : HasCleanDisk (state g.S.Store mid) = omega (arith, one.survives.clean) in was in
    record {
      same_reference = one.same_reference ∙ inv.same_reference;
      kept = kept_next (state g.S.Store first) (state g.S.Store mid) (state g.S.Store last) inv.kept one.kept one.survives;
      survives = survives_next (state g.S.Store first) (state g.S.Store mid) (state g.S.Store last) inv.survives one.survives;
      inside = λ clean yes. one.inside clean (inv.inside (before clean) yes);
      ran = λ clean yes k rest. inv.ran (before clean) yes k
          (ran_next g.S.Store c.args.set.now.text c.args.puts.now c.loop-put.put-index c.put-item.result mid last k c.loop-put-test.true c.put-item.is (one.ran clean (inv.inside (before clean) yes)) rest);
    }
