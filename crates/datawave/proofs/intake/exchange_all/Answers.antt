use Rattle.std.proofs.Common.{◌∙◌, sym, le_trans}
use Rattle.datawave.proofs.intake.exchange_all.Goals as goal

pub returns-in-Some-clause-runs : goal.returns-in-Some-clause-runs
returns-in-Some-clause-runs g c reading w start before is p =
    c.in-Some.ensures.ends reading w start before (is ∙ sym c.loop-status.invariant.same) (c.loop-status.invariant.progress reading w start before is p)

pub loop-status-preserved : goal.loop-status-preserved
loop-status-preserved g c = record {
  same = c.in_default.ensures.same ∙ c.loop-status.invariant.same;
  taken = le_trans c.loop-status.invariant.taken c.in_default.ensures.taken;
  put = le_trans c.loop-status.invariant.put c.in_default.ensures.put;
  progress = λ reading w start before is p.
      c.in_default.ensures.between reading w start before (is ∙ sym c.loop-status.invariant.same) (c.loop-status.invariant.progress reading w start before is p);
}
