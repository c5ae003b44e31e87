use Rattle.std.proofs.Common.{◌≡◌, ◌+◌, cond}
use Rattle.std.specs.Prelude.{is_none}
use Rattle.dw_http.specs.Turns.{Goes}
use Rattle.dw_http.proofs.talk.gather.Given as goal

abbrev pub invariant-loop-intake : goal.invariant-loop-intake
invariant-loop-intake g l = record {
  goes : Goes (g.L.Link.meaning l.fn.link) l.fn.intake l.intake (g.L.Link.meaning l.link);
  writing : (g.L.Link.meaning l.link).writing ≡ (g.L.Link.meaning l.fn.link).writing;
}

abbrev pub decreases-loop-intake : goal.decreases-loop-intake
decreases-loop-intake g l = l.intake.budget + cond (is_none l.intake.stop) 1 0
