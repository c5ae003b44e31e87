use Rattle.std.proofs.Common.{◌≡◌, ◌+◌, ◌≤◌, cond, length}
use Rattle.std.specs.Prelude.{is_none}
use Rattle.dw_http.specs.Turns.{Goes}
use Rattle.dw_http.proofs.talk.find.Given as goal

abbrev pub invariant-loop-scan : goal.invariant-loop-scan
invariant-loop-scan g l = record {
  goes : Goes (g.L.Link.meaning l.fn.link) l.fn.intake l.intake (g.L.Link.meaning l.link);
  writing : (g.L.Link.meaning l.link).writing ≡ (g.L.Link.meaning l.fn.link).writing;
  within : l.scan.at ≤ length l.intake.bytes;
}

abbrev pub decreases-loop-scan : goal.decreases-loop-scan
decreases-loop-scan g l = l.intake.budget + cond (is_none l.intake.stop) 1 0
