use Rattle.std.proofs.Common.{◌≡◌, drop}
use Rattle.dw_http.specs.Lines.{after_line}
use Rattle.dw_http.proofs.lines.next_line.Given as goal

abbrev pub invariant-loop-i : goal.invariant-loop-i
invariant-loop-i l = after_line (drop l.i l.bytes) ≡ after_line l.bytes
