use Rattle.std.proofs.Common.{◌≡◌, ◌-◌}
use Rattle.dw_http.specs.Lines.{after_lines}
use Rattle.dw_http.proofs.lines.past_lines.Given as goal

abbrev pub invariant-loop-line : goal.invariant-loop-line
invariant-loop-line l = after_lines (l.count - l._line) l.rest ≡ after_lines l.count l.bytes
