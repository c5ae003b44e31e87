use Rattle.std.proofs.Common.{◌≡◌, length}
use Rattle.dw_http.specs.Fields.{without_blanks}
use Rattle.dw_http.proofs.fields.skip_blanks.Given as goal

abbrev pub invariant-loop-rest : goal.invariant-loop-rest
invariant-loop-rest l = without_blanks l.tabs l.rest ≡ without_blanks l.tabs l.bytes

abbrev pub decreases-loop-rest : goal.decreases-loop-rest
decreases-loop-rest l = length l.rest
