use Rattle.std.proofs.Common.{◌≡◌, length}
use Rattle.dw_http.specs.Fields.{has_later_close}
use Rattle.dw_http.proofs.fields.says_close_later.Given as goal

abbrev pub invariant-loop-rest : goal.invariant-loop-rest
invariant-loop-rest l = has_later_close l.rest ≡ has_later_close l.value

abbrev pub decreases-loop-rest : goal.decreases-loop-rest
decreases-loop-rest l = length l.rest
