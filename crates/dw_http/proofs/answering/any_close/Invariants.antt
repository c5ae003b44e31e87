use Rattle.std.proofs.Common.{◌≡◌, drop, map}
use Rattle.std.specs.List.{list_any}
use Rattle.dw_http.specs.Fields.{has_close}
use Rattle.dw_http.proofs.answering.any_close.Given as goal

abbrev pub invariant-loop-value : goal.invariant-loop-value
invariant-loop-value l = list_any has_close (map (λ v. v.now) (drop l.value-index l.values)) ≡ list_any has_close (map (λ v. v.now) l.values)
