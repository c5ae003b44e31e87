use Rattle.std.proofs.Common.{◌≡◌, ◌++◌, map, drop}
use Rattle.httparse.specs.Spans.{header_bytes}
use Rattle.dw_http.specs.Fields.{values_named}
use Rattle.dw_http.proofs.fields.values.Given as goal

abbrev pub invariant-loop-header : goal.invariant-loop-header
invariant-loop-header l =
    values_named l.name (map (header_bytes l.buf) l.headers) ≡ map (λ x. x.now) l.found.items ++ values_named l.name (map (header_bytes l.buf) (drop l.header-index l.headers))
