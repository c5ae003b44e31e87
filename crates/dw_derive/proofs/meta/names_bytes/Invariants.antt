use Rattle.std.proofs.Common.{◌≡◌, ◌++◌, drop}
use Rattle.dw_derive.specs.Meta.{names_bytes}
use Rattle.dw_derive.proofs.meta.names_bytes.Given as goal

abbrev pub invariant-loop-name : goal.invariant-loop-name
invariant-loop-name l = l.out.items ++ names_bytes (drop l.name-index l.names) ≡ names_bytes l.names
