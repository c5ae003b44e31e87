use Rattle.std.proofs.Common.{◌≡◌}
use Rattle.dw_jexl.specs.Reading.{negated}
use Rattle.dw_lucene.proofs.reading.negated.Given as goal

abbrev pub invariant-loop : goal.invariant-loop
invariant-loop l = l.query ≡ negated l.counter l.fn.query
