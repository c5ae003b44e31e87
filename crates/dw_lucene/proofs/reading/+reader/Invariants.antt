use Rattle.std.proofs.Common.{◌+◌, ◌-◌, ◌*◌, length}
use Rattle.dw_lucene.specs.Tokens.{is_conjoin, is_disjoin}
use Rattle.dw_lucene.specs.Reading.{unary, conjunction, query_at}
use Rattle.dw_lucene.proofs.Steps.{Reads}
use Rattle.dw_lucene.proofs.reading.+reader.Given as goal

abbrev pub decreases-disjunction : goal.decreases-disjunction
decreases-disjunction l = 4 * l.levels

abbrev pub decreases-base : goal.decreases-base
decreases-base l = 4 * l.levels + 1

abbrev pub decreases-unary : goal.decreases-unary
decreases-unary l = 4 * l.levels + 2

abbrev pub decreases-conjunction : goal.decreases-conjunction
decreases-conjunction l = 4 * l.levels + 3

abbrev pub invariant-conjunction-loop-children : goal.invariant-conjunction-loop-children
invariant-conjunction-loop-children l = Reads (unary (query_at l.levels)) is_conjoin l.tokens l.children.items l.at

abbrev pub decreases-conjunction-loop-children : goal.decreases-conjunction-loop-children
decreases-conjunction-loop-children l = length l.tokens - l.at

abbrev pub invariant-disjunction-loop-children : goal.invariant-disjunction-loop-children
invariant-disjunction-loop-children l = Reads (conjunction (query_at (l.levels - 1))) is_disjoin l.tokens l.children.items l.at

abbrev pub decreases-disjunction-loop-children : goal.decreases-disjunction-loop-children
decreases-disjunction-loop-children l = length l.tokens - l.at
