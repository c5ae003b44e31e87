use Rattle.std.proofs.Common.{◌≡◌, ◌++◌, drop}
use Rattle.dw_eval.specs.Named.{named_pairs}
use Rattle.dw_eval.specs.Values.{normal_view}
use Rattle.dw_eval.proofs.nview.named_normal_pairs.Given as goal

abbrev pub invariant-loop-pair : goal.invariant-loop-pair
invariant-loop-pair l = l.out.items ++ normal_view l.dict (named_pairs l.query (drop l.pair-index l.pairs)) ≡ normal_view l.dict (named_pairs l.query l.pairs)
