use Rattle.std.proofs.Common.{◌≡◌, ℕ, ◌++◌, drop}
use Rattle.std.specs.Prelude.{filter_map}
use Rattle.dw_eval.specs.Meeting.{meets}
use Rattle.dw_tablet.specs.Values.{shown_by}
use Rattle.dw_iter.specs.LeafLists.{doc_where}
use Rattle.dw_iter.proofs.set.docs_where.Given as goal

abbrev pub invariant-loop-at : goal.invariant-loop-at
invariant-loop-at l = l.docs.items ++ filter_map (doc_where (meets l.leaf) (shown_by l.values.asked)) (drop l.at l.values.keys.now) ≡ filter_map (doc_where (meets l.leaf) (shown_by l.values.asked)) l.values.keys.now
