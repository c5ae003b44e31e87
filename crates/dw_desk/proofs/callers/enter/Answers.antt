use Rattle.std.proofs.Common.{ap, ◌∙◌, cond, Some}
use Rattle.std.specs.Ordering.{nat_cmp}
use Rattle.std.specs.BTreeMap.{get, is_at}
use Rattle.std.specs.Cmp.Lexicographic.{slice_cmp}
use Rattle.dw_desk.proofs.CallerLemmas.{same_entered, absent}
use Rattle.dw_desk.proofs.callers.enter.Goals as goal

pub returns-in_ok-insert-clause-same : goal.returns-in_ok-insert-clause-same
returns-in_ok-insert-clause-same c =
    let m = c.args.callers.now in
    same_entered m c.insert.new.self c.args.name.now c.new.result
    (absent (get (slice_cmp nat_cmp) m c.args.name.now) c.contains_key.result c.contains_key.ensures c.if-not-contains_key.true)
    (λ q. c.in_ok-insert.ensures.updates.0 q ∙ ap (λ k. cond (is_at (slice_cmp nat_cmp k) q) (Some c.new.result) (get (slice_cmp nat_cmp) m q)) c.in_ok-copy.ensures)
    c.new.ensures
