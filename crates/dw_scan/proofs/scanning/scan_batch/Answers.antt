use Rattle.std.proofs.Common.{◌≡◌, ◌≤◌, Some, None, ap, sym, ◌∙◌, length, arith}
use Rattle.std.proofs.lemmas.Result.{IfOk-weaker}
use Rattle.dw_scan.specs.Worlds.{content_of}
use Rattle.dw_scan.specs.WorldAnswers.{candidates_in}
use Rattle.dw_scan.proofs.WorldBatches.{built_enumerable, is_shard, to_batch}
use Rattle.dw_scan.proofs.scanning.scan_batch.Goals as goal

pub search-requires-clause-enumerable : goal.search-requires-clause-enumerable
search-requires-clause-enumerable g c = built_enumerable c.args.tablet.now c.args.ask.now c.in-Ok.tree c.requires.ruled c.requires.anchored c.in-Ok.ensures.ok

pub returns-in-Err-Missing-clause-scanned : goal.returns-in-Err-Missing-clause-scanned
returns-in-Err-Missing-clause-scanned g c = IfOk-weaker c.lacking.result _ _ (λ b h w of. h w c.args.want) c.lacking.ensures.scanned

pub returns-in-Err-Missing-clause-few : goal.returns-in-Err-Missing-clause-few
returns-in-Err-Missing-clause-few g c = IfOk-weaker c.lacking.result _ _ (λ b h. omega (arith, ap length h)) c.lacking.ensures.found

pub returns-in-Err-Missing-clause-full : goal.returns-in-Err-Missing-clause-full
returns-in-Err-Missing-clause-full g c = IfOk-weaker c.lacking.result _ _ (λ b h e n. absurd (clash (sym h ∙ n))) c.lacking.ensures.missing
  where
    clash : {A : Type 0} {x : A} → Some x ≡ None → ⊥
    clash e = cc

pub returns-in-Ok-clause-scanned : goal.returns-in-Ok-clause-scanned
returns-in-Ok-clause-scanned g c =
    let tablet = c.args.tablet.now in
    let ask = c.args.ask.now in
    IfOk-weaker c.search.result _ _
    (λ b h w of.
    to_batch tablet ask w of c.in-Ok.tree c.requires.ruled c.requires.anchored c.in-Ok.ensures.ok c.trees_find_candidates.ensures c.leaves_find_the_seen.ensures c.seen_ascend.ensures c.answers_are_seen.ensures c.args.resume.now.after c.args.want b
    (h (content_of w tablet.shard) (candidates_in ask w tablet.shard)
    (is_shard tablet ask w of c.in-Ok.tree c.requires.ruled c.requires.anchored c.in-Ok.ensures.ok c.trees_find_candidates.ensures c.leaves_find_the_seen.ensures c.seen_ascend.ensures c.answers_are_seen.ensures)))
    c.search.ensures.scanned

pub returns-in-Ok-clause-counted : goal.returns-in-Ok-clause-counted
returns-in-Ok-clause-counted g c =
    let tablet = c.args.tablet.now in
    let ask = c.args.ask.now in
    IfOk-weaker c.search.result _ _
    (λ b h w of.
    h (content_of w tablet.shard) (candidates_in ask w tablet.shard)
    (is_shard tablet ask w of c.in-Ok.tree c.requires.ruled c.requires.anchored c.in-Ok.ensures.ok c.trees_find_candidates.ensures c.leaves_find_the_seen.ensures c.seen_ascend.ensures c.answers_are_seen.ensures))
    c.search.ensures.counted
