use Rattle.std.proofs.Common.{◌∙◌, ap, arith}
use Rattle.dw_page.specs.declared.gather.Gather.{Gather}
use Rattle.dw_page.specs.Remains.{shards_of}
use Rattle.dw_page.proofs.AnswerLemmas.{told_still}
use Rattle.dw_page.proofs.NearLemmas.{last_same, opened_near, near_still}
use Rattle.dw_page.proofs.ReadsLemmas.{opens_more, opens_still}
use Rattle.dw_page.proofs.RemainsLemmas.{still_few}
use Rattle.dw_page.proofs.turn.walk_on.Goals as goal

pub returns-then-is_empty-clause-opens : goal.returns-then-is_empty-clause-opens
returns-then-is_empty-clause-opens g c = opens_more _ _ _ _ _ _ c.waves.invariant.opens c.in_ok-open.ensures.opens

pub returns-then-is_empty-clause-near : goal.returns-then-is_empty-clause-near
returns-then-is_empty-clause-near g c =
    let inv = c.waves.invariant in
    let opened = c.in_ok-open.ensures in
    let old = c.args.walk.now.waiting.items in
    λ w page later next is h up past. rw (← c.workers-workers.ensures.is)
    (opened_near c.args.ask.now w old c.workers-workers.result c.args.walk.now.gather.size page later next c.open.new.self up (last_same (shards_of old) _ _ opened.shards inv.last) (opened.few inv.few)
    (opened.good c.args.ask.now w page (told_still _ _ c.args.ask.now w inv.told is) (inv.good w page is h))
    (ap (λ (x : Gather). x.more) opened.gather ∙ inv.more) (ap (λ (x : Gather). x.size) opened.gather ∙ inv.size) past)

pub returns-then-walk-clause-opens : goal.returns-then-walk-clause-opens
returns-then-walk-clause-opens g c =
    opens_still _ _ _ _ _ (c.in_ok-flush.ensures.waiting ∙ c.in_ok-scan_slots.ensures.waiting) (opens_more _ _ _ _ _ _ c.waves.invariant.opens c.in_ok-open.ensures.opens)

pub returns-then-walk-clause-near : goal.returns-then-walk-clause-near
returns-then-walk-clause-near g c =
    let inv = c.waves.invariant in
    let opened = c.in_ok-open.ensures in
    let old = c.args.walk.now.waiting.items in
    λ w page later next is h up past. rw (← c.workers-workers.ensures.is)
    (near_still _ _ _ _ (c.in_ok-flush.ensures.waiting ∙ c.in_ok-scan_slots.ensures.waiting)
    (opened_near c.args.ask.now w old c.workers-workers.result c.args.walk.now.gather.size page later next c.open.new.self up (last_same (shards_of old) _ _ opened.shards inv.last) (opened.few inv.few)
    (opened.good c.args.ask.now w page (told_still _ _ c.args.ask.now w inv.told is) (inv.good w page is h))
    (ap (λ (x : Gather). x.more) opened.gather ∙ inv.more) (ap (λ (x : Gather). x.size) opened.gather ∙ inv.size) past))

pub waves-preserved : goal.waves-preserved
waves-preserved g c =
    let inv = c.waves.invariant in
    let opened = c.in_ok-open.ensures in
    let scanned = c.in_ok-scan_slots.ensures in
    let flushed = c.in_ok-flush.ensures in
    let old = c.args.walk.now.waiting.items in
    let waiting = flushed.waiting ∙ scanned.waiting in
    record {
      good = λ w page is h. flushed.good c.args.ask.now w page (scanned.good w page (opened.good c.args.ask.now w page (told_still _ _ c.args.ask.now w inv.told is) (inv.good w page is h)));
      opens = opens_still _ _ _ _ _ waiting (opens_more _ _ _ _ _ _ inv.opens opened.opens);
      last = flushed.last (shards_of old) (last_same (shards_of old) _ _ scanned.shards (last_same (shards_of old) _ _ opened.shards inv.last));
      near = λ w page later next is h up past.
          near_still _ _ _ _ waiting
          (opened_near c.args.ask.now w old c.workers-workers.result c.args.walk.now.gather.size page later next c.open.new.self up (last_same (shards_of old) _ _ opened.shards inv.last) (opened.few inv.few)
          (opened.good c.args.ask.now w page (told_still _ _ c.args.ask.now w inv.told is) (inv.good w page is h))
          (ap (λ (x : Gather). x.more) opened.gather ∙ inv.more) (ap (λ (x : Gather). x.size) opened.gather ∙ inv.size) past);
      few = still_few _ _ _ _ c.workers-workers.result inv.few opened.few scanned.few flushed.fewer;
      more = c.if-walk.false;
      size = flushed.size ∙ ap (λ (x : Gather). x.size) (scanned.gather ∙ opened.gather) ∙ inv.size;
      told = opened.told ∙ inv.told;
      later = omega (arith, opened.later, inv.later);
    }
