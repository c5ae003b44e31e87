use Rattle.std.proofs.Common.{[], ◌∷◌, ◌++◌, sym, ap, ◌∙◌}
use Rattle.std.proofs.lemmas.List.{map-append}
use Rattle.dw_pool.specs.Waves.{placed}
use Rattle.dw_pool.proofs.Waves.{placed_worker}
use Rattle.dw_pool.proofs.wave.collect.Goals as goal

pub loop-worker-preserved : goal.loop-worker-preserved
loop-worker-preserved g c =
    let w = c.in-Some.worker in
    let before = c.loop-worker.invariant in (
      tt,
      tt,
      c.push_reserved.ensures.items ∙ ap (λ ps. ps ++ w.pass ∷ []) before.2 ∙ sym (map-append (λ u. u.pass) c.loop-worker.yielded (w ∷ [])),
      rw c.push_reserved.ensures.capacity before.3,
      c.place.ensures.places ∙ ap (λ slots. placed slots w.pairs.items) before.4 ∙ sym (placed_worker c.args.slots.now.items c.loop-worker.yielded w),
      c.place.ensures.count ∙ before.5,
    )
