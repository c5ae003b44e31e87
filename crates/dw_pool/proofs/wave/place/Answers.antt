use Rattle.std.proofs.Common.{length, slice_set, sym, ap, ◌∙◌}
use Rattle.std.specs.Prelude.{Some}
use Rattle.std.proofs.lemmas.List.{length-set}
use Rattle.dw_pool.proofs.Waves.{placed_push}
use Rattle.dw_pool.proofs.wave.place.Goals as goal

pub loop-number-preserved : goal.loop-number-preserved
loop-number-preserved g c =
    let before = c.loop-number.invariant in
    let out = Some c.in-Some.out in (
      tt,
      tt,
      c.place_one.ensures ∙ ap (λ slots. slice_set slots c.in-Some.number out) before.2 ∙ sym (placed_push c.args.slots.now.items c.loop-number.yielded (c.in-Some.number, c.in-Some.out)),
      ap length c.place_one.ensures ∙ length-set c.loop-number.slots.items c.in-Some.number out ∙ before.3,
    )
