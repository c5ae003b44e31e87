use Rattle.std.proofs.Common.{◌≡◌, ◌-◌, ◌∙◌, length, take, drop, ap, arith, length-drop}
use Rattle.std.proofs.lemmas.Grind.{common_steps}
use Rattle.std.specs.Io.KnownBytes.{append_known}
use Rattle.dw_outside.proofs.Pieces.{append_next}
use Rattle.dw_outside.proofs.link.put_all.Goals as goal

pub loop-at-preserved : goal.loop-at-preserved
loop-at-preserved g c =
    let at = c.loop-at.at in
    let n = c.in_ok-at.field-0 in
    let bytes = c.args.bytes.now in
    let whole : take (length bytes - at) (drop at bytes) ≡ drop at bytes = grind (arith, common_steps) in
    record {
      counted = omega (arith, c.loop-at.invariant.counted, c.in_ok-at.ensures.counted);
      within = omega (arith, c.loop-at.invariant.within, c.in_ok-at.ensures.bound, ap length whole, length-drop at bytes);
      begun = c.in_ok-at.ensures.bytes
          ∙ ap (λ xs. append_known (g.K.Sink.taken c.loop-at.sink) (take n xs)) whole
          ∙ ap (λ known. append_known known (take n (drop at bytes))) c.loop-at.invariant.begun
          ∙ append_next (g.K.Sink.taken c.args.sink.now) at n bytes;
      beside = c.in_ok-at.ensures.beside ∙ c.loop-at.invariant.beside;
    }
