use Rattle.std.proofs.Common.{◌+◌, ◌<◌, length, drop, get_or, sym, ◌∙◌, subst, arith}
use Rattle.std.proofs.lemmas.Grind.{common_steps}
use Rattle.dw_vis.specs.Reading.{step, read_from}
use Rattle.dw_vis.specs.Sight.{seen_by}
use Rattle.dw_vis.specs.States.{state_of, Leads}
use Rattle.dw_vis.proofs.Running.{read_some, reads_on, reads_end, led_on, led_off, stays_shallow, has_room}
use Rattle.dw_vis.proofs.reading.Outcome.of_text.Goals as goal

pub step-requires : goal.step-requires
step-requires c =
    has_room c.loop-byte.reader c.args.text.now c.loop-byte.byte-index c.loop-byte-test.true c.requires.short c.loop-byte.invariant.few c.loop-byte.invariant.shallow

pub returns-in-Failed : goal.returns-in-Failed
returns-in-Failed c =
    let m = seen_by c.args.auths.now in
    let text = c.args.text.now in
    let i = c.loop-byte.byte-index in
    let some : 0 < length text = grind (arith, common_steps, c.is_empty.ensures, c.if-is_empty.false) in
    let led = subst (λ s. Leads (step m (state_of c.loop-byte.reader) (get_or text i 0)) s (state_of c.step.new.self)) c.in-Failed.is c.step.ensures.step in
    sym (read_some m text some ∙ sym c.loop-byte.invariant.so_far ∙ reads_on m (state_of c.loop-byte.reader) text i c.loop-byte-test.true ∙ led_off (step m (state_of c.loop-byte.reader) (get_or text i 0)) (state_of c.step.new.self) (λ next. read_from m next (drop (i + 1) text)) led)

pub loop-byte-preserved : goal.loop-byte-preserved
loop-byte-preserved c =
    let m = seen_by c.args.auths.now in
    let text = c.args.text.now in
    let i = c.loop-byte.byte-index in
    let led = subst (λ s. Leads (step m (state_of c.loop-byte.reader) (get_or text i 0)) s (state_of c.step.new.self)) c.in-On.is c.step.ensures.step in
    record {
      few = omega (arith, c.step.ensures.name, c.loop-byte.invariant.few);
      shallow = stays_shallow m (state_of c.loop-byte.reader) (state_of c.step.new.self) text i c.loop-byte-test.true c.loop-byte.invariant.shallow led;
      so_far = sym (reads_on m (state_of c.loop-byte.reader) text i c.loop-byte-test.true ∙ led_on (step m (state_of c.loop-byte.reader) (get_or text i 0)) (state_of c.step.new.self) (λ next. read_from m next (drop (i + 1) text)) led) ∙ c.loop-byte.invariant.so_far;
    }

pub returns : goal.returns
returns c =
    let m = seen_by c.args.auths.now in
    let text = c.args.text.now in
    let some : 0 < length text = grind (arith, common_steps, c.is_empty.ensures, c.if-is_empty.false) in
    c.ended.ensures ∙ sym (read_some m text some ∙ sym c.loop-byte.invariant.so_far ∙ reads_end m (state_of c.loop-byte.reader) text c.loop-byte.byte-index (omega arith))
