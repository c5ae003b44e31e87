use Rattle.std.proofs.Common.{◌+◌, drop, refl, sym, ap, ◌∙◌, arith}
use Rattle.dw_vis.specs.Depth.{is_deep_then, is_deep_from}
use Rattle.dw_vis.proofs.Walking.{walk_at, walk_at_end}
use Rattle.dw_vis.proofs.depth.is_deep.Goals as goal

pub returns-in-Deep : goal.returns-in-Deep
returns-in-Deep c =
    let text = c.args.text.now in
    let i = c.loop-byte.byte-index in
    sym (sym c.loop-byte.invariant ∙ walk_at c.loop-byte.walk text i _ c.next.result c.loop-byte-test.true refl c.next.ensures ∙ ap (λ s. is_deep_then s (λ v. is_deep_from v (drop (i + 1) text))) c.in-Deep.is)

pub returns-in-Ended : goal.returns-in-Ended
returns-in-Ended c =
    let text = c.args.text.now in
    let i = c.loop-byte.byte-index in
    sym (sym c.loop-byte.invariant ∙ walk_at c.loop-byte.walk text i _ c.next.result c.loop-byte-test.true refl c.next.ensures ∙ ap (λ s. is_deep_then s (λ v. is_deep_from v (drop (i + 1) text))) c.in-Ended.is)

pub loop-byte-preserved : goal.loop-byte-preserved
loop-byte-preserved c =
    let text = c.args.text.now in
    let i = c.loop-byte.byte-index in
    sym (sym c.loop-byte.invariant ∙ walk_at c.loop-byte.walk text i _ c.next.result c.loop-byte-test.true refl c.next.ensures ∙ ap (λ s. is_deep_then s (λ v. is_deep_from v (drop (i + 1) text))) c.in-On.is)

pub returns : goal.returns
returns c = sym (sym c.loop-byte.invariant ∙ walk_at_end c.loop-byte.walk c.args.text.now c.loop-byte.byte-index (omega arith))
