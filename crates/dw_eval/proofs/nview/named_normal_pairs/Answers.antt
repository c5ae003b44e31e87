use Rattle.std.proofs.Common.{◌+◌, ◌++◌, append_assoc, sym, ap, ◌∙◌, drop}
use Rattle.dw_eval.specs.Named.{named_form, named_pairs}
use Rattle.dw_eval.specs.Values.{normal_view}
use Rattle.dw_eval.proofs.NamedFields.{named_step}
use Rattle.dw_eval.proofs.nview.named_normal_pairs.Goals as goal

pub loop-pair-preserved : goal.loop-pair-preserved
loop-pair-preserved c =
    let d = c.args.dict.now in
    let q = c.args.query.now in
    let p = c.pair-item.result in
    let i = c.loop-pair.pair-index in
    let rest = normal_view d (named_pairs q (drop (i + 1) c.args.pairs.now)) in
    ap (λ xs. xs ++ rest) c.in_ok-put_named.ensures
    ∙ append_assoc c.loop-pair.out.items (named_form d q p) rest
    ∙ ap (λ xs. c.loop-pair.out.items ++ xs) (sym (named_step d q c.args.pairs.now i p c.loop-pair-test.true c.pair-item.is))
    ∙ c.loop-pair.invariant
