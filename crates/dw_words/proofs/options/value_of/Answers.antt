use Rattle.std.proofs.Common.{◌∙◌, sym}
use Rattle.dw_words.proofs.Walking.{found, passed, rest_is_some, value_at_end}
use Rattle.dw_words.proofs.options.value_of.Goals as goal

pub returns-then-eq : goal.returns-then-eq
returns-then-eq c some =
    let before = c.loop-given.invariant some in
    sym (before.1 ∙ found c.loop-given.rest.now _ c.args.name.now (sym c.in-Some.ensures) before.0 (sym c.if-eq.ensures))

pub loop-given-preserved : goal.loop-given-preserved
loop-given-preserved c some =
    let before = c.loop-given.invariant some in
    let first = sym c.in-Some.ensures in
    (rest_is_some c.loop-given.rest.now _ first before.0, before.1 ∙ passed c.loop-given.rest.now _ c.args.name.now first before.0 (sym c.if-eq.ensures))

pub returns : goal.returns
returns c some = sym ((c.loop-given.invariant some).1 ∙ value_at_end c.loop-given.rest.now c.args.name.now (sym c.in_default.ensures))
