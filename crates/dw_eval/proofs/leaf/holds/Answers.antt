use Rattle.std.proofs.lemmas.Str.Pattern.{contains_text}
use Rattle.dw_eval.proofs.Texts.{is_holds}
use Rattle.dw_eval.proofs.leaf.holds.Goals as goal

pub returns : goal.returns
returns c =
    rw (← c.as_str.ensures.same)
    (is_holds c.contains.result c.args.form.now c.as_str.result.now (contains_text c.contains.result c.as_str.result.now c.args.form.now c.contains.ensures.cases))
