use Rattle.std.proofs.Common.{◌∙◌, Option, IfSome, IsTrue, subst, sym}
use Rattle.std.proofs.lemmas.Result.{IfOk-weaker}
use Rattle.dw_words.specs.declared.command.Command.{Command}
use Rattle.dw_words.specs.Words.{is_within}
use Rattle.dw_words.proofs.Commands.{after_is}
use Rattle.dw_words.proofs.Limits.{after_within}
use Rattle.dw_words.proofs.reading.read_after.Goals as goal

pub returns-clause-is : goal.returns-clause-is
returns-clause-is c =
    IfOk-weaker c.read_values.result _ _ (λ o is. is ∙ sym (after_is c.args.kind c.args.words.now (sym c.if-not-are_options.ensures))) c.read_values.ensures

pub returns-clause-within : goal.returns-clause-within
returns-clause-within c =
    IfOk-weaker c.read_values.result _ _
    (λ o is. subst (λ (o : Option Command). IfSome o (λ k. IsTrue (is_within k))) (sym (is ∙ sym (after_is c.args.kind c.args.words.now (sym c.if-not-are_options.ensures))))
    (after_within c.args.kind c.args.words.now)) c.read_values.ensures
