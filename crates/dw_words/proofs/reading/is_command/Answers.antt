use Rattle.std.proofs.Common.{◌∙◌, Option, ap, is_some, sym}
use Rattle.dw_words.specs.declared.command.Command.{Command}
use Rattle.dw_words.proofs.Commands.{after_is}
use Rattle.dw_words.proofs.reading.is_command.Goals as goal

pub returns-then-are_options : goal.returns-then-are_options
returns-then-are_options c =
    c.has_values.ensures ∙ ap (λ (o : Option Command). is_some o) (sym (after_is c.args.kind c.args.words.now (sym c.if-are_options.ensures)))
