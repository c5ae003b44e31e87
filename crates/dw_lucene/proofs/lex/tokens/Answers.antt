use Rattle.std.proofs.Common.{sym, ap, ◌∙◌}
use Rattle.std.proofs.lemmas.List.{take_rest}
use Rattle.dw_lucene.specs.Tokens.{first_token}
use Rattle.dw_lucene.proofs.Cutting.{cuts_all}
use Rattle.dw_lucene.proofs.lex.tokens.Goals as goal

pub returns-in-None-clause-value : goal.returns-in-None-clause-value
returns-in-None-clause-value c =
    cuts_all _ _ _ c.loop-tokens.invariant.cuts (ap first_token (sym (take_rest c.args.chars.now c.loop-tokens.at)) ∙ sym c.in_ok-first_token.ensures.value ∙ c.in-None.is)
