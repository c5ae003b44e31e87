use Rattle.std.proofs.Common.{arith}
use Rattle.dw_lucene.proofs.Terms.{term_takes}
use Rattle.dw_lucene.proofs.lex.word_token.Goals as goal

pub returns-in_ok-term_token-in-Some-clause-within : goal.returns-in_ok-term_token-in-Some-clause-within
returns-in_ok-term_token-in-Some-clause-within c =
    let l = term_takes _ _ _ c.requires.some c.requires.begins c.in_ok-term.ensures.value c.in-Some.is in
    let w = c.in_ok-term_token-in-Some.ensures.within in
    (omega (arith, l, w.0), w.1)
