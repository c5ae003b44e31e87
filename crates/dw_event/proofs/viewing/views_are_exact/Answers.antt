use Rattle.dw_event.proofs.ViewLemmas.{views_are_exact}
use Rattle.dw_event.proofs.viewing.views_are_exact.Goals as goal

pub returns : goal.returns
returns c = views_are_exact c.sees_by_the_grammar.ensures
