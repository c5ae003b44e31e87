use Rattle.dw_words.proofs.Ordered.{order_stays}
use Rattle.dw_words.proofs.laws.order_is_free.Goals as goal

pub returns : goal.returns
returns c = order_stays
