use Rattle.dw_words.proofs.Spelled.{spelled_are_read}
use Rattle.dw_words.proofs.laws.options_are_spelled.Goals as goal

pub returns : goal.returns
returns c = spelled_are_read
