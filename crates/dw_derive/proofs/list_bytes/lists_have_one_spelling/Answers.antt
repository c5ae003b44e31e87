use Rattle.dw_derive.proofs.Spellings.{one_spelling}
use Rattle.dw_derive.proofs.list_bytes.lists_have_one_spelling.Goals as goal

pub returns : goal.returns
returns c = one_spelling
