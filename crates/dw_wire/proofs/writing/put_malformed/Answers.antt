use Rattle.dw_wire.proofs.WritingLists.{then, wrote}
use Rattle.dw_wire.proofs.writing.put_malformed.Goals as goal

pub returns : goal.returns
returns c = then (wrote c.in_ok-begin_object.ensures) (then c.in_ok-put_text.ensures c.in_ok-put_why.ensures)
