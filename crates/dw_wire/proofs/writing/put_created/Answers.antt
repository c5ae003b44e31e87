use Rattle.dw_wire.proofs.WritingLists.{then, wrote}
use Rattle.dw_wire.proofs.writing.put_created.Goals as goal

pub returns : goal.returns
returns c = then (wrote c.in_ok-begin_object.ensures) (then c.in_ok-put_number.ensures (then c.in_ok-put_text.ensures (wrote c.in_ok-end_object.ensures)))
