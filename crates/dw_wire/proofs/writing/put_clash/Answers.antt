use Rattle.dw_wire.proofs.WritingLists.{then, wrote}
use Rattle.dw_wire.proofs.writing.put_clash.Goals as goal

pub returns : goal.returns
returns c =
    let all = then (wrote c.in_ok-begin_object.ensures) (then c.in_ok-put_number.ensures (then c.in_ok-put_text.ensures
    (then c.in_ok-put_key.ensures (then c.in_ok-put_text-2.ensures (wrote c.in_ok-end_object.ensures))))) in
    rw c.as_str.ensures.same at all
