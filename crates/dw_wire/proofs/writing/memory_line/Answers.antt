use Rattle.serde_json.proofs.OnLiterals.{serde_json_on_literals}
use Rattle.dw_wire.specs.ReplyText.{reply_text}
use Rattle.dw_wire.proofs.writing.memory_line.Goals as goal

pub returns : goal.returns
unfolding serde_json_on_literals reply_text
returns c = c.as_slice.ensures
