use Rattle.dw_key.proofs.Codes.{no_code_behind}
use Rattle.dw_key.proofs.laws.no_code_begins_another.Goals as goal

pub returns : goal.returns
returns c = no_code_behind
