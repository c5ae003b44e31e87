use Rattle.dw_key.proofs.Prefixes.{no_part_behind}
use Rattle.dw_key.proofs.laws.no_part_begins_another.Goals as goal

pub returns : goal.returns
returns c = no_part_behind
