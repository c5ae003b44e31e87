use Rattle.std.proofs.Common.{◌∙◌, arith}
use Rattle.dw_jexl.proofs.Pieces.{last_is_wild}
use Rattle.dw_jexl.proofs.pattern.ends_wild.Goals as goal

pub returns : goal.returns
returns c = c.is_wild.ensures ∙ last_is_wild c.args.pieces.now _ (omega arith)
