use Rattle.dw_norm.proofs.Wholes.{digits_spell}
use Rattle.dw_norm.proofs.laws.digits_spell_numbers.Goals as goal

pub returns : goal.returns
returns c = digits_spell
