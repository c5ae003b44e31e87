use Rattle.dw_key.proofs.Codes.{keys_told}
use Rattle.dw_key.proofs.laws.codes_tell_keys.Goals as goal

pub returns : goal.returns
returns c = keys_told
