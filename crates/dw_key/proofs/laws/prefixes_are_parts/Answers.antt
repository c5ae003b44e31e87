use Rattle.dw_key.proofs.Prefixes.{prefixes_are_parts}
use Rattle.dw_key.proofs.laws.prefixes_are_parts.Goals as goal

pub returns : goal.returns
returns c = prefixes_are_parts
