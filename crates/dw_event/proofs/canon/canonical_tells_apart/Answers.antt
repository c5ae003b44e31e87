use Rattle.dw_event.proofs.Apart.{canon_tells_apart}
use Rattle.dw_event.proofs.canon.canonical_tells_apart.Goals as goal

pub returns : goal.returns
returns c = canon_tells_apart
