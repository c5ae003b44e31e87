use Rattle.dw_audit.proofs.Changes.{changes}
use Rattle.dw_audit.proofs.laws.changes_are_sound.Goals as goal

pub returns : goal.returns
returns c = changes c.meta_is_read.ensures c.rules_are_cells.ensures c.rules_keep_worlds.ensures c.grants_are_cells.ensures c.grants_keep_worlds.ensures
