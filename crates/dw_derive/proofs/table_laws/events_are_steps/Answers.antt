use Rattle.dw_derive.proofs.Stepping.{event_stepped}
use Rattle.dw_derive.proofs.table_laws.events_are_steps.Goals as goal

pub returns : goal.returns
returns c = event_stepped c.codes_tell_keys.ensures
