use Rattle.dw_tablet.proofs.Standing.{values_stand_in_fields}
use Rattle.dw_tablet.proofs.laws.values_stand_in_fields.Goals as goal

pub returns : goal.returns
returns c = values_stand_in_fields
