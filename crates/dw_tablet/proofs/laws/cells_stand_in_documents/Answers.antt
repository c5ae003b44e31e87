use Rattle.dw_tablet.proofs.Standing.{cells_stand_in_documents}
use Rattle.dw_tablet.proofs.laws.cells_stand_in_documents.Goals as goal

pub returns : goal.returns
returns c = cells_stand_in_documents
