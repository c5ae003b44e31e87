use Rattle.dw_derive.proofs.WholeDocuments.{documents_are_read}
use Rattle.dw_derive.proofs.table_laws.documents_are_read.Goals as goal

pub returns : goal.returns
returns c = documents_are_read
