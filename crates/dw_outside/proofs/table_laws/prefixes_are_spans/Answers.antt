use Rattle.dw_outside.proofs.Spanning.{prefix_span}
use Rattle.dw_outside.proofs.table_laws.prefixes_are_spans.Goals as goal

pub returns : goal.returns
returns c = prefix_span
