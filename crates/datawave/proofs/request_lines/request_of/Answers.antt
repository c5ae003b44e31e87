use Rattle.std.proofs.Common.{◌∙◌, sym}
use Rattle.datawave.proofs.Requests.{too_long}
use Rattle.datawave.proofs.request_lines.request_of.Goals as goal

pub returns-in-None : goal.returns-in-None
returns-in-None c bytes e = too_long bytes (sym c.in-None.ensures ∙ e)
