use Rattle.std.proofs.Common.{◌∷◌, []}
use Rattle.std.proofs.lemmas.List.{map-append}
use Rattle.std.proofs.lemmas.Result.{IfOk-weaker}
use Rattle.dw_wire.specs.ReadLine.{read_line}
use Rattle.datawave.proofs.Requests.{line_formed}
use Rattle.datawave.proofs.request_lines.RequestLinesLineWork.line.Goals as goal

pub returns : goal.returns
returns c ls bytes keeps held =
    (tt, (read_line bytes, IfOk-weaker c.request_of.result _ _ (λ r h. h bytes keeps) c.request_of.ensures, line_formed bytes, map-append read_line ls (bytes ∷ [])))
