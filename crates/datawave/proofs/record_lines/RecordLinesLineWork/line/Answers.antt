use Rattle.std.proofs.Common.{◌≡◌, ◌++◌, ◌∷◌, [], ◌∙◌, ap, sym, subst}
use Rattle.std.proofs.lemmas.List.{map-append}
use Rattle.std.proofs.lemmas.Result.{IfOk-weaker}
use Rattle.datawave.specs.Asking.{Asks, Gathered}
use Rattle.datawave.specs.Groups.{full_ingests, line_record, line_records}
use Rattle.datawave.proofs.Grouped.{Recs}
use Rattle.datawave.proofs.record_lines.RecordLinesLineWork.line.Goals as goal

pub returns : goal.returns
returns c =
    IfOk-weaker c.gather.result _ _ (λ request h ls bytes keeps held.
    let more : line_records ls ++ c.in_ok-rec.rec ∷ [] ≡ line_records (ls ++ bytes ∷ []) =
    ap (λ r. line_records ls ++ r ∷ []) (c.in_ok-rec.ensures.is bytes keeps) ∙ sym (map-append line_record ls (bytes ∷ [])) in
    subst (λ (recs : Recs). Gathered recs c.gather.new.group × Asks request (full_ingests (line_records ls)) (full_ingests recs)) more (h (line_records ls) held)) c.gather.ensures
