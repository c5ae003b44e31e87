use Rattle.std.proofs.Common.{◌∙◌, List, ℕ, Bor, map, ap, sym}
use Rattle.datawave.proofs.ReadingWords.{ingest_words}
use Rattle.datawave.proofs.command.read_command.Goals as goal

pub read_form-requires : goal.read_form-requires
read_form-requires c =
    let rest = ingest_words c.args.words.now (sym c.is_exec.ensures ∙ c.if-is_exec.false) c.requires in
    (rest.0, ap (map (λ (w : Bor (List ℕ)). w.now)) c.as_slice.ensures.value ∙ c.in_ok-texts.ensures ∙ rest.1, rest.2)
