use Rattle.std.proofs.Common.{sym, ◌∙◌}
use Rattle.dw_derive.proofs.ReaderLemmas.{no_uid}
use Rattle.dw_derive.proofs.readers.uid_from.Goals as goal

pub returns-in_err-uid : goal.returns-in_err-uid
returns-in_err-uid c =
    c.from_residual.ensures
    ∙ sym (no_uid c.args.digits.now c.from_hex.result c.from_hex.ensures (sym c.ok.ensures.value ∙ c.in_err-uid.was))
