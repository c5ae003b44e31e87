use Rattle.std.proofs.Common.{sym, ◌∙◌}
use Rattle.dw_derive.proofs.ReaderLemmas.{no_split, a_split}
use Rattle.dw_derive.proofs.readers.split_at_zero.Goals as goal

pub returns-in_err-at : goal.returns-in_err-at
returns-in_err-at c = rw c.from_residual.ensures (no_split c.args.bytes.now (sym c.zero_at.ensures ∙ c.in_err-at.was))

pub returns : goal.returns
returns c = a_split c.args.bytes.now c.in_ok-at.at (sym c.zero_at.ensures ∙ c.in_ok-at.was)
