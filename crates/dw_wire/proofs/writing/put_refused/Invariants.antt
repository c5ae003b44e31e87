use Rattle.std.proofs.Common.{◌≡◌, ◌++◌, drop}
use Rattle.dw_wire.specs.ReplyText.{bad_data}
use Rattle.dw_wire.proofs.WritingLists.{list_tokens}
use Rattle.dw_wire.proofs.writing.put_refused.Given as goal

abbrev pub invariant-loop-bad : goal.invariant-loop-bad
invariant-loop-bad l = (l.out.tokens ++ list_tokens bad_data (drop l.bad-index l.refused) ≡ l.initial.out.tokens ++ list_tokens bad_data l.refused) × (l.out.before ≡ l.initial.out.before)
