use Rattle.std.proofs.Common.{◌≡◌, ◌++◌, drop}
use Rattle.dw_wire.specs.ReplyText.{shown_data}
use Rattle.dw_wire.proofs.WritingLists.{list_tokens}
use Rattle.dw_wire.proofs.writing.put_events.Given as goal

abbrev pub invariant-loop-event : goal.invariant-loop-event
invariant-loop-event l = (l.out.tokens ++ list_tokens shown_data (drop l.event-index l.shown) ≡ l.initial.out.tokens ++ list_tokens shown_data l.shown) × (l.out.before ≡ l.initial.out.before)
