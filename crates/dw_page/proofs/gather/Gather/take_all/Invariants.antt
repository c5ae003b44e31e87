use Rattle.std.proofs.Common.{◌≡◌, ◌++◌, List}
use Rattle.dw_event.specs.declared.reports.Shown.{Shown}
use Rattle.dw_page.specs.Joined.{Joined}
use Rattle.dw_page.proofs.gather.Gather.take_all.Given as goal

-- what came so far is gathered, whatever follows
abbrev pub invariant-loop-event : goal.invariant-loop-event
invariant-loop-event l = record {
  joined : (page rest : List Shown) → Joined page (l.yielded ++ rest) l.fn.self → Joined page rest l.self;
  size : l.self.size ≡ l.fn.self.size;
}
