use Rattle.std.proofs.Common.{◌≡◌}
use Rattle.std.specs.Option.{option_copied}
use Rattle.dw_page.specs.Marks.{lined}
use Rattle.dw_page.proofs.line.line_up.Given as goal

abbrev pub invariant-loop-shard : goal.invariant-loop-shard
invariant-loop-shard l = l.waiting.items ≡ lined (option_copied l.start) l.yielded
