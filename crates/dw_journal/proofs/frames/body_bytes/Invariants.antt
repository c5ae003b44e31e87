use Rattle.std.proofs.Common.{◌≡◌, ◌++◌, length, take}
use Rattle.dw_journal.specs.Frames.{number, puts_bytes}
use Rattle.dw_journal.proofs.frames.body_bytes.Given as goal

abbrev pub invariant-loop-put : goal.invariant-loop-put
invariant-loop-put l = l.body.items ≡ number (length l.puts) ++ puts_bytes (take l.put-index l.puts)
