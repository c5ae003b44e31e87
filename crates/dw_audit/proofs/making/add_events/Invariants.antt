use Rattle.std.proofs.Common.{◌≡◌, length}
use Rattle.dw_audit.specs.Making.{made_of, made_by}
use Rattle.dw_audit.proofs.making.add_events.Given as goal

abbrev pub invariant-loop-place : goal.invariant-loop-place
invariant-loop-place l = made_by l.dict l.left.entries (made_of l.made) ≡ made_by l.dict l.fn.events.entries (record { tables = l.fn.tables; greatest = 0 })

abbrev pub decreases-loop-place : goal.decreases-loop-place
decreases-loop-place l = length l.left.entries
