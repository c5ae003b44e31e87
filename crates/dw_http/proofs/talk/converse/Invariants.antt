use Rattle.std.proofs.Common.{◌+◌, List, length}
use Rattle.dw_http.specs.Messages.{Ask}
use Rattle.dw_http.specs.Turns.{SoFar}
use Rattle.dw_http.proofs.talk.converse.Given as goal

abbrev pub invariant-loop-ended : goal.invariant-loop-ended
invariant-loop-ended g l = (asks : List Ask) × SoFar g.H.Service.answers g.H.Service.stays (g.L.Link.meaning l.fn.link) l.fn.service asks l.intake (g.L.Link.meaning l.link) l.service

abbrev pub decreases-loop-ended : goal.decreases-loop-ended
decreases-loop-ended g l = length l.intake.bytes + l.intake.budget
