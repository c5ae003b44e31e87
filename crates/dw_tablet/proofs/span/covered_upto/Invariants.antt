use Rattle.std.proofs.Common.{◌≡◌, drop}
use Rattle.dw_tablet.specs.Places.{covered_upto}
use Rattle.dw_tablet.specs.Positions.{place_of}
use Rattle.dw_tablet.proofs.span.covered_upto.Given as goal

abbrev pub invariant-loop-span : goal.invariant-loop-span
invariant-loop-span l = covered_upto l.spans (place_of l.position) ≡ covered_upto (drop l.span-index l.spans) (place_of l.position)
