use Rattle.std.proofs.Common.{◌≡◌, drop}
use Rattle.dw_tablet.specs.Places.{covers}
use Rattle.dw_tablet.proofs.span.covered_by.Given as goal

abbrev pub invariant-loop-span : goal.invariant-loop-span
invariant-loop-span l = covers l.spans l.place ≡ covers (drop l.span-index l.spans) l.place
