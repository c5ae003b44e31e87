use Rattle.std.proofs.Common.{◌≡◌, drop}
use Rattle.dw_vis.specs.Depth.{is_deep_from, is_deep}
use Rattle.dw_vis.proofs.depth.is_deep.Given as goal

abbrev pub invariant-loop-byte : goal.invariant-loop-byte
invariant-loop-byte l = is_deep_from l.walk (drop l.byte-index l.text) ≡ is_deep l.text
