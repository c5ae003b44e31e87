use Rattle.std.proofs.Common.{◌≡◌, drop}
use Rattle.std.specs.Cmp.Lexicographic.{pointwise}
use Rattle.dw_norm.specs.Digits.{fits}
use Rattle.dw_norm.proofs.digits.has_layout.Given as goal

abbrev pub invariant-loop-i : goal.invariant-loop-i
invariant-loop-i l = pointwise fits l.layout l.text ≡ pointwise fits (drop l.i l.layout) (drop l.i l.text)
