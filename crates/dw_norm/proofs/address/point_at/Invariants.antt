use Rattle.std.proofs.Common.{◌≡◌, ◌+◌, drop, not}
use Rattle.std.specs.List.{prefix_len}
use Rattle.dw_norm.specs.Addresses.{is_point}
use Rattle.dw_norm.proofs.address.point_at.Given as goal

abbrev pub invariant-loop-i : goal.invariant-loop-i
invariant-loop-i l = prefix_len (λ b. not (is_point b)) l.text ≡ l.i + prefix_len (λ b. not (is_point b)) (drop l.i l.text)
