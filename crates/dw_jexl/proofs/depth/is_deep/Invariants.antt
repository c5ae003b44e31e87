use Rattle.std.proofs.Common.{◌≡◌, ◌+◌, ◌≤◌, drop}
use Rattle.dw_jexl.specs.Depth.{is_deep_from, is_deep}
use Rattle.dw_jexl.specs.Walks.{place_of}
use Rattle.dw_jexl.proofs.depth.is_deep.Given as goal

abbrev pub invariant-loop-token : goal.invariant-loop-token
invariant-loop-token l = record {
  few : l.walk.open_levels + l.walk.run ≤ 64;
  so_far : is_deep_from (place_of l.walk) (drop l.token-index l.tokens) ≡ is_deep l.tokens;
}
