use Rattle.std.proofs.Common.{◌≡◌, take, map}
use Rattle.dw_lucene.specs.Levels.{level_of}
use Rattle.dw_lucene.proofs.levels.levels_of.Given as goal

abbrev pub invariant-loop-token : goal.invariant-loop-token
invariant-loop-token l = l.levels.items ≡ map level_of (take l.token-index l.tokens)
