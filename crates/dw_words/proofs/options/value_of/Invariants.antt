use Rattle.std.proofs.Common.{◌≡◌, length, IsSome}
use Rattle.dw_words.specs.Options.{options, value_in}
use Rattle.dw_words.proofs.options.value_of.Given as goal

abbrev pub decreases-loop-given : goal.decreases-loop-given
decreases-loop-given l = length l.rest

abbrev pub invariant-loop-given : goal.invariant-loop-given
invariant-loop-given l = IsSome (options l.words) → IsSome (options l.rest) × (value_in l.name l.words ≡ value_in l.name l.rest)
