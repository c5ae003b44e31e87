use Rattle.std.proofs.Common.{◌≡◌, length, is_some}
use Rattle.dw_words.specs.Options.{options_for}
use Rattle.dw_words.specs.Words.{takes}
use Rattle.dw_words.proofs.options.are_options.Given as goal

abbrev pub decreases-loop-given : goal.decreases-loop-given
decreases-loop-given l = length l.rest

abbrev pub invariant-loop-given : goal.invariant-loop-given
invariant-loop-given l = is_some (options_for (takes l.kind) l.words) ≡ is_some (options_for (takes l.kind) l.rest)
