use Rattle.std.proofs.Common.{◌≡◌, ◌++◌, drop, option_map, None}
use Rattle.dw_wire.proofs.WritingFields.{pairs_tokens}
use Rattle.dw_wire.proofs.writing.put_fields.Given as goal

abbrev pub invariant-loop-pair : goal.invariant-loop-pair
invariant-loop-pair l = (l.out.tokens ++ pairs_tokens (option_map (λ f. f.now) l.current) (drop l.pair-index l.pairs) ≡ l.initial.out.tokens ++ pairs_tokens None l.pairs) × (l.out.before ≡ l.initial.out.before)
