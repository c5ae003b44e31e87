use Rattle.std.proofs.Common.{◌≤◌, length, option_map, arith, ◌∙◌}
use Rattle.dw_wire.proofs.WritingFields.{fields_end}
use Rattle.dw_wire.proofs.writing.put_fields.Goals as goal

pub returns : goal.returns
returns c =
    let loop = c.loop-pair in
    let past : length c.args.pairs.now ≤ c.loop-pair.pair-index = omega arith in
    record {
      tokens = fields_end c.args.pairs.now loop.pair-index (option_map (λ f. f.now) loop.current) c.args.out.now.tokens loop.out.tokens _ past loop.invariant.0 c.in_ok-close_fields.ensures.tokens;
      before = c.in_ok-close_fields.ensures.before ∙ loop.invariant.1;
    }
