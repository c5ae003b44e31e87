use Rattle.std.proofs.Common.{sym, ◌∙◌}
use Rattle.dw_nest.proofs.Lists.{at_key, off_key, past_key}
use Rattle.dw_nest.proofs.tree.leaf_truth.Goals as goal

pub returns-in-Equal-clause-value : goal.returns-in-Equal-clause-value
returns-in-Equal-clause-value g c = λ all stands.
    at_key all _ c.args.key.now c.in-Key.top c.seek.ensures.at (c.in-Key.ensures.key all ((c.seek.ensures.same all).1 stands)) (sym c.cmp.ensures ∙ c.in-Equal.is)

pub returns-in_default : goal.returns-in_default
returns-in_default g c = record {
  value = λ all stands.
      off_key all _ c.args.key.now c.in-Key.top c.seek.ensures.at (c.in-Key.ensures.ascends all ((c.seek.ensures.same all).1 stands)) (c.in-Key.ensures.key all ((c.seek.ensures.same all).1 stands)) (λ e. c.in_default.not-Equal (c.cmp.ensures ∙ e));
  none = tt;
  same = c.seek.ensures.same;
  keys = c.seek.ensures.keys;
  made = c.seek.ensures.made;
}

pub returns-in-End-clause-value : goal.returns-in-End-clause-value
returns-in-End-clause-value g c = λ all stands.
    past_key all _ c.args.key.now c.seek.ensures.at (c.top.ensures.end c.in-End.is all ((c.seek.ensures.same all).1 stands))
