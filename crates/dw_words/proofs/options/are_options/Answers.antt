use Rattle.std.proofs.Common.{◌∙◌, false, sym, true}
use Rattle.dw_words.specs.Words.{takes}
use Rattle.dw_words.proofs.Walking.{not_taken, given_twice, given_once, options_at_end, lent_is}
use Rattle.dw_words.proofs.options.are_options.Goals as goal
use Rattle.dw_words.proofs.options.are_options.Goals.{then-not-takes-via-then-not-takes, then-not-takes-via-else-not-takes+then-is_some}

pub returns-then-not-takes : goal.returns-then-not-takes
returns-then-not-takes c =
    elim c.then-not-takes.branch [
      | then-not-takes-via-then-not-takes w ↦
          sym (c.loop-given.invariant ∙ not_taken (takes c.args.kind) c.loop-given.rest.now _ (sym c.in-Some.ensures) (sym w.if-not-takes.ensures))
      | then-not-takes-via-else-not-takes+then-is_some w ↦
          sym (c.loop-given.invariant ∙ given_twice (takes c.args.kind) c.loop-given.rest.now _ (sym c.in-Some.ensures)
          (λ some. lent_is w.value_of.result _ true (w.value_of.ensures some) (sym w.if-is_some.ensures)))
    ]

pub loop-given-preserved : goal.loop-given-preserved
loop-given-preserved c =
    c.loop-given.invariant ∙ given_once (takes c.args.kind) c.loop-given.rest.now _ (sym c.in-Some.ensures) (sym c.if-not-takes.ensures)
    (λ some. lent_is c.value_of.result _ false (c.value_of.ensures some) (sym c.if-is_some.ensures))

pub returns : goal.returns
returns c = c.is_empty.ensures ∙ sym (c.loop-given.invariant ∙ options_at_end (takes c.args.kind) c.loop-given.rest.now (sym c.in_default.ensures))
