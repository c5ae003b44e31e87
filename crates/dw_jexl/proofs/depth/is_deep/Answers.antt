use Rattle.std.proofs.Common.{sym, ◌∙◌, arith}
use Rattle.std.proofs.lemmas.Grind.{common_steps}
use Rattle.dw_jexl.specs.Walks.{place_of}
use Rattle.dw_jexl.proofs.Walking.{deep_ended, deep_over, deep_on}
use Rattle.dw_jexl.proofs.depth.is_deep.Goals as goal

pub returns-in-Ended : goal.returns-in-Ended
returns-in-Ended c =
    deep_ended _ (place_of c.step.new.self) _ _ _ c.in_ok-step.field-0 _ c.loop-token-test.true c.token-item.is c.loop-token.invariant.so_far c.in_ok-step.ensures c.in-Ended.is

pub returns-then-is_over : goal.returns-then-is_over
returns-then-is_over c =
    deep_over _ (place_of c.step.new.self) _ _ _ c.in_ok-step.field-0 _ c.loop-token-test.true c.token-item.is c.loop-token.invariant.so_far c.in_ok-step.ensures c.in-On.is (sym c.is_over.ensures ∙ c.if-is_over.true)

pub loop-token-preserved : goal.loop-token-preserved
loop-token-preserved c = record {
  few = grind (arith, common_steps, c.is_over.ensures, c.if-is_over.false);
  so_far =
      deep_on _ (place_of c.step.new.self) _ _ _ c.in_ok-step.field-0 _ c.loop-token-test.true c.token-item.is c.loop-token.invariant.so_far c.in_ok-step.ensures c.in-On.is (sym c.is_over.ensures ∙ c.if-is_over.false);
}
