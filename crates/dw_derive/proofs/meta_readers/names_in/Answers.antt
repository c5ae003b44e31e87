use Rattle.std.proofs.Common.{◌<◌, ◌++◌, ◌∷◌, [], ℕ, List, ap, sym, ◌∙◌, arith}
use Rattle.std.specs.Vec.{vec_len}
use Rattle.dw_base.specs.declared.limits.TheConstants.{MAX_NAMES}
use Rattle.dw_derive.proofs.MetaSpellings.{behind_is_shorter, goes_first, goes_full, goes_cut, goes_on, goes_end}
use Rattle.dw_derive.proofs.meta_readers.names_in.Goals as goal

pub loop-rest-init : goal.loop-rest-init
loop-rest-init c = (omega (arith, c.new-names.ensures.len), goes_first c.args.content.now _ _ c.new-names.ensures.items c.new-names.ensures.len)

pub returns-then-len-eq-MAX_NAMES : goal.returns-then-len-eq-MAX_NAMES
returns-then-len-eq-MAX_NAMES c =
    goes_full c.args.content.now c.loop-rest.names.items (vec_len c.loop-rest.names) c.loop-rest.rest.now c.loop-rest.invariant.1
    (sym c.len.ensures ∙ c.if-len-eq-MAX_NAMES.true) (sym c.is_empty.ensures ∙ c.loop-rest-test.true)

pub returns-in_default : goal.returns-in_default
returns-in_default c =
    goes_cut c.args.content.now c.loop-rest.names.items (vec_len c.loop-rest.names) c.loop-rest.rest.now c.loop-rest.invariant.1
    (sym c.is_empty.ensures ∙ c.loop-rest-test.true) c.in_default.ensures

pub loop-rest-smaller : goal.loop-rest-smaller
loop-rest-smaller c = behind_is_shorter c.loop-rest.rest.now c.in-Some.name.now c.in-Some.behind.now c.in-Some.ensures

pub loop-rest-preserved : goal.loop-rest-preserved
loop-rest-preserved c =
    let few : vec_len c.loop-rest.names < MAX_NAMES = omega (arith, c.loop-rest.invariant.0, c.len.ensures, c.if-len-eq-MAX_NAMES.false) in (
      omega (arith, few, c.in_ok-push.ensures.len),
      goes_on c.args.content.now c.loop-rest.names.items _ (vec_len c.loop-rest.names) _ c.loop-rest.rest.now c.in-Some.name.now c.in-Some.behind.now c.loop-rest.invariant.1 few c.in-Some.ensures
          (c.in_ok-push.ensures.items ∙ ap (λ (x : List ℕ). c.loop-rest.names.items ++ x ∷ []) c.in_ok-of.ensures) c.in_ok-push.ensures.len,
    )

pub returns : goal.returns
returns c =
    goes_end c.args.content.now c.loop-rest.names.items (vec_len c.loop-rest.names) c.loop-rest.rest.now c.loop-rest.invariant.1
    (sym c.is_empty.ensures ∙ c.loop-rest-test.false)
