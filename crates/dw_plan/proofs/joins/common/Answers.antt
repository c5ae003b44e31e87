use Rattle.std.proofs.Common.{◌≡◌, ◌++◌, true, false, sym, ap, subst, ◌∙◌}
use Rattle.std.specs.Prelude.{filter}
use Rattle.std.specs.Ordering.{nat_cmp}
use Rattle.std.specs.Cmp.Lexicographic.{slice_cmp}
use Rattle.std.specs.List.Sorted.{IsStrictlySortedBy}
use Rattle.std.proofs.lemmas.List.{append-nil}
use Rattle.std.proofs.lemmas.List.Kept.{IsStrictlySortedBy-filter}
use Rattle.dw_plan.specs.Joins.{has}
use Rattle.dw_plan.proofs.Joining.{kept, emptied}
use Rattle.dw_plan.proofs.Named.{has_contains, has_filter}
use Rattle.dw_plan.proofs.joins.common.Goals as goal

pub loop-item-preserved-in-Continue-1 : goal.loop-item-preserved-in-Continue-1
loop-item-preserved-in-Continue-1 c =
    let f = has c.args.right.now in
    let there = sym (has_contains c.args.right.now c.in-Some.item c.has.result c.has.ensures) ∙ c.if-has.true in
    ap (λ zs. zs ++ filter f c.pop_front.new.self.items) c.in_ok-push.ensures.items
    ∙ sym (kept f c.loop-item.all.items c.loop-item.left.items c.pop_front.new.self.items c.in-Some.item true c.in-Some.ensures.items there)
    ∙ c.loop-item.invariant

pub loop-item-preserved : goal.loop-item-preserved
loop-item-preserved c =
    let f = has c.args.right.now in
    let gone = sym (has_contains c.args.right.now c.in-Some.item c.has.result c.has.ensures) ∙ c.if-has.false in
    ap (λ zs. zs ++ filter f c.pop_front.new.self.items) (sym (append-nil c.loop-item.all.items))
    ∙ sym (kept f c.loop-item.all.items c.loop-item.left.items c.pop_front.new.self.items c.in-Some.item false c.in-Some.ensures.items gone)
    ∙ c.loop-item.invariant

pub from_ascending-requires : goal.from_ascending-requires
from_ascending-requires c =
    let f = has c.args.right.now in
    let none = emptied c.loop-item.left.items c.pop_front.new.self.items c.in_default.ensures.items c.in_default.ensures.rest in
    let done : c.loop-item.all.items ≡ filter f c.args.left =
    sym (append-nil c.loop-item.all.items) ∙ ap (λ zs. c.loop-item.all.items ++ filter f zs) (sym none) ∙ c.loop-item.invariant ∙ ap (filter f) (c.from-left.ensures.0 ∙ c.into_vec.ensures.same) in
    subst (IsStrictlySortedBy (slice_cmp nat_cmp)) (sym done) (IsStrictlySortedBy-filter (slice_cmp nat_cmp) f c.args.left c.into_vec.ensures.ascending)

pub returns : goal.returns
returns c = λ s.
    let f = has c.args.right.now in
    let none = emptied c.loop-item.left.items c.pop_front.new.self.items c.in_default.ensures.items c.in_default.ensures.rest in
    let done : c.loop-item.all.items ≡ filter f c.args.left =
    sym (append-nil c.loop-item.all.items) ∙ ap (λ zs. c.loop-item.all.items ++ filter f zs) (sym none) ∙ c.loop-item.invariant ∙ ap (filter f) (c.from-left.ensures.0 ∙ c.into_vec.ensures.same) in
    ap (λ zs. has zs s) (c.from_ascending.ensures ∙ done) ∙ has_filter f c.args.left s
