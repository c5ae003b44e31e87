use Rattle.std.proofs.Common.{◌≡◌, ◌∙◌, rules, None, Some}
use Rattle.dw_eval.specs.Meeting.{field_of, front_of}
use Rattle.dw_tablet.specs.Fronts.{values_front, with_front}
use Rattle.dw_tablet.specs.Values.{shown_at, shown_by}
use Rattle.dw_iter.proofs.SetDocs.{set_docs}
use Rattle.dw_iter.proofs.set.SetLeaf.new.Goals as goal

pub returns-clause-stands : goal.returns-clause-stands
returns-clause-stands c =
    let t = c.args.tablet.now in
    let leaf = c.args.leaf.now in
    let values = c.in_ok-values.values in
    let g = shown_by values.asked in
    let asked : g ≡ shown_at (field_of leaf) c.args.auths.now c.args.snapshot None (Some c.args.types.now) = search rules in
    λ content agrees.
    let lent : values.keys.now ≡ with_front (values_front t.shard (field_of leaf) (front_of leaf)) content =
    c.in_ok-values.ensures.lent content agrees ∙ (λ i. with_front (values_front t.shard (c.field_of-field.ensures i) (c.front_of-front.ensures i)) content) in
    set_docs t leaf c.args.auths.now c.args.snapshot c.args.types.now c.forms_begin_so.ensures c.values_stand_in_fronts.ensures content agrees g asked values.keys.now lent
    c.in_ok-docs.docs.items c.from_vec.result c.in_ok-docs.ensures c.from_vec.ensures.ascending c.from_vec.ensures.members
