use Rattle.std.proofs.Common.{◌≡◌, ◌++◌, ◌∷◌, [], true, sym, ap, ◌∙◌}
use Rattle.dw_plan.specs.Joins.{has}
use Rattle.dw_plan.specs.Cells.{is_open}
use Rattle.dw_plan.proofs.Told.{from_key, not_asked, there_already, put_behind, not_open}
use Rattle.dw_plan.proofs.cells.add_shard.Goals as goal
use Rattle.dw_plan.proofs.cells.add_shard.Goals.{then-branch+in_ok-of+in_ok-push, else-branch}

pub returns-in_default-asked_shard-clause-added : goal.returns-in_default-asked_shard-clause-added
returns-in_default-asked_shard-clause-added c = λ s.
    let n = c.args.sight.now.auths.now in
    let d = c.args.scope.now.days.now in
    let t = c.args.scope.now.types.now in
    let f = c.args.field.now in
    let w = c.args.wanted.now in
    let key = from_key n d t f w c.args.cell.now.key c.as_slice.result.now c.in_ok-key.field-0 c.in-Some.key c.in_ok-key.ensures c.as_slice.ensures c.in-Some.is in
    not_asked n d t f w c.args.cell.now.key c.in-Some.key key c.args.all.now.items s (rw c.in_default-asked_shard.is at c.asked_shard.ensures)

pub returns-then-ends_with-clause-added : goal.returns-then-ends_with-clause-added
returns-then-ends_with-clause-added c = λ s.
    let n = c.args.sight.now.auths.now in
    let d = c.args.scope.now.days.now in
    let t = c.args.scope.now.types.now in
    let f = c.args.field.now in
    let w = c.args.wanted.now in
    let x = c.in-Some-asked_shard.shard.now in
    let key = from_key n d t f w c.args.cell.now.key c.as_slice.result.now c.in_ok-key.field-0 c.in-Some.key c.in_ok-key.ensures c.as_slice.ensures c.in-Some.is in
    let there : has c.args.all.now.items x ≡ true = ap (λ xs. has xs x) (sym c.as_slice-2.ensures.value) ∙ c.ends_with.ensures c.if-ends_with.true in
    there_already n d t f w c.args.cell.now.key c.in-Some.key key c.args.all.now.items s x c.in-Some-asked_shard.ensures there

pub returns-clause-added : goal.returns-clause-added
returns-clause-added c = λ s.
    let n = c.args.sight.now.auths.now in
    let d = c.args.scope.now.days.now in
    let t = c.args.scope.now.types.now in
    let f = c.args.field.now in
    let w = c.args.wanted.now in
    let x = c.in-Some-asked_shard.shard.now in
    let key = from_key n d t f w c.args.cell.now.key c.as_slice.result.now c.in_ok-key.field-0 c.in-Some.key c.in_ok-key.ensures c.as_slice.ensures c.in-Some.is in
    let seen : c.in_ok-sees.field-0 ≡ is_open n c.in-Some.key.vis = c.in_ok-sees.ensures.value ∙ ap (is_open n) c.as_slice-3.ensures in
    elim c.if-branch.branch [
      | then-branch+in_ok-of+in_ok-push w2 ↦
          ap (λ v. has v.items s) w2.all-is ∙ ap (λ xs. has xs s) w2.in_ok-push.ensures.items
          ∙ ap (λ y. has (c.args.all.now.items ++ y ∷ []) s) w2.in_ok-of.ensures
          ∙ put_behind n d t f w c.args.cell.now.key c.in-Some.key key c.args.all.now.items s x c.in-Some-asked_shard.ensures (sym seen ∙ w2.if-branch.true)
      | else-branch w2 ↦ ap (λ v. has v.items s) w2.all-is ∙ not_open n d t f w c.args.cell.now.key c.in-Some.key key c.args.all.now.items s (sym seen ∙ w2.if-branch.false)
    ]
