use Rattle.std.proofs.Common.{◌≡◌, [], arith}
use Rattle.std.proofs.lemmas.Grind.{common_steps}
use Rattle.datawave.proofs.Grouped.{last_none, last_some}
use Rattle.datawave.proofs.gathering.gather_last.Goals as goal

pub returns-then-is_empty : goal.returns-then-is_empty
returns-then-is_empty c recs x =
    let same = c.as_slice.ensures.same in
    let none : c.args.group.now ≡ [] = grind (arith, common_steps) in
    last_none recs c.args.group.now x none

pub returns : goal.returns
returns c recs x =
    let same = c.as_slice.ensures.same in
    let some : c.args.group.now ≡ [] → ⊥ = λ e. grind (arith, common_steps) in
    last_some recs c.args.group.now c.take_in.result x some c.take_in.ensures.is
