use Rattle.std.proofs.Common.{◌≡◌, ◌==◌, true, false, length, arith}
use Rattle.std.proofs.lemmas.Bool.Decides.{nat_tests}
use Rattle.datawave.proofs.Grouped.{gathered_more, gathered_whole}
use Rattle.datawave.proofs.gathering.gather.Goals as goal

pub returns-then-as_slice-ne-MAX_GROUP : goal.returns-then-as_slice-ne-MAX_GROUP
returns-then-as_slice-ne-MAX_GROUP c recs x =
    let same = c.as_slice.ensures.same in
    let short : (length c.put.new.self == 1000) ≡ false = grind (arith, nat_tests) in
    gathered_more recs c.args.group.now c.put.new.self c.args.rec x c.requires c.in_ok-put.ensures.ok short

pub returns : goal.returns
returns c recs x =
    let same = c.as_slice.ensures.same in
    let whole : (length c.put.new.self == 1000) ≡ true = grind (arith, nat_tests) in
    gathered_whole recs c.args.group.now c.put.new.self c.take_in.new.group c.args.rec c.take_in.result x c.requires c.in_ok-put.ensures.ok whole c.take_in.ensures.next c.take_in.ensures.is
